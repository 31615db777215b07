-- The first 65536 bytes of a text decide its answer, so that what is written answers all of it.
use Rattle.std.proofs.Common.{ℕ, ◌≡◌, inl, inr, List, IfSome, None, Some, arith, length, take, ap, ◌∙◌, subst, take_all}
use Rattle.std.specs.declared.option.Option.{Option}
use Rattle.std.specs.Io.KnownBytes.{Appends}
use Rattle.std.proofs.lemmas.Bool.{cases_lt}
use Rattle.words.specs.Words.{moved_answer}
use Rattle.words.proofs.Promises.{first_bytes_same_answer}

answer_of_front : (text : List ℕ) → moved_answer (take 65536 text) ≡ moved_answer text
answer_of_front text =
    elim (cases_lt (length text) 65536) [
      | inl short ↦ ap moved_answer (take_all 65536 text (omega (arith, short)))
      | inr long ↦ first_bytes_same_answer text 65536 (omega arith) long
    ]

-- The answer of what was read of a text, written, is that of the text.
pub answers_all : (given held held' : Option (List ℕ)) (buf : List ℕ) (n : ℕ) (written : List ℕ) → length buf ≡ 65536
    → IfSome given (λ text. take n buf ≡ take (length buf) text) → written ≡ moved_answer (take n buf) → Appends held held' written
    → IfSome given (λ text. Appends held held' (moved_answer text))
answers_all None held held' buf n written long read answer appended = tt
answers_all (Some text) held held' buf n written long read answer appended =
    let front : take n buf ≡ take 65536 text = read ∙ ap (λ k. take k text) long in
    subst (Appends held held') (answer ∙ ap moved_answer front ∙ answer_of_front text) appended
