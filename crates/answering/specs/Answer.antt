-- The text of a job's answer.
use Rattle.std.specs.Prelude.{ℕ, zero, suc, List, [], ◌∷◌, ◌++◌, eqb, length, Float}
use Rattle.std.specs.Float.{binary64}
use Rattle.std.specs.Float.Ieee.{to_bits}
use Rattle.seq.specs.Choice.{pick}
use Rattle.seq.specs.Sums.{at}
use Rattle.fields.specs.Bytes.{tab, newline}
use Rattle.fields.specs.Texts.{bits_text, count_text, note_text}
use Rattle.answers.specs.declared.Answer.{Answer}
use Rattle.answering.specs.Words.{ok_word, weight_word, refused_word}

-- the line of weight j
abbrev pub weight_line : ℕ → Float → List ℕ
weight_line j w = weight_word ++ (count_text j ++ (tab ∷ (bits_text (to_bits binary64 w) ++ (newline ∷ []))))

-- the lines of the first k weights
unfoldable pub weight_lines : List Float → ℕ → List ℕ
weight_lines w zero = []
weight_lines w (suc k) = weight_lines w k ++ weight_line k (at w k)

-- the first line of an accepted job's answer
unfoldable pub ok_line : Answer → List ℕ
ok_line r =
    ok_word
    ++ (count_text r.stage ++ (tab ∷ (count_text r.nonzeros ++ (tab ∷ (bits_text (to_bits binary64 r.change) ++ (newline ∷ []))))))

-- the answer of a job and the weights that it returned
unfoldable pub answer_text : Answer → List Float → List ℕ
answer_text r w = pick (eqb r.number 0) (ok_line r ++ weight_lines w (length w)) (note_text refused_word r.number)
