-- What is held while pieces are read is what is to be held of all that was read; and what is written, piece by piece, is what is saved.
use Rattle.std.proofs.Common.{ℕ, Bool, ◌≡◌, ◌+◌, ◌<◌, ◌≤◌, List, [], ◌++◌, IfSome, None, Some, arith, length, take, sym, ap, ◌∙◌, subst, append-nil}
use Rattle.std.specs.declared.option.Option.{Option}
use Rattle.std.specs.Io.KnownBytes.{Consumes, Appends}
use Rattle.std.proofs.KnownBytes.{Consumes-nil, Consumes-trans, Appends-trans}
use Rattle.std.proofs.lemmas.List.{length-append, length-take, nil_from_length}
use Rattle.seq.specs.Lists.{repeated}
use Rattle.fields.specs.Steps.{WroteOn}
use Rattle.gathering.specs.Lines.{no_lines, after}
use Rattle.gathering.specs.Steps.{Holding, Took, start_state}
use Rattle.gathering.specs.declared.State.{State}
use Rattle.gathering.proofs.Parted.{pieces_are_the_whole}
use Rattle.keeping.specs.Saved.{lost_text, salvaged}
use Rattle.keeping.specs.Steps.{kept_in, front_in, judged_in, held_text}
use Rattle.keeping.proofs.Answers.{holding_start, front_text_lem}
use Rattle.keeping.proofs.Fronts.{held_is_salvaged}
use Rattle.keeping.proofs.Losses.{losses_in_pieces}

-- of what a reader gave, a byte a turn and more, that is held which is to be held
pub record Gathered (given left : Option (List ℕ)) (s : State) (room marks : List ℕ) (turns : ℕ) : Type 0 where
  pub front : List ℕ
  pub gave : Consumes given left front
  pub holds : Holding (after no_lines front) s room marks
  pub many : turns ≤ length front

-- before anything is read
pub gathered_start : (given : Option (List ℕ)) (room marks : List ℕ) (s : State) (marks' : List ℕ) → s ≡ start_state → marks' ≡ repeated 0 (length marks)
    → length marks' ≡ length marks → 36700 ≤ length room → 33 ≤ length marks → Gathered given given s room marks' 0
unfolding after
gathered_start given room marks s marks' e m l r k =
    record {
      front = [];
      gave = Consumes-nil given;
      holds = holding_start s room marks' (length marks) e m r (omega arith);
      many = omega arith;
    }

-- a piece more
pub gathered_more : {given left : Option (List ℕ)} {s : State} {room marks : List ℕ} {turns : ℕ} (left' : Option (List ℕ)) (piece : List ℕ) (r : State)
    (room' marks' : List ℕ) → Gathered given left s room marks turns → Consumes left left' piece → Took piece s room marks r room' marks'
    → 0 < length piece → Gathered given left' r room' marks' (turns + 1)
gathered_more {given} {left} {s} {room} {marks} {turns} left' piece r room' marks' e gave took some =
    record {
      front = e.front ++ piece;
      gave = Consumes-trans given left left' e.front piece e.gave gave;
      holds = subst (λ l. Holding l r room' marks') (sym (pieces_are_the_whole no_lines e.front piece)) (took.holds (after no_lines e.front) e.holds);
      many = omega (arith, length-append e.front piece, e.many, some);
    }

-- Where a read into a buffer with room gives nothing, all of the text is held.
pub gathered_all : (given left : Option (List ℕ)) (s : State) (room marks : List ℕ) (turns n : ℕ) (buf : List ℕ) → Gathered given left s room marks turns
    → IfSome left (λ rest. take n buf ≡ take (length buf) rest) → n ≡ 0 → 0 < length buf
    → IfSome given (λ text. length text < 70368744177664 → Holding (after no_lines text) s room marks)
gathered_all None left s room marks turns n buf e read none roomy = tt
gathered_all (Some text) None s room marks turns n buf e read none roomy = absurd e.gave
gathered_all (Some text) (Some rest) s room marks turns n buf e read none roomy =
    λ few. subst (λ t. Holding (after no_lines t) s room marks) (sym (e.gave ∙ ap (λ r. e.front ++ r) (nothing rest (sym read ∙ ap (λ k. take k buf) none))
    ∙ append-nil e.front)) e.holds
  where
    nothing : (r : List ℕ) → take (length buf) r ≡ [] → r ≡ []
    nothing r h = nil_from_length r (omega (arith, ap length h, length-take (length buf) r, roomy))

-- After as many turns as that a text has as many bytes.
pub gathered_never : (given left : Option (List ℕ)) (s : State) (room marks : List ℕ) (turns : ℕ) → Gathered given left s room marks turns
    → 70368744177664 ≤ turns → IfSome given (λ text. length text < 70368744177664 → Holding (after no_lines text) s room marks)
gathered_never None left s room marks turns e late = tt
gathered_never (Some text) None s room marks turns e late = absurd e.gave
gathered_never (Some text) (Some rest) s room marks turns e late =
    λ few. absurd (omega (arith, few, late, e.many, ap length e.gave, length-append e.front rest))

-- the lines of some more of the lost ones, written behind those of the first i
pub losses_on : (held held' held'' : Option (List ℕ)) (f : ℕ → Bool) (i k : ℕ) (out : List ℕ) (r : ℕ) (out' : List ℕ) → Appends held held' (lost_text f 1 i)
    → WroteOn (lost_text f (1 + i) k) 0 out r out' → Appends held' held'' (take r out') → Appends held held'' (lost_text f 1 (i + k))
losses_on held held' held'' f i k out r out' before put wrote =
    let text : lost_text f 1 i ++ take r out' ≡ lost_text f 1 (i + k) =
    ap (λ t. lost_text f 1 i ++ t) (front_text_lem _ out r out' put) ∙ sym (losses_in_pieces f 1 i k) in
    subst (Appends held held'') text (Appends-trans held held' held'' (lost_text f 1 i) (take r out') before wrote)

pub losses_whole : (held held' : Option (List ℕ)) (f : ℕ → Bool) (i k : ℕ) → i ≤ k → k ≤ i → Appends held held' (lost_text f 1 i)
    → Appends held held' (lost_text f 1 k)
losses_whole held held' f i k upto past wrote =
    let all : i ≡ k = omega arith in
    subst (λ j. Appends held held' (lost_text f 1 j)) all wrote

-- the front, and the lines of the lost ones behind it
pub front_and_losses : (held held' held'' : Option (List ℕ)) (s : State) (room marks out : List ℕ) (r : ℕ) (out' : List ℕ) (k : ℕ)
    → WroteOn (front_in s room) 0 out r out' → k ≡ judged_in s → Appends held held' (take r out')
    → Appends held' held'' (lost_text (kept_in s marks) 1 k) → Appends held held'' (held_text s room marks)
front_and_losses held held' held'' s room marks out r out' k put judged front losses =
    let text : take r out' ++ lost_text (kept_in s marks) 1 k ≡ held_text s room marks =
    ap (λ t. t ++ lost_text (kept_in s marks) 1 k) (front_text_lem _ out r out' put) ∙ ap (λ j. front_in s room ++ lost_text (kept_in s marks) 1 j) judged in
    subst (Appends held held'') text (Appends-trans held held' held'' (take r out') (lost_text (kept_in s marks) 1 k) front losses)

-- what is written of what is held of a text is what is saved of it
pub saves_all : (given held held' : Option (List ℕ)) (s : State) (room marks : List ℕ)
    → IfSome given (λ text. length text < 70368744177664 → Holding (after no_lines text) s room marks) → Appends held held' (held_text s room marks)
    → IfSome given (λ text. length text < 70368744177664 → Appends held held' (salvaged (after no_lines text)))
saves_all None held held' s room marks holds wrote = tt
saves_all (Some text) held held' s room marks holds wrote = λ few. subst (Appends held held') (held_is_salvaged (holds few)) wrote
