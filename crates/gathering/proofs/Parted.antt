-- Texts that are read in pieces: a byte, the bytes of a piece, and pieces one after the other give what the whole text gives.
use borrow.Author.Tests.{leb-true, ltb-true}
use Prim.Native.Nat.{ℕ, ◌+◌, ◌≤◌, ◌<◌}
use mathlib.Core.Path.{◌≡◌, refl, sym, ap, ◌∙◌}
use mathlib.Core.Bool.{Bool, true, false, ◌&&◌}
use mathlib.Core.List.{List, [], ◌∷◌, ◌++◌}
use native.Mathlib.Omega.{arith}
use native.Mathlib.Numerals.{add-one}
use lib.Dec.{leb, ltb}
use lib.ListN.{length, get_or, take, drop, set, length-append, length-set}
use lib.Seq.{take-suc, take_all}
use Rattle.seq.specs.Choice.{pick}
use Rattle.seq.specs.Lists.{part}
use Rattle.seq.proofs.Choosing.{both}
use Rattle.fields.specs.Bytes.{newline}
use Rattle.gathering.specs.Lines.{Lines, more, after}
use Rattle.gathering.specs.Kept.{is_first, is_line}
use Rattle.gathering.specs.Steps.{most, HeldByte, first_state, keeps, later_state, HeldLine, Holding, Took}
use Rattle.gathering.specs.declared.State.{State}
use Rattle.gathering.proofs.Cut.{Stored, stored}
use Rattle.gathering.proofs.Bytewise.{take-most, reach, within_line, ends_first, ends_later}

-- Pieces of any lengths give what the whole text gives.
pub pieces_are_the_whole : (s : Lines) (t u : List ℕ) → after s (t ++ u) ≡ after (after s t) u
unfolding after
pieces_are_the_whole s [] u = refl
pieces_are_the_whole s (b ∷ t) u = pieces_are_the_whole (more s b) t u

-- a later line, by whether it is kept
module _ (s : State) (line marks : List ℕ) (b : Bool) where
  later_test : (t : Bool) → b ≡ is_line s.n line → ((s.good && leb s.lines s.m) && b) ≡ t → keeps s line ≡ t
  later_test t e g = ap (λ (x : Bool). (s.good && leb s.lines s.m) && x) (sym e) ∙ g

  pub among : ((s.good && leb s.lines s.m) && b) ≡ true → s.lines ≤ s.m
  among g = leb-true s.lines s.m (both s.good (leb s.lines s.m) (both (s.good && leb s.lines s.m) b g).0).1

  pub later-kept : b ≡ is_line s.n line → ((s.good && leb s.lines s.m) && b) ≡ true
      → HeldLine s line marks
      (record { lines = s.lines + 1; long = 0; end = s.end + length line; kept = s.kept + 1; good = s.good; m = s.m; n = s.n })
      (set marks s.lines 1)
  unfolding later_state
  later-kept e g = let t = later_test true e g in record { state = rw t; mark = rw t }

  pub later_lost : b ≡ is_line s.n line → ((s.good && leb s.lines s.m) && b) ≡ false
      → HeldLine s line marks (record { lines = s.lines + 1; long = 0; end = s.end; kept = s.kept; good = s.good; m = s.m; n = s.n }) marks
  unfolding later_state
  later_lost e g = let t = later_test false e g in record { state = rw t; mark = rw t }

either : (t : Bool) (a b : State) (k : ℕ) → a.lines ≡ k → b.lines ≡ k → (pick t a b).lines ≡ k
either true a b k p q = p
either false a b k p q = q

first_lines : (line : List ℕ) → (first_state line).lines ≡ 1
unfolding first_state
first_lines line = either (is_first line) _ _ 1 refl refl

later_lines : (s : State) (line : List ℕ) → (later_state s line).lines ≡ s.lines + 1
unfolding later_state
later_lines s line = either (keeps s line) _ _ (s.lines + 1) refl refl

-- what is held after one byte, of what each function says
module _ (h : State) (room marks : List ℕ) (b r : ℕ) (room' : List ℕ) (e : HeldByte b h.end h.long room r room') where
  in_room : (s : Lines) → Holding s h room marks → Stored h.end room (s.rest ++ (b ∷ [])) r room'
  in_room s k = rw (e.counts, e.writes) (stored h.end h.long room s.rest b (reach k).room_left k.long k.piece)

  pub took_within : (b ≡ newline → ⊥)
      → Took (b ∷ []) h room marks (record { lines = h.lines; long = r; end = h.end; kept = h.kept; good = h.good; m = h.m; n = h.n }) room' marks
  took_within g = record { lines = omega arith; holds = λ s k. within_line b r room' g k (in_room s k) }

  pub took_first : (state : State) → b ≡ newline → h.lines ≡ 0 → state ≡ first_state (take (h.end + r) room') → Took (b ∷ []) h room marks state room' marks
  took_first state g z q =
      record {
        lines = omega (arith, ap (λ (x : State). x.lines) q, first_lines (take (h.end + r) room'));
        holds = λ s k. rw (g, q) (ends_first r room' z k (rw (← g) (in_room s k)));
      }

  pub took_later : (state : State) (held marks' : List ℕ) → b ≡ newline → 0 < h.lines → held ≡ part h.end r room'
      → HeldLine h held marks state marks' → Took (b ∷ []) h room marks state room' marks'
  took_later state held marks' g z p q =
      record {
        lines = omega (arith, ap (λ (x : State). x.lines) q.state, later_lines h held);
        holds = λ s k. rw (g, q.state, q.mark) (ends_later r room' held z k (rw (← g) (in_room s k)) p);
      }

-- how much of a line is held, and how long the room is then
pub held-most : (h : State) (room : List ℕ) (b r : ℕ) (room' : List ℕ) → HeldByte b h.end h.long room r room' → h.long ≤ most
    → (r ≤ most) × (length room' ≡ length room)
held-most h room b r room' e l = go (ltb h.long most) refl e.counts e.writes
  where
    go : (t : Bool) → ltb h.long most ≡ t → r ≡ pick t (h.long + 1) h.long → room' ≡ pick t (set room (h.end + h.long) b) room
        → (r ≤ most) × (length room' ≡ length room)
    go true f p q = (omega (arith, ltb-true h.long most f), ap length q ∙ length-set room (h.end + h.long) b)
    go false f p q = (omega arith, ap length q)

pub first-most : (k : ℕ) (xs : List ℕ) → length (take k xs) ≤ k
first-most k xs = take-most k xs

pub part-most : (a k : ℕ) (xs : List ℕ) → length (part a k xs) ≤ k
part-most a k xs = take-most k (drop a xs)

-- a piece, byte by byte
pub took_none : (h : State) (room marks : List ℕ) → Took [] h room marks h room marks
unfolding after
took_none h room marks = record { lines = omega arith; holds = λ s k. k }

pub took_more : {t u : List ℕ} {h i j : State} {room marks room' marks' room'' marks'' : List ℕ} → Took t h room marks i room' marks'
    → Took u i room' marks' j room'' marks'' → Took (t ++ u) h room marks j room'' marks''
took_more {t} {u} {h} {i} {j} {room} {marks} {room'} {marks'} {room''} {marks''} a b =
    record {
      lines = omega (arith, a.lines, b.lines, length-append t u);
      holds = λ s k. rw (pieces_are_the_whole s t u) (b.holds (after s t) (a.holds s k));
    }

pub took_next : {h i j : State} {room marks room' marks' room'' marks'' : List ℕ} (piece : List ℕ) (k : ℕ) → k < length piece
    → Took (take k piece) h room marks i room' marks' → Took (get_or piece k 0 ∷ []) i room' marks' j room'' marks''
    → Took (take (k + 1) piece) h room marks j room'' marks''
took_next piece k l a b = rw (add-one k, take-suc piece k 0 l) (took_more a b)

pub took_whole : {h i : State} {room marks room' marks' : List ℕ} (piece : List ℕ) (k : ℕ) → length piece ≤ k → Took (take k piece) h room marks i room' marks'
    → Took piece h room marks i room' marks'
took_whole piece k l a = rw (take_all k piece l) at a
