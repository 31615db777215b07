-- What is held while pieces are read, and that there are never too many lines.
use Prim.Native.Nat.{ℕ, ◌+◌, ◌*◌, ◌≤◌, ◌<◌}
use mathlib.Core.Path.{◌≡◌, ap, ◌∙◌}
use mathlib.Core.List.{List}
use native.Mathlib.Omega.{arith}
use lib.ListN.{length}
use Rattle.seq.specs.Lists.{repeated}
use Rattle.gathering.specs.Lines.{no_lines, after}
use Rattle.gathering.specs.Steps.{Held, Took, start_state}
use Rattle.gathering.specs.declared.State.{State}
use Rattle.keeping.proofs.Answers.{holding_start}

-- after so many pieces of at most 65536 bytes, with the lengths as they were
pub record Reading (room₀ marks₀ room marks : List ℕ) (s : State) (piece : List ℕ) (turns : ℕ) : Type 0 where
  pub held : Held s room marks
  pub few : s.lines ≤ 65536 * turns
  pub upto : turns ≤ 70368744177664
  pub room_long : length room ≡ length room₀
  pub marks_long : length marks ≡ length marks₀
  pub piece_long : length piece ≡ 65536

pub reading_start : (room marks : List ℕ) (s : State) (marks' piece : List ℕ) → s ≡ start_state → marks' ≡ repeated 0 (length marks)
    → length marks' ≡ length marks → 65536 ≡ length piece → 36700 ≤ length room → 33 ≤ length marks → Reading room marks' room marks' s piece 0
reading_start room marks s marks' piece e m l p r k =
    record {
      held = record { of = no_lines; holds = holding_start s room marks' (length marks) e m r (omega arith) };
      few = omega (arith, ap (λ (x : State). x.lines) e);
      upto = omega arith;
      room_long = omega arith;
      marks_long = omega arith;
      piece_long = omega arith;
    }

-- what is held after a text more
pub held_more : {text : List ℕ} {h r : State} {room marks room' marks' : List ℕ} → Held h room marks → Took text h room marks r room' marks'
    → Held r room' marks'
held_more {text} a t = record { of = after a.of text; holds = t.holds a.of a.holds }

pub reading_more : {room₀ marks₀ room marks : List ℕ} {s : State} {piece : List ℕ} {turns : ℕ} (text : List ℕ) (r : State)
    (room' marks' piece' : List ℕ) → Reading room₀ marks₀ room marks s piece turns → Took text s room marks r room' marks' → length text ≤ 65536
    → length room' ≡ length room → length marks' ≡ length marks → length piece' ≡ length piece → turns < 70368744177664
    → Reading room₀ marks₀ room' marks' r piece' (turns + 1)
reading_more {room₀} {marks₀} {room} {marks} {s} {piece} {turns} text r room' marks' piece' e t l a b p h =
    record {
      held = held_more e.held t;
      few = omega (arith, e.few, t.lines);
      upto = omega arith;
      room_long = a ∙ e.room_long;
      marks_long = b ∙ e.marks_long;
      piece_long = p ∙ e.piece_long;
    }
