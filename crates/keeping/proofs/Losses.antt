-- The lines of those that are lost: how long they are, and that they are put one after the other.
use borrow.Author.Tests.{le-leb, lt-leb}
use Prim.Native.Nat.{ℕ, zero, suc, ◌+◌, ◌*◌, ◌-◌, ◌≤◌, ◌<◌}
use mathlib.Core.Path.{◌≡◌, refl, sym, ap, ◌∙◌}
use mathlib.Core.Bool.{Bool, true, false, ◌&&◌}
use mathlib.Core.List.{List, [], ◌++◌, append-nil, append_assoc}
use native.Mathlib.Omega.{arith}
use native.Mathlib.Numerals.{add-one}
use lib.Dec.{leb}
use lib.ListN.{length, length-append, take-append-drop}
use Rattle.fields.specs.Texts.{width_of, note_text}
use Rattle.fields.specs.Steps.{WroteOn}
use Rattle.fields.proofs.Widths.{width_most}
use Rattle.fields.proofs.Puts.{on_two, length_note}
use Rattle.keeping.specs.Words.{lost_word}
use Rattle.keeping.specs.Saved.{lost_line, lost_text}

-- nothing is put
pub none_wrote : (i : ℕ) (out : List ℕ) → WroteOn [] i out i out
none_wrote i out = record { ends = omega arith; puts = sym (take-append-drop i out) }

-- how long a line is
pub lost_length : (t : Bool) (x : ℕ) → t ≡ false → length (lost_line t x) ≡ width_of x + 6
lost_length t x h = ap (λ (u : Bool). length (lost_line u x)) h ∙ length_note lost_word x ∙ omega arith

pub kept-length : (t : Bool) (x : ℕ) → t ≡ true → 0 ≡ length (lost_line t x)
kept-length t x h = sym (ap (λ (u : Bool). length (lost_line u x)) h)

pub kept_wrote : (t : Bool) (x i : ℕ) (out : List ℕ) → t ≡ true → WroteOn (lost_line t x) i out i out
kept_wrote t x i out h = rw h (none_wrote i out)

pub lost_wrote : {out o : List ℕ} {i r : ℕ} (t : Bool) (x : ℕ) → t ≡ false → WroteOn (note_text lost_word x) i out r o → WroteOn (lost_line t x) i out r o
lost_wrote t x h w = rw h w

lost_more : (f : ℕ → Bool) (a k : ℕ) → lost_text f a (k + 1) ≡ lost_text f a k ++ lost_line (f (a + k)) (a + k + 1)
unfolding lost_text
lost_more f a k = rw (add-one k, add-one (a + k))

-- the lines of some are no longer than those of more
grows : (f : ℕ → Bool) (a i d : ℕ) → length (lost_text f a i) ≤ length (lost_text f a (i + d))
grows f a i zero =
    let p : i + 0 ≡ i = omega arith in
    rw p (omega arith)
grows f a i (suc d) =
    let p : i + suc d ≡ i + d + 1 = omega arith in
    rw (p, lost_more f a (i + d), length-append (lost_text f a (i + d)) (lost_line (f (a + (i + d))) (a + (i + d) + 1))) (omega (arith, grows f a i d))

pub lost_grows : (f : ℕ → Bool) (a i k : ℕ) → i ≤ k → length (lost_text f a i) ≤ length (lost_text f a k)
lost_grows f a i k h =
    let p : i + (k - i) ≡ k = omega arith in
    rw (← p) (grows f a i (k - i))

-- the lines of some and of those that follow are the lines of all
pub losses_in_pieces : (f : ℕ → Bool) (a i k : ℕ) → lost_text f a (i + k) ≡ lost_text f a i ++ lost_text f (a + i) k
unfolding lost_text
losses_in_pieces f a i zero =
    let p : i + 0 ≡ i = omega arith in
    rw p (sym (append-nil (lost_text f a i)))
losses_in_pieces f a i (suc k) =
    let p : i + suc k ≡ suc (i + k) = omega arith in
    let q : a + (i + k) ≡ a + i + k = omega arith in
    rw (p, losses_in_pieces f a i k, q)
    (append_assoc (lost_text f a i) (lost_text f (a + i) k) (lost_line (f (a + i + k)) (suc (a + i + k))))

-- a line is at most 26 bytes long
line_most : (t : Bool) (x : ℕ) → length (lost_line t x) ≤ 26
line_most true x = omega arith
line_most false x = omega (arith, lost_length false x refl, width_most x)

pub lost_most : (f : ℕ → Bool) (a k : ℕ) → length (lost_text f a k) ≤ 26 * k
unfolding lost_text
lost_most f a zero = omega arith
lost_most f a (suc k) =
    rw (length-append (lost_text f a k) (lost_line (f (a + k)) (suc (a + k)))) (omega (arith, lost_most f a k, line_most (f (a + k)) (suc (a + k))))

-- the lines of the lost ones of the first i are put
pub record Losing (f : ℕ → Bool) (a k at : ℕ) (out : List ℕ) (i r : ℕ) (o : List ℕ) : Type 0 where
  pub upto : i ≤ k
  pub same : length o ≡ length out
  pub is : WroteOn (lost_text f a i) at out r o

pub losing_start : (f : ℕ → Bool) (a k at : ℕ) (out : List ℕ) → Losing f a k at out 0 at out
unfolding lost_text
losing_start f a k at out = record { upto = omega arith; same = refl; is = none_wrote at out }

pub losing_room : {f : ℕ → Bool} {a k at : ℕ} {out : List ℕ} {i r : ℕ} {o : List ℕ} (t : Bool) → Losing f a k at out i r o → i < k → t ≡ f (a + i)
    → at + length (lost_text f a k) ≤ length out → r + length (lost_line t (a + i + 1)) ≤ length o
losing_room {f} {a} {k} {at} {out} {i} {r} {o} t e h g l =
    let p : length (lost_text f a (i + 1)) ≡ length (lost_text f a i) + length (lost_line t (a + i + 1)) =
    ap length (lost_more f a i) ∙ length-append (lost_text f a i) (lost_line (f (a + i)) (a + i + 1))
    ∙ ap (λ (u : Bool). length (lost_text f a i) + length (lost_line u (a + i + 1))) (sym g) in
    omega (arith, p, lost_grows f a (i + 1) k (omega arith), e.is.ends, e.same)

pub losing_turn : {f : ℕ → Bool} {a k at : ℕ} {out : List ℕ} {i r : ℕ} {o : List ℕ} (t : Bool) (r' : ℕ) (o' : List ℕ) → Losing f a k at out i r o → i < k
    → t ≡ f (a + i) → at + length (lost_text f a k) ≤ length out → length o' ≡ length o → WroteOn (lost_line t (a + i + 1)) r o r' o'
    → Losing f a k at out (i + 1) r' o'
losing_turn {f} {a} {k} {at} {out} {i} {r} {o} t r' o' e h g l s w =
    record {
      upto = omega arith;
      same = s ∙ e.same;
      is = rw (lost_more f a i) (on_two e.is (rw g at w) (omega (arith, lost_grows f a i k (omega arith))));
    }

pub losing_whole : {f : ℕ → Bool} {a k at : ℕ} {out : List ℕ} {i r : ℕ} {o : List ℕ} → Losing f a k at out i r o → k ≤ i
    → WroteOn (lost_text f a k) at out r o
losing_whole {f} {a} {k} {at} {out} {i} {r} {o} e h =
    let p : i ≡ k = omega (arith, e.upto) in
    rw p at e.is

-- the room that is left behind the first i
pub record Leaving (f : ℕ → Bool) (a k room i left : ℕ) : Type 0 where
  pub upto : i ≤ k
  pub is : length (lost_text f a i) + left ≡ room

pub leaving_start : (f : ℕ → Bool) (a k room : ℕ) → Leaving f a k room 0 room
unfolding lost_text
leaving_start f a k room = record { upto = omega arith; is = omega arith }

module _ {f : ℕ → Bool} {a k room i left : ℕ} (t : Bool) (wide : ℕ) (e : Leaving f a k room i left) (h : i < k) (g : t ≡ f (a + i))
    (w : wide ≡ length (lost_line t (a + i + 1))) where
  one_more : length (lost_text f a (i + 1)) ≡ length (lost_text f a i) + wide
  one_more =
      ap length (lost_more f a i) ∙ length-append (lost_text f a i) (lost_line (f (a + i)) (a + i + 1))
      ∙ ap (λ (u : Bool). length (lost_text f a i) + length (lost_line u (a + i + 1))) (sym g) ∙ ap (λ (x : ℕ). length (lost_text f a i) + x) (sym w)

  pub leaving_turn : wide ≤ left → Leaving f a k room (i + 1) (left - wide)
  leaving_turn l = record { upto = omega arith; is = omega (arith, one_more, e.is) }

  pub leaving_short : left < wide → false ≡ leb (length (lost_text f a k)) room
  leaving_short l = sym (lt-leb (length (lost_text f a k)) room (omega (arith, one_more, e.is, lost_grows f a (i + 1) k (omega arith))))

pub leaving_whole : {f : ℕ → Bool} {a k room i left : ℕ} → Leaving f a k room i left → k ≤ i → true ≡ leb (length (lost_text f a k)) room
leaving_whole {f} {a} {k} {room} {i} {left} e h =
    let p : i ≡ k = omega (arith, e.upto) in
    let q : length (lost_text f a k) + left ≡ room = rw p at e.is in
    sym (le-leb (length (lost_text f a k)) room (omega arith))

-- whether a line is marked
pub marked_is : (m j : ℕ) (t : Bool) → j ≤ m → t ≡ (leb j m && t)
marked_is m j t h = rw (le-leb j m h)

pub beyond_is : (m j : ℕ) (t : Bool) → m < j → false ≡ (leb j m && t)
beyond_is m j t h = rw (lt-leb j m h)
