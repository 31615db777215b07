-- A line of which only the first 1110 bytes are held: it is judged as the whole line is, and a byte more is held behind those before it.
use borrow.Author.Tests.{ltb-true, ltb-false, ne_eqb}
use Prim.Native.Nat.{ℕ, suc, ◌+◌, ◌≤◌, ◌<◌}
use mathlib.Core.Path.{◌≡◌, refl, sym, ap, ◌∙◌}
use mathlib.Core.Bool.{Bool, true, false, ◌&&◌}
use mathlib.Core.List.{List, [], ◌∷◌, ◌++◌}
use native.Mathlib.Decide.{dec_lt}
use native.Mathlib.Omega.{arith}
use native.Mathlib.Numerals.{add-one}
use lib.Dec.{eqb, ltb}
use lib.ListN.{length, take, drop, set, length-append, length-set, length-drop}
use lib.Seq.{length-take-le, take_all, take-append-le, take-set-le, drop-set-add, take-suc-set}
use Rattle.seq.specs.Choice.{pick}
use Rattle.seq.specs.Lists.{part}
use Rattle.head.specs.FirstLine.{has_head, head_of}
use Rattle.head.proofs.Places.{head_next}
use Rattle.form.specs.Form.{line_long}
use Rattle.gathering.specs.Kept.{is_first, is_line}
use Rattle.gathering.specs.Steps.{most}

and_false : (a : Bool) → (a && false) ≡ false
and_false true = refl
and_false false = refl

-- a line that is longer than any first line is none
long_first : (line : List ℕ) → 84 < length line → is_first line ≡ false
unfolding is_first
long_first line h =
    let p : eqb (head_of line).next (length line) ≡ false = ne_eqb (head_of line).next (length line) (λ e. omega (arith, head_next line)) in
    rw p (and_false (has_head line))

-- and one that is longer than any column's is none
long_line : (n : ℕ) (line : List ℕ) → n ≤ 64 → 1109 < length line → is_line n line ≡ false
unfolding is_line
long_line n line h g =
    let p : eqb (length line) (line_long n) ≡ false = ne_eqb (length line) (line_long n) (λ e. omega arith) in
    rw p

pub first_cut : (line : List ℕ) → is_first (take most line) ≡ is_first line
first_cut line = go (dec_lt most (length line))
  where
    go : Dec (most < length line) → is_first (take most line) ≡ is_first line
    go (yes h) =
        let l : length (take most line) ≡ most = length-take-le most line (omega arith) in
        long_first (take most line) (omega arith) ∙ sym (long_first line (omega arith))
    go (no h) = ap is_first (take_all most line (omega arith))

pub line_cut : (n : ℕ) (line : List ℕ) → n ≤ 64 → is_line n (take most line) ≡ is_line n line
line_cut n line g = go (dec_lt most (length line))
  where
    go : Dec (most < length line) → is_line n (take most line) ≡ is_line n line
    go (yes h) =
        let l : length (take most line) ≡ most = length-take-le most line (omega arith) in
        long_line n (take most line) g (omega arith) ∙ sym (long_line n line g (omega arith))
    go (no h) = ap (is_line n) (take_all most line (omega arith))

-- a good line is held whole
pub first-whole : (line : List ℕ) → is_first line ≡ true → take most line ≡ line
first-whole line h = go (dec_lt most (length line))
  where
    go : Dec (most < length line) → take most line ≡ line
    go (yes g) =
        let z : true ≡ false = sym h ∙ long_first line (omega arith) in
        let y : ◌≡◌ {A = ℕ} 0 1 = cc in
        absurd (omega arith)
    go (no g) = take_all most line (omega arith)

pub line_whole : (n : ℕ) (line : List ℕ) → n ≤ 64 → is_line n line ≡ true → take most line ≡ line
line_whole n line k h = go (dec_lt most (length line))
  where
    go : Dec (most < length line) → take most line ≡ line
    go (yes g) =
        let z : true ≡ false = sym h ∙ long_line n line k (omega arith) in
        let y : ◌≡◌ {A = ℕ} 0 1 = cc in
        absurd (omega arith)
    go (no g) = take_all most line (omega arith)

-- a line that is held whole, and one that is not
short : (rest : List ℕ) → length (take most rest) < most → length rest < most
short rest h = go (dec_lt (length rest) most)
  where
    go : Dec (length rest < most) → length rest < most
    go (yes g) = g
    go (no g) = absurd (omega (arith, length-take-le most rest (omega arith)))

full : (rest : List ℕ) → most ≤ length (take most rest) → most ≤ length rest
full rest h = go (dec_lt (length rest) most)
  where
    go : Dec (length rest < most) → most ≤ length rest
    go (yes g) = absurd (omega (arith, ap length (take_all most rest (omega arith))))
    go (no g) = omega arith

-- what the buffer holds after a byte more of a line
pub record Stored (end : ℕ) (room : List ℕ) (rest : List ℕ) (long : ℕ) (room' : List ℕ) : Type 0 where
  pub held : long ≡ length (take most rest)
  pub piece : part end long room' ≡ take most rest
  pub before : take end room' ≡ take end room
  pub same : length room' ≡ length room

pub stored : (end long : ℕ) (room rest : List ℕ) (b : ℕ) → end + most ≤ length room → long ≡ length (take most rest) → part end long room ≡ take most rest
    → Stored end room (rest ++ (b ∷ [])) (pick (ltb long most) (long + 1) long) (pick (ltb long most) (set room (end + long) b) room)
stored end long room rest b h l p = go (ltb long most) refl
  where
    more : length (rest ++ (b ∷ [])) ≡ length rest + 1
    more = length-append rest (b ∷ [])

    go : (t : Bool) → ltb long most ≡ t
        → Stored end room (rest ++ (b ∷ [])) (pick t (long + 1) long) (pick t (set room (end + long) b) room)
    go true e =
        let g : long < most = ltb-true long most e in
        let few : length rest < most = short rest (omega arith) in
        let all : take most (rest ++ (b ∷ [])) ≡ rest ++ (b ∷ []) = take_all most (rest ++ (b ∷ [])) (omega (arith, more)) in
        let rests : take most rest ≡ rest = take_all most rest (omega arith) in
        let inside : long < length (drop end room) = rw (length-drop end room) (omega arith) in
        record {
          held = rw all (omega (arith, more, ap length rests));
          piece = ap (λ (k : ℕ). part end k (set room (end + long) b)) (add-one long)
              ∙ ap (take (suc long)) (drop-set-add end room long b) ∙ take-suc-set (drop end room) long b inside
              ∙ ap (λ (xs : List ℕ). xs ++ (b ∷ [])) (p ∙ rests) ∙ sym all;
          before = take-set-le end room (end + long) b (omega arith);
          same = length-set room (end + long) b;
        }
    go false e =
        let g : most ≤ long = ltb-false long most e in
        let all : most ≤ length rest = full rest (omega arith) in
        let cut : take most (rest ++ (b ∷ [])) ≡ take most rest = take-append-le most rest (b ∷ []) all in
        record { held = rw cut l; piece = p ∙ sym cut; before = refl; same = refl }
