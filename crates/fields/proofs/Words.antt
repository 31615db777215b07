-- Words there and back: a word stands at a place where the bytes from there are the word.
use borrow.Author.Tests.{eqb-true, eq-eqb}
use Prim.Native.Nat.{ℕ, ◌+◌, ◌-◌, ◌≤◌, ◌<◌}
use mathlib.Core.Path.{◌≡◌, sym, ap, ◌∙◌}
use mathlib.Core.Bool.{true}
use mathlib.Core.List.{List}
use native.Mathlib.Omega.{arith}
use lib.Dec.{eqb}
use lib.ListN.{length, get_or}
use lib.Seq.{ext_get_or}
use Rattle.seq.specs.Lists.{part}
use Rattle.seq.proofs.Parts.{length_part, get_d_part}
use Rattle.fields.specs.Bytes.{byte_at, spelled}
use Rattle.seq.proofs.Every.{every_at, every_holds}
use Rattle.fields.proofs.Numerals.{inside}

-- each byte is the word's
pub spelled_at : (word t : List ℕ) (i : ℕ) → spelled word t i ≡ true → (j : ℕ) → j < length word → byte_at t (i + j) ≡ byte_at word j
unfolding spelled
spelled_at word t i h j g =
    eqb-true (byte_at t (i + j)) (byte_at word j) (every_at (λ k. eqb (byte_at t (i + k)) (byte_at word k)) (length word) j h g)

pub spelled-part : (word t : List ℕ) (i : ℕ) → i + length word ≤ length t → spelled word t i ≡ true → part i (length word) t ≡ word
spelled-part word t i l h =
    let e : length (part i (length word) t) ≡ length word = length_part i (length word) t l in
    ext_get_or 0 (part i (length word) t) word e
    (λ j g. get_d_part i (length word) j t 0 (omega arith) ∙ spelled_at word t i h j (omega arith))

pub part-spelled : (word t : List ℕ) (i : ℕ) → part i (length word) t ≡ word → spelled word t i ≡ true
unfolding spelled
part-spelled word t i e =
    every_holds (λ k. eqb (byte_at t (i + k)) (byte_at word k)) (length word)
    (λ j g. eq-eqb (byte_at t (i + j)) (byte_at word j) (sym (get_d_part i (length word) j t 0 g) ∙ ap (λ (l : List ℕ). get_or l j 0) e))

-- a word with no byte 0, but for the empty one, stands within the text
pub spelled_inside : (word t : List ℕ) (i : ℕ) → 0 < length word → ((j : ℕ) → j < length word → 0 < byte_at word j)
    → spelled word t i ≡ true → i + length word ≤ length t
spelled_inside word t i l p h =
    let n : ℕ = length word - 1 in
    let g : n < length word = omega arith in
    let e : byte_at t (i + n) ≡ byte_at word n = spelled_at word t i h n g in
    let q : i + n < length t = inside t (i + n) (rw e (p n g)) in
    omega arith

-- so it stands there where the bytes from there are the word
pub spelled-word : (word t : List ℕ) (i : ℕ) → 0 < length word → ((j : ℕ) → j < length word → 0 < byte_at word j)
    → spelled word t i ≡ true → part i (length word) t ≡ word
spelled-word word t i l p h = spelled-part word t i (spelled_inside word t i l p h) h
