-- Pieces of a text that are put in a buffer one after the other: two neighbours are one piece.
use Prim.Native.Nat.{ℕ, ◌+◌, ◌≤◌}
use mathlib.Core.Path.{◌≡◌, refl, sym, ap, ◌∙◌}
use mathlib.Core.List.{List, [], ◌∷◌, ◌++◌, append_assoc}
use native.Mathlib.Omega.{arith}
use lib.ListN.{length, take, drop, length-append}
use lib.Seq.{length-take-le, take_at, drop_at, drop-drop}
use Rattle.seq.specs.Lists.{placed}
use Rattle.fields.specs.Bytes.{newline}
use Rattle.fields.specs.Texts.{bits_text, width_of, count_text, tabbed, note_text}
use Rattle.fields.specs.Steps.{WroteOn}
use Rattle.fields.proofs.Widths.{length-bits, length-count}

-- two pieces side by side
placed-two : (a k j : ℕ) (out xs ys : List ℕ) → a + k ≤ length out → length xs ≡ k
    → placed (a + k) j (placed a k out xs) ys ≡ placed a (k + j) out (xs ++ ys)
placed-two a k j out xs ys h e =
    let rest : List ℕ = drop k (drop a out) in
    let p : List ℕ = take a out ++ xs in
    let l : length p ≡ a + k = length-append (take a out) xs ∙ omega (arith, length-take-le a out (omega arith)) in
    let q : placed a k out xs ≡ p ++ rest = sym (append_assoc (take a out) xs rest) in
    ap (λ (s : List ℕ). placed (a + k) j s ys) q
    ∙ ap (λ (s : List ℕ). s ++ (ys ++ drop j (drop (a + k) (p ++ rest)))) (take_at p rest (a + k) l)
    ∙ ap (λ (s : List ℕ). p ++ (ys ++ drop j s)) (drop_at p rest (a + k) l)
    ∙ append_assoc (take a out) xs (ys ++ drop j rest)
    ∙ ap (λ (s : List ℕ). take a out ++ s) (sym (append_assoc xs ys (drop j rest)))
    ∙ ap (λ (s : List ℕ). take a out ++ ((xs ++ ys) ++ s)) (drop-drop j k (drop a out))

pub on_two : {xs ys out out' out'' : List ℕ} {a b r : ℕ} → WroteOn xs a out b out' → WroteOn ys b out' r out'' → a + length xs ≤ length out
    → WroteOn (xs ++ ys) a out r out''
on_two {xs} {ys} {out} {out'} {out''} {a} {b} {r} p q h =
    record {
      ends = omega (arith, p.ends, q.ends, length-append xs ys);
      puts = q.puts ∙ ap (λ (n : ℕ). placed n (length ys) out' ys) p.ends ∙ ap (λ (s : List ℕ). placed (a + length xs) (length ys) s ys) p.puts
          ∙ placed-two a (length xs) (length ys) out xs ys h refl
          ∙ ap (λ (n : ℕ). placed a n out (xs ++ ys)) (sym (length-append xs ys));
    }

-- bits and a count, as they are put
pub on_bits : (x a : ℕ) (out : List ℕ) (r : ℕ) (out' : List ℕ) → r ≡ a + 16 → out' ≡ placed a 16 out (bits_text x) → WroteOn (bits_text x) a out r out'
on_bits x a out r out' e f =
    record { ends = omega (arith, length-bits x); puts = f ∙ ap (λ (n : ℕ). placed a n out (bits_text x)) (sym (length-bits x)) }

pub on_count : (x a : ℕ) (out : List ℕ) (r : ℕ) (out' : List ℕ) → r ≡ a + width_of x → out' ≡ placed a (width_of x) out (count_text x)
    → WroteOn (count_text x) a out r out'
on_count x a out r out' e f =
    record { ends = omega (arith, length-count x); puts = f ∙ ap (λ (n : ℕ). placed a n out (count_text x)) (sym (length-count x)) }

-- how long a count with its tab and a note are
pub length-tabbed : (x : ℕ) → length (tabbed x) ≡ width_of x + 1
length-tabbed x = length-append (count_text x) _ ∙ omega (arith, length-count x)

pub length_note : (word : List ℕ) (x : ℕ) → length (note_text word x) ≡ length word + width_of x + 1
unfolding note_text
length_note word x =
    length-append word (count_text x ++ (newline ∷ [])) ∙ omega (arith, length-append (count_text x) (newline ∷ []), length-count x)

-- a note, of its three pieces
pub note_wrote : {word out o o' o'' : List ℕ} {i a b r : ℕ} (x : ℕ) → i + length word + width_of x + 1 ≤ length out → length o ≡ length out
    → WroteOn word i out a o → WroteOn (count_text x) a o b o' → WroteOn (newline ∷ []) b o' r o'' → WroteOn (note_text word x) i out r o''
unfolding note_text
note_wrote {word} {out} {o} {o'} {o''} {i} {a} {b} {r} x h g p q s =
    on_two p (on_two q s (omega (arith, length-count x, p.ends))) (omega arith)
