-- What is read at a place of the first line is read there in a longer text too, where the text is long enough.
use Rattle.std.specs.Prelude.{None, Some}
use Prim.Native.Nat.{ℕ, suc, ◌+◌, ◌≤◌}
use mathlib.Core.Path.{◌≡◌, refl, sym, ap, ◌∙◌}
use mathlib.Core.Bool.{Bool, true, false}
use mathlib.Core.List.{List, ◌++◌}
use native.Mathlib.Omega.{arith}
use lib.Dec.{eqb}
use lib.ListN.{length}
use lib.Ieee.{binary64, of_bits}
use Rattle.seq.specs.Choice.{pick}
use Rattle.fields.specs.Bytes.{byte_at, spelled}
use Rattle.fields.specs.Fields.{is_bits, bits_at, has_count, count_at}
use Rattle.fields.specs.declared.Field.{Field}
use Rattle.fields.proofs.Widths.{count_next}
use Rattle.fields.proofs.Longer.{byte_longer, spelled_longer, bits_longer, bits-at_longer, count_longer_12, has-count_longer_12}
use Rattle.rules.specs.declared.Rule.TheVariants.{Target}
use Rattle.head.specs.Words.{thin_word, target_word, within_word, second_edition, dash}
use Rattle.head.specs.FirstLine.{has_cap, cap_at, target_at, has_within, within_at, no_rule, has_rule, rule_at}
use Rattle.head.specs.FirstLine.{has_sizes, sizes_at, has_edition, edition_at, has_head, head_of}
use Rattle.head.specs.declared.CapField.{CapField}
use Rattle.head.specs.declared.RuleField.{RuleField}
use Rattle.head.proofs.Places.{sizes_next, rule_next}
use Rattle.head.proofs.Fields.{sizes_is, has_sizes_is, within_is, has_within_is, head_is, has_head_is}

-- what a dash or a count is read as
cap_of : ℕ → ℕ → Field → CapField
cap_of i b f = pick (eqb b dash) (record { cap = None; next = suc i }) (record { cap = Some f.value; next = f.next })

cap_longer : (t more : List ℕ) (i : ℕ) → i + 12 ≤ length t → cap_at (t ++ more) i ≡ cap_at t i
unfolding cap_at cap_of
cap_longer t more i h =
    ap (λ (b : ℕ). cap_of i b (count_at (t ++ more) i)) (byte_longer t more i (omega arith)) ∙ ap (cap_of i (byte_at t i)) (count_longer_12 t more i h)

has-cap_longer : (t more : List ℕ) (i : ℕ) → i + 12 ≤ length t → has_cap (t ++ more) i ≡ has_cap t i
unfolding has_cap
has-cap_longer t more i h =
    ap (λ (b : ℕ). pick (eqb b dash) true (has_count (t ++ more) i)) (byte_longer t more i (omega arith))
    ∙ ap (λ (s : Bool). pick (eqb (byte_at t i) dash) true s) (has-count_longer_12 t more i h)

within_longer : (t more : List ℕ) (i : ℕ) → i + 29 ≤ length t → within_at (t ++ more) i ≡ within_at t i
within_longer t more i h =
    sym (within_is (t ++ more) i (bits_at t i) (of_bits binary64 (bits_at t i).value) (cap_at t (i + 17))
    (sym (bits-at_longer t more i (omega arith))) (sym (cap_longer t more (i + 17) (omega arith))) refl)
    ∙ within_is t i (bits_at t i) (of_bits binary64 (bits_at t i).value) (cap_at t (i + 17)) refl refl refl

has-within_longer : (t more : List ℕ) (i : ℕ) → i + 29 ≤ length t → has_within (t ++ more) i ≡ has_within t i
has-within_longer t more i h =
    sym (has_within_is (t ++ more) i (byte_at t (i + 16)) (is_bits t i) (has_cap t (i + 17)) (sym (bits_longer t more i (omega arith)))
    (sym (byte_longer t more (i + 16) (omega arith))) (sym (has-cap_longer t more (i + 17) (omega arith))))
    ∙ has_within_is t i (byte_at t (i + 16)) (is_bits t i) (has_cap t (i + 17)) refl refl refl

same_rule : {A : Type 0} (s s' u u' : Bool) (a a' b b' c : A) → s ≡ s' → u ≡ u' → a ≡ a' → b ≡ b' → pick s a (pick u b c) ≡ pick s' a' (pick u' b' c)
same_rule s s' u u' a a' b b' c p q r z = rw (p, q, r, z)

rule_longer : (t more : List ℕ) (i : ℕ) → i + 36 ≤ length t → rule_at (t ++ more) i ≡ rule_at t i
unfolding rule_at
rule_longer t more i h =
    same_rule (spelled target_word (t ++ more) i) (spelled target_word t i) (spelled within_word (t ++ more) i) (spelled within_word t i)
    (target_at (t ++ more) (i + 7)) (target_at t (i + 7)) (within_at (t ++ more) (i + 7)) (within_at t (i + 7)) no_rule
    (spelled_longer target_word t more i (omega arith)) (spelled_longer within_word t more i (omega arith))
    (ap (λ (f : Field). record { rule = Target f.value; allowance = 0; next = f.next }) (count_longer_12 t more (i + 7) (omega arith)))
    (within_longer t more (i + 7) (omega arith))

has-rule_longer : (t more : List ℕ) (i : ℕ) → i + 36 ≤ length t → has_rule (t ++ more) i ≡ has_rule t i
unfolding has_rule
has-rule_longer t more i h =
    same_rule (spelled target_word (t ++ more) i) (spelled target_word t i) (spelled within_word (t ++ more) i) (spelled within_word t i)
    (has_count (t ++ more) (i + 7)) (has_count t (i + 7)) (has_within (t ++ more) (i + 7)) (has_within t (i + 7)) false
    (spelled_longer target_word t more i (omega arith)) (spelled_longer within_word t more i (omega arith))
    (has-count_longer_12 t more (i + 7) (omega arith)) (has-within_longer t more (i + 7) (omega arith))

sizes_longer : (t more : List ℕ) (i : ℕ) → i + 24 ≤ length t → sizes_at (t ++ more) i ≡ sizes_at t i
sizes_longer t more i h =
    let j : ℕ = (count_at t i).next in
    let g : Field = count_at t (j + 1) in
    let a : j ≤ i + 11 = count_next t i in
    sym (sizes_is (t ++ more) i (count_at t i) g (sym (count_longer_12 t more i (omega arith))) (sym (count_longer_12 t more (j + 1) (omega arith))))
    ∙ sizes_is t i (count_at t i) g refl refl

has-sizes_longer : (t more : List ℕ) (i : ℕ) → i + 24 ≤ length t → has_sizes (t ++ more) i ≡ has_sizes t i
has-sizes_longer t more i h =
    let j : ℕ = (count_at t i).next in
    let g : Field = count_at t (j + 1) in
    let a : j ≤ i + 11 = count_next t i in
    let b : g.next ≤ j + 1 + 11 = count_next t (j + 1) in
    sym (has_sizes_is (t ++ more) i (byte_at t j) (byte_at t g.next) (has_count t i) (has_count t (j + 1)) (count_at t i) g
    (sym (has-count_longer_12 t more i (omega arith))) (sym (count_longer_12 t more i (omega arith))) (sym (byte_longer t more j (omega arith)))
    (sym (has-count_longer_12 t more (j + 1) (omega arith))) (sym (count_longer_12 t more (j + 1) (omega arith)))
    (sym (byte_longer t more g.next (omega arith))))
    ∙ has_sizes_is t i (byte_at t j) (byte_at t g.next) (has_count t i) (has_count t (j + 1)) (count_at t i) g refl refl refl refl refl refl

edition_longer : (t more : List ℕ) (i : ℕ) → i + 3 ≤ length t → edition_at (t ++ more) i ≡ edition_at t i
unfolding edition_at
edition_longer t more i h = rw (spelled_longer second_edition t more i h)

has-edition_longer : (t more : List ℕ) (i : ℕ) → i + 3 ≤ length t → has_edition (t ++ more) i ≡ has_edition t i
unfolding has_edition
has-edition_longer t more i h = rw (spelled_longer second_edition t more i h, byte_longer t more i (omega arith))

-- the first line of a text of at least 100 bytes is that of every text that it begins
pub head_longer : (t more : List ℕ) → 100 ≤ length t → head_of (t ++ more) ≡ head_of t
head_longer t more h =
    let i : ℕ = (sizes_at t 5).next in
    let j : ℕ = (rule_at t (i + 17)).next in
    let a : i ≤ 5 + 24 = sizes_next t 5 in
    let b : j ≤ i + 17 + 35 = rule_next t (i + 17) in
    sym (head_is (t ++ more) (sizes_at t 5) (bits_at t i) (rule_at t (i + 17)) (edition_at t j)
    (sym (sizes_longer t more 5 (omega arith))) (sym (bits-at_longer t more i (omega arith)))
    (sym (rule_longer t more (i + 17) (omega arith))) (sym (edition_longer t more j (omega arith))))
    ∙ head_is t (sizes_at t 5) (bits_at t i) (rule_at t (i + 17)) (edition_at t j) refl refl refl refl

pub has-head_longer : (t more : List ℕ) → 100 ≤ length t → has_head (t ++ more) ≡ has_head t
has-head_longer t more h =
    let i : ℕ = (sizes_at t 5).next in
    let r : RuleField = rule_at t (i + 17) in
    let a : i ≤ 5 + 24 = sizes_next t 5 in
    let b : r.next ≤ i + 17 + 35 = rule_next t (i + 17) in
    sym (has_head_is (t ++ more) (spelled thin_word t 0) (has_sizes t 5) (is_bits t i) (has_rule t (i + 17)) (has_edition t r.next)
    (byte_at t (i + 16)) (sizes_at t 5) r (sym (spelled_longer thin_word t more 0 (omega arith))) (sym (has-sizes_longer t more 5 (omega arith)))
    (sym (sizes_longer t more 5 (omega arith))) (sym (bits_longer t more i (omega arith))) (sym (byte_longer t more (i + 16) (omega arith)))
    (sym (has-rule_longer t more (i + 17) (omega arith))) (sym (rule_longer t more (i + 17) (omega arith)))
    (sym (has-edition_longer t more r.next (omega arith))))
    ∙ has_head_is t (spelled thin_word t 0) (has_sizes t 5) (is_bits t i) (has_rule t (i + 17)) (has_edition t r.next)
    (byte_at t (i + 16)) (sizes_at t 5) r refl refl refl refl refl refl refl refl
