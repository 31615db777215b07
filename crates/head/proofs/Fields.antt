-- What is read at a place of the first line, from what its parts are.
use Rattle.std.specs.Prelude.{None, Some}
use borrow.Author.Tests.{eq-eqb, ne_eqb}
use Prim.Native.Nat.{ℕ, suc, ◌+◌}
use mathlib.Core.Path.{◌≡◌, sym, ap, ◌∙◌}
use mathlib.Core.Bool.{Bool, true, false, ◌&&◌}
use mathlib.Core.List.{List}
use native.Mathlib.Numerals.{add-one}
use lib.Dec.{eqb, leb}
use lib.Ieee.{Float, binary64, of_bits}
use Rattle.fields.specs.Bytes.{byte_at, spelled}
use Rattle.fields.specs.Fields.{is_bits, bits_at, has_count, count_at}
use Rattle.fields.specs.declared.Field.{Field}
use Rattle.rules.specs.declared.Rule.TheVariants.{Within}
use Rattle.head.specs.Words.{thin_word, target_word, within_word, second_edition, dash}
use Rattle.head.specs.FirstLine.{has_cap, cap_at, target_at, has_within, within_at, has_rule, rule_at}
use Rattle.head.specs.FirstLine.{has_sizes, sizes_at, has_edition, edition_at, has_head, head_of}
use Rattle.head.specs.declared.CapField.{CapField}
use Rattle.head.specs.declared.RuleField.{RuleField}
use Rattle.head.specs.declared.Sizes.{Sizes}
use Rattle.head.specs.declared.EditionField.{EditionField}

pub cap_dash : (t : List ℕ) (i b : ℕ) → b ≡ byte_at t i → b ≡ 45 → (has_cap t i ≡ true) × (record { cap = None; next = i + 1 } ≡ cap_at t i)
unfolding has_cap cap_at
cap_dash t i b e h =
    let p : eqb (byte_at t i) dash ≡ true = eq-eqb (byte_at t i) 45 (sym e ∙ h) in
    (rw p, rw (add-one i, p))

pub cap_count : (t : List ℕ) (i b : ℕ) (f : Field) → b ≡ byte_at t i → (b ≡ 45 → ⊥) → f ≡ count_at t i
    → (has_cap t i ≡ has_count t i) × (record { cap = Some f.value; next = f.next } ≡ cap_at t i)
unfolding has_cap cap_at
cap_count t i b f e h g =
    let p : eqb (byte_at t i) dash ≡ false = ne_eqb (byte_at t i) 45 (λ q. h (e ∙ q)) in
    (rw p, rw (p, g))

-- the sizes, from the two counts and the bytes behind them
pub sizes_is : (t : List ℕ) (i : ℕ) (f g : Field) → f ≡ count_at t i → g ≡ count_at t (f.next + 1)
    → record { m = f.value; n = g.value; next = g.next + 1 } ≡ sizes_at t i
unfolding sizes_at
sizes_is t i f g e h =
    let h' : g ≡ count_at t (suc (count_at t i).next) = h ∙ ap (λ (x : Field). count_at t (x.next + 1)) e ∙ ap (count_at t) (add-one (count_at t i).next) in
    rw (add-one g.next, h', e)

pub has_sizes_is : (t : List ℕ) (i b d : ℕ) (s u : Bool) (f g : Field) → s ≡ has_count t i → f ≡ count_at t i → b ≡ byte_at t f.next
    → u ≡ has_count t (f.next + 1) → g ≡ count_at t (f.next + 1) → d ≡ byte_at t g.next
    → ((s && (leb f.value 32 && eqb b 9)) && (u && (leb g.value 64 && eqb d 9))) ≡ has_sizes t i
unfolding has_sizes
has_sizes_is t i b d s u f g k e p l h q =
    let n : f.next + 1 ≡ suc (count_at t i).next = ap (λ (x : Field). x.next + 1) e ∙ add-one (count_at t i).next in
    let p' : b ≡ byte_at t (count_at t i).next = p ∙ ap (λ (x : Field). byte_at t x.next) e in
    let l' : u ≡ has_count t (suc (count_at t i).next) = l ∙ ap (has_count t) n in
    let h' : g ≡ count_at t (suc (count_at t i).next) = h ∙ ap (count_at t) n in
    let q' : d ≡ byte_at t (count_at t (suc (count_at t i).next)).next = q ∙ ap (λ (x : Field). byte_at t x.next) h' in
    rw (k, p', l', q', h', e)

-- an allowance and a cap, from the bits, the byte between and the cap
pub within_is : (t : List ℕ) (i : ℕ) (f : Field) (d : Float) (k : CapField) → f ≡ bits_at t i → k ≡ cap_at t (i + 17) → d ≡ of_bits binary64 f.value
    → record { rule = Within d k.cap; allowance = f.value; next = k.next } ≡ within_at t i
unfolding within_at
within_is t i f d k e h q = rw (q, h, e)

pub has_within_is : (t : List ℕ) (i b : ℕ) (s u : Bool) → s ≡ is_bits t i → b ≡ byte_at t (i + 16) → u ≡ has_cap t (i + 17)
    → (s && (eqb b 9 && u)) ≡ has_within t i
unfolding has_within
has_within_is t i b s u e p h = rw (e, p, h)

-- the rule, by its word
pub rule_target : (t : List ℕ) (i : ℕ) (s : Bool) → s ≡ spelled target_word t i → s ≡ true
    → (has_rule t i ≡ has_count t (i + 7)) × (rule_at t i ≡ target_at t (i + 7))
unfolding has_rule rule_at
rule_target t i s e h = (rw (← e, h), rw (← e, h))

pub rule_within : (t : List ℕ) (i : ℕ) (s u : Bool) → s ≡ spelled target_word t i → s ≡ false → u ≡ spelled within_word t i → u ≡ true
    → (has_rule t i ≡ has_within t (i + 7)) × (rule_at t i ≡ within_at t (i + 7))
unfolding has_rule rule_at
rule_within t i s u e h f k = (rw (← e, h, ← f, k), rw (← e, h, ← f, k))

-- the end of the line, by what stands there
pub edition_two : (t : List ℕ) (i : ℕ) (s : Bool) → s ≡ spelled second_edition t i → s ≡ true
    → (has_edition t i ≡ true) × (record { edition = 2; next = i + 3 } ≡ edition_at t i)
unfolding has_edition edition_at
edition_two t i s e h = (rw (← e, h), rw (← e, h))

pub edition_one : (t : List ℕ) (i b : ℕ) (s : Bool) → s ≡ spelled second_edition t i → s ≡ false → b ≡ byte_at t i
    → (has_edition t i ≡ eqb b 10) × (record { edition = 1; next = i + 1 } ≡ edition_at t i)
unfolding has_edition edition_at
edition_one t i b s e h g = (rw (← e, h, g), rw (← e, h, add-one i))

-- the first line, from its parts
pub head_is : (t : List ℕ) (z : Sizes) (f : Field) (r : RuleField) (d : EditionField)
    → z ≡ sizes_at t 5 → f ≡ bits_at t z.next → r ≡ rule_at t (z.next + 17) → d ≡ edition_at t r.next
    → record {
      m = z.m;
      n = z.n;
      seed = f.value;
      edition = d.edition;
      rule = r.rule;
      allowance = r.allowance;
      next = d.next;
    } ≡ head_of t
unfolding head_of
head_is t z f r d p h k l =
    let h' : f ≡ bits_at t (sizes_at t 5).next = h ∙ ap (λ (x : Sizes). bits_at t x.next) p in
    let k' : r ≡ rule_at t ((sizes_at t 5).next + 17) = k ∙ ap (λ (x : Sizes). rule_at t (x.next + 17)) p in
    let l' : d ≡ edition_at t (rule_at t ((sizes_at t 5).next + 17)).next = l ∙ ap (λ (x : RuleField). edition_at t x.next) k' in
    rw (h', l', k', p)

pub has_head_is : (t : List ℕ) (s u v w x : Bool) (b : ℕ) (z : Sizes) (r : RuleField)
    → s ≡ spelled thin_word t 0 → u ≡ has_sizes t 5 → z ≡ sizes_at t 5 → v ≡ is_bits t z.next → b ≡ byte_at t (z.next + 16)
    → w ≡ has_rule t (z.next + 17) → r ≡ rule_at t (z.next + 17) → x ≡ has_edition t r.next
    → ((s && u) && ((v && eqb b 9) && (w && x))) ≡ has_head t
unfolding has_head
has_head_is t s u v w x b z r e f p h q k l m =
    let h' : v ≡ is_bits t (sizes_at t 5).next = h ∙ ap (λ (y : Sizes). is_bits t y.next) p in
    let q' : b ≡ byte_at t ((sizes_at t 5).next + 16) = q ∙ ap (λ (y : Sizes). byte_at t (y.next + 16)) p in
    let k' : w ≡ has_rule t ((sizes_at t 5).next + 17) = k ∙ ap (λ (y : Sizes). has_rule t (y.next + 17)) p in
    let l' : r ≡ rule_at t ((sizes_at t 5).next + 17) = l ∙ ap (λ (y : Sizes). rule_at t (y.next + 17)) p in
    let m' : x ≡ has_edition t (rule_at t ((sizes_at t 5).next + 17)).next = m ∙ ap (λ (y : RuleField). has_edition t y.next) l' in
    rw (e, f, h', q', k', m')
