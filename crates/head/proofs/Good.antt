-- A good first line: what each of its parts is, and the sizes that it says.
use borrow.Author.Tests.{leb-true}
use Prim.Native.Nat.{ℕ, suc, ◌+◌, ◌≤◌}
use mathlib.Core.Path.{◌≡◌}
use mathlib.Core.Bool.{Bool, true, ◌&&◌}
use mathlib.Core.List.{List}
use lib.Dec.{eqb, leb}
use Rattle.fields.specs.Bytes.{tab, byte_at, spelled}
use Rattle.fields.specs.Fields.{is_bits, has_count, count_at}
use Rattle.seq.proofs.Choosing.{both}
use Rattle.head.specs.Words.{thin_word}
use Rattle.head.specs.FirstLine.{has_rule, rule_at, has_sizes, sizes_at, has_edition, has_head, head_of}
use Rattle.head.specs.declared.RuleField.{RuleField}

-- what two counts and the tabs behind them are, where the sizes are of the form
pub record GoodSizes (t : List ℕ) (i j : ℕ) : Type 0 where
  pub first : has_count t i ≡ true
  pub columns : (count_at t i).value ≤ 32
  pub parted : eqb (byte_at t (count_at t i).next) tab ≡ true
  pub second : has_count t j ≡ true
  pub rows : (count_at t j).value ≤ 64
  pub closed : eqb (byte_at t (count_at t j).next) tab ≡ true

-- a count of at most so much, and the tab behind it
good-size : (ok : Bool) (x most b : ℕ) → (ok && (leb x most && eqb b tab)) ≡ true → (ok ≡ true) × (x ≤ most) × (eqb b tab ≡ true)
good-size ok x most b h =
    let e = both ok (leb x most && eqb b tab) h in
    let f = both (leb x most) (eqb b tab) e.1 in
    (e.0, leb-true x most f.0, f.1)

pub good-sizes : (t : List ℕ) (i : ℕ) → has_sizes t i ≡ true → GoodSizes t i (suc (count_at t i).next)
unfolding has_sizes
good-sizes t i h =
    let j : ℕ = suc (count_at t i).next in
    let e = both (has_count t i && (leb (count_at t i).value 32 && eqb (byte_at t (count_at t i).next) tab))
    (has_count t j && (leb (count_at t j).value 64 && eqb (byte_at t (count_at t j).next) tab)) h in
    let a = good-size (has_count t i) (count_at t i).value 32 (byte_at t (count_at t i).next) e.0 in
    let b = good-size (has_count t j) (count_at t j).value 64 (byte_at t (count_at t j).next) e.1 in
    record { first = a.0; columns = a.1; parted = a.2; second = b.0; rows = b.1; closed = b.2 }

-- what the parts of a good first line are, the seed standing at i and the rule at j
pub record GoodHead (t : List ℕ) (i j : ℕ) : Type 0 where
  pub opened : spelled thin_word t 0 ≡ true
  pub sizes : has_sizes t 5 ≡ true
  pub seed : is_bits t i ≡ true
  pub parted : eqb (byte_at t (i + 16)) tab ≡ true
  pub rule : has_rule t j ≡ true
  pub closed : has_edition t (rule_at t j).next ≡ true

pub good_head : (t : List ℕ) → has_head t ≡ true → GoodHead t (sizes_at t 5).next ((sizes_at t 5).next + 17)
unfolding has_head
good_head t h =
    let i : ℕ = (sizes_at t 5).next in
    let r : RuleField = rule_at t (i + 17) in
    let e = both (spelled thin_word t 0 && has_sizes t 5) ((is_bits t i && eqb (byte_at t (i + 16)) tab) && (has_rule t (i + 17) && has_edition t r.next)) h in
    let a = both (spelled thin_word t 0) (has_sizes t 5) e.0 in
    let b = both (is_bits t i && eqb (byte_at t (i + 16)) tab) (has_rule t (i + 17) && has_edition t r.next) e.1 in
    let c = both (is_bits t i) (eqb (byte_at t (i + 16)) tab) b.0 in
    let d = both (has_rule t (i + 17)) (has_edition t r.next) b.1 in
    record { opened = a.0; sizes = a.1; seed = c.0; parted = c.1; rule = d.0; closed = d.1 }

-- what it says of the sizes
pub head_most : (t : List ℕ) → has_head t ≡ true → ((head_of t).m ≤ 32) × ((head_of t).n ≤ 64)
unfolding head_of sizes_at
head_most t h =
    let g = good-sizes t 5 (good_head t h).sizes in
    (g.columns, g.rows)
