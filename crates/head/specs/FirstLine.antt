-- The first line of a sheet, by places: where each field stands follows from where the one before it ends.
use Rattle.std.specs.Prelude.{ℕ, suc, ◌+◌, Bool, true, false, ◌&&◌, List, eqb, leb, None, Some}
use Rattle.std.specs.Float.{binary64}
use Rattle.std.specs.Float.Ieee.{of_bits}
use Rattle.seq.specs.Choice.{pick}
use Rattle.fields.specs.Bytes.{tab, newline, byte_at, spelled}
use Rattle.fields.specs.Fields.{is_bits, bits_at, has_count, count_at}
use Rattle.rules.specs.declared.Rule.TheVariants.{Target, Within}
use Rattle.head.specs.Words.{thin_word, target_word, within_word, second_edition, dash}
use Rattle.head.specs.declared.CapField.{CapField}
use Rattle.head.specs.declared.RuleField.{RuleField}
use Rattle.head.specs.declared.Sizes.{Sizes}
use Rattle.head.specs.declared.EditionField.{EditionField}
use Rattle.head.specs.declared.Head.{Head}

-- a cap stands at i: a dash or a count
unfoldable pub has_cap : List ℕ → ℕ → Bool
has_cap text i = pick (eqb (byte_at text i) dash) true (has_count text i)

-- the cap at i
unfoldable pub cap_at : List ℕ → ℕ → CapField
cap_at text i =
    pick (eqb (byte_at text i) dash) (record { cap = None; next = suc i }) (record { cap = Some (count_at text i).value; next = (count_at text i).next })

-- what is said where no rule stands
abbrev pub no_rule : RuleField
no_rule = record { rule = Target 0; allowance = 0; next = 0 }

-- the target at i, which stands after its word where a count does
abbrev pub target_at : List ℕ → ℕ → RuleField
target_at text i = record { rule = Target (count_at text i).value; allowance = 0; next = (count_at text i).next }

-- an allowance and a cap behind it stand at i, after their word
unfoldable pub has_within : List ℕ → ℕ → Bool
has_within text i = is_bits text i && (eqb (byte_at text (i + 16)) tab && has_cap text (i + 17))

-- that allowance and that cap
unfoldable pub within_at : List ℕ → ℕ → RuleField
within_at text i =
    record {
      rule = Within (of_bits binary64 (bits_at text i).value) (cap_at text (i + 17)).cap;
      allowance = (bits_at text i).value;
      next = (cap_at text (i + 17)).next;
    }

-- a rule stands at i: "target" or "within", and what belongs to it
unfoldable pub has_rule : List ℕ → ℕ → Bool
has_rule text i = pick (spelled target_word text i) (has_count text (i + 7)) (pick (spelled within_word text i) (has_within text (i + 7)) false)

-- the rule at i
unfoldable pub rule_at : List ℕ → ℕ → RuleField
rule_at text i =
    pick (spelled target_word text i) (target_at text (i + 7))
    (pick (spelled within_word text i) (within_at text (i + 7)) no_rule)

-- the counts of columns and rows stand at i and behind it: at most 32 and 64, and a tab after each
unfoldable pub has_sizes : List ℕ → ℕ → Bool
has_sizes text i =
    let j : ℕ = suc (count_at text i).next in
    (has_count text i && (leb (count_at text i).value 32 && eqb (byte_at text (count_at text i).next) tab))
    && (has_count text j && (leb (count_at text j).value 64 && eqb (byte_at text (count_at text j).next) tab))

-- those counts
unfoldable pub sizes_at : List ℕ → ℕ → Sizes
sizes_at text i =
    let j : ℕ = suc (count_at text i).next in
    record { m = (count_at text i).value; n = (count_at text j).value; next = suc (count_at text j).next }

-- the first line ends at i: by a newline for edition 1, and by a tab, "2" and a newline for edition 2
unfoldable pub has_edition : List ℕ → ℕ → Bool
has_edition text i = pick (spelled second_edition text i) true (eqb (byte_at text i) newline)

-- the edition that it says
unfoldable pub edition_at : List ℕ → ℕ → EditionField
edition_at text i = pick (spelled second_edition text i) (record { edition = 2; next = i + 3 }) (record { edition = 1; next = suc i })

-- a first line begins the text: "thin", the sizes, the seed, the rule and the edition
unfoldable pub has_head : List ℕ → Bool
has_head text =
    let i : ℕ = (sizes_at text 5).next in
    (spelled thin_word text 0 && has_sizes text 5)
    && ((is_bits text i && eqb (byte_at text (i + 16)) tab)
    && (has_rule text (i + 17) && has_edition text (rule_at text (i + 17)).next))

-- what it says
unfoldable pub head_of : List ℕ → Head
head_of text =
    let s : Sizes = sizes_at text 5 in
    let r : RuleField = rule_at text (s.next + 17) in
    let e : EditionField = edition_at text r.next in
    record {
      m = s.m;
      n = s.n;
      seed = (bits_at text s.next).value;
      edition = e.edition;
      rule = r.rule;
      allowance = r.allowance;
      next = e.next;
    }
