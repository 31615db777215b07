-- The search for the stage at which a job stops: where each pass leaves fewer nonzeros it finds the first stage that stops, and more fuel changes nothing.
use Prim.Native.Nat.{ℕ, zero, suc, ◌+◌, ◌*◌, ◌≤◌, ◌<◌}
use mathlib.Core.Path.{◌≡◌, refl}
use mathlib.Core.Bool.{Bool, true, false}
use mathlib.Core.List.{List}
use native.Mathlib.Omega.{arith}
use native.Mathlib.Decide.{dec_lt}
use lib.Dec.{leb}
use lib.ListN.{length}
use lib.Ieee.{Float}
use borrow.Author.Tests.{le-leb}
use Rattle.seq.specs.Choice.{pick}
use Rattle.seq.proofs.Keeping.{count_short}
use Rattle.stages.specs.Stages.{stage_of}
use Rattle.stages.specs.Stopping.{entries_at, rests, exceeds, stops, first_stop, stop_of}
use Rattle.rules.specs.Rules.{rule_fault}
use Rattle.rules.specs.declared.Rule.{Rule}
use Rattle.rules.specs.declared.Rule.TheVariants.{Target, Within}
use Rattle.seq.proofs.Choosing.{neither, first_holds, never}
use Rattle.draw.specs.declared.SplitMix64.{SplitMix64}

-- a target that is not refused is at least 1
pub target_some : (t : ℕ) → rule_fault (Target t) ≡ 0 → 1 ≤ t
target_some zero h = absurd (omega arith)
target_some (suc t) h = omega arith

-- the search, over the sequence of stages of one matrix, weights and generator
module _ (z : Float) (matrix : ℕ → ℕ → Float) (n : ℕ) (start : List Float) (source : SplitMix64) where
  -- a stage of one nonzero at most is returned, whatever the rule
  pub few_rests : (rule : Rule) (i : ℕ) → rule_fault rule ≡ 0 → entries_at z matrix n start source i ≤ 1 → rests z matrix n start source rule i ≡ true
  few_rests (Target t) i f h = le-leb (entries_at z matrix n start source i) t (omega (arith, target_some t f))
  few_rests (Within allowance cap) i f h = first_holds (leb (entries_at z matrix n start source i) 1) _ (le-leb (entries_at z matrix n start source i) 1 h)

  -- where the job goes on, the stage has two nonzeros or more
  pub goes : (rule : Rule) (i : ℕ) → rule_fault rule ≡ 0 → stops z matrix n start source rule i ≡ false → 2 ≤ entries_at z matrix n start source i
  goes rule i f h = go (dec_lt 1 (entries_at z matrix n start source i))
      (neither (rests z matrix n start source rule i) (exceeds z matrix n start source rule i) h).0
    where
      go : Dec (1 < entries_at z matrix n start source i) → rests z matrix n start source rule i ≡ false → 2 ≤ entries_at z matrix n start source i
      go (yes g) e = omega arith
      go (no g) e = never (rests z matrix n start source rule i) (few_rests rule i f (omega arith)) e

  -- stage k stops, and none before it
  pub record FirstStop (rule : Rule) (k : ℕ) : Type 0 where
    pub there : stops z matrix n start source rule k ≡ true
    pub before : (i : ℕ) → i < k → stops z matrix n start source rule i ≡ false

  pub only : {rule : Rule} {k l : ℕ} → FirstStop rule k → FirstStop rule l → k ≡ l
  only {rule} {k} {l} p q = go (dec_lt k l) (dec_lt l k)
    where
      go : Dec (k < l) → Dec (l < k) → k ≡ l
      go (yes h) x = never (stops z matrix n start source rule k) p.there (q.before k h)
      go (no g) (yes h) = never (stops z matrix n start source rule l) q.there (p.before l h)
      go (no g) (no h) = omega arith

  -- every stage before i has two nonzeros or more, so that a job may come as far
  abbrev pub Leads : ℕ → Type 0
  Leads i = (j : ℕ) → j < i → 2 ≤ entries_at z matrix n start source j

  -- each pass that a job makes leaves at most half
  abbrev pub Falls : Type 0
  Falls = (i : ℕ) → Leads (suc i) → 2 * entries_at z matrix n start source (suc i) ≤ entries_at z matrix n start source i

  -- so there are strictly fewer
  pub strictly : Falls → (i : ℕ) → Leads (suc i) → entries_at z matrix n start source (suc i) < entries_at z matrix n start source i
  strictly falls i g = omega (arith, falls i g, g i (omega arith))

  pub below_more : (rule : Rule) (i : ℕ) → ((j : ℕ) → j < i → stops z matrix n start source rule j ≡ false) → stops z matrix n start source rule i ≡ false
      → (j : ℕ) → j < suc i → stops z matrix n start source rule j ≡ false
  below_more rule i h g j l = go (dec_lt j i)
    where
      go : Dec (j < i) → stops z matrix n start source rule j ≡ false
      go (yes k) = h j k
      go (no k) = let e : j ≡ i = omega arith in rw e g

  module _ (falls : Falls) (rule : Rule) (accepted : rule_fault rule ≡ 0) where
    -- fuel for every nonzero entry is enough
    pub finds : (fuel i : ℕ) → entries_at z matrix n start source i ≤ fuel → ((j : ℕ) → j < i → stops z matrix n start source rule j ≡ false) → FirstStop
        rule (first_stop z matrix n start source rule fuel i)
    unfolding first_stop
    finds zero i h g = record { there = first_holds (rests z matrix n start source rule i) _ (few_rests rule i accepted (omega arith)); before = g }
    finds (suc fuel) i h g = go (stops z matrix n start source rule i) refl (finds fuel (suc i))
      where
        go : (t : Bool) → stops z matrix n start source rule i ≡ t
            → (entries_at z matrix n start source (suc i) ≤ fuel → ((j : ℕ) → j < suc i → stops z matrix n start source rule j ≡ false) → FirstStop
            rule (first_stop z matrix n start source rule fuel (suc i)))
            → FirstStop rule (pick t i (first_stop z matrix n start source rule fuel (suc i)))
        go true e r = record { there = e; before = g }
        go false e r =
            let below = below_more rule i g e in
            r (omega (arith, strictly falls i (λ j l. goes rule j accepted (below j l)))) below

    pub entries_short : entries_at z matrix n start source 0 ≤ length start
    unfolding stage_of
    entries_short = count_short _ (length start)

    -- the stage of the definition is the first that stops
    pub stop_is_first : FirstStop rule (stop_of z matrix n start source rule)
    stop_is_first = finds (length start) 0 entries_short (λ j l. absurd (omega arith))

    -- more fuel changes nothing
    pub fuel_enough : (more : ℕ) → first_stop z matrix n start source rule (length start + more) 0 ≡ stop_of z matrix n start source rule
    fuel_enough more = only (finds (length start + more) 0 (omega (arith, entries_short)) (λ j l. absurd (omega arith))) stop_is_first

    -- a job comes as far as the stage that is returned
    pub leads : Leads (stop_of z matrix n start source rule)
    leads j l = goes rule j accepted (stop_is_first.before j l)
