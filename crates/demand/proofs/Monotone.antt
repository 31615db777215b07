-- Where a rule that allows at least as much stops, the other stops too: so it stops at the same or a later stage, whose nonzero entries are among
-- the earlier's. And the stage at which a rule stops keeps what the rule asks for.
use Rattle.std.specs.Prelude.{None, Option, Some}
use Prim.Native.Nat.{ℕ, zero, suc, ◌+◌, ◌-◌, ◌≤◌, ◌<◌}
use mathlib.Core.Path.{◌≡◌, refl, sym, ◌∙◌}
use mathlib.Core.Bool.{Bool, true, false, ◌&&◌}
use mathlib.Core.List.{List}
use native.Mathlib.Omega.{arith}
use native.Mathlib.Decide.{dec_lt}
use lib.Dec.{T, leb, ltb}
use lib.ListN.{length}
use lib.Ieee.{Float, nan, inf, fin, binary64, fits, le, lt, eq}
use lib.Ieee.Scale.{finite}
use borrow.Author.Tests.{leb-true, le-leb, not-false}
use Rattle.seq.specs.Choice.{pick}
use Rattle.seq.specs.Sums.{plus_zero, at}
use Rattle.ieee.specs.Units.{is_num}
use Rattle.ieee.proofs.Ranks.{le_transitive}
use Rattle.stages.specs.Stages.{stage_of, moved_by}
use Rattle.rules.specs.Rules.{meets, rule_fault, cap_fault}
use Rattle.stages.specs.Stopping.{entries_at, above, rests, exceeds, stops, stop_of}
use Rattle.demand.specs.Demand.{as_tight, allows}
use Rattle.stages.specs.Among.{Among}
use Rattle.rules.specs.declared.Rule.{Rule}
use Rattle.rules.specs.declared.Rule.TheVariants.{Target, Within}
use Rattle.seq.proofs.Choosing.{neither, one_holds, both, never, weaker_or, weaker_and, weaker_not, shown, holds}
use Rattle.stages.proofs.Halting.{Falls, FirstStop, Leads, leads, stop_is_first}
use Rattle.demand.proofs.Unmoved.{moved-fits, no_change}
use Rattle.stages.proofs.Lengths.{length-stage}
use Rattle.draw.specs.declared.SplitMix64.{SplitMix64}

-- the allowance of a rule is a double
abbrev pub Double : Rule → Type 0
Double (Target t) = T true
Double (Within a c) = T (fits binary64 a)

-- both sides of a comparison that holds are numbers
left_number : (x y : Float) → T (le x y) → T (is_num x)
unfolding le lt eq
left_number nan y h = h
left_number (inf s) y h = tt
left_number (fin s m e) y h = tt

right_number : (x y : Float) → T (le x y) → T (is_num y)
unfolding le lt eq
right_number nan y h = absurd h
right_number (inf s) nan h = h
right_number (inf s) (inf t) h = tt
right_number (inf s) (fin t m e) h = tt
right_number (fin s m e) nan h = h
right_number (fin s m e) (inf t) h = tt
right_number (fin s m e) (fin t k d) h = tt

pub le_through : (x a b : Float) → T (fits binary64 x) → T (fits binary64 a) → T (fits binary64 b) → le a b ≡ true → le x a ≡ true → le x b ≡ true
le_through x a b X A B h g =
    holds (le x b)
    (le_transitive {f = binary64} {x = x} {y = a} {z = b} (record { held = X; num = left_number x a (shown (le x a) g) })
    (record { held = A; num = left_number a b (shown (le a b) h) })
    (record { held = B; num = right_number a b (shown (le a b) h) }) (shown (le x a) g) (shown (le a b) h))

-- a cap that is as tight is met only where the other is
pub tight_meets : (c d : Option ℕ) (k : ℕ) → as_tight c d ≡ true → meets d k ≡ true → meets c k ≡ true
tight_meets None d k h g = refl
tight_meets (Some c) None k h g = never false h refl
tight_meets (Some c) (Some d) k h g = le-leb k c (omega (arith, leb-true d c h, leb-true k d g))

cap_some : (c : ℕ) → cap_fault (Some c) ≡ 0 → 1 ≤ c
cap_some zero h = absurd (omega arith)
cap_some (suc c) h = omega arith

among_self : (w : List Float) → Among w w
among_self w = record { on = λ j l h. h; above = λ j l h. refl; under = λ j l h. refl }

among_trans : {matrix v w : List Float} → length v ≡ length matrix → Among matrix v → Among v w → Among matrix w
among_trans e p q =
    record {
      on = λ j l h. p.on j l (q.on j (omega arith) h);
      above = λ j l h. q.above j (omega arith) h ∙ p.above j l (q.on j (omega arith) h);
      under = λ j l h. q.under j (omega arith) h ∙ p.under j l (q.on j (omega arith) h);
    }

module _ (z : Float) (matrix : ℕ → ℕ → Float) (n : ℕ) (start : List Float) (source : SplitMix64) where
  -- a stage that measures above an allowance measures above a smaller one
  pub above-less : (a b : Float) (i : ℕ) → T (fits binary64 a) → T (fits binary64 b) → le a b ≡ true → above z matrix n start source b i
      ≡ true → above z matrix n start source a i ≡ true
  above-less a b i A B h g =
      let x : Float = moved_by matrix n start (stage_of z matrix n start source i) in
      weaker_not (le x b) (le x a) (le_through x a b (moved-fits matrix (length start) n start (stage_of z matrix n start source i).w) A B h) g

  pub rests_sooner : (first second : Rule) (i : ℕ) → Double first → Double second → allows first second ≡ true → rests z matrix n start
      source second i ≡ true → rests z matrix n start source first i ≡ true
  rests_sooner (Target t) (Target s) i A B h g =
      le-leb (entries_at z matrix n start source i) t (omega (arith, leb-true s t h, leb-true (entries_at z matrix n start source i) s g))
  rests_sooner (Target t) (Within b d) i A B h g = never false h refl
  rests_sooner (Within a c) (Target s) i A B h g = never false h refl
  rests_sooner (Within a c) (Within b d) i A B h g =
      let e = both (le a b) (as_tight c d) h in
      let k : ℕ = entries_at z matrix n start source i in
      weaker_or (leb k 1) (ltb 0 i && (above z matrix n start source b i && meets d k)) (leb k 1) (ltb 0 i && (above z matrix n start source a i && meets c k))
      (λ y. y)
      (weaker_and (ltb 0 i) (above z matrix n start source b i && meets d k) (ltb 0 i) (above z matrix n start source a i && meets c k) (λ y. y)
      (weaker_and (above z matrix n start source b i) (meets d k) (above z matrix n start source a i) (meets c k) (above-less a b i A B e.0)
      (tight_meets c d k e.1))) g

  pub exceeds_sooner : (first second : Rule) (i : ℕ) → Double first → Double second → allows first second ≡ true → exceeds z matrix n start source second i
      ≡ true
      → exceeds z matrix n start source first i ≡ true
  exceeds_sooner (Target t) (Target s) i A B h g = g
  exceeds_sooner (Target t) (Within b d) i A B h g = never false h refl
  exceeds_sooner (Within a c) (Target s) i A B h g = never false h refl
  exceeds_sooner (Within a c) (Within b d) i A B h g =
      let e = both (le a b) (as_tight c d) h in
      let k : ℕ = entries_at z matrix n start source i in
      weaker_and (meets d k) (above z matrix n start source b (suc i)) (meets c k) (above z matrix n start source a (suc i))
      (tight_meets c d k e.1) (above-less a b (suc i) A B e.0) g

  pub stops_sooner : (first second : Rule) (i : ℕ) → Double first → Double second → allows first second ≡ true → stops z matrix n start
      source second i ≡ true → stops z matrix n start source first i ≡ true
  stops_sooner first second i A B h =
      weaker_or (rests z matrix n start source second i) (exceeds z matrix n start source second i) (rests z matrix n start source first i)
      (exceeds z matrix n start source first i)
      (rests_sooner first second i A B h) (exceeds_sooner first second i A B h)

  -- the second's first stop is no sooner
  pub no_sooner : (first second : Rule) (k l : ℕ) → Double first → Double second → allows first second ≡ true
      → FirstStop z matrix n start source first k → FirstStop z matrix n start source second l → k ≤ l
  no_sooner first second k l A B h p q = go (dec_lt l k)
    where
      go : Dec (l < k) → k ≤ l
      go (yes g) = never (stops z matrix n start source first l) (stops_sooner first second l A B h q.there) (p.before l g)
      go (no g) = omega arith

  -- each pass up to where the job goes on leaves entries of before, with their signs
  abbrev pub Signed : Type 0
  Signed = (i : ℕ) → Leads z matrix n start source (suc i) → Among (stage_of z matrix n start source i).w (stage_of z matrix n start source (suc i)).w

  pub among_stages : Signed → (i d : ℕ) → Leads z matrix n start source (i + d)
      → Among (stage_of z matrix n start source i).w (stage_of z matrix n start source (i + d)).w
  among_stages signed i zero g = rw (let e : i + 0 ≡ i = omega arith in e) (among_self (stage_of z matrix n start source i).w)
  among_stages signed i (suc d) g =
      rw (let e : i + suc d ≡ suc (i + d) = omega arith in e)
      (among_trans (length-stage z matrix n start source (i + d) ∙ sym (length-stage z matrix n start source i))
      (among_stages signed i d (λ j l. g j (omega arith)))
      (signed (i + d) (λ j l. g j (omega arith))))

  -- what the stage keeps at which a rule stops
  module _ (falls : Falls z matrix n start source) where
    pub among_stops : Signed → (rule : Rule) (k : ℕ) → rule_fault rule ≡ 0 → k ≤ stop_of z matrix n start source rule
        → Among (stage_of z matrix n start source k).w (stage_of z matrix n start source (stop_of z matrix n start source rule)).w
    among_stops signed rule k f h =
        let l : ℕ = stop_of z matrix n start source rule in
        let e : k + (l - k) ≡ l = omega arith in
        rw e at (among_stages signed k (l - k) (λ j g. leads z matrix n start source falls rule f j (omega arith)))

    -- at most so many nonzeros
    pub target_kept : (t : ℕ) → rule_fault (Target t) ≡ 0 → leb (entries_at z matrix n start source (stop_of z matrix n start source (Target t))) t ≡ true
    target_kept t f =
        one_holds (rests z matrix n start source (Target t) (stop_of z matrix n start source (Target t))) false
        (stop_is_first z matrix n start source falls (Target t) f).there
        (λ e. e) (λ e g. never false g refl)

    -- the cap
    pub cap_kept : (a : Float) (c : ℕ) → rule_fault (Within a (Some c)) ≡ 0
        → leb (entries_at z matrix n start source (stop_of z matrix n start source (Within a (Some c)))) c ≡ true
    cap_kept a c f =
        let k : ℕ = stop_of z matrix n start source (Within a (Some c)) in
        let e : ℕ = entries_at z matrix n start source k in
        one_holds (rests z matrix n start source (Within a (Some c)) k) (exceeds z matrix n start source (Within a (Some c)) k)
        (stop_is_first z matrix n start source falls (Within a (Some c)) f).there
        (λ r. one_holds (leb e 1) (ltb 0 k && (above z matrix n start source a k && leb e c)) r
        (λ y. le-leb e c (omega (arith, leb-true e 1 y, some (le plus_zero a) (finite a) f)))
        (λ y g. (both (above z matrix n start source a k) (leb e c) (both (ltb 0 k) (above z matrix n start source a k && leb e c) g).1).1))
        (λ r g. (both (leb e c) (above z matrix n start source a (suc k)) g).0)
      where
        some : (t s : Bool) → pick t (pick s (cap_fault (Some c)) 12) 1 ≡ 0 → 1 ≤ c
        some true true h = cap_some c h
        some true false h = absurd (omega arith)
        some false s h = absurd (omega arith)

    -- without a cap, the allowance
    pub allowance_kept : (a : Float) → rule_fault (Within a None) ≡ 0 → ((j : ℕ) → j < length start → T (finite (at start j)))
        → le (moved_by matrix n start (stage_of z matrix n start source (stop_of z matrix n start source (Within a None)))) a ≡ true
    allowance_kept a f h = go (stop_of z matrix n start source (Within a None)) (stop_is_first z matrix n start source falls (Within a None) f)
      where
        nonnegative : (t : Bool) (k : ℕ) → pick t k 1 ≡ 0 → t ≡ true
        nonnegative true k h = refl
        nonnegative false k h = absurd (omega arith)

        go : (k : ℕ) → FirstStop z matrix n start source (Within a None) k → le (moved_by matrix n start (stage_of z matrix n start source k)) a ≡ true
        go zero p = unfold stage_of in rw (no_change matrix n start h) (nonnegative (le plus_zero a) (pick (finite a) (cap_fault None) 12) f)
        go (suc k) p =
            let e = neither (rests z matrix n start source (Within a None) k) (exceeds z matrix n start source (Within a None) k)
            (p.before k (omega arith)) in
            not-false (le (moved_by matrix n start (stage_of z matrix n start source (suc k))) a) e.1
