-- A job that follows the stages: where it stands on them, what one more pass makes of that, and what it has reached at each way out.
use Rattle.std.specs.Prelude.{Option}
use Prim.Native.Nat.{ℕ, zero, suc, ◌+◌, ◌*◌, ◌^◌, ◌-◌, ◌≤◌, ◌<◌}
use mathlib.Core.Path.{◌≡◌, refl, sym, ap, ◌∙◌}
use mathlib.Core.Bool.{Bool, true, false, not, ◌&&◌, ◌||◌, and_comm}
use mathlib.Core.List.{List, ◌++◌}
use native.Mathlib.Omega.{arith}
use native.Mathlib.Decide.{dec_lt}
use native.Mathlib.Nat.{mul-le-mul, mul-le-mul_left, pow-succ'}
use lib.Pow.{pow_mono}
use native.Mathlib.Numerals.{add-one}
use lib.Dec.{leb, ltb}
use lib.ListN.{length, get_or, set, drop, length-drop, get_or-append}
use lib.Seq.{ext_get_or, get_or-drop}
use lib.Ieee.{Float, le}
use borrow.Author.Tests.{le-leb, lt-leb, lt-ltb, ne_eqb, not-true, not-false}
use Rattle.seq.specs.Choice.{pick}
use Rattle.seq.specs.Lists.{tabulate, repeated}
use Rattle.seq.specs.Sums.{plus_zero}
use Rattle.seq.proofs.Filling.{Filled, filled, turn, length-tab, get_or-tab}
use Rattle.seq.proofs.Filling as filling
use Rattle.change.specs.Margins.{max_change}
use Rattle.weights.specs.Weights.{is_on, nonzeros}
use Rattle.halved.specs.Halve.{Halved}
use Rattle.halved.specs.Handed.{halves_of}
use Rattle.passed.specs.Halving.{pass_of}
use Rattle.stages.specs.Stages.{stage_of, moved_by, path_of}
use Rattle.rules.specs.Rules.{meets, rule_fault}
use Rattle.stages.specs.Stopping.{entries_at, above, rests, exceeds, stops, stop_of, passes_to}
use Rattle.stages.specs.Paths.{Noted, Followed}
use Rattle.stages.specs.declared.Path.{Path}
use Rattle.tried.specs.Trial.{TriedOnce, above_after, was_taken, goes_onward}
use Rattle.colored.specs.declared.Counted.{Counted}
use Rattle.rules.specs.declared.Rule.{Rule}
use Rattle.rules.specs.declared.Rule.TheVariants.{Target, Within}
use Rattle.tried.specs.declared.Tried.{Tried}
use Rattle.seq.proofs.Choosing.{first_holds, second_holds}
use Rattle.stages.proofs.Halting.{Leads, Falls, goes, only, stop_is_first, below_more}
use Rattle.seq.proofs.Keeping.{count_short}
use Rattle.stages.proofs.Lengths.{length_pass}
use Rattle.draw.specs.declared.SplitMix64.{SplitMix64}

-- a stage with room for a pass is before the ninth
pub eight : (i k : ℕ) → 2 ^ i * k ≤ 256 → 2 ≤ k → suc i ≤ 8
eight i k room some = go (dec_lt i 8)
  where
    go : Dec (i < 8) → suc i ≤ 8
    go (yes h) = h
    go (no h) = absurd (let f : 2 ^ 8 * 2 ≤ 2 ^ i * k = mul-le-mul (pow_mono (let g : 8 ≤ i = omega arith in g)) some in omega arith)

-- a path has at each place what it is of
pub path_at : {A : Type 0} (none : A) (has : ℕ → A) (k i : ℕ) (z : A) → i ≤ k → get_or (path_of none has k) i z ≡ has i
path_at none has k i z l =
    get_or-append (tabulate has (suc k)) (repeated none (8 - k)) z i (rw (length-tab has (suc k)) (omega arith)) ∙ get_or-tab has (suc k) i z (omega arith)

-- zeros stand after what is noted
zeros_after : {A : Type 0} (none : A) (has : ℕ → A) (k : ℕ) → k ≤ 8 → filled has (repeated none 9) (k + 1) ≡ path_of none has k
zeros_after none has k near =
    let long = length-drop (suc k) (repeated none 9) in
    let nine = length-tab (λ i. none) 9 in
    let others = length-tab (λ i. none) (8 - k) in
    rw (add-one k)
    (ap (λ xs. tabulate has (suc k) ++ xs)
    (ext_get_or none (drop (suc k) (repeated none 9)) (repeated none (8 - k)) (omega (arith, long, nine, others))
    (λ i l. get_or-drop (suc k) (repeated none 9) i none ∙ get_or-tab (λ i. none) 9 (suc k + i) none (omega (arith, l, long, nine))
    ∙ sym (get_or-tab (λ i. none) (8 - k) i none (omega (arith, l, long, nine))))))

-- half as many at the next
halved : (i k k' : ℕ) → 2 * k' ≤ k → 2 ^ i * k ≤ 256 → 2 ^ suc i * k' ≤ 256
halved i k k' half room =
    let f : 2 ^ i * (2 * k') ≤ 2 ^ i * k = mul-le-mul_left (2 ^ i) half in
    omega (arith, ap (λ (z : ℕ). z * k') (pow-succ' 2 i))

-- a positive target is not refused
pub target_fine : (t : ℕ) → 0 < t → rule_fault (Target t) ≡ 0
target_fine t h = rw (ne_eqb t 0 (λ e. omega arith))

neither_holds : (a b : Bool) → a ≡ false → b ≡ false → (a || b) ≡ false
neither_holds a b h g = rw (h, g)

module _ (matrix : ℕ → ℕ → Float) (n : ℕ) (start : List Float) (source : SplitMix64) where
  -- stage i has been reached, with its weights and its generator, and no stage before it stops
  pub record OnPath (rule : Rule) (i : ℕ) (w : List Float) (tally : Counted) : Type 0 where
    pub there : halves_of w tally ≡ stage_of plus_zero matrix n start source i
    pub before : (j : ℕ) → j < i → stops plus_zero matrix n start source rule j ≡ false
    pub near : i ≤ 8
    pub room : 2 ^ i * nonzeros w ≤ 256
    pub long : length w ≡ length start

  pub on_start : length start ≤ 256 → (rule : Rule) (tally : Counted) → tally.rng ≡ source → tally.directions ≡ 0 → tally.sweeps ≡ 0
      → OnPath rule 0 start tally
  unfolding stage_of
  on_start few rule tally seeded none unswept =
      record {
        there = rw (seeded, none, unswept);
        before = λ j l. absurd (omega arith);
        near = omega arith;
        room = omega (arith, count_short (is_on start) (length start));
        long = refl;
      }

  -- the directions and the sweeps of the passes to stage i
  pub record Tallied (i : ℕ) (tally : Counted) : Type 0 where
    pub directions : tally.directions ≡ (stage_of plus_zero matrix n start source i).directions
    pub sweeps : tally.sweeps ≡ (stage_of plus_zero matrix n start source i).sweeps

  -- the next stage is the pass from there
  abbrev pub pass_from : List Float → Counted → Halved
  pass_from w tally = pass_of plus_zero matrix n (halves_of w tally)

  module _ {rule : Rule} {i : ℕ} {w : List Float} {tally : Counted} (on : OnPath rule i w tally) where
    next_there : pass_from w tally ≡ stage_of plus_zero matrix n start source (suc i)
    unfolding stage_of
    next_there = ap (pass_of plus_zero matrix n) on.there

    next_weights : (stage_of plus_zero matrix n start source (suc i)).w ≡ (pass_from w tally).w
    next_weights = ap (λ (h : Halved). h.w) (sym next_there)

    weights_there : w ≡ (stage_of plus_zero matrix n start source i).w
    weights_there = ap (λ (h : Halved). h.w) on.there

    entries_there : entries_at plus_zero matrix n start source i ≡ nonzeros w
    entries_there = ap nonzeros (sym weights_there)

    -- what was counted on the way
    pub on_tallied : Tallied i tally
    on_tallied = record { directions = ap (λ (h : Halved). h.directions) on.there; sweeps = ap (λ (h : Halved). h.sweeps) on.there }

  -- a stage after the first that measures above the allowance and meets the cap ends the job
  abbrev pub closes : Float → Option ℕ → ℕ → Bool
  closes a c i = ltb 0 i && (above plus_zero matrix n start source a i && meets c (entries_at plus_zero matrix n start source i))

  pub opens : (a : Float) (c : Option ℕ) → closes a c 0 ≡ false
  opens a c = refl

  -- ---- the path that is noted

  -- what stage i has
  abbrev moved_at : ℕ → Float
  moved_at i = moved_by matrix n start (stage_of plus_zero matrix n start source i)

  -- the stages up to i are noted
  pub record Written (i : ℕ) (nonzeros : List ℕ) (change : List Float) : Type 0 where
    pub counts : Filled (entries_at plus_zero matrix n start source) (repeated 0 9) (i + 1) nonzeros
    pub moves : Filled moved_at (repeated plus_zero 9) (i + 1) change

  module _ {rule : Rule} {i : ℕ} {w : List Float} {tally : Counted} (on : OnPath rule i w tally) {k : ℕ} {x : Float}
      (counted : k ≡ nonzeros w) (measured : x ≡ max_change matrix (length start) n start w) where
    count_is : k ≡ entries_at plus_zero matrix n start source i
    count_is = counted ∙ sym (entries_there on)

    move_is : x ≡ moved_at i
    move_is = measured ∙ ap (max_change matrix (length start) n start) (weights_there on)

    room_at : {A : Type 0} (y : A) → i < length (repeated y 9)
    room_at y = rw (length-tab (λ j. y) 9) (omega (arith, on.near))

    pub note : {ns : List ℕ} {cs : List Float} → Filled (entries_at plus_zero matrix n start source) (repeated 0 9) i ns
        → Filled moved_at (repeated plus_zero 9) i cs
        → Written i (set ns i k) (set cs i x)
    note a b = record { counts = turn a (room_at 0) count_is; moves = turn b (room_at plus_zero) move_is }

  pub note_first : {rule : Rule} {tally : Counted} → OnPath rule 0 start tally → {k : ℕ} {x : Float} → k ≡ nonzeros start
      → x ≡ max_change matrix (length start) n start start → Written 0 (set (repeated 0 9) 0 k) (set (repeated plus_zero 9) 0 x)
  note_first on counted measured = note on counted measured (filling.start _ _) (filling.start _ _)

  -- it is the path of the definition, with the counts of its passes
  pub noted : {i passes : ℕ} {ns : List ℕ} {cs : List Float} {tally : Counted} → i ≤ 8 → Written i ns cs → Tallied passes tally
      → (r : Path) → r.stage ≡ i → r.nonzeros ≡ ns → r.change ≡ cs → r.directions ≡ tally.directions → r.sweeps ≡ tally.sweeps
      → Noted matrix n start source i passes r
  noted {i} near p t r s a b d e =
      record {
        near = near;
        stage = s;
        nonzeros = a ∙ p.counts.is ∙ zeros_after 0 (entries_at plus_zero matrix n start source) i near;
        change = b ∙ p.moves.is ∙ zeros_after plus_zero moved_at i near;
        directions = d ∙ t.directions;
        sweeps = e ∙ t.sweeps;
      }

  module _ (falls : Falls plus_zero matrix n start source) {rule : Rule} {i : ℕ} {w : List Float} {tally : Counted}
      (accepted : rule_fault rule ≡ 0) (on : OnPath rule i w tally) where
    -- one more stage
    module _ {w' : List Float} {tally' : Counted} (goes_on : stops plus_zero matrix n start source rule i ≡ false)
        (pass : halves_of w' tally' ≡ pass_from w tally) where
      below : (j : ℕ) → j < suc i → stops plus_zero matrix n start source rule j ≡ false
      below = below_more plus_zero matrix n start source rule i on.before goes_on

      is_next : halves_of w' tally' ≡ stage_of plus_zero matrix n start source (suc i)
      is_next = pass ∙ next_there on

      pub some : 2 ≤ nonzeros w
      some = omega (arith, goes plus_zero matrix n start source rule i accepted goes_on, entries_there on)

      half : 2 * nonzeros w' ≤ nonzeros w
      half =
          let after : nonzeros w' ≡ entries_at plus_zero matrix n start source (suc i) = ap (λ (h : Halved). nonzeros h.w) is_next in
          omega (arith, falls i (λ j l. goes plus_zero matrix n start source rule j accepted (below j l)), entries_there on, after)

      pub fewer : nonzeros w' < nonzeros w
      fewer = omega (arith, half, some)

      pub next_on : OnPath rule (i + 1) w' tally'
      next_on =
          rw (add-one i)
          (record {
            there = is_next;
            before = below;
            near = eight i (nonzeros w) on.room some;
            room = halved i (nonzeros w) (nonzeros w') half on.room;
            long = ap (λ (h : Halved). length h.w) pass ∙ length_pass plus_zero matrix n (halves_of w tally) ∙ on.long;
          })

    -- the ways out: the stage is returned
    module _ {r : Path} where
      ended : Noted matrix n start source i (passes_to plus_zero matrix n start source rule i) r → stops plus_zero matrix n start source rule i ≡ true
          → Followed matrix n start source rule r w
      ended path h =
          let stop : stop_of plus_zero matrix n start source rule ≡ i =
          only plus_zero matrix n start source (stop_is_first plus_zero matrix n start source falls rule accepted) (record { there = h; before = on.before }) in
          record { path = rw stop path; weights = rw stop (weights_there on) }

      pub rested : Noted matrix n start source i i r → rests plus_zero matrix n start source rule i ≡ true → Followed matrix n start source rule r w
      rested path h = ended (rw h path) (first_holds (rests plus_zero matrix n start source rule i) _ h)

      pub exceeded : Noted matrix n start source i (suc i) r → rests plus_zero matrix n start source rule i ≡ false
          → exceeds plus_zero matrix n start source rule i ≡ true
          → Followed matrix n start source rule r w
      exceeded path g h = ended (rw g path) (second_holds (rests plus_zero matrix n start source rule i) _ h)

  -- the job with a target
  module _ (falls : Falls plus_zero matrix n start source) {t i : ℕ} {w : List Float} {tally : Counted} (positive : 0 < t)
      (on : OnPath (Target t) i w tally) where
    pub target_met : nonzeros w ≤ t → {r : Path} → Noted matrix n start source i i r → Followed matrix n start source (Target t) r w
    target_met h path = rested falls (target_fine t positive) on path (le-leb (entries_at plus_zero matrix n start source i) t (rw (entries_there on) h))

    module _ {w' : List Float} {tally' : Counted} (more : t < nonzeros w) (pass : halves_of w' tally' ≡ pass_from w tally) where
      missed : stops plus_zero matrix n start source (Target t) i ≡ false
      missed = neither_holds (rests plus_zero matrix n start source (Target t) i) false
          (lt-leb (entries_at plus_zero matrix n start source i) t (rw (entries_there on) more)) refl

      pub target_next : OnPath (Target t) (i + 1) w' tally'
      target_next = next_on falls (target_fine t positive) on missed pass

      pub target_fewer : nonzeros w' < nonzeros w
      target_fewer = fewer falls (target_fine t positive) on missed pass

  -- the job with an allowance
  module _ (falls : Falls plus_zero matrix n start source) {a : Float} {c : Option ℕ} {i : ℕ} {w : List Float} {tally : Counted}
      (accepted : rule_fault (Within a c) ≡ 0) (on : OnPath (Within a c) i w tally) where
    pub allowance_met : nonzeros w ≤ 1 → {r : Path} → Noted matrix n start source i i r → Followed matrix n start source (Within a c) r w
    allowance_met h path =
        rested falls accepted on path
        (first_holds (leb (entries_at plus_zero matrix n start source i) 1) _ (le-leb (entries_at plus_zero matrix n start source i) 1 (rw (entries_there on) h)))

    after_is : above plus_zero matrix n start source a (suc i) ≡ above_after matrix n start a w tally
    after_is = ap (λ (x : List Float). not (le (max_change matrix (length start) n start x) a)) (next_weights on)

    exceeds_is : exceeds plus_zero matrix n start source (Within a c) i ≡ (above_after matrix n start a w tally && meets c (nonzeros w))
    exceeds_is =
        and_comm (meets c (entries_at plus_zero matrix n start source i)) (above plus_zero matrix n start source a (suc i))
        ∙ ap (λ (t : Bool). t && meets c (entries_at plus_zero matrix n start source i)) after_is
        ∙ ap (λ (k : ℕ). above_after matrix n start a w tally && meets c k) (entries_there on)

    module _ {r : Tried} {w' : List Float} (goes_on : closes a c i ≡ false) (more : 1 < nonzeros w) (tried : TriedOnce matrix n start a c w tally r w') where
      unrested : rests plus_zero matrix n start source (Within a c) i ≡ false
      unrested = rw (lt-leb (entries_at plus_zero matrix n start source i) 1 (rw (entries_there on) more)) goes_on

      -- what was counted with the pass
      pub tried_tallied : Tallied (suc i) r.tally
      tried_tallied =
          let comes-to = tried.pass ∙ next_there on in
          record { directions = ap (λ (h : Halved). h.directions) comes-to; sweeps = ap (λ (h : Halved). h.sweeps) comes-to }

      -- the pass was not taken
      pub allowance_left : was_taken r.outcome ≡ false → {p : Path} → Noted matrix n start source i (suc i) p → Followed matrix n start source (Within a c) p w'
      allowance_left t path =
          let stays : w' ≡ w = tried.weights ∙ ap (λ (b : Bool). pick b (pass_from w tally).w w) t in
          rw stays
          (exceeded falls accepted on path unrested (exceeds_is
          ∙ not-false (above_after matrix n start a w tally && meets c (nonzeros w)) (sym tried.taken ∙ t)))

      -- it was
      module _ (taken : was_taken r.outcome ≡ true) where
        moves : w' ≡ (pass_from w tally).w
        moves = tried.weights ∙ ap (λ (b : Bool). pick b (pass_from w tally).w w) taken

        is_pass : halves_of w' r.tally ≡ pass_from w tally
        is_pass = ap (λ (x : List Float). halves_of x r.tally) moves ∙ tried.pass

        unstopped : stops plus_zero matrix n start source (Within a c) i ≡ false
        unstopped =
            neither_holds (rests plus_zero matrix n start source (Within a c) i) (exceeds plus_zero matrix n start source (Within a c) i) unrested
            (exceeds_is ∙ not-true (above_after matrix n start a w tally && meets c (nonzeros w)) (sym tried.taken ∙ taken))

        pub allowance_on : OnPath (Within a c) (i + 1) w' r.tally
        allowance_on = next_on falls accepted on unstopped is_pass

        pub allowance_fewer : nonzeros w' < nonzeros w
        allowance_fewer = fewer falls accepted on unstopped is_pass

        closes_is : closes a c (i + 1) ≡ (above_after matrix n start a w tally && meets c (nonzeros w'))
        closes_is =
            rw (add-one i, lt-ltb 0 (suc i) (omega arith))
            (ap (λ (t : Bool). t && meets c (entries_at plus_zero matrix n start source (suc i))) after_is
            ∙ ap (λ (k : ℕ). above_after matrix n start a w tally && meets c k) (ap nonzeros (next_weights on ∙ sym moves)))

        more_is : goes_onward r.outcome ≡ not (above_after matrix n start a w tally && meets c (nonzeros w'))
        more_is = tried.more ∙ ap (λ (b : Bool). b && not (above_after matrix n start a w tally && meets c (nonzeros w'))) taken

        pub allowance_goes : goes_onward r.outcome ≡ true → closes a c (i + 1) ≡ false
        allowance_goes m = closes_is ∙ not-true (above_after matrix n start a w tally && meets c (nonzeros w')) (sym more_is ∙ m)

        pub measured : r.change ≡ max_change matrix (length start) n start w'
        measured = tried.change ∙ ap (max_change matrix (length start) n start) (sym moves)

        pub allowance_last : goes_onward r.outcome ≡ false → {p : Path} → Noted matrix n start source (i + 1) (i + 1) p → Followed matrix n start source (Within a c) p w'
        allowance_last m path =
            rested falls accepted allowance_on path
            (second_holds (leb (entries_at plus_zero matrix n start source (i + 1)) 1) _
            (closes_is ∙ not-false (above_after matrix n start a w tally && meets c (nonzeros w')) (sym more_is ∙ m)))

  -- ---- how many stages there are

  module _ (falls : Falls plus_zero matrix n start source) (few : length start ≤ 256) where
    -- a stage that a job comes to has room for its nonzeros, each pass leaving at most half
    room_at_stage : (i : ℕ) → Leads plus_zero matrix n start source i → 2 ^ i * entries_at plus_zero matrix n start source i ≤ 256
    room_at_stage zero g = unfold stage_of in omega (arith, count_short (is_on start) (length start))
    room_at_stage (suc i) g =
        halved i (entries_at plus_zero matrix n start source i) (entries_at plus_zero matrix n start source (suc i)) (falls i g)
        (room_at_stage i (λ j l. g j (omega arith)))

    -- so from 256 weights there are at most nine stages
    pub nine_stages : (i : ℕ) → Leads plus_zero matrix n start source i → i ≤ 8
    nine_stages zero g = omega arith
    nine_stages (suc i) g = eight i (entries_at plus_zero matrix n start source i) (room_at_stage i (λ j l. g j (omega arith))) (g i (omega arith))
