-- `gathering::start` meets its contract: no line yet, and no mark.
use Prim.Native.Nat.{ℕ, zero, suc}
use mathlib.Core.Path.{◌≡◌, refl, sym, ap, ◌∙◌}
use mathlib.Core.List.{List, [], ◌∷◌, ◌++◌}
use native.Mathlib.Numerals.{add-one}
use lib.ListN.{replicate}
use Rattle.std.proofs.lemmas.Grind.{replicate_next}
use Rattle.seq.specs.Lists.{repeated, tabulate}
use Rattle.gathering.proofs.start.Goals as goal

-- a list of zeros
zeros : (n : ℕ) → replicate {A = ℕ} n 0 ≡ repeated 0 n
unfolding tabulate
zeros zero = refl
zeros (suc n) =
    ap (λ (k : ℕ). replicate {A = ℕ} k 0) (sym (add-one n)) ∙ replicate_next {X = ℕ} n 0 ∙ ap (λ (s : List ℕ). s ++ (0 ∷ [])) (zeros n)

pub returns : goal.returns
returns c = (refl, c.fill.ensures.after (λ y e. e) ∙ zeros _)
