-- `terms::near_turn` meets its contract: the product with the share is never too large, and right where it leaves no doubt.
use Prim.Native.Nat.{ℕ, ◌<◌}
use native.Mathlib.Nat.{le_refl, add-le-add, lt_of_le_of_lt}
use native.Mathlib.Omega.{arith}
use mir.Facts.{Fits-bits}
use Rattle.terms.proofs.NearTurns.{not_above, turned, reach_fits}
use Rattle.terms.proofs.near_turn.Goals as goal

above : (d : ℕ) → 64 < d → 0 < d
above d h = omega arith

pub overflow_add-reach : goal.overflow_add-reach
overflow_add-reach c = Fits-bits 64 tt (reach_fits _ _ _ c.lower.ensures c.requires.cos_ready.term_fits)

pub overflow_add-result : goal.overflow_add-result
overflow_add-result c =
    let s = c.share-y.ensures in
    Fits-bits 64 tt
    (lt_of_le_of_lt
    (add-le-add (le_refl c.args.n.terms.minus) (not_above c.args.n.terms.term _ c.args.d
    c.args.z _ (above _ c.requires.lt_d.0) s.0 s.1 c.upper-term.ensures))
    c.requires.cos_ready.sum_fits)

pub returns : goal.returns
returns c =
    turned _ _ _ (above _ c.requires.lt_d.0) c.share-y.ensures c.upper-term.ensures c.lower.ensures
