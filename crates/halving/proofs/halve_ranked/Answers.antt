-- `halving::halve_ranked` meets its contract: what follows the kept ones in the ranking is the rest, and it is not empty.
use native.Mathlib.Omega.{arith}
use Rattle.passed.proofs.Calls.{support-below, rest-lent, rest-lent-some, kept_within}
use Rattle.halving.proofs.halve_ranked.Goals as goal

pub rank_into-requires : goal.rank_into-requires
rank_into-requires c =
    let a = c.args in
    let v = c.requires in
    record { long = v.3; inside = support-below a.w.now a.some.now v.2; few = v.0.few; whole = v.2 }

pub slice_bounds-halve_twice-count : goal.slice_bounds-halve_twice-count
slice_bounds-halve_twice-count c =
    omega (arith, kept_within _ _ _ c.rank_into.ensures c.kept_count-kept.ensures c.requires.1)

pub slice_bounds-halve_twice-start : goal.slice_bounds-halve_twice-start
slice_bounds-halve_twice-start c =
    omega (arith, kept_within _ _ _ c.rank_into.ensures c.kept_count-kept.ensures c.requires.1)

pub halve_twice-requires : goal.halve_twice-requires
halve_twice-requires c =
    let w = c.args.w.now in
    let v = c.requires in
    let e = c.rank_into.ensures in
    let k = c.kept_count-kept.ensures in
    (v.0, rest-lent w _ _ e k, rest-lent-some w _ _ e k v.1, v.4)
