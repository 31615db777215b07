-- `root::normal` meets its contract. The loop keeps m * 2 ^ j.
use Prim.Native.Nat.{ℕ, ◌+◌, ◌*◌, ◌^◌, ◌≤◌, ◌<◌}
use mathlib.Core.Path.{◌≡◌}
use Rattle.root.proofs.normal.Given as goal

pub record Kept (t k m j : ℕ) : Type 0 where
  pub some : 0 < m
  pub short : m < 2 ^ 53
  pub near : j ≤ k + 52
  pub same : m * 2 ^ j ≡ t * 2 ^ (k + 52)

abbrev pub invariant-loop-m : goal.invariant-loop-m
invariant-loop-m l = Kept l.t l.k l.m l.j

abbrev pub decreases-loop-m : goal.decreases-loop-m
decreases-loop-m l = l.j
