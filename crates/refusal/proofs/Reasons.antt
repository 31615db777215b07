-- The number of a reason is never 0. And of two numbers of which the first that is not 0 is given, neither is given where that is 0.
use Prim.Native.Nat.{ℕ, zero, suc}
use mathlib.Core.Path.{◌≡◌, refl, sym, ◌∙◌}
use native.Mathlib.Omega.{arith}
use lib.Dec.{eqb-suc-zero}
use Rattle.seq.specs.Choice.{or_else}
use Rattle.refusal.specs.Refusals.{number_of}
use Rattle.refusal.specs.declared.Refusal.{Refusal}
use Rattle.refusal.specs.declared.Refusal.TheVariants.{Allowance, InfiniteAllowance, Zero, Edition, Size, Length, Empty, Scratch, Label, SpareBit, Entry, Weight, Sum, ColoringEntry, Buffer}

pub numbered : (r : Refusal) → number_of r ≡ 0 → ⊥
numbered Allowance e = omega arith
numbered InfiniteAllowance e = omega arith
numbered Zero e = omega arith
numbered Edition e = omega arith
numbered Size e = omega arith
numbered Length e = omega arith
numbered Empty e = omega arith
numbered Scratch e = omega arith
numbered Label e = omega arith
numbered SpareBit e = omega arith
numbered Entry e = omega arith
numbered Weight e = omega arith
numbered Sum e = omega arith
numbered ColoringEntry e = omega arith
numbered Buffer e = omega arith

pub given : (r : Refusal) (number : ℕ) → number ≡ number_of r → number ≡ 0 → ⊥
given r number e z = numbered r (sym e ∙ z)

pub no_fault : (a b : ℕ) → or_else a b ≡ 0 → (a ≡ 0) × (b ≡ 0)
no_fault zero b h = (refl, h)
no_fault (suc a) b h = absurd (let g : suc a ≡ 0 = rw (eqb-suc-zero a) at h in omega arith)
