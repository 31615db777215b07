-- Entries divided by the sum of their magnitudes are at most 1 in magnitude.
use mathlib.Core.Path.{refl, sym}
use Prim.Native.Nat.{ℕ, ◌^◌, ◌≤◌, ◌<◌}
use native.Mathlib.Nat.{le_trans, le_of_eq}
use lib.Dec.{T}
use lib.Ieee.{Float, Format, div, le, low}
use Rattle.ieee.specs.Magnitude.{abs_of}
use Rattle.ieee.specs.Units.{mag}
use Rattle.ieee.proofs.Ranks.{mag→le}
use Rattle.ieee.proofs.Ops.{Finite, Positive, finite_number}
use Rattle.ieee.proofs.Signs.{div-at-most-one, div-finite}
use Rattle.ieee.proofs.Sums.{abs_mag, abs_size}
use Rattle.ieee.proofs.Division.{unit, unit-mag, unit_number}
use Rattle.ieee.proofs.Norms.{l1, l1_ge}

-- ---- entries that are normalised
pub record Normal (f : Format) (k : ℕ) (x : ℕ → Float) : Type 0 where
  pub ends : (j : ℕ) → j < k → Finite f (x j)
  pub small : (j : ℕ) → j < k → mag f (x j) ≤ 2 ^ low f

pub normalised : (f : Format) (w : ℕ → Float) (k : ℕ) → ((j : ℕ) → j < k → Finite f (w j)) → Positive f (l1 f w k) → Normal f k
    (λ (j : ℕ). div f (w j) (l1 f w k))
normalised f w k h p = record { ends = λ j l. div-finite (h j l) p (l1_ge f w k h j l); small = λ j l. div-at-most-one (h j l) p (l1_ge f w k h j l) }

pub normal_le : {f : Format} {k : ℕ} {x : ℕ → Float} → Normal f k x → (j : ℕ) → j < k → T (le (abs_of (x j)) unit)
normal_le {f} {k} {x} n j l =
    let s = abs_size (finite_number (n.ends j l)) in
    mag→le s.number (unit_number f) s.plus refl (le_trans (le_of_eq (abs_mag f (x j))) (le_trans (n.small j l) (le_of_eq (sym (unit-mag f)))))
