-- The version of the library as one number.
use Rattle.std.specs.Prelude.{ℕ, ◌+◌, ◌*◌}

-- of its three figures, the second and the third below 1000
abbrev pub version_number : ℕ → ℕ → ℕ → ℕ
version_number major minor patch = (major * 1000 + minor) * 1000 + patch
