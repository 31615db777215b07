-- A choice by a test.
use Rattle.std.specs.Prelude.{ℕ, Bool, true, false, eqb}

-- x where the test holds, and y where it does not
abbrev pub pick : {A : Type 0} → Bool → A → A → A
pick true x y = x
pick false x y = y

-- a, or b where a is 0: of two refusal numbers the first that is given
abbrev pub or_else : ℕ → ℕ → ℕ
or_else a b = pick (eqb a 0) b a
