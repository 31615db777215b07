-- What a test that was built of others says of them.
use Prim.Native.Nat.{ℕ}
use mathlib.Core.Path.{◌≡◌, refl}
use mathlib.Core.Bool.{Bool, true, false, not, ◌&&◌, ◌||◌}
use native.Mathlib.Omega.{arith}
use lib.Dec.{T}
use borrow.Author.Tests.{not-true}

-- neither, and at least one
pub neither : (a b : Bool) → (a || b) ≡ false → (a ≡ false) × (b ≡ false)
neither true b h = absurd (let z : true ≡ false = h in let y : ◌≡◌ {A = ℕ} 0 1 = cc in omega arith)
neither false b h = (refl, h)

pub first_holds : (a b : Bool) → a ≡ true → (a || b) ≡ true
first_holds a b h = rw h

pub second_holds : (a b : Bool) → b ≡ true → (a || b) ≡ true
second_holds true b h = refl
second_holds false b h = h

pub one_holds : {X : Type 0} (a b : Bool) → (a || b) ≡ true → (a ≡ true → X) → (a ≡ false → b ≡ true → X) → X
one_holds true b h f g = f refl
one_holds false b h f g = g refl h

-- both, and not both
pub both : (a b : Bool) → (a && b) ≡ true → (a ≡ true) × (b ≡ true)
both true b h = (refl, h)
both false b h = absurd (let z : false ≡ true = h in let y : ◌≡◌ {A = ℕ} 0 1 = cc in omega arith)

pub both_hold : (a b : Bool) → a ≡ true → b ≡ true → (a && b) ≡ true
both_hold a b h g = rw (h, g)

-- the two ways of a test
pub ways : {X : Type 0} (t : Bool) → (t ≡ true → X) → (t ≡ false → X) → X
ways true f g = f refl
ways false f g = g refl

pub never : {X : Type 0} (t : Bool) → t ≡ true → t ≡ false → X
never t h g = absurd (let z : true ≡ false = cc in let y : ◌≡◌ {A = ℕ} 0 1 = cc in omega arith)

-- a test that is built of weaker ones holds too
pub weaker_or : (a b c d : Bool) → (a ≡ true → c ≡ true) → (b ≡ true → d ≡ true) → (a || b) ≡ true → (c || d) ≡ true
weaker_or a b c d f g h = one_holds a b h (λ e. first_holds c d (f e)) (λ n e. second_holds c d (g e))

pub weaker_and : (a b c d : Bool) → (a ≡ true → c ≡ true) → (b ≡ true → d ≡ true) → (a && b) ≡ true → (c && d) ≡ true
weaker_and a b c d f g h = let e = both a b h in both_hold c d (f e.0) (g e.1)

pub weaker_not : (a b : Bool) → (b ≡ true → a ≡ true) → not a ≡ true → not b ≡ true
weaker_not a true f h = never a (f refl) (not-true a h)
weaker_not a false f h = refl

-- a test as a proposition
pub shown : (t : Bool) → t ≡ true → T t
shown t h = rw h tt

pub holds : (t : Bool) → T t → t ≡ true
holds true h = refl
holds false h = absurd h
