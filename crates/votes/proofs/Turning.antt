-- A sign goes through a product: (u s) g is s g, signed as u is, to the bit, where u is 1.0 or -1.0.
use mathlib.Core.Path.{◌≡◌, refl, ap, ◌∙◌}
use mathlib.Core.Bool.{Bool, true, false}
use lib.IntN.{pos}
use lib.Dec.{T}
use lib.Ieee.{Float, nan, inf, fin, Format, neg, add, sub, mul, fits}
use Rattle.ieee.specs.Magnitude.{abs_of}
use Rattle.ieee.specs.Units.{sign}
use Rattle.ieee.proofs.Ops.{mul_commutes}
use Rattle.ieee.proofs.Products.{times-one}
use Rattle.votes.specs.Signing.{signed_by}
use Rattle.ieee.proofs.Negation.{neg-neg, neg-times, times-neg}

pub signed-times : (f : Format) (b : Bool) (x y : Float) → mul f (signed_by b x) y ≡ signed_by b (mul f x y)
signed-times f true x y = neg-times f x y
signed-times f false x y = refl

pub times-signed : (f : Format) (b : Bool) (x y : Float) → mul f x (signed_by b y) ≡ signed_by b (mul f x y)
times-signed f true x y = times-neg f x y
times-signed f false x y = refl

-- u s, where u is 1.0 or -1.0
pub vote_times : (f : Format) (b : Bool) (s : Float) → T (fits f s) → mul f (fin b 1 (pos 0)) s ≡ signed_by b s
vote_times f true s p =
    ap (λ (z : Float). mul f z s) (let e : fin true 1 (pos 0) ≡ neg (fin false 1 (pos 0)) = unfold neg in refl in e)
    ∙ neg-times f (fin false 1 (pos 0)) s ∙ ap neg (mul_commutes f (fin false 1 (pos 0)) s ∙ times-one f s p)
vote_times f false s p = mul_commutes f (fin false 1 (pos 0)) s ∙ times-one f s p

-- (u s) g
pub vote_product : (f : Format) (b : Bool) (s g : Float) → T (fits f s) → mul f (mul f (fin b 1 (pos 0)) s) g ≡ signed_by b (mul f s g)
vote_product f b s g p = ap (λ (z : Float). mul f z g) (vote_times f b s p) ∙ signed-times f b s g

-- t (u s)
pub times_vote : (f : Format) (b : Bool) (t s : Float) → T (fits f s) → mul f t (mul f (fin b 1 (pos 0)) s) ≡ signed_by b (mul f t s)
times_vote f b t s p = ap (mul f t) (vote_times f b s p) ∙ times-signed f b t s

-- a - t (u s)
pub vote_less : (f : Format) (b : Bool) (a t s : Float) → T (fits f s) → sub f a (mul f t (mul f (fin b 1 (pos 0)) s)) ≡ add f a (signed_by b (neg (mul f t s)))
unfolding sub
vote_less f b a t s p = ap (λ (z : Float). add f a (neg z)) (times_vote f b t s p) ∙ go b
  where
    go : (b : Bool) → add f a (neg (signed_by b (mul f t s))) ≡ add f a (signed_by b (neg (mul f t s)))
    go true = refl
    go false = refl

-- the square of u s, and of |s|, is that of s
pub signed-square : (f : Format) (b : Bool) (s : Float) → mul f (signed_by b s) (signed_by b s) ≡ mul f s s
signed-square f true s = neg-times f s (neg s) ∙ ap neg (times-neg f s s) ∙ neg-neg (mul f s s)
signed-square f false s = refl

pub abs_signed : (s : Float) → abs_of s ≡ signed_by (sign s) s
unfolding neg
abs_signed nan = refl
abs_signed (inf true) = refl
abs_signed (inf false) = refl
abs_signed (fin true m e) = refl
abs_signed (fin false m e) = refl
