-- Two lists in order that have each number as often are equal: so there is one answer.
use Prim.Native.Nat.{ℕ}
use mathlib.Core.Path.{◌≡◌, refl, sym, ap, ◌∙◌}
use mathlib.Core.Bool.{Bool, true, false}
use mathlib.Core.List.{List, [], ◌∷◌}
use native.Mathlib.Omega.{arith}
use lib.Dec.{eqb}
use borrow.Author.Tests.{eqb-true}
use Rattle.arranged.specs.Arranged.{occurs, Leads, InOrder, Order, Same, Arranged}
use Rattle.arranged.proofs.Occurrences.{occurs_cons, occurs_here, occurs_other}

-- the one that both start with
first : (b : ℕ → ℕ → Bool) → Order b → (x y : ℕ) (xs ys : List ℕ) → Leads b x xs → Leads b y ys
    → occurs x (x ∷ xs) ≡ occurs x (y ∷ ys) → occurs y (x ∷ xs) ≡ occurs y (y ∷ ys) → x ≡ y
first b o x y xs ys p q e d = go (eqb x y) refl (eqb y x) refl
  where
    go : (t : Bool) → eqb x y ≡ t → (u : Bool) → eqb y x ≡ u → x ≡ y
    go true g u k = eqb-true x y g
    go false g true k = sym (eqb-true y x k)
    go false g false k =
        o.tied x y
        (q x (omega (arith, occurs_cons x x xs, occurs_cons x y ys, occurs_here x, occurs_other x y g)))
        (p y (omega (arith, occurs_cons y x xs, occurs_cons y y ys, occurs_here y, occurs_other y x k)))

pub unique : (b : ℕ → ℕ → Bool) → Order b → (xs ys : List ℕ) → InOrder b xs → InOrder b ys → ((z : ℕ) → occurs z xs ≡ occurs z ys) → xs ≡ ys
unique b o [] [] p q e = refl
unique b o [] (y ∷ ys) p q e = unfold occurs in absurd (omega (arith, e y, occurs_cons y y ys, occurs_here y))
unique b o (x ∷ xs) [] p q e = unfold occurs in absurd (omega (arith, e x, occurs_cons x x xs, occurs_here x))
unique b o (x ∷ xs) (y ∷ ys) p q e =
    let same : x ≡ y = first b o x y xs ys p.0 q.0 (e x) (e y) in
    let rest : xs ≡ ys = unique b o xs ys p.1 q.1
    (λ z. let s : occurs z (x ∷ []) ≡ occurs z (y ∷ []) = ap (λ u. occurs z (u ∷ [])) same in omega (arith, e z, occurs_cons z x xs, occurs_cons z y ys)) in
    rw (same, rest)

-- whatever list of the same numbers it starts from
pub one_answer : (b : ℕ → ℕ → Bool) → Order b → (xs ys us vs : List ℕ) → Arranged b xs us → Arranged b ys vs → Same xs ys → us ≡ vs
one_answer b o xs ys us vs p q s = unique b o us vs p.order q.order (λ z. p.same.often z ∙ sym (q.same.often z ∙ s.often z))
