-- The insertion sort is in order, and has what it was given: so it is the one answer.
use Prim.Native.Nat.{ℕ, zero, suc, ◌+◌}
use mathlib.Core.Path.{◌≡◌, refl, sym}
use mathlib.Core.Bool.{Bool, true, false}
use mathlib.Core.List.{List, [], ◌∷◌}
use native.Mathlib.Omega.{arith}
use Rattle.seq.specs.Choice.{pick}
use Rattle.seq.specs.Lists.{tabulate}
use Rattle.seq.specs.Sort.{put_in, sorted}
use Rattle.arranged.specs.Arranged.{occurs, InOrder, Order, Arranged, EachOnce, up_to}
use Rattle.arranged.proofs.Occurrences.{occurs_cons, occurs_append, leads_none, leads_of, leads_past, leads_cons}
use Rattle.arranged.proofs.Unique.{one_answer}

module _ (b : ℕ → ℕ → Bool) where
  pub put_in-occurs : (z x : ℕ) (ys : List ℕ) → occurs z (put_in b x ys) ≡ occurs z (x ∷ []) + occurs z ys
  unfolding put_in
  put_in-occurs z x [] = unfold occurs in omega arith
  put_in-occurs z x (y ∷ ys) = go (b x y) (put_in-occurs z x ys)
    where
      go : (t : Bool) → occurs z (put_in b x ys) ≡ occurs z (x ∷ []) + occurs z ys
          → occurs z (pick t (x ∷ y ∷ ys) (y ∷ put_in b x ys)) ≡ occurs z (x ∷ []) + occurs z (y ∷ ys)
      go true r = occurs_cons z x (y ∷ ys)
      go false r = omega (arith, occurs_cons z y (put_in b x ys), occurs_cons z y ys)

  pub sorted_same : (f : ℕ → ℕ) (k z : ℕ) → occurs z (sorted b f k) ≡ occurs z (tabulate f k)
  unfolding sorted tabulate
  sorted_same f zero z = refl
  sorted_same f (suc k) z = omega (arith, put_in-occurs z (f k) (sorted b f k), sorted_same f k z, occurs_append z (tabulate f k) (f k ∷ []))

  module _ (o : Order b) where
    pub put_in_order : (x : ℕ) (ys : List ℕ) → InOrder b ys → InOrder b (put_in b x ys)
    unfolding put_in
    put_in_order x [] p = (leads_none b x, tt)
    put_in_order x (y ∷ ys) p = go (b x y) refl (put_in_order x ys p.1)
      where
        go : (t : Bool) → b x y ≡ t → InOrder b (put_in b x ys) → InOrder b (pick t (x ∷ y ∷ ys) (y ∷ put_in b x ys))
        go true e r = (leads_past b o x y ys (o.one x y e) p.0, p)
        go false e r = (leads_of b y (x ∷ []) ys (put_in b x ys) (λ z. put_in-occurs z x ys) (leads_cons b y x [] e (leads_none b y)) p.0, r)

    pub sorted_order : (f : ℕ → ℕ) (k : ℕ) → InOrder b (sorted b f k)
    unfolding sorted
    sorted_order f zero = tt
    sorted_order f (suc k) = put_in_order (f k) (sorted b f k) (sorted_order f k)

    pub sorted_arranged : (f : ℕ → ℕ) (k : ℕ) → Arranged b (tabulate f k) (sorted b f k)
    sorted_arranged f k = record { order = sorted_order f k; same = record { often = sorted_same f k } }

    -- each of 0, .., n - 1 once and in order: there is one such list
    pub arranged_is : (n : ℕ) (xs ys : List ℕ) → EachOnce n xs → Arranged b xs ys → ys ≡ sorted b (λ i. i) n
    arranged_is n xs ys e a = sym (one_answer b o (up_to n) xs (sorted b (λ i. i) n) ys (sorted_arranged (λ i. i) n) a e)
