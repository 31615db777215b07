-- A test of each label of a list is that of all.
use Prim.Native.Nat.{ℕ, zero, suc}
use mathlib.Core.Path.{◌≡◌, refl, ap, ◌∙◌}
use mathlib.Core.Bool.{Bool, true, false, ◌&&◌}
use mathlib.Core.List.{List, [], ◌∷◌}
use lib.IntN.{ℤ, pos}
use lib.ListN.{length, get_or}
use Rattle.std.specs.List.{list_all}
use Rattle.seq.specs.Keep.{all_to}
use Rattle.votefaults.specs.Votes.{is_label, all_labels}

both-assoc : (a b c : Bool) → ((a && b) && c) ≡ (a && (b && c))
both-assoc true b c = refl
both-assoc false b c = refl

both-true : (a : Bool) → a ≡ (a && true)
both-true true = refl
both-true false = refl

-- the first of them apart
first_apart : (f : ℕ → Bool) (k : ℕ) → all_to f (suc k) ≡ (f 0 && all_to (λ j. f (suc j)) k)
unfolding all_to
first_apart f zero = both-true (f 0)
first_apart f (suc k) = ap (λ (t : Bool). t && f (suc k)) (first_apart f k) ∙ both-assoc (f 0) (all_to (λ j. f (suc j)) k) (f (suc k))

pub each_label : (labels : List ℤ) → list_all is_label labels ≡ all_labels labels
unfolding all_to
each_label [] = refl
each_label (y ∷ ys) = rw (each_label ys, first_apart (λ i. is_label (get_or (y ∷ ys) i (pos 0))) (length ys)) refl
