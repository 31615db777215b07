-- The number of the first wrong line: what a good first line says of the sizes, and each of the four answers.
use borrow.Author.Tests.{lt-ltb, le-ltb, eq-eqb, ne_eqb}
use Prim.Native.Nat.{ℕ, ◌+◌, ◌*◌, ◌≤◌, ◌<◌}
use mathlib.Core.Path.{◌≡◌, sym, ap, ◌∙◌}
use mathlib.Core.Bool.{Bool, true, false}
use mathlib.Core.List.{List}
use lib.Dec.{eqb}
use lib.ListN.{length}
use Rattle.seq.specs.Choice.{pick}
use Rattle.head.specs.FirstLine.{has_head, head_of}
use Rattle.head.specs.declared.Head.{Head}
use Rattle.head.proofs.Places.{head_next}
use Rattle.head.proofs.Good.{head_most}
use Rattle.form.specs.Form.{columns_from, end_of, wrong_after, wrong_line}
use Rattle.form.proofs.Rooms.{column_room}

-- what a good first line says of the sizes, and how far it and the columns reach
pub record Sized (h : Head) : Type 0 where
  pub columns : h.m ≤ 32
  pub rows : h.n ≤ 64
  pub starts : h.next ≤ 84
  pub reach : h.m * (21 + 17 * h.n) ≤ 35488

head_sized : (t : List ℕ) → has_head t ≡ true → Sized (head_of t)
head_sized t h =
    let e = head_most t h in
    record { columns = e.0; rows = e.1; starts = head_next t; reach = column_room (head_of t).m (head_of t).n e.0 e.1 }

pub sized : (t : List ℕ) (h : Head) → h ≡ head_of t → has_head t ≡ true → Sized h
sized t h e g = rw e (head_sized t g)

-- the first line is wrong
pub first_wrong : (t : List ℕ) (h : Head) → h ≡ head_of t → has_head t ≡ false → 1 ≡ wrong_line t
unfolding wrong_line
first_wrong t h e g = rw g

-- it is good: what comes after
after_first : (t : List ℕ) (h : Head) (good : ℕ) → h ≡ head_of t → has_head t ≡ true → good ≡ columns_from t h.n h.next h.m
    → wrong_line t ≡ wrong_after t h good
unfolding wrong_line
after_first t h good e g k =
    let q : wrong_after t h good ≡ wrong_after t (head_of t) (columns_from t (head_of t).n (head_of t).next (head_of t).m) =
    ap (wrong_after t h) k ∙ ap (λ (x : Head). wrong_after t x (columns_from t x.n x.next x.m)) e in
    rw g (sym q)

-- a column is wrong
pub column_wrong : (t : List ℕ) (h : Head) (good : ℕ) → h ≡ head_of t → has_head t ≡ true → good ≡ columns_from t h.n h.next h.m → good < h.m
    → good + 2 ≡ wrong_line t
column_wrong t h good e g k l =
    sym (after_first t h good e g k ∙ ap (λ (s : Bool). pick s (good + 2) (pick (eqb (length t) (end_of h)) 0 (h.m + 2))) (lt-ltb good h.m l))

-- every column is good: it depends on the end
after-columns : (t : List ℕ) (h : Head) (good : ℕ) → h ≡ head_of t → has_head t ≡ true → good ≡ columns_from t h.n h.next h.m → h.m ≤ good
    → wrong_line t ≡ pick (eqb (length t) (end_of h)) 0 (h.m + 2)
after-columns t h good e g k l =
    after_first t h good e g k ∙ ap (λ (s : Bool). pick s (good + 2) (pick (eqb (length t) (end_of h)) 0 (h.m + 2))) (le-ltb good h.m l)

pub none_wrong : (t : List ℕ) (h : Head) (good : ℕ) → h ≡ head_of t → has_head t ≡ true → good ≡ columns_from t h.n h.next h.m → h.m ≤ good
    → length t ≡ end_of h → 0 ≡ wrong_line t
none_wrong t h good e g k l p =
    sym (after-columns t h good e g k l ∙ ap (λ (s : Bool). pick s 0 (h.m + 2)) (eq-eqb (length t) (end_of h) p))

pub end_wrong : (t : List ℕ) (h : Head) (good : ℕ) → h ≡ head_of t → has_head t ≡ true → good ≡ columns_from t h.n h.next h.m → h.m ≤ good
    → (length t ≡ end_of h → ⊥) → h.m + 2 ≡ wrong_line t
end_wrong t h good e g k l p =
    sym (after-columns t h good e g k l ∙ ap (λ (s : Bool). pick s 0 (h.m + 2)) (ne_eqb (length t) (end_of h) p))
