-- Lines by their index: those before one more line are as they were, and beyond the last there is none.
use borrow.Author.Tests.{ne_eqb}
use Prim.Native.Nat.{ℕ, zero, suc, ◌+◌, ◌-◌, ◌≤◌, ◌<◌}
use mathlib.Core.Path.{◌≡◌, refl, ap}
use mathlib.Core.Bool.{Bool, true, false, ◌&&◌}
use mathlib.Core.List.{List, [], ◌∷◌, ◌++◌}
use native.Mathlib.Omega.{arith}
use native.Mathlib.Numerals.{add-one}
use lib.Dec.{eqb, ltb, leb}
use lib.ListN.{length, length-append, get_or-append, get_or-eq_default}
use lib.Seq.{get_or_at}
use Rattle.seq.specs.Choice.{pick}
use Rattle.seq.specs.Keep.{count}
use Rattle.seq.proofs.Choosing.{both}
use Rattle.head.specs.FirstLine.{has_head, head_of}
use Rattle.head.proofs.Good.{good_head, head_most}
use Rattle.head.specs.Words.{thin_word}
use Rattle.fields.proofs.Words.{spelled_at}
use Rattle.form.specs.Form.{line_long, is_column}
use Rattle.gathering.specs.Lines.{Lines, line_at}
use Rattle.gathering.specs.Kept.{is_first, is_line, kept_by, kept_text}
use borrow.Author.Tests.{ltb-true, leb-true}

-- one whole line more
abbrev pub with_line : Lines → List ℕ → Lines
with_line s line = record { done = s.done ++ (line ∷ []); rest = [] }

module _ (s : Lines) (line : List ℕ) where
  pub many_lines : length (with_line s line).done ≡ length s.done + 1
  many_lines = length-append s.done (line ∷ [])

  pub line_before : (j : ℕ) → j < length s.done → line_at (with_line s line) j ≡ line_at s j
  line_before j h = get_or-append s.done (line ∷ []) [] j h

  pub line_new : line_at (with_line s line) (length s.done) ≡ line
  line_new = get_or_at s.done line [] [] (length s.done) refl

pub no_line : (s : Lines) (j : ℕ) → length s.done ≤ j → line_at s j ≡ []
no_line s j h = get_or-eq_default s.done [] h

-- no line is no column's and no first
pub no_column : (n : ℕ) → is_line n [] ≡ false
unfolding is_line
no_column n = ap (λ (t : Bool). t && is_column [] n 0) (ne_eqb 0 (line_long n) (λ e. omega arith))

pub no_first : is_first [] ≡ false
unfolding is_first
no_first = go (has_head [] && eqb (head_of []).next 0) refl
  where
    go : (t : Bool) → (has_head [] && eqb (head_of []).next 0) ≡ t → t ≡ false
    go false e = refl
    go true e =
        let a = both (has_head []) (eqb (head_of []).next 0) e in
        let b : ◌≡◌ {A = ℕ} 0 116 = spelled_at thin_word [] 0 (good_head [] a.0).opened 0 (omega arith) in
        absurd (omega arith)

-- a line that is kept
pub record Kept (first : List ℕ) (j : ℕ) (line : List ℕ) : Type 0 where
  pub good : is_first first ≡ true
  pub after : 0 < j
  pub among : j ≤ (head_of first).m
  pub is : is_line (head_of first).n line ≡ true

pub kept_is : (first : List ℕ) (j : ℕ) (line : List ℕ) → kept_by first j line ≡ true → Kept first j line
unfolding kept_by
kept_is first j line h =
    let a = both (is_first first) ((ltb 0 j && leb j (head_of first).m) && is_line (head_of first).n line) h in
    let b = both (ltb 0 j && leb j (head_of first).m) (is_line (head_of first).n line) a.1 in
    let c = both (ltb 0 j) (leb j (head_of first).m) b.0 in
    record { good = a.0; after = ltb-true 0 j c.0; among = leb-true j (head_of first).m c.1; is = b.1 }

-- a good first line's sizes
pub record Sizes (first : List ℕ) : Type 0 where
  pub columns : (head_of first).m ≤ 32
  pub rows : (head_of first).n ≤ 64

pub first-sizes : (first : List ℕ) → is_first first ≡ true → Sizes first
unfolding is_first
first-sizes first h =
    let a = both (has_head first) (eqb (head_of first).next (length first)) h in
    let b = head_most first a.0 in
    record { columns = b.0; rows = b.1 }

-- nothing is kept behind a first line that is wrong, the first line itself is not kept, and nothing is kept where there is no line
pub none_kept : (first : List ℕ) (j : ℕ) (line : List ℕ) → is_first first ≡ false → kept_by first j line ≡ false
unfolding kept_by
none_kept first j line h = rw h

pub first_not_kept : (first line : List ℕ) → kept_by first 0 line ≡ false
unfolding kept_by
first_not_kept first line = go (is_first first)
  where
    go : (t : Bool) → (t && ((ltb 0 0 && leb 0 (head_of first).m) && is_line (head_of first).n line)) ≡ false
    go true = refl
    go false = refl

pub nothing-kept : (first : List ℕ) (j : ℕ) → kept_by first j [] ≡ false
unfolding kept_by
nothing-kept first j = rw (no_column (head_of first).n) (go (is_first first) (ltb 0 j && leb j (head_of first).m))
  where
    go : (t u : Bool) → (t && (u && false)) ≡ false
    go true true = refl
    go true false = refl
    go false u = refl

-- of lines of which only 1 to b pass, at most b do, and one fewer than they are
pub count_few : (f : ℕ → Bool) (b k : ℕ) → ((j : ℕ) → f j ≡ true → (1 ≤ j) × (j ≤ b)) → (count f k ≤ b) × (count f k ≤ k - 1)
unfolding count
count_few f b zero h = (omega arith, omega arith)
count_few f b (suc k) h = go (f k) refl (count_few f b k h)
  where
    go : (t : Bool) → f k ≡ t → (count f k ≤ b) × (count f k ≤ k - 1)
        → (pick (f k) (suc (count f k)) (count f k) ≤ b) × (pick (f k) (suc (count f k)) (count f k) ≤ suc k - 1)
    go true e r =
        let g = h k e in
        rw e (omega (arith, g.0, g.1, r.1), omega (arith, g.0, r.1))
    go false e r = rw e (r.0, omega (arith, r.1))

-- the kept text of lines that are the same
pub kept_same : (f g : ℕ → Bool) (l l' : ℕ → List ℕ) (k : ℕ) → ((j : ℕ) → j < k → f j ≡ g j) → ((j : ℕ) → j < k → l j ≡ l' j)
    → kept_text f l k ≡ kept_text g l' k
unfolding kept_text
kept_same f g l l' zero h e = refl
kept_same f g l l' (suc k) h e =
    rw (kept_same f g l l' k (λ j q. h j (omega arith)) (λ j q. e j (omega arith)), h k (omega arith), e k (omega arith))

pub kept_more : (f : ℕ → Bool) (l : ℕ → List ℕ) (k : ℕ) → f k ≡ true → kept_text f l (k + 1) ≡ kept_text f l k ++ l k
unfolding kept_text
kept_more f l k h = rw (add-one k, h)

pub kept_still : (f : ℕ → Bool) (l : ℕ → List ℕ) (k : ℕ) → f k ≡ false → kept_text f l (k + 1) ≡ kept_text f l k
unfolding kept_text
kept_still f l k h = rw (add-one k, h)
