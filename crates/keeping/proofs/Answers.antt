-- What is saved, in a lent buffer: it does not fit, or it is written part by part; and what is held where nothing was read.
use borrow.Author.Tests.{leb-true, leb-false, le-leb, lt-leb}
use Prim.Native.Nat.{ℕ, ◌+◌, ◌*◌, ◌-◌, ◌≤◌, ◌<◌}
use mathlib.Core.Path.{◌≡◌, refl, sym, ap, ◌∙◌, subst}
use mathlib.Core.Bool.{Bool, true, false}
use mathlib.Core.List.{List, [], ◌++◌, append_assoc}
use native.Mathlib.Omega.{arith}
use native.Mathlib.Decide.{dec_lt}
use lib.Dec.{eqb, leb}
use lib.ListN.{length, get_or, take, drop, length-append, length-drop, get_or-eq_default}
use lib.Seq.{take_at, drop_at, drop-drop}
use Rattle.seq.specs.Choice.{pick}
use Rattle.seq.specs.Lists.{repeated}
use Rattle.seq.proofs.Filling.{length-tab, get_or-tab}
use Rattle.fields.specs.Steps.{WroteOn}
use Rattle.head.specs.FirstLine.{head_of}
use Rattle.gathering.specs.Lines.{Lines, no_lines, line_at}
use Rattle.gathering.specs.Kept.{is_first, kept}
use Rattle.keeping.specs.Saved.{salvaged, Laid}
use Rattle.gathering.specs.Steps.{Holding, start_state}
use Rattle.keeping.specs.Steps.{none_in, judged_in, held_text}
use Rattle.gathering.specs.declared.State.{State}
use Rattle.keeping.proofs.Fronts.{held_is_salvaged}
use Rattle.gathering.proofs.Indexed.{no_first, none_kept}
use Rattle.gathering.proofs.Bytewise.{count_none, text_none}

-- a text that was put at the front is read from there
pub front_text_lem : (t out : List ℕ) (r : ℕ) (out' : List ℕ) → WroteOn t 0 out r out' → take r out' ≡ t
front_text_lem t out r out' w = ap (take r) w.puts ∙ take_at t (drop (length t) out) r (omega (arith, w.ends))

pub front_room : (t out : List ℕ) (r : ℕ) (out' : List ℕ) → WroteOn t 0 out r out' → r ≤ length out'
front_room t out r out' w = omega (arith, w.ends, ap length w.puts, length-append t (drop (length t) out))

-- how many lines are judged
pub judged-most : (s : State) → judged_in s ≤ s.lines
unfolding judged_in
judged-most s = go s.good (none_in s) (eqb s.long 0)
  where
    go : (a b c : Bool) → pick a (pick b 0 (s.lines + pick c 0 1 - 1)) 0 ≤ s.lines
    go true true c = omega arith
    go true false true = omega arith
    go true false false = omega arith
    go false b c = omega arith

module _ (t u answer out : List ℕ) (r : ℕ) (out' : List ℕ) (w : WroteOn t 0 out r out') where
  pub front_too_long : length answer < r → Laid (t ++ u) answer 0 answer
  front_too_long h =
      let f = lt-leb (length (t ++ u)) (length answer) (omega (arith, w.ends, length-append t u)) in
      record { says = rw f; writes = rw f }

  pub losses_too_long : r ≤ length answer → leb (length u) (length answer - r) ≡ false → Laid (t ++ u) answer 0 answer
  losses_too_long h g =
      let l = leb-false (length u) (length answer - r) g in
      let f = lt-leb (length (t ++ u)) (length answer) (omega (arith, w.ends, length-append t u)) in
      record { says = rw f; writes = rw f }

  -- the buffer when the front is copied
  pub copied_long : (ys : List ℕ) → r ≤ length answer → ys ≡ take r out' → length (ys ++ drop r answer) ≡ length answer
  copied_long ys h e =
      omega (arith, length-append ys (drop r answer), length-drop r answer, ap length (e ∙ front_text_lem t out r out' w), w.ends)

  pub all_laid : (ys answer' : List ℕ) (q : ℕ) → r ≤ length answer → leb (length u) (length answer - r) ≡ true → ys ≡ take r out'
      → WroteOn u r (ys ++ drop r answer) q answer' → Laid (t ++ u) answer q answer'
  all_laid ys answer' q h g e v =
      let l = leb-true (length u) (length answer - r) g in
      let k : length (t ++ u) ≡ r + length u = length-append t u ∙ omega (arith, w.ends) in
      let f = le-leb (length (t ++ u)) (length answer) (omega arith) in
      let y : ys ≡ t = e ∙ front_text_lem t out r out' w in
      let n : length ys ≡ r = ap length y ∙ omega (arith, w.ends) in
      let a : take r (ys ++ drop r answer) ≡ t = take_at ys (drop r answer) r n ∙ y in
      let b : drop (length u) (drop r (ys ++ drop r answer)) ≡ drop (length (t ++ u)) answer =
      ap (drop (length u)) (drop_at ys (drop r answer) r n) ∙ drop-drop (length u) r answer ∙ ap (λ (x : ℕ). drop x answer) (sym k) in
      record {
        says = rw f (v.ends ∙ sym k);
        writes = rw f (v.puts ∙ ap (λ (x : List ℕ). x ++ (u ++ drop (length u) (drop r (ys ++ drop r answer)))) a
            ∙ ap (λ (x : List ℕ). t ++ (u ++ x)) b ∙ sym (append_assoc t u (drop (length (t ++ u)) answer)));
      }

-- marks that are cleared
cleared : (n j : ℕ) → ◌≡◌ {A = ℕ} (get_or (repeated 0 n) j 0) 0
cleared n j = go (dec_lt j n)
  where
    go : Dec (j < n) → ◌≡◌ {A = ℕ} (get_or (repeated 0 n) j 0) 0
    go (yes h) = get_or-tab (λ i. 0) n j 0 h
    go (no h) = get_or-eq_default (repeated 0 n) 0 (omega (arith, length-tab {A = ℕ} (λ i. 0) n))

-- where nothing was read, nothing is held
pub holding_start : (h : State) (room marks : List ℕ) (n : ℕ) → h ≡ start_state → marks ≡ repeated 0 n → 36700 ≤ length room → 33 ≤ length marks
    → Holding no_lines h room marks
holding_start h room marks n e m l k =
    rw e
    (record {
      roomy = l;
      marked = k;
      lines = refl;
      good = sym no_first;
      columns = sym (ap (λ (t : Bool). pick t (head_of []).m 0) no_first);
      rows = sym (ap (λ (t : Bool). pick t (head_of []).n 0) no_first);
      many = sym (count_none (kept no_lines));
      text = sym (ap (λ (x : List ℕ). pick (is_first []) [] [] ++ x) (text_none (kept no_lines) (line_at no_lines)) ∙ both_empty (is_first []));
      long = refl;
      piece = refl;
      end = sym (ap (λ (t : Bool). pick t 0 0 + 0 * 21) no_first);
      marking = λ j g. ap (λ (x : List ℕ). get_or x j 0) m ∙ cleared n j ∙ sym (ap (λ (t : Bool). pick t 1 0) (none_kept [] j (line_at no_lines j) no_first));
    })
  where
    both_empty : (t : Bool) → pick {A = List ℕ} t [] [] ++ [] ≡ []
    both_empty true = refl
    both_empty false = refl

-- what is written of what is held of lines is what is saved of them
pub salvage_is : {s : Lines} {h : State} {room marks answer : List ℕ} {r : ℕ} {answer' : List ℕ} → Holding s h room marks
    → Laid (held_text h room marks) answer r answer' → Laid (salvaged s) answer r answer'
salvage_is {s} {h} {room} {marks} {answer} {r} {answer'} e l = subst (λ (x : List ℕ). Laid x answer r answer') (held_is_salvaged e) l
