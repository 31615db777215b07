-- What is held after one byte more, by whether it ends a line, and which.
use borrow.Author.Tests.{ne_eqb, eqb-true, lt-ltb, leb-true}
use Prim.Native.Nat.{ℕ, zero, suc, ◌+◌, ◌*◌, ◌≤◌, ◌<◌}
use mathlib.Core.Path.{◌≡◌, refl, sym, ap, ◌∙◌, subst}
use mathlib.Core.Bool.{Bool, true, false, false≢true, ◌&&◌}
use mathlib.Core.List.{List, [], ◌∷◌, ◌++◌, append-nil, append_assoc}
use native.Mathlib.Nat.{mul-le-mul, mul-le-mul_right}
use native.Mathlib.Decide.{dec_lt}
use native.Mathlib.Omega.{arith}
use lib.Dec.{eqb, leb, ltb}
use lib.ListN.{length, take, drop, set, length-set, get_or}
use lib.Seq.{length-take-le, take_all, take-add, get_or-set_same, get_or-set_other}
use Rattle.seq.specs.Choice.{pick}
use Rattle.seq.specs.Lists.{part}
use Rattle.seq.specs.Keep.{count}
use Rattle.seq.proofs.Choosing.{both}
use Rattle.seq.proofs.Keeping.{passes, count_same, counts}
use Rattle.fields.specs.Bytes.{newline}
use Rattle.head.specs.FirstLine.{has_head, head_of}
use Rattle.head.proofs.Places.{head_next}
use Rattle.form.specs.Form.{line_long, is_column}
use Rattle.gathering.specs.Lines.{Lines, more, after, line_at}
use Rattle.gathering.specs.Kept.{is_first, kept_by, kept, kept_text, is_line}
use Rattle.gathering.specs.Steps.{most, first_state, Holding, keeps, later_state}
use Rattle.gathering.specs.declared.State.{State}
use Rattle.gathering.proofs.Cut.{first_cut, first-whole, Stored, line_cut, line_whole}
use Rattle.gathering.proofs.Indexed.{with_line, many_lines, line_new, no_line, no_first, kept_is, first-sizes, none_kept}
use Rattle.gathering.proofs.Indexed.{first_not_kept, nothing-kept, count_few, kept_still, line_before, kept_same, kept_more}

-- how far what is held reaches
pub record Reach (h : State) (room : List ℕ) : Type 0 where
  pub columns : h.m ≤ 32
  pub rows : h.n ≤ 64
  pub many : h.kept ≤ 32
  pub ends : h.end ≤ 35572
  pub long : h.long ≤ most
  pub room_left : h.end + most ≤ length room

first-most : (first : List ℕ) → is_first first ≡ true → length first ≤ 84
unfolding is_first
first-most first h =
    let a = both (has_head first) (eqb (head_of first).next (length first)) h in
    let e : (head_of first).next ≡ length first = eqb-true (head_of first).next (length first) a.1 in
    omega (arith, head_next first)

pub take-most : (k : ℕ) (xs : List ℕ) → length (take k xs) ≤ k
take-most k xs = go (dec_lt k (length xs))
  where
    go : Dec (k < length xs) → length (take k xs) ≤ k
    go (yes h) = omega (arith, length-take-le k xs (omega arith))
    go (no h) = omega (arith, ap length (take_all k xs (omega arith)))

pub reach : {s : Lines} {h : State} {room marks : List ℕ} → Holding s h room marks → Reach h room
reach {s} {h} {room} {marks} e = go (is_first (line_at s 0)) refl e.columns e.rows e.end
  where
    first : List ℕ
    first = line_at s 0

    few : (b : ℕ) → ((j : ℕ) → kept s j ≡ true → (1 ≤ j) × (j ≤ b)) → h.kept ≤ b
    few b g = omega (arith, e.many, (count_few (kept s) b (length s.done) g).0)

    go : (t : Bool) → is_first first ≡ t → h.m ≡ pick t (head_of first).m 0 → h.n ≡ pick t (head_of first).n 0
        → h.end ≡ pick t (length first) 0 + h.kept * line_long h.n → Reach h room
    go true p c r n =
        let z = first-sizes first p in
        let k : h.kept ≤ 32 = few 32 (λ j q. let x = kept_is first j (line_at s j) q in (omega (arith, x.after), omega (arith, x.among, z.columns))) in
        let w : line_long h.n ≤ 1109 = omega (arith, z.rows) in
        record {
          columns = omega (arith, z.columns);
          rows = omega (arith, z.rows);
          many = k;
          ends = omega (arith, mul-le-mul k w, first-most first p);
          long = omega (arith, e.long, take-most most s.rest);
          room_left = omega (arith, mul-le-mul k w, first-most first p, e.roomy);
        }
    go false p c r n =
        let k : h.kept ≤ 0 = few 0 (λ j q. absurd (false≢true (sym p ∙ (kept_is first j (line_at s j) q).good))) in
        let z : h.kept * line_long h.n ≤ 0 * line_long h.n = mul-le-mul_right (line_long h.n) k in
        record {
          columns = omega arith;
          rows = omega arith;
          many = omega arith;
          ends = omega arith;
          long = omega (arith, e.long, take-most most s.rest);
          room_left = omega (arith, e.roomy);
        }

-- a byte that ends no line
pub within_line : {s : Lines} {h : State} {room marks : List ℕ} (b long : ℕ) (room' : List ℕ) → (b ≡ newline → ⊥) → Holding s h room marks
    → Stored h.end room (s.rest ++ (b ∷ [])) long room'
    → Holding (after s (b ∷ []))
    (record { lines = h.lines; long = long; end = h.end; kept = h.kept; good = h.good; m = h.m; n = h.n }) room' marks
unfolding after more
within_line {s} {h} {room} {marks} b long room' g e st =
    rw (ne_eqb b newline g)
    (record {
      roomy = omega (arith, e.roomy, st.same);
      marked = e.marked;
      lines = e.lines;
      good = e.good;
      columns = e.columns;
      rows = e.rows;
      many = e.many;
      text = st.before ∙ e.text;
      long = st.held;
      piece = st.piece;
      end = e.end;
      marking = e.marking;
    })

-- a newline ends a line
ended : (s : Lines) → after s (newline ∷ []) ≡ with_line s (s.rest ++ (newline ∷ []))
unfolding after more
ended s = refl

-- of no line none is kept
pub count_none : (f : ℕ → Bool) → count f 0 ≡ 0
unfolding count
count_none f = refl

pub text_none : (f : ℕ → Bool) (l : ℕ → List ℕ) → kept_text f l 0 ≡ []
unfolding kept_text
text_none f l = refl

-- before the first line is whole nothing is held in front of it
nothing_yet : {s : Lines} {h : State} {room marks : List ℕ} → Holding s h room marks → length s.done ≡ 0 → (is_first (line_at s 0) ≡ false) × (h.end ≡ 0)
nothing_yet {s} {h} {room} {marks} e z =
    let f : is_first (line_at s 0) ≡ false = ap is_first (no_line s 0 (omega arith)) ∙ no_first in
    let k : h.kept ≡ 0 = e.many ∙ ap (count (kept s)) z ∙ count_none (kept s) in
    let w : h.kept * line_long h.n ≡ 0 * line_long h.n = ap (λ (x : ℕ). x * line_long h.n) k in
    (f, e.end ∙ ap (λ (t : Bool). pick t (length (line_at s 0)) 0 + h.kept * line_long h.n) f ∙ omega arith)

-- what is held after a first line, good or wrong
record FirstIs (line : List ℕ) (t : Bool) (r : State) : Type 0 where
  lines : r.lines ≡ 1
  long : r.long ≡ 0
  end : r.end ≡ pick t (length line) 0
  kept : r.kept ≡ 0
  good : r.good ≡ t
  columns : r.m ≡ pick t (head_of line).m 0
  rows : r.n ≡ pick t (head_of line).n 0

first_is : (line : List ℕ) (t : Bool) → is_first line ≡ t → FirstIs line t (first_state line)
unfolding first_state
first_is line true e = rw e (record { lines = refl; long = refl; end = refl; kept = refl; good = refl; columns = refl; rows = refl })
first_is line false e = rw e (record { lines = refl; long = refl; end = refl; kept = refl; good = refl; columns = refl; rows = refl })

-- the end of the first line
pub ends_first : {s : Lines} {h : State} {room marks : List ℕ} (long : ℕ) (room' : List ℕ) → h.lines ≡ 0 → Holding s h room marks
    → Stored h.end room (s.rest ++ (newline ∷ [])) long room'
    → Holding (after s (newline ∷ [])) (first_state (take (h.end + long) room')) room' marks
ends_first {s} {h} {room} {marks} long room' z e st = subst
    (λ (x : Lines). Holding x (first_state (take (h.end + long) room')) room' marks) (sym (ended s)) (go (is_first line) refl)
  where
    line : List ℕ
    line = s.rest ++ (newline ∷ [])

    t : Lines
    t = with_line s line

    none : length s.done ≡ 0
    none = sym e.lines ∙ z

    start : h.end ≡ 0
    start = (nothing_yet e none).1

    cut : take (h.end + long) room' ≡ take most line
    cut =
        let p : h.end + long ≡ long = omega (arith, start) in
        ap (λ (k : ℕ). take k room') p ∙ sym (ap (λ (k : ℕ). part k long room') start) ∙ st.piece

    top : line_at t 0 ≡ line
    top = ap (line_at t) (sym none) ∙ line_new s line

    first : line_at s 0 ≡ []
    first = no_line s 0 (omega (arith, none))

    one : length t.done ≡ 1
    one = many_lines s line ∙ ap (λ (k : ℕ). k + 1) none

    off : (j : ℕ) → kept t j ≡ false
    off zero = first_not_kept (line_at t 0) (line_at t 0)
    off (suc j) = ap (kept_by (line_at t 0) (suc j)) (no_line t (suc j) (omega (arith, one))) ∙ nothing-kept (line_at t 0) (suc j)

    was : (j : ℕ) → kept s j ≡ false
    was j = none_kept (line_at s 0) j (line_at s j) (nothing_yet e none).0

    no_count : count (kept t) 1 ≡ 0
    no_count = passes (kept t) 0 (off 0) ∙ count_none (kept t)

    no_text : kept_text (kept t) (line_at t) 1 ≡ []
    no_text = kept_still (kept t) (line_at t) 0 (off 0) ∙ text_none (kept t) (line_at t)

    go : (b : Bool) → is_first line ≡ b → Holding t (first_state (take (h.end + long) room')) room' marks
    go b f =
        let same : is_first (take most line) ≡ b = first_cut line ∙ f in
        let test : is_first (line_at t 0) ≡ b = ap is_first top ∙ f in
        let r : FirstIs (take most line) b (first_state (take (h.end + long) room')) =
        subst (λ (x : List ℕ). FirstIs (take most line) b (first_state x)) (sym cut) (first_is (take most line) b same) in
        record {
          roomy = omega (arith, e.roomy, st.same);
          marked = e.marked;
          lines = r.lines ∙ sym one;
          good = r.good ∙ sym test;
          columns = r.columns ∙ whole b f (λ x. (head_of x).m) ∙ sym (ap (λ (u : Bool). pick u (head_of (line_at t 0)).m 0) test);
          rows = r.rows ∙ whole b f (λ x. (head_of x).n) ∙ sym (ap (λ (u : Bool). pick u (head_of (line_at t 0)).n 0) test);
          many = r.kept ∙ sym (ap (count (kept t)) one ∙ no_count);
          text = ap (λ (k : ℕ). take k room') r.end ∙ held b f ∙ sym (append-nil (pick b line []))
              ∙ sym (ap (λ (x : List ℕ). pick (is_first (line_at t 0)) (line_at t 0) [] ++ x) (ap (kept_text (kept t) (line_at t)) one ∙ no_text)
              ∙ ap (λ (u : Bool). pick u (line_at t 0) [] ++ []) test ∙ ap (λ (x : List ℕ). pick b x [] ++ []) top);
          long = r.long;
          piece = ap (λ (k : ℕ). part (first_state (take (h.end + long) room')).end k room') r.long;
          end = r.end ∙ ends b f ∙ sym
              (ap
              (λ (u : Bool). pick u (length (line_at t 0)) 0
              + (first_state (take (h.end + long) room')).kept * line_long (first_state (take (h.end + long) room')).n) test
              ∙ ap (λ (k : ℕ). pick b (length (line_at t 0)) 0 + k * line_long (first_state (take (h.end + long) room')).n) r.kept ∙ omega arith);
          marking = λ j q. e.marking j q ∙ ap (λ (u : Bool). pick u 1 0) (was j ∙ sym (off j));
        }
      where
        whole : (b : Bool) → is_first line ≡ b → (f : List ℕ → ℕ) → pick b (f (take most line)) 0 ≡ pick b (f (line_at t 0)) 0
        whole true p f = ap f (first-whole line p ∙ sym top)
        whole false p f = refl

        held : (b : Bool) → is_first line ≡ b → take (pick b (length (take most line)) 0) room' ≡ pick b line []
        held true p =
            let w = first-whole line p in
            ap (λ (k : ℕ). take k room') (sym st.held) ∙ sym (ap (λ (k : ℕ). part k long room') start) ∙ st.piece ∙ w
        held false p = refl

        ends : (b : Bool) → is_first line ≡ b → pick b (length (take most line)) 0 ≡ pick b (length (line_at t 0)) 0
        ends true p = ap length (first-whole line p ∙ sym top)
        ends false p = refl

-- a later line is kept behind this first line where the state says so, which holds the first bytes of the line
keeps_is : {s : Lines} {h : State} {room marks : List ℕ} (line : List ℕ) → Holding s h room marks → 0 < length s.done
    → kept_by (line_at s 0) (length s.done) line ≡ keeps h (take most line)
unfolding kept_by
keeps_is {s} {h} {room} {marks} line e some = go (is_first first) refl e.good e.columns e.rows
  where
    first : List ℕ
    first = line_at s 0

    go : (b : Bool) → is_first first ≡ b → h.good ≡ is_first first → h.m ≡ pick (is_first first) (head_of first).m 0
        → h.n ≡ pick (is_first first) (head_of first).n 0
        → (is_first first && ((ltb 0 (length s.done) && leb (length s.done) (head_of first).m) && is_line (head_of first).n line))
        ≡ keeps h (take most line)
    go true p g c r =
        let m : h.m ≡ (head_of first).m = c ∙ ap (λ (b : Bool). pick b (head_of first).m 0) p in
        let n : h.n ≡ (head_of first).n = r ∙ ap (λ (b : Bool). pick b (head_of first).n 0) p in
        let cut : is_line (head_of first).n (take most line) ≡ is_line (head_of first).n line = line_cut (head_of first).n line (first-sizes first p).rows in
        let here : h.good ≡ true = g ∙ p in
        rw (p, lt-ltb 0 (length s.done) some, here, e.lines, m, n, cut)
    go false p g c r =
        let here : h.good ≡ false = g ∙ p in
        rw (p, here)

line_long_lem : (n : ℕ) (line : List ℕ) → is_line n line ≡ true → length line ≡ line_long n
unfolding is_line
line_long_lem n line h = eqb-true (length line) (line_long n) (both (eqb (length line) (line_long n)) (is_column line n 0) h).0

-- the end of a later line
pub ends_later : {s : Lines} {h : State} {room marks : List ℕ} (long : ℕ) (room' held : List ℕ) → 0 < h.lines → Holding s h room marks
    → Stored h.end room (s.rest ++ (newline ∷ [])) long room' → held ≡ part h.end long room'
    → Holding (after s (newline ∷ [])) (later_state h held) room' (pick (keeps h held) (set marks h.lines 1) marks)
unfolding later_state
ends_later {s} {h} {room} {marks} long room' held some e st p =
    subst (λ (x : Lines). Holding x (pick (keeps h held) yes_state no_state) room' (pick (keeps h held) (set marks h.lines 1) marks)) (sym (ended s))
    (go (keeps h held) refl)
  where
    yes_state : State
    yes_state = record { lines = h.lines + 1; long = 0; end = h.end + length held; kept = h.kept + 1; good = h.good; m = h.m; n = h.n }

    no_state : State
    no_state = record { lines = h.lines + 1; long = 0; end = h.end; kept = h.kept; good = h.good; m = h.m; n = h.n }

    line : List ℕ
    line = s.rest ++ (newline ∷ [])

    t : Lines
    t = with_line s line

    len : ℕ
    len = length s.done

    some_line : 0 < len
    some_line = omega (arith, e.lines)

    cut : held ≡ take most line
    cut = p ∙ st.piece

    first : line_at t 0 ≡ line_at s 0
    first = line_before s line 0 some_line

    last : line_at t len ≡ line
    last = line_new s line

    old : (j : ℕ) → j < len → kept t j ≡ kept s j
    old j l = ap (λ (x : List ℕ). kept_by x j (line_at t j)) first ∙ ap (kept_by (line_at s 0) j) (line_before s line j l)

    new : kept t len ≡ keeps h held
    new =
        ap (λ (x : List ℕ). kept_by x len (line_at t len)) first ∙ ap (kept_by (line_at s 0) len) last ∙ keeps_is line e some_line
        ∙ ap (keeps h) (sym cut)

    beyond : (u : Lines) (j : ℕ) → length u.done ≤ j → kept u j ≡ false
    beyond u j l = ap (kept_by (line_at u 0) j) (no_line u j l) ∙ nothing-kept (line_at u 0) j

    counted : count (kept t) len ≡ h.kept
    counted = count_same (kept t) (kept s) len old ∙ sym e.many

    more_lines : length t.done ≡ len + 1
    more_lines = many_lines s line

    front : List ℕ
    front = pick (is_first (line_at t 0)) (line_at t 0) []

    texts : take h.end room' ≡ front ++ kept_text (kept t) (line_at t) len
    texts =
        st.before ∙ e.text
        ∙ ap (λ (x : List ℕ). pick (is_first x) x [] ++ kept_text (kept s) (line_at s) len) (sym first)
        ∙ ap (λ (x : List ℕ). front ++ x) (sym (kept_same (kept t) (kept s) (line_at t) (line_at s) len old (line_before s line)))

    ends : h.end ≡ pick (is_first (line_at t 0)) (length (line_at t 0)) 0 + h.kept * line_long h.n
    ends = e.end ∙ ap (λ (x : List ℕ). pick (is_first x) (length x) 0 + h.kept * line_long h.n) (sym first)

    go : (b : Bool) → keeps h held ≡ b → Holding t (pick b yes_state no_state) room' (pick b (set marks h.lines 1) marks)
    go true k =
        let is : is_line h.n held ≡ true = (both (h.good && leb h.lines h.m) (is_line h.n held) k).1 in
        let rows : h.n ≤ 64 = (reach e).rows in
        let whole : held ≡ line = cut ∙ line_whole h.n line rows (sym (line_cut h.n line rows) ∙ ap (is_line h.n) (sym cut) ∙ is) in
        let wide : length held ≡ line_long h.n = line_long_lem h.n held is in
        let far : length held ≡ long = ap length cut ∙ sym st.held in
        record {
          roomy = omega (arith, e.roomy, st.same);
          marked = omega (arith, e.marked, length-set marks h.lines 1);
          lines = omega (arith, e.lines, more_lines);
          good = e.good ∙ ap is_first (sym first);
          columns = e.columns ∙ ap (λ (x : List ℕ). pick (is_first x) (head_of x).m 0) (sym first);
          rows = e.rows ∙ ap (λ (x : List ℕ). pick (is_first x) (head_of x).n 0) (sym first);
          many = sym (ap (count (kept t)) more_lines ∙ counts (kept t) len (new ∙ k) ∙ ap (λ (x : ℕ). x + 1) counted);
          text = take-add h.end (length held) room' ∙ ap (λ (x : List ℕ). x ++ take (length held) (drop h.end room')) texts
              ∙ ap (λ (x : List ℕ). (front ++ kept_text (kept t) (line_at t) len) ++ x)
              (ap (λ (x : ℕ). take x (drop h.end room')) far ∙ sym p ∙ whole ∙ sym last)
              ∙ append_assoc front (kept_text (kept t) (line_at t) len) (line_at t len)
              ∙ ap (λ (x : List ℕ). front ++ x) (sym (ap (kept_text (kept t) (line_at t)) more_lines ∙ kept_more (kept t) (line_at t) len (new ∙ k)));
          long = refl;
          piece = refl;
          end = omega (arith, ends, wide);
          marking = λ j l. mark j l (dec_lt j len) (dec_lt len j);
        }
      where
        among : h.lines ≤ h.m
        among =
            leb-true h.lines h.m (both h.good (leb h.lines h.m) (both (h.good && leb h.lines h.m) (is_line h.n held) k).0).1

        inside : len < length marks
        inside = omega (arith, e.marked, e.lines, among, (reach e).columns)

        mark : (j : ℕ) → j ≤ 32 → Dec (j < len) → Dec (len < j) → get_or (set marks h.lines 1) j 0 ≡ pick (kept t j) 1 0
        mark j x (yes l) g =
            get_or-set_other marks h.lines j 1 0 (λ q. omega (arith, e.lines)) ∙ e.marking j x ∙ ap (λ (u : Bool). pick u 1 0) (sym (old j l))
        mark j x (no l) (yes g) =
            get_or-set_other marks h.lines j 1 0 (λ q. omega (arith, e.lines)) ∙ e.marking j x
            ∙ ap (λ (u : Bool). pick u 1 0) (beyond s j (omega arith) ∙ sym (beyond t j (omega (arith, more_lines))))
        mark j x (no l) (no g) =
            let same : j ≡ h.lines = omega (arith, e.lines) in
            let at : j ≡ len = omega arith in
            ap (λ (y : ℕ). get_or (set marks h.lines 1) y 0) same ∙ get_or-set_same marks h.lines 1 0 (omega (arith, inside, e.lines))
            ∙ sym (ap (λ (x : ℕ). pick (kept t x) 1 0) at ∙ ap (λ (u : Bool). pick u 1 0) (new ∙ k))
    go false k =
        record {
          roomy = omega (arith, e.roomy, st.same);
          marked = e.marked;
          lines = omega (arith, e.lines, more_lines);
          good = e.good ∙ ap is_first (sym first);
          columns = e.columns ∙ ap (λ (x : List ℕ). pick (is_first x) (head_of x).m 0) (sym first);
          rows = e.rows ∙ ap (λ (x : List ℕ). pick (is_first x) (head_of x).n 0) (sym first);
          many = sym (ap (count (kept t)) more_lines ∙ passes (kept t) len (new ∙ k) ∙ counted);
          text = texts ∙ ap (λ (x : List ℕ). front ++ x) (sym (ap (kept_text (kept t) (line_at t)) more_lines ∙ kept_still (kept t) (line_at t) len (new ∙ k)));
          long = refl;
          piece = refl;
          end = ends;
          marking = λ j l. mark j l (dec_lt j len) (dec_lt len j);
        }
      where
        mark : (j : ℕ) → j ≤ 32 → Dec (j < len) → Dec (len < j) → get_or marks j 0 ≡ pick (kept t j) 1 0
        mark j q (yes l) g = e.marking j q ∙ ap (λ (u : Bool). pick u 1 0) (sym (old j l))
        mark j q (no l) (yes g) =
            e.marking j q ∙ ap (λ (u : Bool). pick u 1 0) (beyond s j (omega arith) ∙ sym (beyond t j (omega (arith, more_lines))))
        mark j q (no l) (no g) =
            let at : j ≡ len = omega arith in
            e.marking j q ∙ ap (λ (u : Bool). pick u 1 0) (beyond s j (omega arith))
            ∙ sym (ap (λ (x : ℕ). pick (kept t x) 1 0) at ∙ ap (λ (u : Bool). pick u 1 0) (new ∙ k))
