-- A buffer that is filled piece by piece: what stands at its front is what the reader gave.
use Rattle.std.proofs.Common.{◌≡◌, ℕ, ◌+◌, ◌-◌, ◌≤◌, List, ◌++◌, arith, length, take, slice_range, sym, ap, ◌∙◌, subst, le_refl, drop_at, length-take-le, None, Some, IfSome, append-nil, take_all, length-take}
use Rattle.std.proofs.lemmas.Slice.{take-put_mid_below}
use Rattle.std.specs.declared.option.Option.{Option}
use Rattle.std.specs.Io.KnownBytes.{Consumes, IsAtEnd}
use Rattle.std.proofs.KnownBytes.{Consumes-trans}
use borrow.Rule.Slice.PartMut.{put_mid, post_of}
use lib.Seq.{take-add, take-append-le, take_at}

-- a front and the range behind it
take_split : (a b : ℕ) (old new : List ℕ) → a ≤ b → take a new ≡ take a old → take a old ++ slice_range new a b ≡ take b new
take_split a b old new h front =
    let same : a + (b - a) ≡ b = omega arith in
    ap (λ l. l ++ slice_range new a b) (sym front) ∙ sym (take-add a (b - a) new) ∙ ap (λ n. take n new) same

-- a range at the front of a part that was put in
range_put : (a k n : ℕ) (xs ys : List ℕ) → a ≤ length xs → n ≤ length ys → slice_range (put_mid a k xs ys) a (a + n) ≡ take n ys
range_put a k n xs ys within fits =
    let same : (a + n) - a ≡ n = omega arith in
    let after = post_of a k xs in
    ap (take ((a + n) - a)) (drop_at (take a xs) (ys ++ after) a (length-take-le a xs within)) ∙ ap (λ m. take m (ys ++ after)) same ∙ take-append-le n ys after fits

-- n bytes more, read into the part behind those that are there
pub filled_on : (a b c : Option (List ℕ)) (done n : ℕ) (buf part : List ℕ) → done ≤ length buf → n ≤ length part → Consumes a b (take done buf)
    → Consumes b c (take n part) → Consumes a c (take (done + n) (put_mid done (length buf - done) buf part))
filled_on a b c done n buf part within fits before read =
    let room = length buf - done in
    let joined = take_split done (done + n) buf (put_mid done room buf part) (omega arith) (take-put_mid_below _ _ _ _ _ (le_refl _) within) in
    subst (Consumes a c) (ap (λ l. take done buf ++ l) (sym (range_put done room n buf part within fits)) ∙ joined)
    (Consumes-trans a b c (take done buf) (take n part) before read)

-- and none, at the end
pub filled_last : (a b c : Option (List ℕ)) (done n : ℕ) (buf part : List ℕ) → done ≤ length buf → n ≤ length part → n ≡ 0 → Consumes a b (take done buf)
    → Consumes b c (take n part) → Consumes a c (take done (put_mid done (length buf - done) buf part))
filled_last a b c done n buf part within fits none before read =
    let same : done + n ≡ done = omega (arith, none) in
    subst (λ k. Consumes a c (take k (put_mid done (length buf - done) buf part))) same (filled_on a b c done n buf part within fits before read)

-- What was read of a text before it ended, and what fills the buffer, are as much of the text as there is room for.
pub front_at_end : (given left : Option (List ℕ)) (buf : List ℕ) (done : ℕ) → Consumes given left (take done buf) → IsAtEnd left
    → IfSome given (λ text. take done buf ≡ take (length buf) text)
front_at_end None left buf done read ends = tt
front_at_end (Some text) None buf done read ends = absurd read
front_at_end (Some text) (Some rest) buf done read ends =
    let front = take done buf in
    let all : text ≡ front = read ∙ ap (λ r. front ++ r) ends ∙ append-nil front in
    sym (ap (take (length buf)) all ∙ take_all (length buf) front (omega (arith, length-take done buf)))

pub front_when_full : (given left : Option (List ℕ)) (buf : List ℕ) (done : ℕ) → Consumes given left (take done buf) → length buf ≤ done
    → IfSome given (λ text. take done buf ≡ take (length buf) text)
front_when_full None left buf done read full = tt
front_when_full (Some text) None buf done read full = absurd read
front_when_full (Some text) (Some rest) buf done read full =
    let front = take done buf in
    sym (ap (take (length buf)) read ∙ take_at front rest (length buf) (omega (arith, length-take done buf, full)))
