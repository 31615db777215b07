-- Pieces of a text that are put in a buffer from its front: what is put is read from there.
use Prim.Native.Nat.{ℕ, ◌+◌, ◌≤◌}
use mathlib.Core.Path.{◌≡◌, refl, sym, ap, ◌∙◌}
use mathlib.Core.List.{List, ◌++◌, append_assoc}
use native.Mathlib.Omega.{arith}
use lib.ListN.{length, take, drop, length-append}
use lib.Seq.{take_at}
use Rattle.seq.proofs.Parts.{length-placed}
use Rattle.fields.specs.Steps.{WroteOn}
use Rattle.answering.specs.Steps.{Wrote}

-- a piece at the front
pub front_of : {text out out' : List ℕ} {r : ℕ} → WroteOn text 0 out r out' → length text ≤ length out → Wrote text out r out'
front_of {text} {out} {out'} {r} p h =
    record {
      long = omega (arith, p.ends);
      front = ap (take r) p.puts ∙ take_at text (drop (length text) out) r (omega (arith, p.ends));
      same = ap length p.puts ∙ length-placed 0 (length text) out text (omega arith) refl;
    }

-- a piece that follows the front
pub front_more : {text ys out out' out'' : List ℕ} {e r : ℕ} → Wrote text out e out' → WroteOn ys e out' r out'' → e + length ys ≤ length out
    → Wrote (text ++ ys) out r out''
front_more {text} {ys} {out} {out'} {out''} {e} {r} p q h =
    let rest : List ℕ = drop (length ys) (drop e out') in
    let l : length (text ++ ys) ≡ r = length-append text ys ∙ omega (arith, p.long, q.ends) in
    let g : e + length ys ≤ length out' = omega (arith, p.same) in
    let f : out'' ≡ (text ++ ys) ++ rest =
    q.puts ∙ ap (λ (s : List ℕ). s ++ (ys ++ rest)) p.front ∙ sym (append_assoc text ys rest) in
    record {
      long = sym l;
      front = ap (take r) f ∙ take_at (text ++ ys) rest r l;
      same = ap length q.puts ∙ length-placed e (length ys) out' ys g refl ∙ p.same;
    }
