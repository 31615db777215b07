-- No second answer fits what is promised of a saved sheet.
use Prim.Native.Nat.{ℕ}
use mathlib.Core.Path.{◌≡◌, sym, ◌∙◌}
use mathlib.Core.List.{List}
use Rattle.keeping.specs.Saved.{Laid}

pub sole_saved : {text answer : List ℕ} {r q : ℕ} {one two : List ℕ} → Laid text answer r one → Laid text answer q two → (r ≡ q) × (one ≡ two)
sole_saved a b = (a.says ∙ sym b.says, a.writes ∙ sym b.writes)
