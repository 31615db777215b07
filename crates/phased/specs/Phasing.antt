-- Told between functions: what stands in the scratch between two phases, the room that a phase is lent, and what it leaves.
use Rattle.std.specs.Prelude.{ℕ, ◌+◌, ◌≤◌, ◌≡◌, List, length, get_or, Float}
use Rattle.seq.specs.Sums.{plus_zero}
use Rattle.begin.specs.Begin.{begun}
use Rattle.walked.specs.Walk.{Course, course_of}
use Rattle.walked.specs.declared.Phased.{Phased}
use Rattle.places.specs.Places.{chosen, put_back}
use Rattle.phased.specs.Phase.{Between, phased}
use Rattle.blocking.specs.Held.{ax_in}
use Rattle.draw.specs.declared.SplitMix64.{SplitMix64}

-- what the scratch and the vectors over the columns hold between two phases
abbrev pub between : ℕ → List Float → List Float → List ℕ → SplitMix64 → ℕ → Between
between rows numbers x free rng directions = record { x = x; free = free; ax = ax_in rows numbers; rng = rng; directions = directions }

-- how a phase on the columns at some places goes
abbrev pub inside_of : (ℕ → ℕ → Float) → ℕ → List ℕ → SplitMix64 → List Float → List Float → Course
inside_of a rows places rng numbers x =
    course_of plus_zero (λ p. a (get_or places p 0)) (length places) rows
    (begun plus_zero (λ p. a (get_or places p 0)) (length places) rows (chosen x places) (ax_in rows numbers) rng)

-- that phase was made, and its coordinates are back at their places
pub record PhasedAt (a : ℕ → ℕ → Float) (rows : ℕ) (places : List ℕ) (rng : SplitMix64) (numbers x : List Float) (free : List ℕ)
    (r : Phased) (numbers' x' : List Float) (free' : List ℕ) : Type 0 where
  pub froze : r.at.frozen ≡ (inside_of a rows places rng numbers x).walk.frozen
  pub moves : x' ≡ put_back plus_zero places (inside_of a rows places rng numbers x).walk.x x (length places)
  pub marks : free' ≡ put_back 0 places (inside_of a rows places rng numbers x).walk.free free (length places)
  pub ax : ax_in rows numbers' ≡ (inside_of a rows places rng numbers x).walk.ax
  pub draws : r.at.rng ≡ (inside_of a rows places rng numbers x).walk.rng
  pub counts : r.directions ≡ (inside_of a rows places rng numbers x).directions

-- the room for a phase on l columns: for what is chosen of them and for a direction, each as long as there are columns
pub record RoomAtPlaces (l : ℕ) (cs : List ℕ) (ss xs : List Float) (fs : List ℕ) (ds : List Float) : Type 0 where
  pub subcols : length cs ≡ l
  pub subscale : length ss ≡ l
  pub subx : length xs ≡ l
  pub subfree : length fs ≡ l
  pub g : length ds ≡ l

-- the room for a phase on the free ones of k columns, however many those are: none of it is shorter than there are columns
pub record RoomForAll (k : ℕ) (ps cs : List ℕ) (ss xs : List Float) (fs : List ℕ) (ds : List Float) : Type 0 where
  pub places : k ≤ length ps
  pub subcols : k ≤ length cs
  pub subscale : k ≤ length ss
  pub subx : k ≤ length xs
  pub subfree : k ≤ length fs
  pub g : k ≤ length ds

-- one phase on the free ones of k columns was made, whatever number of directions was drawn before it
pub record OnePhase (a : ℕ → ℕ → Float) (k rows : ℕ) (rng : SplitMix64) (numbers x : List Float) (free : List ℕ) (r : Phased)
    (numbers' x' : List Float) (free' : List ℕ) : Type 0 where
  pub goes : (d : ℕ) → between rows numbers' x' free' r.at.rng (d + r.directions)
      ≡ phased plus_zero a k rows (between rows numbers x free rng d)
