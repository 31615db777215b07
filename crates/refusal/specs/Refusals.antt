-- The numbers of the refusals, as the documents have them.
use Rattle.std.specs.Prelude.{ℕ, Result, Ok, Err}
use Rattle.refusal.specs.declared.Refusal.{Refusal}
use Rattle.refusal.specs.declared.Refusal.TheVariants.{Allowance, InfiniteAllowance, Zero, Edition, Size, Length, Empty, Scratch, Label, SpareBit, Entry, Weight, Sum, ColoringEntry, Buffer}

-- the number of a reason
abbrev pub number_of : Refusal → ℕ
number_of Allowance = 1
number_of InfiniteAllowance = 12
number_of Zero = 2
number_of Edition = 13
number_of Size = 3
number_of Length = 4
number_of Empty = 5
number_of Scratch = 6
number_of Label = 14
number_of SpareBit = 15
number_of Entry = 7
number_of Weight = 8
number_of Sum = 9
number_of ColoringEntry = 11
number_of Buffer = 16

-- the number in what a test answers: 0 where it refuses nothing
abbrev pub number_in : Result Unit Refusal → ℕ
number_in (Ok _) = 0
number_in (Err r) = number_of r
