-- `coloring::search_anew` meets its contract: local search from the product that was just made.
use Rattle.chosen.specs.Entries.{entry_of}
use Rattle.flipping.specs.Search.{searched}
use mathlib.Core.Path.{ap, ◌∙◌}
use lib.ListN.{length}
use Rattle.coloring.proofs.search_anew.Goals as goal

pub local_search-requires : goal.local_search-requires
local_search-requires c =
    (rw c.times_into.auto.acc c.requires.0, c.requires.1)

pub returns : goal.returns
returns c =
    let a = c.args in
    record {
      ends = c.local_search.ensures ∙ ap
          (searched (entry_of a.matrix.now a.bits.now a.n a.cols.now a.scale.now) (length a.cols.now) a.x.now)
          c.times_into.ensures;
    }
