-- `blocking::block_row` meets its contract: the row is what `row_into` leaves, and `insert` offers it.
use Rattle.blocking.proofs.block_row.Goals as goal

pub returns : goal.returns
returns c = rw (← c.row_into.ensures)
    c.insert.ensures
