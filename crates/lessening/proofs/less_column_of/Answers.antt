-- `lessening::less_column_of` meets its contract: what is added has the minus.
use mathlib.Core.Path.{◌∙◌}
use lib.ListN.{length}
use Rattle.limits.specs.Reading.{read_of}
use Rattle.staying.specs.Scaling.{scaled_by}
use Rattle.columns.proofs.Turned.{less_is_plus}
use Rattle.lessening.proofs.less_column_of.Goals as goal

pub returns : goal.returns
returns c =
    let a = c.args in
    c.add_column_of.ensures
    ∙ less_is_plus (scaled_by (read_of a.matrix.now a.bits.now a.n a.j) a.n a.s) a.t a.ax.now (length a.ax.now)
