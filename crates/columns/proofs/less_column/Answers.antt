-- `columns::less_column` meets its contract: what is added has the minus.
use mathlib.Core.Path.{◌∙◌}
use lib.ListN.{length}
use Rattle.columns.specs.Columns.{scaled_at}
use Rattle.columns.proofs.Turned.{less_is_plus}
use Rattle.columns.proofs.less_column.Goals as goal

pub returns : goal.returns
returns c =
    let a = c.args in
    c.add_column.ensures ∙ less_is_plus (scaled_at a.column.now a.s) a.t a.ax.now (length a.ax.now)
