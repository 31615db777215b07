-- `show`: the title, and behind it the answer, which always fits.
use Rattle.std.proofs.Common.{rules, subst}
use Rattle.std.specs.Io.KnownBytes.{Appends}
use Rattle.std.proofs.KnownBytes.{Appends-trans}
use Rattle.sheet.proofs.Whole.{always_fits}
use Rattle.sheets.proofs.show.Goals as goal

pub returns : goal.returns
returns g c =
    Appends-trans _ _ _ _ _ c.in_ok-write_all.ensures.bytes
    (subst (Appends _ _) (always_fits (search rules) c.thin_sheet-end.ensures).1 c.in_ok-write_all-2.ensures.bytes)
