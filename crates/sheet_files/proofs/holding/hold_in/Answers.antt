-- What `hold_in` has to show.
use Rattle.std.proofs.Common.{Err, refl, ap}
use Rattle.sheet_files.specs.declared.error.TrapsheetError.{TrapsheetError}
use Rattle.sheet_files.specs.Holding.{HoldsAll}
use Rattle.sheet_files.proofs.holding.hold_in.Goals as goal

pub returns-in-Ok : goal.returns-in-Ok
returns-in-Ok g c = HoldsAll.stored c.hold_sheet.new.sheet refl c.in-Ok.ensures

pub returns-in-Err : goal.returns-in-Err
returns-in-Err g c = HoldsAll.stopped c.in-Err.error (ap (λ (e : TrapsheetError). Err e) c.error_of.ensures) c.in-Err.ensures
