-- keep_tile_in: the marks are those of the page.
use Rattle.std.proofs.Common.{sym, subst}
use Rattle.keep_sheets.specs.KeepSums.{AreMarks}
use Rattle.keep_sheets.proofs.WorkspaceLemmas.{cover_marks}
use Rattle.keep_sheets.proofs.tile.keep_tile_in.Goals as goal

pub add_core-requires-clause-marks : goal.add_core-requires-clause-marks
add_core-requires-clause-marks c = subst (AreMarks c.args.page.now c.args.used.now) (sym c.marks-marks.ensures) (cover_marks c.args.page.now c.args.used.now c.keep.new.self.cover c.keep.ensures.cover)
