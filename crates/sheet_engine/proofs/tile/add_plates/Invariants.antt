-- The loops of add_plates: adds for each plate how many of these samples of row y change.
use Rattle.page_model.specs.Page.{plates}
use Rattle.sheet_geometry.specs.Areas.{changes_plate, traps}
use Rattle.sheet_engine.specs.Growth.{row_sum}
use Rattle.sheet_engine.proofs.Growing.{AreGrowing}
use Rattle.sheet_engine.proofs.tile.add_plates.Given as goal

abbrev pub invariant-loop-c : goal.invariant-loop-c
invariant-loop-c l = AreGrowing (plates l.page) l.c (λ c. row_sum (changes_plate traps c l.page) l.y l.left l.wide) l.fn.counts l.counts
