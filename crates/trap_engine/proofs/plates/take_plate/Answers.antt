-- take_plate: takes plate c out of the cells of a table whose pieces are done, row by row, and
-- tells how many of its samples change.
use Rattle.std.proofs.lemmas.Grind.{common_steps}
use Rattle.std.proofs.Common.{◌∙◌, arith, refl}
use Rattle.page_tally.proofs.CountLemmas.{row_counted}
use Rattle.trap_engine.proofs.TakeLemmas.{changed_fits, none_changed, none_stored, plate_all}
use Rattle.trap_engine.proofs.plates.take_plate.Goals as goal

pub loop-y-init : goal.loop-y-init
loop-y-init g c = record {
  end = c.height-y-end.ensures.value;
  seat = refl;
  row = c.requires.row;
  workspace = c.requires.workspace;
  tints = none_stored c.args.page.now c.args.c c.args.tints.now.items c.requires.none;
  changed = none_changed _ _;
}

pub read_plate-requires-clause-page : goal.read_plate-requires-clause-page
read_plate-requires-clause-page g c = rw c.loop-y.invariant.seat c.requires.page

pub read_plate-requires-clause-layout : goal.read_plate-requires-clause-layout
read_plate-requires-clause-layout g c = rw c.loop-y.invariant.seat c.requires.layout

pub read_plate-requires-clause-fit : goal.read_plate-requires-clause-fit
read_plate-requires-clause-fit g c = rw c.loop-y.invariant.seat c.requires.fit

pub read_plate-requires-clause-known : goal.read_plate-requires-clause-known
read_plate-requires-clause-known g c = rw c.loop-y.invariant.seat c.requires.known

pub add_row-changed-requires-clause-row : goal.add_row-changed-requires-clause-row
add_row-changed-requires-clause-row g c = record { long = c.read_plate.ensures.len ∙ c.loop-y.invariant.row; each = c.read_plate.ensures.tints }

pub add_row-changed-requires-clause-workspace : goal.add_row-changed-requires-clause-workspace
add_row-changed-requires-clause-workspace g c = c.loop-y.invariant.workspace

pub overflow_add-changed : goal.overflow_add-changed
overflow_add-changed g c = omega (arith, changed_fits c.args.page.now c.loop-y.y c.args.c c.loop-y.changed c.add_row-changed.result c.plates-valid.ensures.valid (omega arith) c.add_row-changed.ensures.few c.loop-y.invariant.changed)

pub loop-y-preserved : goal.loop-y-preserved
loop-y-preserved g c = record {
  end = c.loop-y.invariant.end;
  seat = c.read_plate.ensures.seat ∙ c.loop-y.invariant.seat;
  row = c.read_plate.ensures.len ∙ c.loop-y.invariant.row;
  workspace = omega (arith, c.add_row-changed.ensures.workspace, c.loop-y.invariant.workspace);
  tints = c.add_row-changed.ensures.tints;
  changed = row_counted c.args.page.now c.loop-y.y c.args.c c.loop-y.changed c.add_row-changed.result c.loop-y.invariant.changed c.add_row-changed.ensures.count;
}

pub returns-clause-taken : goal.returns-clause-taken
returns-clause-taken g c = plate_all c.args.page.now c.args.c c.loop-y.y c.loop-y.tints.items c.loop-y.changed (omega (arith, c.loop-y.invariant.end, c.loop-y-test.false, c.loop-y.auto.y-end)) c.loop-y.invariant.tints c.loop-y.invariant.changed

pub add_row-changed-requires-clause-tints : goal.add_row-changed-requires-clause-tints
add_row-changed-requires-clause-tints g c = grind (arith, common_steps)
