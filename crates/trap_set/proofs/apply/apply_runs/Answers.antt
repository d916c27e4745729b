-- apply_runs: applies the runs after the page line.
use Rattle.std.proofs.Common.{refl, ap, arith}
use Rattle.trap_set.specs.Bytes.{stored_in}
use Rattle.trap_set.specs.Reading.{head_in, run_in}
use Rattle.trap_set.specs.declared.steps.Place.{Place}
use Rattle.trap_set.proofs.StandLemmas.{standing_none, standing_more, ends_there, bad_there, fault_there, fit_still, full_still}
use Rattle.trap_set.proofs.apply.apply_runs.Goals as goal

pub loop-planes-init : goal.loop-planes-init
loop-planes-init g c = record {
  begun = c.requires.begun;
  within = c.requires.within;
  workspace = c.requires.workspace;
  many = c.requires.many;
  standing = standing_none (head_in c.args.head) _ c.args.planes.now (g.T.Tray.state c.args.tray.now) (stored_in c.args.buf.now c.args.unread.now) c.requires.head refl refl;
}

pub put_run-requires-clause-fits : goal.put_run-requires-clause-fits
put_run-requires-clause-fits g c = fit_still (head_in c.args.head) c.loop-planes.place c.loop-planes.number c.args.planes.now c.loop-planes.planes (g.T.Tray.state c.args.tray.now) (g.T.Tray.state c.loop-planes.tray) (g.T.Tray.state c.loop-planes.tray) (stored_in c.args.buf.now c.args.unread.now) (stored_in c.loop-planes.buf c.loop-planes.unread) (stored_in c.loop-planes.buf c.loop-planes.unread) c.requires.head c.requires.fits c.loop-planes.invariant.standing

pub put_run-requires-clause-full : goal.put_run-requires-clause-full
put_run-requires-clause-full g c = full_still (head_in c.args.head) c.loop-planes.place c.loop-planes.number c.args.planes.now c.loop-planes.planes (g.T.Tray.state c.args.tray.now) (g.T.Tray.state c.loop-planes.tray) (g.T.Tray.state c.loop-planes.tray) (stored_in c.args.buf.now c.args.unread.now) (stored_in c.loop-planes.buf c.loop-planes.unread) (stored_in c.loop-planes.buf c.loop-planes.unread) c.requires.head c.requires.fits c.loop-planes.invariant.standing c.requires.full

pub put_run-requires-clause-run : goal.put_run-requires-clause-run
put_run-requires-clause-run g c = (c.in-Ok-Run.ensures.run c.in-Ok-Run.field-0-is).0

pub end_of-place-requires-clause-small : goal.end_of-place-requires-clause-small
end_of-place-requires-clause-small g c = omega (arith, (c.in-Ok-Run.ensures.run c.in-Ok-Run.field-0-is).0.in_row, c.requires.head.narrow)

pub returns-in-Ok-End : goal.returns-in-Ok-End
returns-in-Ok-End g c = ends_there (head_in c.args.head) c.loop-planes.place c.loop-planes.number c.args.planes.now c.loop-planes.planes (g.T.Tray.state c.args.tray.now) (g.T.Tray.state c.loop-planes.tray) (g.T.Tray.state c.read_next.new.tray) (stored_in c.args.buf.now c.args.unread.now) (stored_in c.loop-planes.buf c.loop-planes.unread) (stored_in c.read_next.new.buf c.read_next.new.unread) c.requires.head c.requires.fits c.loop-planes.invariant.standing
    (g.T.Tray.state c.end_set.new.tray) c.end_set.result (rw c.in-Ok-End.field-0-is at c.in-Ok-End.ensures.line) c.end_set.ensures

pub returns-in-Ok-Bad : goal.returns-in-Ok-Bad
returns-in-Ok-Bad g c = bad_there (head_in c.args.head) c.loop-planes.place c.loop-planes.number c.args.planes.now c.loop-planes.planes (g.T.Tray.state c.args.tray.now) (g.T.Tray.state c.loop-planes.tray) (g.T.Tray.state c.read_next.new.tray) (stored_in c.args.buf.now c.args.unread.now) (stored_in c.loop-planes.buf c.loop-planes.unread) (stored_in c.read_next.new.buf c.read_next.new.unread) c.requires.head c.requires.fits c.loop-planes.invariant.standing (rw c.in-Ok-Bad.field-0-is at c.in-Ok-Bad.ensures.line)

pub returns-in-Err : goal.returns-in-Err
returns-in-Err g c = fault_there (head_in c.args.head) c.loop-planes.place c.loop-planes.number c.args.planes.now c.loop-planes.planes (g.T.Tray.state c.args.tray.now) (g.T.Tray.state c.loop-planes.tray) (g.T.Tray.state c.read_next.new.tray) (stored_in c.args.buf.now c.args.unread.now) (stored_in c.loop-planes.buf c.loop-planes.unread) (stored_in c.read_next.new.buf c.read_next.new.unread) c.requires.head c.requires.fits c.loop-planes.invariant.standing c.in-Err.field-0 c.in-Err.ensures.line

pub loop-planes-preserved : goal.loop-planes-preserved
loop-planes-preserved g c =
    let is = c.in-Ok-Run.ensures.run c.in-Ok-Run.field-0-is in
    record {
      begun = c.in-Ok-Run.ensures.line.begun;
      within = c.in-Ok-Run.ensures.within;
      workspace = omega (arith, c.loop-planes.invariant.workspace);
      many = omega (arith, c.loop-planes.invariant.many);
      standing = standing_more (head_in c.args.head) c.loop-planes.place c.end_of-place.result c.loop-planes.number c.args.planes.now c.loop-planes.planes c.put_run.new.planes (g.T.Tray.state c.args.tray.now) (g.T.Tray.state c.loop-planes.tray) (g.T.Tray.state c.read_next.new.tray) (stored_in c.args.buf.now c.args.unread.now) (stored_in c.loop-planes.buf c.loop-planes.unread) (stored_in c.read_next.new.buf c.read_next.new.unread) (run_in c.read_next.new.numbers) c.loop-planes.invariant.standing is.0 is.1 (ap (λ (p : Place). p.row) c.end_of-place.ensures) (ap (λ (p : Place). p.column) c.end_of-place.ensures) (rw c.in-Ok-Run.field-0-is at c.in-Ok-Run.ensures.line) c.put_run.ensures;
    }
