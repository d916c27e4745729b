-- gather_plates: reads the plates after the job, and makes the page of both.
use Rattle.std.proofs.lemmas.Result.{err_from_is_err_and}
use Rattle.std.proofs.Common.{map}
use Rattle.page_files.proofs.GatherLemmas.{can_assemble, page_made, plates_refused, some_inputs}
use Rattle.page_files.proofs.gather.gather_plates.Goals as goal

pub returns : goal.returns
returns g c name first reads =
    page_made c.plane_turns_back.ensures (record { job = name; names = c.args.names.now; inputs = map g.S.AsStr.text c.args.inputs.now }) first (g.T.Tray.state c.args.tray.now) (g.T.Tray.state c.read_plates.new.tray) c.args.job c.in_ok-planes.planes c.assemble_planes.result (some_inputs g.S.AsStr.text c.args.inputs.now c.requires.some) reads c.in_ok-planes.ensures c.assemble_planes.ensures

pub returns-in_err-planes : goal.returns-in_err-planes
returns-in_err-planes g c name first reads =
    let p = err_from_is_err_and c.from_residual.result c.from_residual.ensures.1 in
    rw (p.1, p.2) (plates_refused (record { job = name; names = c.args.names.now; inputs = map g.S.AsStr.text c.args.inputs.now }) first (g.T.Tray.state c.args.tray.now) (g.T.Tray.state c.read_plates.new.tray) c.args.job reads c.in_err-planes.field-0.0 (some_inputs g.S.AsStr.text c.args.inputs.now c.requires.some) c.in_err-planes.ensures)

pub assemble_planes-requires-clause-planes : goal.assemble_planes-requires-clause-planes
assemble_planes-requires-clause-planes g c = can_assemble g.S.AsStr.text c.args.inputs.now (g.T.Tray.state c.args.tray.now) (g.T.Tray.state c.read_plates.new.tray) c.args.names.now c.in_ok-planes.planes c.requires.some c.requires.few c.requires.named c.in_ok-planes.ensures
