-- judge_sheet: reads the job of that name from the first tray, and then each plate in the order of
-- its file, plate k from tray k, to their ends, and judges the sheet that they make; nothing is
-- kept of a plate but its header.
use Rattle.std.proofs.lemmas.Grind.{common_steps}
use Rattle.std.proofs.Common.{◌≤◌, length, map, arith}
use Rattle.page_files.specs.Inputs.{sources}
use Rattle.sheet_files.proofs.GatherLemmas.{as_many, job_refused}
use Rattle.sheet_files.proofs.judging.judge_sheet.Goals as goal

pub returns-in-Ok : goal.returns-in-Ok
returns-in-Ok g c = c.judge_rest.ensures c.args.job.now (map g.T.Tray.state c.args.trays.now) c.in-Ok.ensures

pub returns-in-Err : goal.returns-in-Err
returns-in-Err g c =
    let inputs = map g.S.AsStr.text c.args.inputs.now in
    let some : 1 ≤ length inputs = omega (arith, as_many g.S.AsStr.text c.args.inputs.now) in
    let source = sources c.args.job.now c.args.names.now inputs in
    let a = map g.T.Tray.state c.args.trays.now in
    let b = map g.T.Tray.state c.read_first.new.trays in
    job_refused source c.args.budget.now a b c.in-Err.error some c.in-Err.ensures

pub judge_rest-requires-clause-named : goal.judge_rest-requires-clause-named
judge_rest-requires-clause-named g c = grind (arith, common_steps)

pub judge_rest-requires-clause-job : goal.judge_rest-requires-clause-job
judge_rest-requires-clause-job g c = grind (arith, common_steps)

pub judge_rest-requires-clause-trays : goal.judge_rest-requires-clause-trays
judge_rest-requires-clause-trays g c = grind (arith, common_steps)
