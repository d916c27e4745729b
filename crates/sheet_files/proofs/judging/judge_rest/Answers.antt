-- judge_rest: judges the plates after the job, and the sheet of both.
use Rattle.std.proofs.lemmas.Grind.{common_steps}
use Rattle.std.proofs.Common.{◌≤◌, ℕ, List, length, map, take, subst, sym, arith}
use Rattle.pgm_plates.specs.declared.header.Header.{Header}
use Rattle.page_files.specs.Inputs.{sources}
use Rattle.sheet_files.specs.Planning.{CanPlan, PlansSheet}
use Rattle.sheet_files.proofs.GatherLemmas.{as_many}
use Rattle.sheet_files.proofs.JudgeLemmas.{can_plan, plate_refused, sheet_judged}
use Rattle.sheet_files.proofs.judging.judge_rest.Goals as goal

pub plan_headers-requires-clause-headers : goal.plan_headers-requires-clause-headers
plan_headers-requires-clause-headers g c =
    let inputs = map g.S.AsStr.text c.args.inputs.now in
    let many = as_many g.S.AsStr.text c.args.inputs.now in
    let headers : List Header = c.judge_plates.new.headers in
    let long : length inputs ≤ length headers = (let e = c.judge_plates.auto.headers in let few = c.requires.few in omega (arith, many, few, e)) in
    let b = map g.T.Tray.state c.args.trays.now in
    let d = map g.T.Tray.state c.judge_plates.new.trays in
    subst (λ (n : ℕ). CanPlan (take n headers) c.args.names.now) many
    (can_plan c.args.names.now inputs headers b d (c.plates_judged.ensures.ends inputs headers b d long c.in-Ok.ensures) (omega (arith, many)) (omega (arith, many)) (omega (arith, many)))

pub returns-in-Ok : goal.returns-in-Ok
returns-in-Ok g c name before first =
    let inputs = map g.S.AsStr.text c.args.inputs.now in
    let many = as_many g.S.AsStr.text c.args.inputs.now in
    let headers : List Header = c.judge_plates.new.headers in
    let long : length inputs ≤ length headers = (let e = c.judge_plates.auto.headers in let few = c.requires.few in omega (arith, many, few, e)) in
    let b = map g.T.Tray.state c.args.trays.now in
    let d = map g.T.Tray.state c.judge_plates.new.trays in
    sheet_judged (sources name c.args.names.now inputs) c.args.budget.now headers before b d c.args.job (omega (arith, many)) (omega (arith, many)) first (c.plates_judged.ensures.ends inputs headers b d long c.in-Ok.ensures) c.plan_headers.result
    (subst (λ (n : ℕ). PlansSheet c.args.budget.now c.args.job (take n headers) c.args.names.now c.plan_headers.result) (sym many) c.plan_headers.ensures)

pub returns-in-Err : goal.returns-in-Err
returns-in-Err g c name before first =
    let inputs = map g.S.AsStr.text c.args.inputs.now in
    let many = as_many g.S.AsStr.text c.args.inputs.now in
    let headers : List Header = c.judge_plates.new.headers in
    let long : length inputs ≤ length headers = (let e = c.judge_plates.auto.headers in let few = c.requires.few in omega (arith, many, few, e)) in
    plate_refused c.plates_judged.ensures.stops c.file_fault_within.ensures (sources name c.args.names.now inputs) c.args.budget.now headers before (map g.T.Tray.state c.args.trays.now) (map g.T.Tray.state c.judge_plates.new.trays) c.args.job c.in-Err.common_error (omega (arith, many)) (omega (arith, many)) long first c.in-Err.ensures

pub slice_bounds-plan_headers-end : goal.slice_bounds-plan_headers-end
slice_bounds-plan_headers-end g c = grind (arith, common_steps)
