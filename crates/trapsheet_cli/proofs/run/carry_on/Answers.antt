-- carry_on: judges the sheet, reads it once more, traps it and writes its files.
use Rattle.std.proofs.lemmas.Result.{err_from_is_err_and}
use Rattle.std.proofs.Common.{ℕ, List, map, sym, ◌∙◌, subst}
use Rattle.trapsheet_cli.specs.Stored.{order_in}
use Rattle.trapsheet_cli.specs.Planned.{PutsPlanned}
use Rattle.trapsheet_cli.specs.Files.{sources_of, targets_of}
use Rattle.trapsheet_cli.proofs.CarryLemmas.{as_many_files, carries_on, not_judged, ready}
use Rattle.trapsheet_cli.proofs.run.carry_on.Goals as goal

pub put_planned-requires-clause-valid : goal.put_planned-requires-clause-valid
put_planned-requires-clause-valid g c κs alive =
    (ready (sources_of (order_in c.args.order.now)) c.args.budget.now (map g.T.Tray.state c.args.trays.now) (map g.T.Tray.state c.judge.new.trays) c.in_ok-planned.planned c.in_ok-planned.ensures).is.valid

pub put_planned-requires-clause-blank : goal.put_planned-requires-clause-blank
put_planned-requires-clause-blank g c κs alive =
    (ready (sources_of (order_in c.args.order.now)) c.args.budget.now (map g.T.Tray.state c.args.trays.now) (map g.T.Tray.state c.judge.new.trays) c.in_ok-planned.planned c.in_ok-planned.ensures).is.blank

pub put_planned-requires-clause-plan : goal.put_planned-requires-clause-plan
put_planned-requires-clause-plan g c κs alive =
    (ready (sources_of (order_in c.args.order.now)) c.args.budget.now (map g.T.Tray.state c.args.trays.now) (map g.T.Tray.state c.judge.new.trays) c.in_ok-planned.planned c.in_ok-planned.ensures).is.plan

pub put_planned-requires-clause-inputs : goal.put_planned-requires-clause-inputs
put_planned-requires-clause-inputs g c κs alive =
    let source = sources_of (order_in c.args.order.now) in
    let a = map g.T.Tray.state c.args.trays.now in
    let b = map g.T.Tray.state c.judge.new.trays in
    as_many_files source c.args.budget.now a b c.in_ok-planned.planned (ready source c.args.budget.now a b c.in_ok-planned.planned c.in_ok-planned.ensures) c.args.inputs.now c.requires.inputs.named

pub put_planned-requires-clause-count : goal.put_planned-requires-clause-count
put_planned-requires-clause-count g c κs alive =
    let source = sources_of (order_in c.args.order.now) in
    let a = map g.T.Tray.state c.args.trays.now in
    let b = map g.T.Tray.state c.judge.new.trays in
    sym c.requires.inputs.count ∙ as_many_files source c.args.budget.now a b c.in_ok-planned.planned (ready source c.args.budget.now a b c.in_ok-planned.planned c.in_ok-planned.ensures) c.args.inputs.now c.requires.inputs.named

pub returns : goal.returns
returns g c =
    let order = order_in c.args.order.now in
    let a = map g.T.Tray.state c.args.trays.now in
    let b = map g.T.Tray.state c.judge.new.trays in
    let r = map g.R.Rack.state c.args.racks.now in
    carries_on c.sheet_is_reread.ensures c.no_change.ensures order c.args.budget.now a b r c.in_ok-planned.planned (ready (sources_of order) c.args.budget.now a b c.in_ok-planned.planned c.in_ok-planned.ensures)
    (map g.T.Tray.state c.put_planned.new.trays) (map g.R.Rack.state c.put_planned.new.racks) c.put_planned.result
    (subst (λ (inputs : List (List ℕ)). PutsPlanned (targets_of order) inputs c.in_ok-planned.planned.outline b (map g.T.Tray.state c.put_planned.new.trays) r (map g.R.Rack.state c.put_planned.new.racks) c.put_planned.result) c.requires.inputs.named c.put_planned.ensures)

pub returns-in_err-planned : goal.returns-in_err-planned
returns-in_err-planned g c =
    let p = err_from_is_err_and c.from_residual.result c.from_residual.ensures.1 in
    rw (p.1, p.2) (not_judged (order_in c.args.order.now) c.args.budget.now (map g.T.Tray.state c.args.trays.now) (map g.T.Tray.state c.judge.new.trays) (map g.R.Rack.state c.args.racks.now) c.in_err-planned.field-0.0 c.in_err-planned.ensures)
