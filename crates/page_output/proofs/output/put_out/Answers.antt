-- put_out: traps the page and writes its files, and gives the receipt.
use Rattle.std.proofs.Common.{List, Result, All, length, map, refl, ap, sym, ◌∙◌, subst}
use Rattle.std.proofs.lemmas.List.{length-map}
use Rattle.page_model.specs.declared.parts.Plane.{Plane}
use Rattle.page_model.specs.Conditions.{IsPlane}
use Rattle.common_errors.specs.declared.common.CommonError.{CommonError}
use Rattle.page_output.specs.Output.{PutsOut, targets}
use Rattle.page_output.proofs.OutcomeLemmas.{handed, not_put_out, puts_out}
use Rattle.trap_report.proofs.ReportLemmas.{as_many_planes}
use Rattle.page_output.proofs.output.put_out.Goals as goal

pub returns-in_default : goal.returns-in_default
returns-in_default g c = not_put_out c.args.order.now.band (targets (map g.S.AsStr.text c.args.order.now.outputs.now) c.args.order.now.report.now) c.args.page.now (g.R.Rack.state c.args.rack.now) c.plates-valid.ensures.valid

pub write_page-requires-clause-count : goal.write_page-requires-clause-count
write_page-requires-clause-count g c = ap (λ (ps : List Plane). length ps) c.in-Ok.ensures.planes ∙ as_many_planes c.args.page.now ∙ c.requires.count

pub write_page-requires-clause-planes : goal.write_page-requires-clause-planes
write_page-requires-clause-planes g c = subst (λ (ps : List Plane). All IsPlane ps) (sym c.in-Ok.ensures.planes) c.trapped_planes_law.ensures.planes

pub returns-in-Ok-write_page : goal.returns-in-Ok-write_page
returns-in-Ok-write_page g c =
    let outputs = map g.S.AsStr.text c.args.order.now.outputs.now in
    let report = c.args.order.now.report.now in
    let count = ap (λ (ps : List Plane). length ps) c.in-Ok.ensures.planes ∙ as_many_planes c.args.page.now ∙ c.requires.count ∙ sym (length-map c.args.order.now.outputs.now g.S.AsStr.text) in
    let out = puts_out c.args.order.now.band (targets outputs report) c.args.page.now outputs c.in-Ok.outcome.planes c.as_slice.result.now c.in-Ok.outcome.receipt (g.R.Rack.state c.args.rack.now) (g.R.Rack.state c.write_page.new.rack) c.write_page.result c.plates-valid.ensures.valid c.in-Ok.ensures.receipt count refl c.in-Ok.ensures.planes (c.as_slice.ensures ∙ c.in-Ok.ensures.report) c.write_page.ensures in
    subst (λ (r : Result (Unit {0}) CommonError). PutsOut c.args.order.now.band (targets outputs report) c.args.page.now (g.R.Rack.state c.args.rack.now) (g.R.Rack.state c.write_page.new.rack) (handed c.in-Ok.outcome.receipt r)) c.in-Ok-write_page.is out

pub returns-in-Err : goal.returns-in-Err
returns-in-Err g c =
    let outputs = map g.S.AsStr.text c.args.order.now.outputs.now in
    let report = c.args.order.now.report.now in
    let count = ap (λ (ps : List Plane). length ps) c.in-Ok.ensures.planes ∙ as_many_planes c.args.page.now ∙ c.requires.count ∙ sym (length-map c.args.order.now.outputs.now g.S.AsStr.text) in
    let out = puts_out c.args.order.now.band (targets outputs report) c.args.page.now outputs c.in-Ok.outcome.planes c.as_slice.result.now c.in-Ok.outcome.receipt (g.R.Rack.state c.args.rack.now) (g.R.Rack.state c.write_page.new.rack) c.write_page.result c.plates-valid.ensures.valid c.in-Ok.ensures.receipt count refl c.in-Ok.ensures.planes (c.as_slice.ensures ∙ c.in-Ok.ensures.report) c.write_page.ensures in
    subst (λ (r : Result (Unit {0}) CommonError). PutsOut c.args.order.now.band (targets outputs report) c.args.page.now (g.R.Rack.state c.args.rack.now) (g.R.Rack.state c.write_page.new.rack) (handed c.in-Ok.outcome.receipt r)) c.in-Err.is out
