-- What `Station::trap` has to show.
use Rattle.std.proofs.lemmas.Grind.{common_steps}
use Rattle.std.proofs.Common.{◌≡◌, ◌∙◌, ◌≤◌, ◌*◌, All, List, length, sym, ap, subst, arith}
use Rattle.page_model.specs.declared.parts.Counts.{Counts}
use Rattle.page_model.specs.declared.parts.PageParts.{PageParts}
use Rattle.page_model.specs.declared.parts.Plane.{Plane}
use Rattle.page_model.specs.Conditions.{IsPlane}
use Rattle.page_model.specs.Limits.{most_samples}
use Rattle.page_model.specs.Page.{plates}
use Rattle.page_model.specs.Tints.{trapped_planes}
use Rattle.trap_report.specs.Report.{AreCounts, report_of}
use Rattle.trap_report.proofs.ReportLemmas.{as_many_planes, counts_fit}
use Rattle.trap_pool.proofs.station.Station.trap.Goals as goal

pub report-requires : goal.report-requires
report-requires c = subst (λ (counts : Counts). AreCounts c.args.page counts) (sym c.in-Ok.ensures) (counts_fit c.args.page)

pub returns : goal.returns
returns c =
    let planes : c.replace-planes.result ≡ trapped_planes c.args.page = c.replace-planes.ensures.value ∙ c.trap.ensures.planes in
    let many : length c.replace-planes.result ≡ plates c.args.page = ap (λ (ps : List Plane). length ps) planes ∙ as_many_planes c.args.page in
    let few : plates c.args.page ≤ 16 = subst (λ (page : PageParts). plates page ≤ 16) c.into_parts-planes.ensures.parts c.into_parts-planes.ensures.valid.parts.few_plates in
    record {
      trap = record { planes = planes; counts = c.in-Ok.ensures };
      ready = record {
        text_is = c.in-Ok-report.ensures ∙ ap (report_of c.args.page) c.in-Ok.ensures;
        few = omega arith;
        planes_in_range = subst (All IsPlane) (sym planes) c.trapped_planes_law.ensures.planes;
        few_samples = subst (All (λ (plane : Plane). plane.width * plane.height ≤ most_samples)) (sym planes) c.trapped_planes_law.ensures.samples;
      };
    }

pub invariant_of-self : goal.invariant_of-self
invariant_of-self c = grind (arith, common_steps)

pub counts_of-requires : goal.counts_of-requires
counts_of-requires c = grind (arith, common_steps)
