-- kept_of: the page with its inks drawn back.
use Rattle.std.proofs.Common.{◌≤◌, ◌*◌, ◌∙◌, All, List, ap, length, sym, subst}
use Rattle.page_model.specs.declared.parts.Plane.{Plane}
use Rattle.page_model.specs.Conditions.{IsPlane}
use Rattle.page_model.specs.Limits.{most_samples}
use Rattle.keep_words.specs.Stored.{keep_in}
use Rattle.trapkeep_cli.proofs.UseLemmas.{reaches}
use Rattle.trapkeep_cli.proofs.page.kept_of.Goals as goal

pub keep_page-requires : goal.keep_page-requires
keep_page-requires c = reaches (keep_in c.args.command.now) c.args.page.now c.in_ok-used.used c.in_ok-used.ensures c.requires.narrow

pub returns : goal.returns
returns c =
    let same = c.in_ok-kept.ensures.planes in
    record {
      used = c.in_ok-used.used;
      is = c.in_ok-used.ensures;
      planes_are = same;
      report_is = c.in_ok-kept.ensures.report;
      in_range = subst (λ (planes : List Plane). All IsPlane planes) (sym same) c.kept_planes_law.ensures.planes;
      small = subst (λ (planes : List Plane). All (λ (plane : Plane). plane.width * plane.height ≤ most_samples) planes) (sym same) c.kept_planes_law.ensures.samples;
      as_many = ap (λ (planes : List Plane). length planes) same ∙ c.kept_planes_law.ensures.count;
    }
