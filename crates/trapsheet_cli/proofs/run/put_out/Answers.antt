-- put_out: traps a sheet and writes its files.
use Rattle.std.proofs.Common.{◌≤◌, ℕ, List, length, ap, sym, ◌∙◌, subst}
use Rattle.std.specs.List.{All}
use Rattle.page_model.specs.declared.parts.Plane.{Plane}
use Rattle.page_model.specs.Limits.{most_maxval}
use Rattle.sheet_files.proofs.OutcomeLemmas.{trapped_count}
use Rattle.sheet_stream.proofs.SheetTints.{maxvals_fit, tints_fit}
use Rattle.trapsheet_cli.proofs.run.put_out.Goals as goal

pub put_outcome-requires-clause-can : goal.put_outcome-requires-clause-can
put_outcome-requires-clause-can g c = record {
  maxvals = subst (λ (ps : List Plane). All (λ (plane : Plane). plane.maxval ≤ most_maxval) ps) (sym c.in-Ok.ensures.planes) (maxvals_fit c.args.parts c.requires.sheet);
  fits = subst (λ (ps : List Plane). All (λ (plane : Plane). All (λ (t : ℕ). t ≤ plane.maxval) plane.tints) ps) (sym c.in-Ok.ensures.planes) (tints_fit c.args.parts c.requires.sheet);
}

pub put_outcome-requires-clause-count : goal.put_outcome-requires-clause-count
put_outcome-requires-clause-count g c = ap (λ (ps : List Plane). length ps) c.in-Ok.ensures.planes ∙ trapped_count c.args.parts ∙ c.requires.count

pub returns : goal.returns
returns g c = c.put_outcome.ensures c.args.parts c.in-Ok.ensures.planes c.in-Ok.ensures.report
