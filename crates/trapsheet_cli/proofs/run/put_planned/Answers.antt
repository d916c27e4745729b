-- put_planned: reads a sheet that was judged once more, traps it and writes its files, strip by
-- strip where it can be cut so.
use Rattle.std.proofs.lemmas.Grind.{common_steps}
use Rattle.std.proofs.Common.{arith, subst, sym}
use Rattle.sheet_geometry.specs.Areas.{traps}
use Rattle.sheet_geometry.specs.Planned.{IsPlanFor}
use Rattle.sheet_files.specs.Holding.{CanHold}
use Rattle.trapsheet_cli.specs.Planned.{PutsPlanned}
use Rattle.trapsheet_cli.proofs.PlanLemmas.{hold_page, hold_windows, no_cut, no_strips_by}
use Rattle.trapsheet_cli.proofs.run.put_planned.Goals as goal

pub put_whole-requires-clause-can : goal.put_whole-requires-clause-can
put_whole-requires-clause-can g c κs alive = subst (CanHold c.args.planned.now.outline) (sym c.in-Windows.is) (hold_windows c.args.planned.now.outline c.args.budget.now c.in-Windows._rulers (subst (IsPlanFor traps c.args.planned.now.outline c.args.budget.now) c.in-Windows.is c.requires.plan))

pub put_whole-requires-in-Page-clause-can : goal.put_whole-requires-in-Page-clause-can
put_whole-requires-in-Page-clause-can g c κs alive = subst (CanHold c.args.planned.now.outline) (sym c.in-Page.is) (hold_page c.args.planned.now.outline c.args.budget.now (subst (IsPlanFor traps c.args.planned.now.outline c.args.budget.now) c.in-Page.is c.requires.plan))

pub returns-in-Strips : goal.returns-in-Strips
returns-in-Strips g c = PutsPlanned.streamed c.put_strips.ensures

pub returns-in-Windows : goal.returns-in-Windows
returns-in-Windows g c = PutsPlanned.whole (no_strips_by c.args.planned.now.outline c.args.budget.now c.in-Windows._rulers (subst (IsPlanFor traps c.args.planned.now.outline c.args.budget.now) c.in-Windows.is c.requires.plan)) c.put_whole.ensures

pub returns-in-Page : goal.returns-in-Page
returns-in-Page g c = PutsPlanned.whole (no_cut c.args.planned.now.outline c.args.budget.now (subst (IsPlanFor traps c.args.planned.now.outline c.args.budget.now) c.in-Page.is c.requires.plan)) c.put_whole-in-Page.ensures

pub rulers_for-rulers-requires : goal.rulers_for-rulers-requires
rulers_for-rulers-requires g c = grind (arith, common_steps)
