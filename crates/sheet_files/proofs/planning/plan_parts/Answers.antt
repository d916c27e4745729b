-- plan_parts: these parts with their plan, or the sheet's error.
use Rattle.std.proofs.Common.{refl}
use Rattle.sheet_files.specs.Planning.{PlansParts}
use Rattle.sheet_files.proofs.planning.plan_parts.Goals as goal

pub returns-in-Ok : goal.returns-in-Ok
returns-in-Ok c = PlansParts.planned _ refl refl c.in-Ok.ensures.valid c.in-Ok.ensures.accepted c.in-Ok.ensures.plan

pub returns-in-Err : goal.returns-in-Err
returns-in-Err c = PlansParts.refused c.in-Err.common_error refl c.in-Err.ensures.refused
