-- What `plan_by` has to show.
use Rattle.std.proofs.lemmas.Grind.{common_steps}
use Rattle.std.proofs.Common.{arith}
use Rattle.page_model.specs.Page.{plates}
use Rattle.sheet_geometry.proofs.SizeLemmas.{least_few}
use Rattle.sheet_geometry.proofs.plan.plan_by.Goals as goal

pub rulers_of-requires-else-samples-le-MOST_SAMPLES-clause-few_samples : goal.rulers_of-requires-else-samples-le-MOST_SAMPLES-clause-few_samples
rulers_of-requires-else-samples-le-MOST_SAMPLES-clause-few_samples c =
    let least = c.requires.least in
    let columns = least.columns_are in
    let near = least.near in
    let short = least.short in
    least_few c.args.least.columns (plates c.args.sheet.now) (omega (arith, columns, near, short)) c.requires.sheet.parts.few_plates

pub returns-else-samples-le-MOST_SAMPLES : goal.returns-else-samples-le-MOST_SAMPLES
returns-else-samples-le-MOST_SAMPLES c = grind (arith, common_steps)

pub returns-then-samples-le-MOST_SAMPLES : goal.returns-then-samples-le-MOST_SAMPLES
returns-then-samples-le-MOST_SAMPLES c = grind (arith, common_steps)

pub rulers_of-requires-else-samples-le-MOST_SAMPLES-clause-least : goal.rulers_of-requires-else-samples-le-MOST_SAMPLES-clause-least
rulers_of-requires-else-samples-le-MOST_SAMPLES-clause-least c = grind (arith, common_steps)

pub rulers_of-requires-clause-least : goal.rulers_of-requires-clause-least
rulers_of-requires-clause-least c = grind (arith, common_steps)

pub rulers_of-requires-clause-few_samples : goal.rulers_of-requires-clause-few_samples
rulers_of-requires-clause-few_samples c = grind (arith, common_steps)
