-- Goals of page_of_job that want a lemma by name.
use Rattle.std.proofs.lemmas.Grind.{common_steps}
use Rattle.std.proofs.Common.{arith}
use Rattle.trap_c.specs.Sources.{numbers}
use Rattle.trap_c.proofs.PageLemmas.{as_many, planes_full}
use Rattle.trap_c.proofs.page.page_of_job.Goals as goal

pub page_with-requires-clause-count : goal.page_with-requires-clause-count
page_with-requires-clause-count c = as_many c.args.names.now c.args.layout (numbers c.args.source.now) c.in-Ok.copies.planes c.in-Ok.ensures.planes

pub page_with-requires-clause-planes : goal.page_with-requires-clause-planes
page_with-requires-clause-planes c = planes_full c.args.names.now c.args.layout (numbers c.args.source.now) c.in-Ok.copies.planes c.requires.call c.in-Ok.ensures.planes

pub returns-in-Ok-clause-gives : goal.returns-in-Ok-clause-gives
returns-in-Ok-clause-gives c = grind (arith, common_steps)
