-- count: how many objects a list has that `objects` gave.
use Rattle.std.proofs.Common.{arith}
use Rattle.ps_tokens.proofs.Entries.{length-objects}
use Rattle.ps_tokens.proofs.dictionary.count.Goals as goal

pub overflow_cast-result : goal.overflow_cast-result
overflow_cast-result c = omega (arith, length-objects c.args.objects.now c.requires)

pub returns-clause-few : goal.returns-clause-few
returns-clause-few c = omega (arith, length-objects c.args.objects.now c.requires)
