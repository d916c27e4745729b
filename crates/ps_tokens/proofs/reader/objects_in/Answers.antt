-- objects_in: the objects that tokens begin.
use Rattle.std.proofs.Common.{arith}
use Rattle.std.proofs.lemmas.Grind.{common_steps}
use Rattle.ps_tokens.proofs.reader.objects_in.Goals as goal

pub put_token-requires-clause-size : goal.put_token-requires-clause-size
put_token-requires-clause-size c = grind (arith, common_steps)

pub put_token-requires-clause-so_far : goal.put_token-requires-clause-so_far
put_token-requires-clause-so_far c = grind (arith, common_steps)

pub put_token-requires-clause-ends_so_far : goal.put_token-requires-clause-ends_so_far
put_token-requires-clause-ends_so_far c = grind (arith, common_steps)

pub loop-left-preserved : goal.loop-left-preserved
loop-left-preserved c = record {
  within = omega arith;
  size = grind (arith, common_steps);
  so_far = grind (arith, common_steps);
  ends_so_far = grind (arith, common_steps);
}

pub returns : goal.returns
returns c = grind (arith, common_steps)

pub loop-left-init : goal.loop-left-init
loop-left-init c = grind (arith, common_steps)
