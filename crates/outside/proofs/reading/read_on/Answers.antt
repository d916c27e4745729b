-- read_on: reads on in the file that is begun.
use Rattle.std.proofs.Common.{take, arith, rules}
use Rattle.std.proofs.lemmas.Grind.{common_steps}
use Rattle.outside.proofs.Taken.{few_taken, few_and_piece, taken_more}
use Rattle.outside.proofs.reading.read_on.Goals as goal

pub returns-clause-few : goal.returns-clause-few
returns-clause-few g c = λ tells. few_taken _ _ c.loop-piece.bytes.items _ (c.loop-piece.invariant.taken tells) c.loop-piece.invariant.size

pub returns-in-Ok-eq0-clause-few : goal.returns-in-Ok-eq0-clause-few
returns-in-Ok-eq0-clause-few g c = λ tells. few_taken _ _ c.loop-piece.bytes.items _ (search rules) c.loop-piece.invariant.size

pub returns-in-Err-extend_from_slice-clause-few : goal.returns-in-Err-extend_from_slice-clause-few
returns-in-Err-extend_from_slice-clause-few g c = λ tells. few_and_piece _ c.in-Ok.count _ c.loop-piece.bytes.items _ c.read.new.buf _ (c.loop-piece.invariant.taken tells) (search rules) (grind (arith, common_steps))

pub loop-piece-preserved : goal.loop-piece-preserved
loop-piece-preserved g c = record {
  keeps = search rules;
  asked = search rules;
  begun = search rules;
  taken = λ tells. taken_more _ c.loop-piece.bytes.items _ (take c.in-Ok.count c.read.new.buf) _ (g.T.Tray.state c.read.new.self) (c.loop-piece.invariant.taken tells) (search rules) (grind (arith, common_steps));
  well = search rules;
  size = grind (arith, common_steps);
}

pub returns-in-Err-extend_from_slice-clause-once : goal.returns-in-Err-extend_from_slice-clause-once
returns-in-Err-extend_from_slice-clause-once g c = grind (arith, common_steps)

pub returns-in-Ok-eq0-clause-taken : goal.returns-in-Ok-eq0-clause-taken
returns-in-Ok-eq0-clause-taken g c = grind (arith, common_steps)

pub loop-piece-smaller : goal.loop-piece-smaller
loop-piece-smaller g c = grind (arith, common_steps)

pub slice_bounds-extend_from_slice-end : goal.slice_bounds-extend_from_slice-end
slice_bounds-extend_from_slice-end g c = grind (arith, common_steps)

pub returns-in-Err-extend_from_slice-clause-reason : goal.returns-in-Err-extend_from_slice-clause-reason
returns-in-Err-extend_from_slice-clause-reason g c = grind (arith, common_steps)

pub returns-in-Ok-eq0-clause-left : goal.returns-in-Ok-eq0-clause-left
returns-in-Ok-eq0-clause-left g c = grind (arith, common_steps)

pub returns-in-Err-clause-few : goal.returns-in-Err-clause-few
returns-in-Err-clause-few g c = grind (arith, common_steps)
