-- put_scaled: writes the new tints of p, which e traps.
use Rattle.std.proofs.Common.{arith}
use Rattle.std.proofs.lemmas.List.{length-set}
use Rattle.trap_color.proofs.TintLemmas.{more}
use Rattle.trap_color.proofs.sample.put_scaled.Goals as goal

pub loop-c-preserved : goal.loop-c-preserved
loop-c-preserved c = record {
  end = c.loop-c.invariant.end;
  len = grind (arith, length-set);
  done = more _ _ _ _ (omega arith) c.new_at.ensures c.loop-c.invariant.done;
}
