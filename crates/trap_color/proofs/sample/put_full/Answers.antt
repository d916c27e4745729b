-- put_full: writes the new tints of p, which e traps, where the zone scales them by 1.
use Rattle.std.proofs.Common.{arith}
use Rattle.std.proofs.lemmas.List.{length-set}
use Rattle.trap_color.proofs.TintLemmas.{more}
use Rattle.trap_color.proofs.sample.put_full.Goals as goal

pub loop-c-preserved : goal.loop-c-preserved
loop-c-preserved c = record {
  end = c.loop-c.invariant.end;
  len = grind (arith, length-set);
  done = more _ _ _ _ (omega arith) c.full_new.ensures c.loop-c.invariant.done;
}
