-- The loops of objects_in: the objects that tokens begin.
use Rattle.std.proofs.Common.{◌≡◌, ◌+◌, ◌≤◌, length, drop}
use Rattle.std.specs.Prelude.{reverse}
use Rattle.ps_tokens.specs.Objects.{AreEnds, objects_in}
use Rattle.ps_tokens.proofs.reader.objects_in.Given as goal

-- the objects of the tokens from this one on, the last first
abbrev pub invariant-loop-left : goal.invariant-loop-left
invariant-loop-left l = record {
  within : l.left ≤ length l.tokens;
  size : length l.objects.items + l.left ≤ length l.tokens;
  so_far : l.objects.items ≡ reverse (objects_in l.bytes (drop l.left l.tokens));
  ends_so_far : AreEnds (reverse l.ends.items) (length l.objects.items) (drop l.left l.tokens);
}

abbrev pub decreases-loop-left : goal.decreases-loop-left
decreases-loop-left l = l.left
