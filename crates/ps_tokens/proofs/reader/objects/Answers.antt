-- objects: the objects that a job's tokens write out.
use Rattle.std.proofs.Common.{ap, arith, length}
use Rattle.ps_tokens.proofs.Counting.{length-tokens}
use Rattle.ps_tokens.proofs.reader.objects.Goals as goal

pub objects_in-requires : goal.objects_in-requires
objects_in-requires c =
    omega (arith, length-tokens c.args.bytes.now c.args.tokens.now c.requires.of_bytes, ap length c.as_slice-tokens.ensures)
