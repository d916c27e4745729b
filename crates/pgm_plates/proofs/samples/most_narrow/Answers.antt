-- What `most_narrow` has to show.
use Rattle.std.proofs.Common.{rules}
use Rattle.pgm_plates.proofs.Pieces.{most_more, fit_end}
use Rattle.pgm_plates.proofs.samples.most_narrow.Goals as goal

pub loop-byte-preserved : goal.loop-byte-preserved
loop-byte-preserved c = most_more c.args.bytes.now c.loop-byte.byte-index c.loop-byte.most c.max-most.result (search rules) (search rules) c.loop-byte.invariant

pub returns : goal.returns
returns c = fit_end c.loop-byte.most c.args.bytes.now c.loop-byte.byte-index (search rules) c.loop-byte.invariant
