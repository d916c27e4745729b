-- write_bytes: one sample after the other.
use Rattle.std.proofs.Common.{◌≡◌, length, arith, subst, sym}
use Rattle.raster_samples.specs.Runs.{IsRunIn}
use Rattle.raster_samples.proofs.RunLemmas.{byte_put}
use Rattle.raster_samples.proofs.write.write_bytes.Goals as goal

pub loop-x-preserved : goal.loop-x-preserved
loop-x-preserved c =
    let long : length c.loop-x.bytes ≡ length c.args.bytes.now = omega arith in
    byte_put c.args.run c.args.zero c.args.maxval c.args.row.now c.args.bytes.now c.loop-x.bytes (length c.args.row.now) c.loop-x.x c.turn.result (omega arith) (subst (λ n. IsRunIn c.args.run 1 (length c.args.row.now) n) (sym long) c.requires.inside) c.requires.apart c.turn.ensures.value c.loop-x.invariant
