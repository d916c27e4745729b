-- What `cut_some` has to show.
use Rattle.std.proofs.Common.{ℕ, ◌/◌, ◌%◌, List, slice_index, ap, ◌∙◌, arith}
use Rattle.band_core.proofs.Lanes.{lane_fits, lane_next, one_written}
use Rattle.band_core.proofs.Numbers.{as_many, one_set}
use Rattle.band_core.proofs.packing.cut_some.Goals as goal

pub from_u64-requires : goal.from_u64-requires
from_u64-requires g c = lane_fits c.loop-j.rest _ c.args.bits g.V.CellValue.width c.loop-j.invariant.base c.requires.fits

pub loop-j-preserved : goal.loop-j-preserved
loop-j-preserved g c =
    let v = c.loop-j.invariant in let met = g.met.V.CellValue.each in record {
      base = v.base;
      left = (λ i. v.left i / v.base i) ∙ lane_next c.args.bits c.args.packed c.loop-j.j;
      written = λ h l. ap (λ (ns : List ℕ). slice_index ns h) (one_set met c.loop-j.out c.loop-j.j c.from_u64.result)
          ∙ one_written (g.V.CellValue.numbers c.loop-j.out) c.args.bits c.args.packed c.loop-j.j _ (omega (arith, c.loop-j-test.true, c.loop-j.auto.out, as_many met c.loop-j.out)) (c.from_u64.ensures ∙ (λ i. v.left i % v.base i)) v.written h l;
    }
