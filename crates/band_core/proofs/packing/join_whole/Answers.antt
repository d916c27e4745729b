-- join_whole: the values of a whole cell as one number.
use Rattle.std.proofs.lemmas.Grind.{common_steps}
use Rattle.std.proofs.Common.{ℕ, ◌-◌, List, ◌∙◌, arith}
use Rattle.band_core.proofs.Lanes.{next_small, next_sum, under, drop_le}
use Rattle.band_core.proofs.Numbers.{as_many, number_read}
use Rattle.band_core.proofs.packing.join_whole.Goals as goal

pub overflow_mul-sum : goal.overflow_mul-sum
overflow_mul-sum g c =
    let i = c.loop-j.invariant in let vs : List ℕ = g.V.CellValue.numbers c.args.values.now in let same = as_many g.met.V.CellValue.each c.args.values.now in
    omega (arith, next_small c.loop-j.sum _ c.loop-j.j g.row.BITS vs c.requires.bits (omega (arith, same, c.requires.whole, c.requires.few)) c.requires.small c.loop-j-test.true (omega (arith, same, i.within)) i.so_far i.base)

pub overflow_add-sum : goal.overflow_add-sum
overflow_add-sum g c =
    let i = c.loop-j.invariant in let vs : List ℕ = g.V.CellValue.numbers c.args.values.now in let same = as_many g.met.V.CellValue.each c.args.values.now in
    let read = c.to_u64.ensures ∙ number_read g.met.V.CellValue.each c.args.values.now (c.loop-j.j - 1) c.index-values-j.result (omega (arith, c.loop-j-test.true, i.within)) c.index-values-j.is in
    omega (arith, read, next_small c.loop-j.sum _ c.loop-j.j g.row.BITS vs c.requires.bits (omega (arith, same, c.requires.whole, c.requires.few)) c.requires.small c.loop-j-test.true (omega (arith, same, i.within)) i.so_far i.base)

pub loop-j-preserved : goal.loop-j-preserved
loop-j-preserved g c =
    let i = c.loop-j.invariant in let vs : List ℕ = g.V.CellValue.numbers c.args.values.now in let same = as_many g.met.V.CellValue.each c.args.values.now in
    let read = c.to_u64.ensures ∙ number_read g.met.V.CellValue.each c.args.values.now (c.loop-j.j - 1) c.index-values-j.result (omega (arith, c.loop-j-test.true, i.within)) c.index-values-j.is in
    record {
      within = omega (arith, i.within);
      base = i.base;
      so_far = next_sum c.loop-j.sum _ c.loop-j.j g.row.BITS c.to_u64.result vs c.loop-j-test.true (omega (arith, same, i.within)) i.so_far i.base read;
    }

pub returns-clause-bound : goal.returns-clause-bound
returns-clause-bound g c =
    let vs : List ℕ = g.V.CellValue.numbers c.args.values.now in let same = as_many g.met.V.CellValue.each c.args.values.now in
    omega (arith, c.loop-j.invariant.so_far, drop_le g.row.BITS c.loop-j.j vs, under g.row.BITS vs c.requires.bits (omega (arith, same, c.requires.whole, c.requires.few)) c.requires.small)

pub loop-j-init : goal.loop-j-init
loop-j-init g c = grind (arith, common_steps)
