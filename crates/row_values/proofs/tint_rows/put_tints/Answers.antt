-- put_tints: puts the new tints of sample x into the row.
use Rattle.std.proofs.Common.{arith}
use Rattle.row_values.proofs.RowLemmas.{put_next}
use Rattle.row_values.proofs.tint_rows.put_tints.Goals as goal

pub loop-c-preserved : goal.loop-c-preserved
loop-c-preserved c = record {
  end = c.loop-c.invariant.end;
  out = put_next c.args.page.now c.args.y c.args.x c.loop-c.c _ c.width-width.result c.loop-c.out c.width-width.ensures.value c.requires.column (omega arith) (c.requires.tints c.loop-c.c (omega arith)) c.loop-c.invariant.out;
}
