-- write_marks: one more block of a row.
use Rattle.std.proofs.Common.{◌*◌, ◌∙◌, inl, inr, arith}
use Rattle.std.proofs.lemmas.Bool.{cases_lt}
use Rattle.keepaway.proofs.marks.write_marks.Goals as goal

pub loop-b-preserved : goal.loop-b-preserved
loop-b-preserved c = λ i l m. elim (cases_lt i (c.loop-b.b * 32)) [
  | inl p ↦ c.mark_block.ensures.before i p ∙ c.loop-b.invariant i p m
  | inr p ↦ c.mark_block.ensures.block i p (c.end_of-to.ensures.whole i l (omega (arith, m, c.width-width.ensures.value)))
]
