use Rattle.std.proofs.Common.{◌≡◌, ℕ, subst, inl, inr, ◌∙◌, arith}
use Rattle.draw_back.specs.Fields.{entry}
use Rattle.std.proofs.lemmas.Bool.{cases_lt}
use Rattle.draw_back.proofs.edge.is_free_near.Goals as goal

pub loop-k-init : goal.loop-k-init
loop-k-init c = λ j i in_row above left right low free. absurd (omega arith)

pub loop-k-preserved : goal.loop-k-preserved
loop-k-preserved c = λ j i in_row above left right low free. elim (cases_lt i c.loop-k.k) [
  | inl l ↦ c.loop-k.invariant j i in_row l left right low free
  | inr l ↦ let e : i ≡ c.loop-k.k = omega arith in
      c.holds.ensures c.if-holds.false j (omega arith) (omega arith)
      (c.marks.ensures.each j in_row ∙ subst (λ (n : ℕ). entry c.args.field.now.marks c.args.field.now.wide j n ≡ 0) e free)
]
