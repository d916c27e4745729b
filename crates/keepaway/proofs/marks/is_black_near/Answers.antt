-- is_black_near: whether a black pixel is in a block or touches it.
use Rattle.std.proofs.Common.{◌≡◌, ℕ, ◌+◌, ◌*◌, slice_index, subst, ap, ◌∙◌, inl, inr, arith}
use Rattle.std.proofs.lemmas.Bool.{cases_lt}
use Rattle.keepaway.specs.Keepaway.{level}
use Rattle.keepaway.proofs.MarkLemmas.{not_covered}
use Rattle.keepaway.proofs.marks.is_black_near.Goals as goal

pub loop-k-preserved : goal.loop-k-preserved
loop-k-preserved c = λ j i in_row begun ended low high black. elim (cases_lt i c.loop-k.k) [
  | inl before ↦ c.loop-k.invariant j i in_row begun ended low before black
  | inr late ↦ let e : i ≡ c.loop-k.k = omega arith in
      let there : slice_index c.row_of.result.now j ≡ level c.args.page.now c.args.limit (record { x = j; y = c.loop-k.k }) =
      c.row_of.ensures.each j (omega (arith, in_row, c.width.ensures.value))
      ∙ ap (λ (w : ℕ). slice_index c.args.levels.now (c.loop-k.k * w + j)) c.width.ensures.value
      ∙ c.requires.levels.each j c.loop-k.k in_row (omega arith) in
      c.has_black.ensures c.if-has_black.false j (omega (arith, in_row, c.row_of.ensures.len, c.width.ensures.value)) begun ended
      (there ∙ subst (λ (n : ℕ). level c.args.page.now c.args.limit (record { x = j; y = n }) ≡ 2) e black)
]

pub returns : goal.returns
returns c = λ no x begun ended. not_covered c.args.page.now c.args.limit x c.args.y (omega arith) c.requires.row
    (λ j k in_row on_page left right low high black. c.loop-k.invariant j k in_row (omega arith) (omega arith) low (omega arith) black)
