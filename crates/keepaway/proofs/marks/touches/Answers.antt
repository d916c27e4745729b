-- touches: whether a black pixel touches one.
use Rattle.std.proofs.Common.{◌≡◌, ◌+◌, ◌-◌, ◌*◌, ◌==◌, ◌&&◌, ◌<◌, ℕ, false, List, length, nat_le, slice_index, sym, ap, subst, ◌∙◌, inl, inr, arith}
use Rattle.std.proofs.lemmas.Bool.{cases_lt}
use Rattle.lists.specs.Words.{any_below, gap}
use Rattle.page_model.specs.declared.parts.PageParts.{PageParts}
use Rattle.page_model.specs.Page.{height, width}
use Rattle.keepaway.specs.Keepaway.{level, touches_row}
use Rattle.keepaway.specs.Rows.{AreLevels}
use Rattle.keepaway.proofs.RowLemmas.{any_below-same, near_some, near_none}
use Rattle.keepaway.proofs.marks.touches.Goals as goal

-- what is found in the row of a list is so of the page
in_row : (page : PageParts) (limit : ℕ) (levels row : List ℕ) (x y : ℕ) → AreLevels page limit levels → y < height page → length row ≡ width page → ((j : ℕ) → j < width page → slice_index row j ≡ slice_index levels (y * width page + j)) → any_below (λ j. nat_le (gap x j) 1 && (slice_index row j == 2)) (length row) ≡ touches_row page limit x y
in_row page limit levels row x y are inside long each =
    ap (any_below (λ j. nat_le (gap x j) 1 && (slice_index row j == 2))) long
    ∙ any_below-same (λ j. nat_le (gap x j) 1 && (slice_index row j == 2)) (λ j. nat_le (gap x j) 1 && (level page limit (record { x = j; y = y }) == 2)) (width page)
    (λ j l. ap (λ (n : ℕ). nat_le (gap x j) 1 && (n == 2)) (each j l ∙ are.each j y l inside))

pub loop-y-preserved : goal.loop-y-preserved
loop-y-preserved c = λ k l m. elim (cases_lt k c.loop-y.y) [
  | inl before ↦ c.loop-y.invariant k l before
  | inr late ↦ let e : c.loop-y.y ≡ k = omega arith in
      subst (λ (n : ℕ). touches_row c.args.page.now c.args.limit c.args.p.x n ≡ false) e
      (sym (in_row c.args.page.now c.args.limit c.args.levels.now c.row_of-row.result.now c.args.p.x c.loop-y.y c.requires.levels (omega arith) (c.row_of-row.ensures.len ∙ c.width.ensures.value)
      (λ j q. c.row_of-row.ensures.each j (omega (arith, q, c.width.ensures.value)) ∙ ap (λ (w : ℕ). slice_index c.args.levels.now (c.loop-y.y * w + j)) c.width.ensures.value))
      ∙ sym c.touches_row.ensures ∙ c.if-touches_row.false)
]

pub returns-then-touches_row : goal.returns-then-touches_row
returns-then-touches_row c =
    sym (near_some c.args.p.y (height c.args.page.now) (touches_row c.args.page.now c.args.limit c.args.p.x) c.loop-y.y (omega arith) (omega arith)
    (sym (in_row c.args.page.now c.args.limit c.args.levels.now c.row_of-row.result.now c.args.p.x c.loop-y.y c.requires.levels (omega arith) (c.row_of-row.ensures.len ∙ c.width.ensures.value)
    (λ j q. c.row_of-row.ensures.each j (omega (arith, q, c.width.ensures.value)) ∙ ap (λ (w : ℕ). slice_index c.args.levels.now (c.loop-y.y * w + j)) c.width.ensures.value))
    ∙ sym c.touches_row.ensures ∙ c.if-touches_row.true))

pub returns : goal.returns
returns c = sym (near_none c.args.p.y (height c.args.page.now) (c.args.p.y - 1) c.min-y-end.result (touches_row c.args.page.now c.args.limit c.args.p.x) (omega arith) (omega arith) (λ k l m. c.loop-y.invariant k l (omega arith)))
