-- touches_bare: whether a pixel without colour touches one.
use Rattle.std.proofs.Common.{◌≡◌, ◌+◌, ◌-◌, ◌*◌, ◌==◌, ◌&&◌, ◌<◌, ℕ, Bool, not, true, false, List, length, nat_le, slice_index, refl, sym, ap, subst, ◌∙◌, inl, inr, arith, if◌then◌else◌}
use Rattle.std.proofs.lemmas.Bool.{cases_lt}
use Rattle.lists.specs.Words.{any_below, gap}
use Rattle.page_model.specs.declared.parts.At.{At}
use Rattle.page_model.specs.declared.parts.PageParts.{PageParts}
use Rattle.page_model.specs.Page.{height, width}
use Rattle.keepaway.proofs.RowLemmas.{any_below-same, near_some, near_none}
use Rattle.underprint.specs.declared.parts.White.{White}
use Rattle.underprint.specs.Lists.{AreColours}
use Rattle.underprint.specs.Underprint.{outline_in_row, has_colour, is_outline}
use Rattle.underprint.proofs.cover.touches_outline.Goals as goal

level_outline : (colour : Bool) → ((if colour then 1 else 0) == 0) ≡ not colour
level_outline true = refl
level_outline false = refl

-- what is found in the row of a list is so of the page
in_row : (page : PageParts) (whites : List White) (levels row : List ℕ) (p : At) (y : ℕ) → AreColours page whites levels → y < height page → length row ≡ width page → ((j : ℕ) → j < width page → slice_index row j ≡ slice_index levels (y * width page + j)) → any_below (λ j. nat_le (gap p.x j) 1 && (not ((y == p.y) && (j == p.x)) && (slice_index row j == 0))) (length row) ≡ outline_in_row page whites p y
in_row page whites levels row p y are inside long each =
    ap (any_below (λ j. nat_le (gap p.x j) 1 && (not ((y == p.y) && (j == p.x)) && (slice_index row j == 0)))) long
    ∙ any_below-same (λ j. nat_le (gap p.x j) 1 && (not ((y == p.y) && (j == p.x)) && (slice_index row j == 0))) (λ j. nat_le (gap p.x j) 1 && is_outline page whites p y j) (width page)
    (λ j l. ap (λ (b : Bool). nat_le (gap p.x j) 1 && (not ((y == p.y) && (j == p.x)) && b))
    (ap (λ (n : ℕ). n == 0) (each j l ∙ are.each j y l inside) ∙ level_outline (has_colour page whites (record { x = j; y = y }))))

pub loop-y-preserved : goal.loop-y-preserved
loop-y-preserved c = λ k l m. elim (cases_lt k c.loop-y.y) [
  | inl before ↦ c.loop-y.invariant k l before
  | inr late ↦ let e : c.loop-y.y ≡ k = omega arith in
      subst (λ (n : ℕ). outline_in_row c.args.page.now c.args.whites.now c.args.p n ≡ false) e
      (sym (in_row c.args.page.now c.args.whites.now c.args.levels.now c.row_of-row.result.now c.args.p c.loop-y.y c.requires.levels (omega arith) (c.row_of-row.ensures.len ∙ c.width.ensures.value)
      (λ j q. c.row_of-row.ensures.each j (omega (arith, q, c.width.ensures.value)) ∙ ap (λ (w : ℕ). slice_index c.args.levels.now (c.loop-y.y * w + j)) c.width.ensures.value))
      ∙ sym c.outline_in_row.ensures ∙ c.if-outline_in_row.false)
]

pub returns-then-outline_in_row : goal.returns-then-outline_in_row
returns-then-outline_in_row c =
    sym (near_some c.args.p.y (height c.args.page.now) (outline_in_row c.args.page.now c.args.whites.now c.args.p) c.loop-y.y (omega arith) (omega arith)
    (sym (in_row c.args.page.now c.args.whites.now c.args.levels.now c.row_of-row.result.now c.args.p c.loop-y.y c.requires.levels (omega arith) (c.row_of-row.ensures.len ∙ c.width.ensures.value)
    (λ j q. c.row_of-row.ensures.each j (omega (arith, q, c.width.ensures.value)) ∙ ap (λ (w : ℕ). slice_index c.args.levels.now (c.loop-y.y * w + j)) c.width.ensures.value))
    ∙ sym c.outline_in_row.ensures ∙ c.if-outline_in_row.true))

pub returns : goal.returns
returns c = sym (near_none c.args.p.y (height c.args.page.now) (c.args.p.y - 1) c.min-y-end.result (outline_in_row c.args.page.now c.args.whites.now c.args.p) (omega arith) (omega arith) (λ k l m. c.loop-y.invariant k l (omega arith)))
