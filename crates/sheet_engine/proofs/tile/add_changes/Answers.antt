-- Samples of a row of which none changes add nothing.
use Rattle.std.proofs.Common.{◌≡◌, ◌∙◌, ℕ, zero, suc, ◌+◌, ◌<◌, ◌&&◌, ◌||◌, Bool, true, false, ap, arith, inl, inr, refl, sym, List}
use Rattle.std.specs.Prelude.{◌==◌}
use Rattle.std.proofs.lemmas.Bool.{cases_eq}
use Rattle.std.proofs.lemmas.Grind.{common_steps}
use Rattle.lists.specs.Words.{any_below}
use Rattle.page_model.specs.declared.parts.PageParts.{PageParts}
use Rattle.page_model.specs.Counts.{plate_changes, sample_changes}
use Rattle.page_model.specs.Page.{plates}
use Rattle.page_model.specs.Zones.{zone_of}
use Rattle.page_model.proofs.NumberSums.{sum_none, sum_same}
use Rattle.sheet_geometry.specs.Areas.{changes_in, changes_plate, one_if, traps}
use Rattle.sheet_engine.specs.Growth.{Grows, row_sum}
use Rattle.sheet_engine.proofs.tile.add_changes.Goals as goal

either : (a b : Bool) → (a || b) ≡ false → (a ≡ false) × (b ≡ false)
either false false e = (refl, refl)
either true b e = absurd (grind (arith, e))
either false true e = absurd (grind (arith, e))

none_below : (test : ℕ → Bool) (n k : ℕ) → any_below test n ≡ false → k < n → test k ≡ false
none_below test zero k e l = absurd (omega (arith, l))
none_below test (suc n) k e l = elim (cases_eq k n) [
  | inl same ↦ rw same ((either (any_below test n) (test n) e).1)
  | inr ne ↦ none_below test n k ((either (any_below test n) (test n) e).0) (omega (arith, l, ne))
]

not_both : (a b : Bool) → b ≡ false → one_if (a && b) ≡ 0
not_both true b e = rw e refl
not_both false b e = refl

grown_none : (n : ℕ) (by : ℕ → ℕ) (counts : List ℕ) → ((z : ℕ) → z < n → by z ≡ 0) → Grows n by counts counts
grown_none n by counts none = record { long = refl; each = λ z l. omega (arith, none z l) }

module _ (page : PageParts) (y left wide : ℕ) (kept : (k : ℕ) → k < wide → sample_changes page (record { x = left + k; y = y }) ≡ false) where
  no_zone : (z : ℕ) → row_sum (changes_in traps z page) y left wide ≡ 0
  no_zone z = sum_same (λ k. changes_in traps z page (record { x = left + k; y = y })) (λ k. 0) wide (λ k l. not_both (zone_of page (record { x = left + k; y = y }) == z) _ (kept k l)) ∙ sum_none wide

  no_plate : (c : ℕ) → c < plates page → row_sum (changes_plate traps c page) y left wide ≡ 0
  no_plate c lc = sum_same (λ k. changes_plate traps c page (record { x = left + k; y = y })) (λ k. 0) wide (λ k l. ap one_if (none_below (λ j. plate_changes page j (record { x = left + k; y = y })) (plates page) c (kept k l) lc)) ∙ sum_none wide

pub returns-then-are_clear-clause-zone_changed : goal.returns-then-are_clear-clause-zone_changed
returns-then-are_clear-clause-zone_changed c =
    let kept = λ (k : ℕ) (l : k < c.args.wide). sym (c.requires.each (c.args.left + k) (omega (arith, c.requires.inside, l))) ∙ c.are_clear.ensures.clear c.if-are_clear.true k l in
    grown_none _ _ _ (λ z l. no_zone c.args.page.now c.args.y c.args.left c.args.wide kept z)

pub returns-then-are_clear-clause-plate_changed : goal.returns-then-are_clear-clause-plate_changed
returns-then-are_clear-clause-plate_changed c =
    let kept = λ (k : ℕ) (l : k < c.args.wide). sym (c.requires.each (c.args.left + k) (omega (arith, c.requires.inside, l))) ∙ c.are_clear.ensures.clear c.if-are_clear.true k l in
    grown_none _ _ _ (λ z l. no_plate c.args.page.now c.args.y c.args.left c.args.wide kept z l)

pub returns-clause-zone_changed : goal.returns-clause-zone_changed
returns-clause-zone_changed c = grind (arith, common_steps)

pub returns-clause-plate_changed : goal.returns-clause-plate_changed
returns-clause-plate_changed c = grind (arith, common_steps)

pub add_plates-requires-clause-workspace : goal.add_plates-requires-clause-workspace
add_plates-requires-clause-workspace c = rw c.deref_mut-2.ensures.value c.requires.plate_workspace

pub add_plates-requires-clause-planes : goal.add_plates-requires-clause-planes
add_plates-requires-clause-planes c = grind (arith, common_steps)
