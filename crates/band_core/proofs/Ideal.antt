-- By the page's own values in the place of what is held, the recipe gives the page's own values.
use Rattle.std.proofs.Common.{◌≡◌, ℕ, zero, suc, ◌/◌, ◌%◌, ◌<◌, refl, sym, ap, ◌∙◌, arith}
use Rattle.page_model.specs.declared.parts.At.{At}
use Rattle.page_model.specs.declared.parts.PageParts.{PageParts}
use Rattle.page_model.specs.Columns.{column_answer, offset_code, column_edge}
use Rattle.page_model.specs.Deciding.{decides}
use Rattle.page_model.specs.Page.{width}
use Rattle.page_model.specs.Bands.{band_of_row}
use Rattle.band_core.specs.Layouts.{Layout}
use Rattle.band_core.specs.Values.{IsFor, row_value}
use Rattle.band_core.specs.Recipe.{decides_by, column_by, row_by}
use Rattle.band_core.proofs.HaloColumns.{column_same}
use Rattle.band_core.proofs.HaloTraps.{new_same}

pub row_ideal : (page : PageParts) (layout : Layout) → IsFor page layout → (band y o phase : ℕ) → band_of_row layout.bands y ≡ band → phase < 4 → row_by page layout.bands (row_value page) phase band y o ≡ row_value page phase y o
unfolding row_by row_value decides_by decides column_answer
row_ideal page layout is band y o zero here l = refl
row_ideal page layout is band y o (suc zero) here l = refl
row_ideal page layout is band y o (suc (suc zero)) here l =
    ap (offset_code y) (ap (λ (b : ℕ). column_by page layout.bands (row_value page) b o y) (sym here)
    ∙ (column_same page layout.bands (row_value page) o y is.made.bands.some_height (λ r c near m q. refl) ∙ ap (λ (reach : ℕ). column_edge page reach o y) is.reach))
row_ideal page layout is band y o (suc (suc (suc zero))) here l =
    let p : At = record { x = o % width page; y = y } in let reach = is.reach in let near = is.made.bands.near in
    new_same page (row_value page) p (o / width page) is.valid (omega (arith, reach, near)) refl (λ x2 m. refl)
row_ideal page layout is band y o (suc (suc (suc (suc phase)))) here l = absurd (omega (arith, l))
