-- What is counted in a row of a core, by the lists that have an entry for each pixel of the page.
use Rattle.std.proofs.Common.{◌≡◌, ℕ, ◌+◌, ◌*◌, ◌<◌, ◌≤◌, ◌==◌, not, List, slice_index, ap, ◌∙◌, arith}
use Rattle.std.proofs.lemmas.Nat.{mul-add-lt, mul-le}
use Rattle.lists.specs.Words.{sum_below}
use Rattle.page_model.specs.declared.parts.PageParts.{PageParts}
use Rattle.page_model.specs.Page.{height, width}
use Rattle.page_model.proofs.NumberSums.{sum_same}
use Rattle.page_tally.proofs.StandingLemmas.{numbered}
use Rattle.sheet_geometry.specs.Areas.{one_if}
use Rattle.keep_pages.specs.declared.uses.KeepUse.{KeepUse}
use Rattle.keep_pages.specs.KeptPages.{kept, kept_tints}
use Rattle.keep_pages.proofs.PageLemmas.{kept_entry}
use Rattle.keep_sheets.specs.KeepSheets.{covers_at}
use Rattle.keep_sheets.specs.KeepSums.{AreMarks}

-- so many entries of a row, from this column on, are entries of the list
pub row_inside : (w h left wide y : ℕ) → left + wide ≤ w → y < h → y * w + left + wide ≤ w * h
row_inside w h left wide y across down =
    let whole : (y + 1) * w ≤ h * w = mul-le (y + 1) w h w (omega (arith, down)) (omega arith) in
    omega (arith, whole, across)

-- marks that are not 0 are covered pixels
pub row_covered : (page : PageParts) (used : KeepUse) (marks : List ℕ) (left wide y start : ℕ) → AreMarks page used marks → left + wide ≤ width page → y < height page → start ≡ y * width page + left → sum_below (λ k. one_if (not (slice_index marks (start + k) == 0))) wide ≡ sum_below (λ x. covers_at used page (record { x = left + x; y = y })) wide
row_covered page used marks left wide y start are across down at = sum_same (λ k. one_if (not (slice_index marks (start + k) == 0))) (λ x. covers_at used page (record { x = left + x; y = y })) wide
    (λ x l.
    let place : start + x ≡ y * width page + (left + x) = omega (arith, at) in
    ap one_if (ap (λ (i : ℕ). not (slice_index marks i == 0)) place ∙ are.each (left + x) y (omega (arith, across, l)) down))

-- the new tint in a column of a row
pub kept_here : (page : PageParts) (used : KeepUse) (c x y : ℕ) → x < width page → y < height page → slice_index (kept_tints page used c) (y * width page + x) ≡ kept page used c (record { x = x; y = y })
kept_here page used c x y lx ly = kept_entry page used c (y * width page + x) (mul-add-lt y (width page) x (height page) ly lx) ∙ ap (kept page used c) (numbered page y x lx)
