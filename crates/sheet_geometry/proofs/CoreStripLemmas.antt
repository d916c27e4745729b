-- The rows of a strip are its planes as a sheet of its own.
use Rattle.std.proofs.Common.{◌≡◌, ℕ, ◌+◌, ◌*◌, ◌/◌, ◌%◌, ◌<◌, ◌≤◌, List, length, map, drop, slice_index, sym, ap, ◌∙◌, arith, div-add-mod', length-take, length-drop}
use Rattle.std.proofs.Math.Nat.{mul-le-mul}
use Rattle.std.proofs.lemmas.List.{get_or-drop, get_or-map, get_or-take, length-map, same_lists}
use Rattle.lists.specs.Words.{list_below}
use Rattle.lists.proofs.ListBelow.{list_below-from}
use Rattle.page_model.specs.declared.parts.PageParts.{PageParts}
use Rattle.page_model.specs.declared.parts.Plane.{Plane}
use Rattle.page_model.specs.Page.{height, plates, width}
use Rattle.page_model.specs.Planes.{no_plane, plane_at, tints_of}
use Rattle.sheet_geometry.specs.StripRows.{HoldRows, rows_of, strip_plane}
use Rattle.sheet_geometry.specs.declared.spans.Span.{Span}
use Rattle.sheet_geometry.specs.Sheets.{IsSheet}
use Rattle.sheet_geometry.specs.Strips.{strip_parts, strip_tile}
use Rattle.sheet_geometry.specs.Windows.{shown_plane}
use Rattle.sheet_geometry.proofs.Pages.{any_default}

place_is : (wide from k : ℕ) → (from + k / wide) * wide + (0 + k % wide) ≡ from * wide + k
place_is wide from k = (let e = div-add-mod' k wide in omega (arith, e))

-- rows of tints, one by one
pub rows_are : (wide from rows : ℕ) (tints : List ℕ) → (from + rows) * wide ≤ length tints → rows_of wide tints from rows ≡ list_below (λ k. slice_index tints ((from + k / wide) * wide + (0 + k % wide))) (wide * rows)
rows_are wide from rows tints l =
    list_below-from (λ k. slice_index tints ((from + k / wide) * wide + (0 + k % wide))) (wide * rows) (rows_of wide tints from rows)
    (omega (arith, l, length-take (rows * wide) (drop (from * wide) tints), length-drop (from * wide) tints))
    (λ k within.
    let inside : k < rows * wide = omega (arith, within) in
    get_or-take (rows * wide) (drop (from * wide) tints) k 0 inside
    ∙ get_or-drop (from * wide) tints k 0
    ∙ ap (slice_index tints) (sym (place_is wide from k)))

module _ (sheet : PageParts) (row : Span) (is : IsSheet sheet) (inside : row.from + row.wide ≤ height sheet) where
  full : (c : ℕ) → c < plates sheet → length (tints_of sheet.planes c) ≡ width sheet * height sheet
  full c l = (is.parts.planes_in_range c no_plane l).full ∙ (λ i. (is.agree c l).wide i * (is.agree c l).tall i)

  enough : (c : ℕ) → c < plates sheet → (row.from + row.wide) * width sheet ≤ length (tints_of sheet.planes c)
  enough c l = (let rows : (row.from + row.wide) * width sheet ≤ height sheet * width sheet = mul-le-mul inside (omega arith) in omega (arith, rows, full c l))

  plane_is : (c : ℕ) → c < plates sheet → strip_plane sheet row c ≡ shown_plane (width sheet) (strip_tile sheet row).cut (plane_at sheet.planes c)
  plane_is c l =
      let deep = (is.agree c l).deep in
      let rows = rows_are (width sheet) row.from row.wide (tints_of sheet.planes c) (enough c l) in
      λ i. record { width = width sheet; height = row.wide; maxval = sym deep i; tints = rows i }

  pub planes_are : (planes : List Plane) → HoldRows sheet row planes → planes ≡ (strip_parts sheet row).planes
  planes_are planes hold = same_lists planes (map (shown_plane (width sheet) (strip_tile sheet row).cut) sheet.planes) (hold.count ∙ sym (length-map sheet.planes (shown_plane (width sheet) (strip_tile sheet row).cut))) (λ k d within.
      let below : k < plates sheet = omega (arith, within, hold.count) in
      any_default planes k d no_plane within
      ∙ hold.each k below
      ∙ plane_is k below
      ∙ sym (get_or-map (shown_plane (width sheet) (strip_tile sheet row).cut) sheet.planes k no_plane d below))
