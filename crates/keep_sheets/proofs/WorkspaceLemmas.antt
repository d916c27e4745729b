-- The buffers of a window: planes that are made or drawn back one after the other, and marks of either use.
use Rattle.std.proofs.Common.{◌≡◌, ℕ, ◌+◌, ◌*◌, ◌<◌, List, [], ◌∷◌, ◌++◌, length, sym, ap, ◌∙◌, inl, inr, arith}
use Rattle.std.proofs.lemmas.Bool.{cases_eq}
use Rattle.std.proofs.lemmas.List.{get_or_append_left, get_or_push}
use Rattle.lists.proofs.ListBelow.{length-list_below, list_below-of}
use Rattle.page_model.specs.declared.parts.PageParts.{PageParts}
use Rattle.page_model.specs.declared.parts.Plane.{Plane}
use Rattle.page_model.specs.Page.{height, plates, width}
use Rattle.page_model.specs.Planes.{no_plane, plane_at}
use Rattle.keep_pages.specs.declared.uses.KeepUse.{KeepUse}
use Rattle.keep_pages.specs.declared.uses.KeepUse.TheVariants.{UnderBlack, UnderColour}
use Rattle.keep_pages.specs.KeptPages.{kept_plane, kept_planes}
use Rattle.keep_pages.proofs.PageLemmas.{kept_at, kept_long}
use Rattle.keep_sheets.specs.declared.covers.CoverBuffers.{CoverBuffers}
use Rattle.keep_sheets.specs.declared.covers.CoverBuffers.TheVariants.{Black, Colour}
use Rattle.keep_sheets.specs.KeepSums.{AreMarks}
use Rattle.keep_sheets.specs.KeepWorkspaces.{IsCoverOf, marks_in}
use Rattle.keep_sheets.proofs.CoreLemmas.{black_marks, colour_marks}

-- all planes are drawn back
pub planes_all : (page : PageParts) (used : KeepUse) (planes : List Plane) → length planes ≡ plates page → ((c : ℕ) → c < plates page → plane_at planes c ≡ kept_plane page used c) → planes ≡ kept_planes page used
unfolding kept_planes
planes_all page used planes count each = list_below-of no_plane (kept_plane page used) (plates page) planes count each

pub kept_count : (page : PageParts) (used : KeepUse) → length (kept_planes page used) ≡ plates page
unfolding kept_planes
kept_count page used = length-list_below (kept_plane page used) (plates page)

pub kept_fits : (page : PageParts) (used : KeepUse) (c : ℕ) → c < plates page → length (plane_at (kept_planes page used) c).tints ≡ width page * height page
kept_fits page used c l = ap (λ (plane : Plane). length plane.tints) (kept_at page used c l) ∙ kept_long page used c

-- one plane more
pub plane_next : (planes : List Plane) (plane : Plane) (many c : ℕ) → length planes ≡ c → length plane.tints ≡ many → ((j : ℕ) → j < c → length (plane_at planes j).tints ≡ many) → (j : ℕ) → j < c + 1 → length (plane_at (planes ++ plane ∷ []) j).tints ≡ many
plane_next planes plane many c long here before j l = elim (cases_eq j c) [
  | inl e ↦ ap (λ (p : Plane). length p.tints) (get_or_push planes plane no_plane j (long ∙ sym e)) ∙ here
  | inr ne ↦ ap (λ (p : Plane). length p.tints) (get_or_append_left planes (plane ∷ []) no_plane j (omega (arith, long, l, ne))) ∙ before j (omega (arith, l, ne))
]

-- the marks of either use
pub cover_marks : (page : PageParts) (used : KeepUse) (cover : CoverBuffers) → IsCoverOf page used cover → AreMarks page used (marks_in cover)
cover_marks page (UnderBlack rich) (Black buffers) is = black_marks page rich buffers.cover.marks is.marks
cover_marks page (UnderBlack rich) (Colour buffers) is = absurd is
cover_marks page (UnderColour whites) (Black buffers) is = absurd is
cover_marks page (UnderColour whites) (Colour buffers) is = colour_marks page whites buffers.marks.items is
