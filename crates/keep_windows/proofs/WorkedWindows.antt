-- Windows of small sheets with white under colour, whose new tints were worked out by hand: less than the halo is too
-- little. A pixel is a point.
use Rattle.std.proofs.Common.{◌≡◌, ◌≤◌, ℕ, List, [], ◌∷◌, refl, lit≤}
use Rattle.page_model.specs.declared.parts.PageParts.{PageParts}
use Rattle.page_model.specs.Limits.{most_trap_width}
use Rattle.page_model.proofs.WorkedPages.{cyan, black_ink, everywhere, page, planes, usual}
use Rattle.sheet_geometry.specs.declared.cuts.Cut.{Cut}
use Rattle.sheet_geometry.specs.Windows.{window}
use Rattle.draw_back.specs.Drawn.{drawn}
use Rattle.underprint.specs.Underprint.{covered, followed, kept_tints}

-- one row of pixels, in colour and white of the same tints
abbrev sheet : ℕ → List ℕ → PageParts
sheet n tints = page 72 (planes n 1 255 (tints ∷ tints ∷ [])) (cyan ∷ black_ink ∷ []) (everywhere usual)

-- so many of its columns, from this one on
abbrev columns : ℕ → ℕ → Cut
columns left wide = record { left = left; top = 0; width = wide; height = 1 }

-- the new white, by a width in ten-thousandths of a point
abbrev news : (wide : ℕ) → wide ≤ most_trap_width → PageParts → List ℕ
news wide narrow page = kept_tints page (record { name = 75 ∷ []; width = wide; narrow = narrow } ∷ []) 1

-- by half a pixel: ink is followed for two
pub two : followed 5000 72 ≡ 2
two = refl

abbrev edge : List ℕ
edge = 0 ∷ 0 ∷ 255 ∷ 255 ∷ []

pub edge_on_sheet : news 5000 (lit≤ tt) (sheet 4 edge) ≡ 0 ∷ 0 ∷ 0 ∷ 255 ∷ []
unfolding kept_tints covered drawn
edge_on_sheet = refl

-- without the first column the second one, whose only neighbour has colour, is covered; so the third is no longer drawn
-- back, one pixel from the border, and the last is as on the sheet, two pixels from it
pub edge_in_window : news 5000 (lit≤ tt) (window (sheet 4 edge) (columns 1 3)) ≡ 0 ∷ 255 ∷ 255 ∷ []
unfolding kept_tints covered drawn
edge_in_window = refl

-- by two pixels: ink is followed for six
pub six : followed 20000 72 ≡ 6
six = refl

abbrev stroke : List ℕ
stroke = 0 ∷ 0 ∷ 255 ∷ 255 ∷ 255 ∷ 255 ∷ 255 ∷ 0 ∷ 0 ∷ []

pub stroke_on_sheet : news 20000 (lit≤ tt) (sheet 9 stroke) ≡ 0 ∷ 0 ∷ 0 ∷ 255 ∷ 255 ∷ 255 ∷ 0 ∷ 0 ∷ 0 ∷ []
unfolding kept_tints covered drawn
stroke_on_sheet = refl

-- a window that ends inside the stroke takes it for thick, and draws it back by the whole width
pub stroke_in_window : news 20000 (lit≤ tt) (window (sheet 9 stroke) (columns 0 4)) ≡ 0 ∷ 0 ∷ 0 ∷ 0 ∷ []
unfolding kept_tints covered drawn
stroke_in_window = refl
