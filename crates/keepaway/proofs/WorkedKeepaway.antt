-- Small pages under black whose new tints were worked out by hand; a pixel is a point.
use Rattle.std.proofs.Common.{◌≡◌, ◌≤◌, ℕ, List, [], ◌∷◌, refl, lit≤}
use Rattle.page_model.specs.Limits.{most_trap_width}
use Rattle.page_model.specs.Zones.{zone_of}
use Rattle.page_model.proofs.WorkedPages.{cyan, black_ink, everywhere, off, page, planes, usual}
use Rattle.draw_back.specs.Drawn.{drawn}
use Rattle.keepaway.specs.declared.parts.RichBlack.{RichBlack}
use Rattle.keepaway.specs.Keepaway.{covered, kept_tints}

-- a width in ten-thousandths of a point, with black from 85 per cent on
abbrev rich : (wide : ℕ) → wide ≤ most_trap_width → RichBlack
rich wide narrow = record { width = wide; limit = 8500; spared = []; narrow = narrow; share = lit≤ tt }

-- the new cyan of one row of pixels, in cyan and black
abbrev news : (wide : ℕ) → wide ≤ most_trap_width → ℕ → List ℕ → List ℕ → List ℕ
news wide narrow n under black = kept_tints (page 72 (planes n 1 255 (under ∷ black ∷ [])) (cyan ∷ black_ink ∷ []) (everywhere usual)) (rich wide narrow) 0

abbrev shape : List ℕ
shape = 0 ∷ 0 ∷ 255 ∷ 255 ∷ 255 ∷ []

-- an edge is drawn back by the width, rounded
pub half_less : news 4999 (lit≤ tt) 5 shape shape ≡ shape
unfolding kept_tints covered drawn zone_of
half_less = refl

pub half : news 5000 (lit≤ tt) 5 shape shape ≡ 0 ∷ 0 ∷ 0 ∷ 255 ∷ 255 ∷ []
unfolding kept_tints covered drawn zone_of
half = refl

pub more_less : news 14999 (lit≤ tt) 5 shape shape ≡ 0 ∷ 0 ∷ 0 ∷ 255 ∷ 255 ∷ []
unfolding kept_tints covered drawn zone_of
more_less = refl

pub more : news 15000 (lit≤ tt) 5 shape shape ≡ 0 ∷ 0 ∷ 0 ∷ 0 ∷ 255 ∷ []
unfolding kept_tints covered drawn zone_of
more = refl

-- a tint that goes on stays, and one that rises beyond the black does
pub goes_on : news 10000 (lit≤ tt) 5 (60 ∷ 60 ∷ 200 ∷ 40 ∷ 200 ∷ []) shape ≡ 60 ∷ 60 ∷ 60 ∷ 40 ∷ 200 ∷ []
unfolding kept_tints covered drawn zone_of
goes_on = refl

-- pixels off the page are no edge
pub border : news 10000 (lit≤ tt) 4 (255 ∷ 255 ∷ 255 ∷ 0 ∷ []) (255 ∷ 255 ∷ 255 ∷ 0 ∷ []) ≡ 255 ∷ 255 ∷ 0 ∷ 0 ∷ []
unfolding kept_tints covered drawn zone_of
border = refl

-- black from 85 per cent on: 217 of 255 is more, 216 is less
pub at_limit : news 10000 (lit≤ tt) 4 (0 ∷ 255 ∷ 0 ∷ 255 ∷ []) (0 ∷ 217 ∷ 0 ∷ 216 ∷ []) ≡ 0 ∷ 0 ∷ 0 ∷ 255 ∷ []
unfolding kept_tints covered drawn zone_of
at_limit = refl

-- some black that touches black is covered too, and only what touches it
pub rim : news 5000 (lit≤ tt) 4 (0 ∷ 255 ∷ 255 ∷ 255 ∷ []) (0 ∷ 128 ∷ 255 ∷ 255 ∷ []) ≡ 0 ∷ 0 ∷ 255 ∷ 255 ∷ []
unfolding kept_tints covered drawn zone_of
rim = refl

pub rim_of_two : news 5000 (lit≤ tt) 4 (0 ∷ 255 ∷ 255 ∷ 255 ∷ []) (0 ∷ 128 ∷ 128 ∷ 255 ∷ []) ≡ 0 ∷ 255 ∷ 255 ∷ 255 ∷ []
unfolding kept_tints covered drawn zone_of
rim_of_two = refl

-- a zone that is not enabled
pub switched_off : kept_tints (page 72 (planes 3 1 255 ((0 ∷ 255 ∷ 255 ∷ []) ∷ (0 ∷ 255 ∷ 255 ∷ []) ∷ [])) (cyan ∷ black_ink ∷ []) (everywhere off)) (rich 10000 (lit≤ tt)) 0 ≡ 0 ∷ 255 ∷ 255 ∷ []
unfolding kept_tints covered drawn zone_of
switched_off = refl

-- round a hole: with nine tenths of a pixel its four neighbours, with a little more the diagonal ones too
abbrev ring : List ℕ
ring = 255 ∷ 255 ∷ 255 ∷ 255 ∷ 0 ∷ 255 ∷ 255 ∷ 255 ∷ 255 ∷ []

abbrev rings : (wide : ℕ) → wide ≤ most_trap_width → List ℕ
rings wide narrow = kept_tints (page 72 (planes 3 3 255 (ring ∷ ring ∷ [])) (cyan ∷ black_ink ∷ []) (everywhere usual)) (rich wide narrow) 0

pub four : rings 9000 (lit≤ tt) ≡ 255 ∷ 0 ∷ 255 ∷ 0 ∷ 0 ∷ 0 ∷ 255 ∷ 0 ∷ 255 ∷ []
unfolding kept_tints covered drawn zone_of
four = refl

pub eight : rings 9200 (lit≤ tt) ≡ 0 ∷ 0 ∷ 0 ∷ 0 ∷ 0 ∷ 0 ∷ 0 ∷ 0 ∷ 0 ∷ []
unfolding kept_tints covered drawn zone_of
eight = refl
