-- Small pages with white under colour whose new tints were worked out by hand; a pixel is a point.
use Rattle.std.proofs.Common.{◌≡◌, ◌≤◌, ℕ, List, [], ◌∷◌, refl, lit≤}
use Rattle.page_model.specs.Limits.{most_trap_width}
use Rattle.page_model.proofs.WorkedPages.{cyan, black_ink, everywhere, page, planes, usual}
use Rattle.draw_back.specs.Drawn.{drawn}
use Rattle.underprint.specs.declared.parts.White.{White}
use Rattle.underprint.specs.Underprint.{covered, kept_tints}

-- the second plate as an underprint, with a width in ten-thousandths of a point
abbrev white : (wide : ℕ) → wide ≤ most_trap_width → White
white wide narrow = record { name = 75 ∷ []; width = wide; narrow = narrow }

-- the new white of one row of pixels, in colour and white
abbrev news : (wide : ℕ) → wide ≤ most_trap_width → ℕ → List ℕ → List ℕ → List ℕ
news wide narrow n colour under = kept_tints (page 72 (planes n 1 255 (colour ∷ under ∷ [])) (cyan ∷ black_ink ∷ []) (everywhere usual)) (white wide narrow ∷ []) 1

abbrev edge : List ℕ
edge = 0 ∷ 0 ∷ 255 ∷ 255 ∷ 255 ∷ 255 ∷ []

-- white is drawn back from bare film by the width
pub at_film : news 10000 (lit≤ tt) 6 edge edge ≡ 0 ∷ 0 ∷ 0 ∷ 255 ∷ 255 ∷ 255 ∷ []
unfolding kept_tints covered drawn
at_film = refl

-- and not from white without colour
pub at_white : news 10000 (lit≤ tt) 6 edge (255 ∷ 255 ∷ 255 ∷ 255 ∷ 255 ∷ 255 ∷ []) ≡ 255 ∷ 255 ∷ 255 ∷ 255 ∷ 255 ∷ 255 ∷ []
unfolding kept_tints covered drawn
at_white = refl

-- thin white is drawn back by a third of its thickness
abbrev two : List ℕ
two = 0 ∷ 0 ∷ 255 ∷ 255 ∷ 0 ∷ 0 ∷ []

pub two_stay : news 10000 (lit≤ tt) 6 two two ≡ two
unfolding kept_tints covered drawn
two_stay = refl

abbrev three : List ℕ
three = 0 ∷ 0 ∷ 255 ∷ 255 ∷ 255 ∷ 0 ∷ 0 ∷ []

pub three_lose_two : news 20000 (lit≤ tt) 7 three three ≡ 0 ∷ 0 ∷ 0 ∷ 255 ∷ 0 ∷ 0 ∷ 0 ∷ []
unfolding kept_tints covered drawn
three_lose_two = refl

-- a hole of one pixel in the colour is covered
pub hole : news 10000 (lit≤ tt) 5 (255 ∷ 0 ∷ 255 ∷ 0 ∷ 0 ∷ []) (255 ∷ 255 ∷ 255 ∷ 0 ∷ 0 ∷ []) ≡ 255 ∷ 255 ∷ 0 ∷ 0 ∷ 0 ∷ []
unfolding kept_tints covered drawn
hole = refl

-- a tenth of full ink is colour, and less is none
pub a_tenth : news 10000 (lit≤ tt) 3 (0 ∷ 0 ∷ 26 ∷ []) (0 ∷ 0 ∷ 255 ∷ []) ≡ 0 ∷ 0 ∷ 0 ∷ []
unfolding kept_tints covered drawn
a_tenth = refl

pub less_than_a_tenth : news 10000 (lit≤ tt) 3 (0 ∷ 0 ∷ 25 ∷ []) (0 ∷ 0 ∷ 255 ∷ []) ≡ 0 ∷ 0 ∷ 255 ∷ []
unfolding kept_tints covered drawn
less_than_a_tenth = refl
