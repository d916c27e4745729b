-- Small sheets whose risk was worked out by hand.
use Rattle.std.proofs.Common.{◌≡◌, ℕ, List, [], ◌∷◌, refl}
use Rattle.page_model.specs.declared.parts.Plane.{Plane}
use Rattle.misregister.specs.Risk.{risk}

abbrev row : List ℕ → Plane
row tints = record { width = 6; height = 1; maxval = 255; tints = tints }

-- cyan beside magenta, as they come and with a trap of a sample on either side
abbrev sheet : List Plane
sheet = row (255 ∷ 255 ∷ 255 ∷ 0 ∷ 0 ∷ 0 ∷ []) ∷ row (0 ∷ 0 ∷ 0 ∷ 255 ∷ 255 ∷ 255 ∷ []) ∷ []

abbrev trapped : List Plane
trapped = row (255 ∷ 255 ∷ 255 ∷ 255 ∷ 0 ∷ 0 ∷ []) ∷ row (0 ∷ 0 ∷ 255 ∷ 255 ∷ 255 ∷ 255 ∷ []) ∷ []

pub nothing_at_rest : risk sheet 0 ≡ 0
nothing_at_rest = refl

pub two_beside_the_edge : risk sheet 1 ≡ 2
two_beside_the_edge = refl

pub four_beside_the_edge : risk sheet 2 ≡ 4
four_beside_the_edge = refl

pub trapped_by_one : risk trapped 1 ≡ 0
trapped_by_one = refl

pub trapped_by_two : risk trapped 2 ≡ 2
trapped_by_two = refl

-- one plate shifts as far as its own ink reaches; white is never at risk
pub alone : risk (row (0 ∷ 9 ∷ 9 ∷ 9 ∷ 9 ∷ 0 ∷ []) ∷ []) 1 ≡ 2
alone = refl

-- no shift bares a page that is inked throughout
pub inked_throughout : risk (row (9 ∷ 9 ∷ 9 ∷ 9 ∷ 9 ∷ 9 ∷ []) ∷ []) 16 ≡ 0
inked_throughout = refl

-- a shift goes both ways at once
pub across_a_corner : risk (record { width = 2; height = 2; maxval = 1; tints = 0 ∷ 1 ∷ 1 ∷ 1 ∷ [] } ∷ []) 1 ≡ 3
across_a_corner = refl
