-- Widths, black inks, reaches and zones at single edges, worked out by hand.
use Rattle.std.proofs.Common.{◌≡◌, ℕ, List, [], ◌∷◌, Bool, true, false, refl}
use Rattle.page_model.specs.declared.parts.InkKind.TheVariants.{Normal}
use Rattle.page_model.specs.declared.parts.Limit.{Limit}
use Rattle.page_model.specs.declared.parts.PageParts.{PageParts}
use Rattle.page_model.specs.declared.parts.TrapParams.{TrapParams}
use Rattle.page_model.specs.Deciding.{decides, decides_in}
use Rattle.page_model.specs.Reach.{params_reach, page_reach}
use Rattle.page_model.specs.Within.{within_in, black, black_sample}
use Rattle.page_model.specs.Zones.{zone_of, covers, turn, lean}
use Rattle.page_model.proofs.WorkedPages.{at, edge, usual, off, wide, page, planes, ink, everywhere, zone, limit, box, pair, stripes, shop}

-- not slid and not black, at 72 pixels an inch: a point of trap width is two half-samples
abbrev at_width : ℕ → ℕ → ℕ → Bool
at_width width x2 y2 = within_in (stripes 72 (record usual { trap_width = width })) 0 (at 0 0) (edge x2 y2)

-- an edge just as far as the width is within: one half-sample, and three across and four down are five
pub width_1_met : at_width 5000 1 0 ≡ true
unfolding within_in
width_1_met = refl

pub width_1_missed : at_width 4999 1 0 ≡ false
unfolding within_in
width_1_missed = refl

pub width_5_met : at_width 25000 3 4 ≡ true
unfolding within_in
width_5_met = refl

pub width_5_missed : at_width 24999 3 4 ≡ false
unfolding within_in
width_5_missed = refl

-- widths are not cut to whole half-samples: 12.5 of them reach over 3 across and 12 down, and not over 11 and 6
abbrev at_600 : ℕ → ℕ → Bool
at_600 x2 y2 = within_in (stripes 600 (record usual { trap_width = 7500 })) 0 (at 0 0) (edge x2 y2)

pub width_12_and_a_half_met : at_600 3 12 ≡ true
unfolding within_in
width_12_and_a_half_met = refl

pub width_12_and_a_half_missed : at_600 11 6 ≡ false
unfolding within_in
width_12_and_a_half_missed = refl

-- a slid edge has half the width
pub slid_met : within_in (pair 255 wide) 0 (at 2 0) (edge 5 0) ≡ true
unfolding within_in
slid_met = refl

pub slid_missed : within_in (pair 255 wide) 0 (at 1 0) (edge 5 0) ≡ false
unfolding within_in
slid_missed = refl

-- a black sample beside one of two dark inks, in the tints given
abbrev dark : ℕ → ℕ → ℕ → PageParts
dark k a b = page 72 (planes 2 1 255 ((k ∷ 0 ∷ []) ∷ (0 ∷ a ∷ []) ∷ (0 ∷ b ∷ []) ∷ [])) (ink 75 17000 Normal ∷ ink 65 8500 Normal ∷ ink 66 8500 Normal ∷ []) (everywhere usual)

pub black_on_darker : black (dark 255 255 254) usual (edge 1 0) ≡ true
black_on_darker = refl

-- black ink on the lighter side alone makes no black edge
pub black_on_lighter : black (dark 254 255 255) usual (edge 1 0) ≡ false
black_on_lighter = refl

pub lighter_is_black : black_sample (dark 254 255 255) usual (at 0 0) ≡ true
lighter_is_black = refl

-- of two equal densities the black ink may lie on either side
pub black_on_equal : black (dark 255 255 255) usual (edge 1 0) ≡ true
black_on_equal = refl

-- too light an ink, or too little of it, is not black; just enough is
pub black_tint_met : black_sample (dark 243 0 0) usual (at 0 0) ≡ true
black_tint_met = refl

pub black_tint_missed : black_sample (dark 242 0 0) usual (at 0 0) ≡ false
black_tint_missed = refl

pub black_density_met : black_sample (dark 255 0 0) (record usual { black_density_limit = 17000 }) (at 0 0) ≡ true
black_density_met = refl

pub black_density_missed : black_sample (dark 255 0 0) (record usual { black_density_limit = 17001 }) (at 0 0) ≡ false
black_density_missed = refl

-- reaches are cut to whole half-samples; a black width below 1 makes none smaller
pub reach_cut : params_reach 600 (record usual { trap_width = 7500 }) ≡ 12
reach_cut = refl

pub reach_of_black : params_reach 72 (record wide { black_width = 20000 }) ≡ 8
reach_of_black = refl

pub reach_of_less_black : params_reach 72 (record wide { black_width = 5000 }) ≡ 4
reach_of_less_black = refl

pub reach_of_disabled : page_reach (pair 255 (record wide { enabled = false })) ≡ 0
unfolding page_reach
reach_of_disabled = refl

-- the shop's black zone takes a sixth over eight half-samples
pub shop_reach : page_reach shop ≡ 8
unfolding page_reach
shop_reach = refl

-- a page of two zones side by side, a sample each; each has limits of its own
abbrev halves : TrapParams → TrapParams → List Limit → List Limit → PageParts
halves left right one two = page 72
    (planes 2 1 100 ((50 ∷ 0 ∷ []) ∷ (0 ∷ 50 ∷ []) ∷ (30 ∷ 0 ∷ []) ∷ (0 ∷ 30 ∷ []) ∷ []))
    (ink 65 6100 Normal ∷ ink 66 7600 Normal ∷ ink 67 6100 Normal ∷ ink 68 7600 Normal ∷ [])
    (zone off [] ∷ record { params = left; path = box 0 0 10000 10000; limits = one } ∷ record { params = right; path = box 10000 0 20000 10000; limits = two } ∷ [])

-- each zone judges by its limits alone, and may find another pair of inks apart than its neighbour
pub other_pairs : decides (halves wide wide (limit 65 6000 ∷ limit 66 6000 ∷ []) (limit 67 6000 ∷ limit 68 6000 ∷ [])) (edge 1 0) ≡ true
unfolding decides decides_in zone_of covers turn lean
other_pairs = refl

-- one zone's limits are not enough
pub left_limits : decides (halves wide wide (limit 65 6000 ∷ limit 67 6000 ∷ []) []) (edge 1 0) ≡ false
unfolding decides decides_in zone_of covers turn lean
left_limits = refl

pub right_limits : decides (halves wide wide [] (limit 65 6000 ∷ limit 67 6000 ∷ [])) (edge 1 0) ≡ false
unfolding decides decides_in zone_of covers turn lean
right_limits = refl

-- an edge with an enabled zone on one side alone does not decide
pub left_disabled : decides (halves off wide [] []) (edge 1 0) ≡ false
unfolding decides decides_in zone_of covers turn lean
left_disabled = refl

pub right_disabled : decides (halves wide off [] []) (edge 1 0) ≡ false
unfolding decides decides_in zone_of covers turn lean
right_disabled = refl
