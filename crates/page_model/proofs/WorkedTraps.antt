-- Whole pages with their new tints and counts, worked out by hand.
use Rattle.std.proofs.Common.{◌≡◌, ℕ, List, [], ◌∷◌, refl}
use Rattle.page_model.specs.declared.parts.InkKind.TheVariants.{Transparent, Opaque, OpaqueIgnore}
use Rattle.page_model.specs.Counts.{page_counts}
use Rattle.page_model.specs.Decider.{decider}
use Rattle.page_model.specs.Deciding.{decides, decides_in}
use Rattle.page_model.specs.Tints.{new_in, new_tints}
use Rattle.page_model.specs.Trapped.{trapped_in}
use Rattle.page_model.specs.Within.{within_in}
use Rattle.page_model.specs.Zones.{zone_of, covers, turn, lean}
use Rattle.page_model.proofs.WorkedPages.{usual, wide, page, planes, cyan, magenta, everywhere, limit, pair, pair_under, three, steps, shop, news}

-- near densities: half the trap lies on each side
pub slid_cyan : news (pair 255 wide) 0 ≡ 255 ∷ 255 ∷ 255 ∷ 255 ∷ 0 ∷ 0 ∷ []
unfolding decider decides decides_in zone_of covers turn lean new_in new_tints trapped_in within_in
slid_cyan = refl

pub slid_magenta : news (pair 255 wide) 1 ≡ 0 ∷ 0 ∷ 255 ∷ 255 ∷ 255 ∷ 255 ∷ []
unfolding decider decides decides_in zone_of covers turn lean new_in new_tints trapped_in within_in
slid_magenta = refl

pub slid_counts : page_counts (pair 255 wide) ≡ record { zone_samples = 6 ∷ []; zone_changed = 2 ∷ []; edges = 1; plate_changed = 1 ∷ 1 ∷ [] }
unfolding decider decides decides_in zone_of covers turn lean new_in trapped_in within_in page_counts
slid_counts = refl

-- not slid: the darker side alone is trapped
pub darker_cyan : news (pair 255 (record wide { sliding_trap_limit = 10000 })) 0 ≡ 255 ∷ 255 ∷ 255 ∷ 255 ∷ 255 ∷ 0 ∷ []
unfolding decider decides decides_in zone_of covers turn lean new_in new_tints trapped_in within_in
darker_cyan = refl

pub darker_magenta : news (pair 255 (record wide { sliding_trap_limit = 10000 })) 1 ≡ 0 ∷ 0 ∷ 0 ∷ 255 ∷ 255 ∷ 255 ∷ []
unfolding decider decides decides_in zone_of covers turn lean new_in new_tints trapped_in within_in
darker_magenta = refl

-- without scaling the density stays that of the darker side
pub unscaled_cyan : news (pair 255 (record wide { sliding_trap_limit = 10000; trap_color_scaling = 0 })) 0 ≡ 255 ∷ 255 ∷ 255 ∷ 141 ∷ 141 ∷ 0 ∷ []
unfolding decider decides decides_in zone_of covers turn lean new_in new_tints trapped_in within_in
unscaled_cyan = refl

pub unscaled_magenta : news (pair 255 (record wide { sliding_trap_limit = 10000; trap_color_scaling = 0 })) 1 ≡ 0 ∷ 0 ∷ 0 ∷ 141 ∷ 141 ∷ 255 ∷ []
unfolding decider decides decides_in zone_of covers turn lean new_in new_tints trapped_in within_in
unscaled_magenta = refl

-- a trap of half a half-sample reaches no sample
pub narrow_counts : page_counts (pair 255 usual) ≡ record { zone_samples = 6 ∷ []; zone_changed = 0 ∷ []; edges = 1; plate_changed = 0 ∷ 0 ∷ [] }
unfolding decider decides decides_in zone_of covers turn lean new_in trapped_in within_in page_counts
narrow_counts = refl

-- two-byte tints
pub deep_cyan : news (pair 65535 wide) 0 ≡ 65535 ∷ 65535 ∷ 65535 ∷ 65535 ∷ 0 ∷ 0 ∷ []
unfolding decider decides decides_in zone_of covers turn lean new_in new_tints trapped_in within_in
deep_cyan = refl

pub deep_unscaled_cyan : news (pair 65535 (record wide { sliding_trap_limit = 10000; trap_color_scaling = 0 })) 0 ≡ 65535 ∷ 65535 ∷ 65535 ∷ 36355 ∷ 36355 ∷ 0 ∷ []
unfolding decider decides decides_in zone_of covers turn lean new_in new_tints trapped_in within_in
deep_unscaled_cyan = refl

pub deep_unscaled_magenta : news (pair 65535 (record wide { sliding_trap_limit = 10000; trap_color_scaling = 0 })) 1 ≡ 0 ∷ 0 ∷ 0 ∷ 36355 ∷ 36355 ∷ 65535 ∷ []
unfolding decider decides decides_in zone_of covers turn lean new_in new_tints trapped_in within_in
deep_unscaled_magenta = refl

-- edges as near on the left and on the right: the left one decides
pub tie_goes_left : news (three 3 1) 0 ≡ 255 ∷ 255 ∷ 0 ∷ []
unfolding decider decides decides_in zone_of covers turn lean new_in new_tints trapped_in within_in
tie_goes_left = refl

pub tie_goes_left_black : news (three 3 1) 1 ≡ 0 ∷ 255 ∷ 0 ∷ []
unfolding decider decides decides_in zone_of covers turn lean new_in new_tints trapped_in within_in
tie_goes_left_black = refl

pub tie_goes_left_yellow : news (three 3 1) 2 ≡ 0 ∷ 0 ∷ 255 ∷ []
unfolding decider decides decides_in zone_of covers turn lean new_in new_tints trapped_in within_in
tie_goes_left_yellow = refl

-- and above and below: the upper one
pub tie_goes_up : news (three 1 3) 0 ≡ 255 ∷ 255 ∷ 0 ∷ []
unfolding decider decides decides_in zone_of covers turn lean new_in new_tints trapped_in within_in
tie_goes_up = refl

pub tie_goes_up_yellow : news (three 1 3) 2 ≡ 0 ∷ 0 ∷ 255 ∷ []
unfolding decider decides decides_in zone_of covers turn lean new_in new_tints trapped_in within_in
tie_goes_up_yellow = refl

-- a step of exactly a quarter is apart, and one tint less is not
pub step_at_limit_cyan : news (steps 25 25 []) 0 ≡ 25 ∷ 25 ∷ []
unfolding decider decides decides_in zone_of covers turn lean new_in new_tints trapped_in within_in
step_at_limit_cyan = refl

pub step_at_limit_magenta : news (steps 25 25 []) 1 ≡ 25 ∷ 25 ∷ []
unfolding decider decides decides_in zone_of covers turn lean new_in new_tints trapped_in within_in
step_at_limit_magenta = refl

pub step_below_limit : page_counts (steps 24 25 []) ≡ record { zone_samples = 2 ∷ []; zone_changed = 0 ∷ []; edges = 0; plate_changed = 0 ∷ 0 ∷ [] }
unfolding decider decides decides_in zone_of covers turn lean new_in trapped_in within_in page_counts
step_below_limit = refl

-- a limit of its own for one colorant: more than a quarter, and less
pub step_above_named_limit : page_counts (steps 25 25 (limit 67 3000 ∷ [])) ≡ record { zone_samples = 2 ∷ []; zone_changed = 0 ∷ []; edges = 0; plate_changed = 0 ∷ 0 ∷ [] }
unfolding decider decides decides_in zone_of covers turn lean new_in trapped_in within_in page_counts
step_above_named_limit = refl

pub step_at_named_limit_cyan : news (steps 24 25 (limit 67 2000 ∷ [])) 0 ≡ 24 ∷ 24 ∷ []
unfolding decider decides decides_in zone_of covers turn lean new_in new_tints trapped_in within_in
step_at_named_limit_cyan = refl

pub step_at_named_limit_magenta : news (steps 24 25 (limit 67 2000 ∷ [])) 1 ≡ 25 ∷ 25 ∷ []
unfolding decider decides decides_in zone_of covers turn lean new_in new_tints trapped_in within_in
step_at_named_limit_magenta = refl

pub step_at_named_limit_counts : page_counts (steps 24 25 (limit 67 2000 ∷ [])) ≡ record { zone_samples = 2 ∷ []; zone_changed = 2 ∷ []; edges = 1; plate_changed = 1 ∷ 1 ∷ [] }
unfolding decider decides decides_in zone_of covers turn lean new_in trapped_in within_in page_counts
step_at_named_limit_counts = refl

-- no step at all is apart, even without a limit
pub even_page : page_counts (page 72 (planes 2 2 255 ((127 ∷ 127 ∷ 127 ∷ 127 ∷ []) ∷ (191 ∷ 191 ∷ 191 ∷ 191 ∷ []) ∷ [])) (cyan ∷ magenta ∷ []) (everywhere (record wide { step_limit = 0 }))) ≡ record { zone_samples = 4 ∷ []; zone_changed = 0 ∷ []; edges = 0; plate_changed = 0 ∷ 0 ∷ [] }
unfolding decider decides decides_in zone_of covers turn lean new_in trapped_in within_in page_counts
even_page = refl

-- an ink that shuts its samples lies at the only edge
pub shut_page : page_counts (pair_under OpaqueIgnore wide) ≡ record { zone_samples = 6 ∷ []; zone_changed = 0 ∷ []; edges = 0; plate_changed = 0 ∷ 0 ∷ 0 ∷ [] }
unfolding decider decides decides_in zone_of covers turn lean new_in trapped_in within_in page_counts
shut_page = refl

-- an opaque ink does not spread, and counts
pub opaque_cyan : news (pair_under Opaque (record wide { sliding_trap_limit = 0 })) 0 ≡ 255 ∷ 255 ∷ 255 ∷ 255 ∷ 0 ∷ 0 ∷ []
unfolding decider decides decides_in zone_of covers turn lean new_in new_tints trapped_in within_in
opaque_cyan = refl

pub opaque_magenta : news (pair_under Opaque (record wide { sliding_trap_limit = 0 })) 1 ≡ 0 ∷ 0 ∷ 255 ∷ 255 ∷ 255 ∷ 255 ∷ []
unfolding decider decides decides_in zone_of covers turn lean new_in new_tints trapped_in within_in
opaque_magenta = refl

pub opaque_foil : news (pair_under Opaque (record wide { sliding_trap_limit = 0 })) 2 ≡ 0 ∷ 0 ∷ 0 ∷ 255 ∷ 0 ∷ 0 ∷ []
unfolding decider decides decides_in zone_of covers turn lean new_in new_tints trapped_in within_in
opaque_foil = refl

pub opaque_unscaled_cyan : news (pair_under Opaque (record wide { sliding_trap_limit = 0; trap_color_scaling = 0 })) 0 ≡ 255 ∷ 255 ∷ 113 ∷ 189 ∷ 0 ∷ 0 ∷ []
unfolding decider decides decides_in zone_of covers turn lean new_in new_tints trapped_in within_in
opaque_unscaled_cyan = refl

pub opaque_half_cyan : news (pair_under Opaque (record wide { sliding_trap_limit = 0; trap_color_scaling = 5000 })) 0 ≡ 255 ∷ 255 ∷ 184 ∷ 222 ∷ 0 ∷ 0 ∷ []
unfolding decider decides decides_in zone_of covers turn lean new_in new_tints trapped_in within_in
opaque_half_cyan = refl

pub opaque_half_magenta : news (pair_under Opaque (record wide { sliding_trap_limit = 0; trap_color_scaling = 5000 })) 1 ≡ 0 ∷ 0 ∷ 184 ∷ 222 ∷ 255 ∷ 255 ∷ []
unfolding decider decides decides_in zone_of covers turn lean new_in new_tints trapped_in within_in
opaque_half_magenta = refl

-- a transparent ink neither counts nor spreads
pub clear_unscaled_cyan : news (pair_under Transparent (record wide { sliding_trap_limit = 0; trap_color_scaling = 0 })) 0 ≡ 255 ∷ 255 ∷ 113 ∷ 141 ∷ 0 ∷ 0 ∷ []
unfolding decider decides decides_in zone_of covers turn lean new_in new_tints trapped_in within_in
clear_unscaled_cyan = refl

pub clear_unscaled_foil : news (pair_under Transparent (record wide { sliding_trap_limit = 0; trap_color_scaling = 0 })) 2 ≡ 0 ∷ 0 ∷ 0 ∷ 255 ∷ 0 ∷ 0 ∷ []
unfolding decider decides decides_in zone_of covers turn lean new_in new_tints trapped_in within_in
clear_unscaled_foil = refl

-- black over cyan takes the double width, and a disabled zone stays as it is
pub shop_cyan : news (shop) 0 ≡ 255 ∷ 255 ∷ 255 ∷ 255 ∷ 255 ∷ 255 ∷ 0 ∷ 0 ∷ 0 ∷ 0 ∷ 0 ∷ 0 ∷ 255 ∷ 255 ∷ 255 ∷ 255 ∷ 255 ∷ 255 ∷ 0 ∷ 0 ∷ 0 ∷ 0 ∷ 0 ∷ 0 ∷ []
unfolding decider decides decides_in zone_of covers turn lean new_in new_tints trapped_in within_in
shop_cyan = refl

pub shop_magenta : news (shop) 1 ≡ 0 ∷ 0 ∷ 0 ∷ 0 ∷ 0 ∷ 0 ∷ 0 ∷ 0 ∷ 0 ∷ 255 ∷ 255 ∷ 255 ∷ 0 ∷ 0 ∷ 0 ∷ 0 ∷ 0 ∷ 0 ∷ 0 ∷ 0 ∷ 0 ∷ 255 ∷ 255 ∷ 255 ∷ []
unfolding decider decides decides_in zone_of covers turn lean new_in new_tints trapped_in within_in
shop_magenta = refl

pub shop_yellow : news (shop) 2 ≡ 0 ∷ 0 ∷ 0 ∷ 0 ∷ 0 ∷ 255 ∷ 255 ∷ 255 ∷ 255 ∷ 0 ∷ 0 ∷ 0 ∷ 0 ∷ 0 ∷ 0 ∷ 0 ∷ 0 ∷ 255 ∷ 255 ∷ 255 ∷ 255 ∷ 0 ∷ 0 ∷ 0 ∷ []
unfolding decider decides decides_in zone_of covers turn lean new_in new_tints trapped_in within_in
shop_yellow = refl

pub shop_black : news (shop) 3 ≡ 255 ∷ 255 ∷ 255 ∷ 0 ∷ 0 ∷ 0 ∷ 0 ∷ 0 ∷ 0 ∷ 0 ∷ 0 ∷ 0 ∷ 255 ∷ 255 ∷ 255 ∷ 0 ∷ 0 ∷ 0 ∷ 0 ∷ 0 ∷ 0 ∷ 0 ∷ 0 ∷ 0 ∷ []
unfolding decider decides decides_in zone_of covers turn lean new_in new_tints trapped_in within_in
shop_black = refl

pub shop_counts : page_counts (shop) ≡ record { zone_samples = 0 ∷ 18 ∷ 6 ∷ []; zone_changed = 0 ∷ 8 ∷ 0 ∷ []; edges = 4; plate_changed = 6 ∷ 0 ∷ 2 ∷ 0 ∷ [] }
unfolding decider decides decides_in zone_of covers turn lean new_in trapped_in within_in page_counts
shop_counts = refl

-- a trap of five points down a column: ten half-samples, and the last sample is beyond it
abbrev column : List ℕ → List ℕ → ℕ → List ℕ
column c m plate = news (page 72 (planes 1 12 255 (c ∷ m ∷ [])) (cyan ∷ magenta ∷ []) (everywhere (record usual { trap_width = 50000; sliding_trap_limit = 10000 }))) plate

pub column_cyan : column (255 ∷ 255 ∷ 255 ∷ 255 ∷ 255 ∷ 255 ∷ 0 ∷ 0 ∷ 0 ∷ 0 ∷ 0 ∷ 0 ∷ []) (0 ∷ 0 ∷ 0 ∷ 0 ∷ 0 ∷ 0 ∷ 255 ∷ 255 ∷ 255 ∷ 255 ∷ 255 ∷ 255 ∷ []) 0 ≡ 255 ∷ 255 ∷ 255 ∷ 255 ∷ 255 ∷ 255 ∷ 255 ∷ 255 ∷ 255 ∷ 255 ∷ 255 ∷ 0 ∷ []
unfolding decider decides decides_in zone_of covers turn lean new_in new_tints trapped_in within_in
column_cyan = refl

pub column_magenta : column (255 ∷ 255 ∷ 255 ∷ 255 ∷ 255 ∷ 255 ∷ 0 ∷ 0 ∷ 0 ∷ 0 ∷ 0 ∷ 0 ∷ []) (0 ∷ 0 ∷ 0 ∷ 0 ∷ 0 ∷ 0 ∷ 255 ∷ 255 ∷ 255 ∷ 255 ∷ 255 ∷ 255 ∷ []) 1 ≡ 0 ∷ 0 ∷ 0 ∷ 0 ∷ 0 ∷ 0 ∷ 255 ∷ 255 ∷ 255 ∷ 255 ∷ 255 ∷ 255 ∷ []
unfolding decider decides decides_in zone_of covers turn lean new_in new_tints trapped_in within_in
column_magenta = refl
