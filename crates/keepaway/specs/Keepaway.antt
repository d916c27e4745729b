-- Keepaway for rich black: under black, inks are drawn back from where black ends.
use Rattle.std.specs.Prelude.{ℕ, ◌*◌, ◌+◌, ◌/◌, Bool, ◌&&◌, ◌||◌, not, nat_lt, nat_le, ◌==◌, List}
use Rattle.std.specs.Prelude.{if◌then◌else◌}
use Rattle.std.specs.List.{list_any}
use Rattle.std.specs.Str.{bytes_eq}
use Rattle.lists.specs.Words.{any_below, gap, greatest_below, list_below, square}
use Rattle.page_model.specs.declared.parts.At.{At}
use Rattle.page_model.specs.declared.parts.PageParts.{PageParts}
use Rattle.page_model.specs.Density.{shut, spreads}
use Rattle.page_model.specs.Limits.{scale}
use Rattle.page_model.specs.Page.{height, ink_at, maxval, params_at, plates, sample_at, samples, tint}
use Rattle.page_model.specs.Page.{width}
use Rattle.page_model.specs.Zones.{zone_of}
use Rattle.draw_back.specs.Drawn.{Scene, drawn}
use Rattle.keepaway.specs.declared.parts.RichBlack.{RichBlack}

-- a pixel's side, in ten-thousandths of a point times the resolution: a point is a 72nd of an inch
abbrev pub pixel : ℕ
pixel = 72 * scale

-- the greatest squared distance, in pixels, that is at most the width and half a pixel
abbrev pub near_limit : ℕ → ℕ → ℕ
near_limit wide resolution = square (wide * resolution + pixel / 2) / square pixel

-- plate c's ink is black in zone z
abbrev pub is_black_ink : PageParts → ℕ → ℕ → Bool
is_black_ink page z c = spreads (ink_at page c).kind
    && nat_le (params_at page z).black_density_limit (ink_at page c).density

-- 2 where a tint is some ink and has the limit or more, 1 where it is less ink, 0 for none
abbrev pub tint_level : ℕ → ℕ → ℕ → ℕ
tint_level limit full t =
    if nat_lt 0 t then (if nat_le (limit * full) (t * scale) then 2 else 1) else 0

-- the level of plate c at a pixel, if its ink is black there
abbrev pub plate_level : PageParts → ℕ → At → ℕ → ℕ
plate_level page limit p c = if is_black_ink page (zone_of page p) c
    then tint_level limit (maxval page) (tint page c p) else 0

-- how black a pixel is: 2 where some black has the limit or more, 1 where there is some black
abbrev pub level : PageParts → ℕ → At → ℕ
level page limit p = greatest_below (plate_level page limit p) (plates page)

-- row y has a black pixel in column x or beside it
abbrev pub touches_row : PageParts → ℕ → ℕ → ℕ → Bool
touches_row page limit x y = any_below
    (λ j. nat_le (gap x j) 1 && (level page limit (record { x = j; y = y }) == 2)) (width page)

-- some black pixel touches p, diagonally too
abbrev pub touches : PageParts → ℕ → At → Bool
touches page limit p =
    any_below (λ y. nat_le (gap p.y y) 1 && touches_row page limit p.x y) (height page)

-- a pixel is covered where it is black, and where it has some black and touches a black one
unfoldable pub covered : PageParts → ℕ → At → Bool
covered page limit p =
    (level page limit p == 2) || ((level page limit p == 1) && touches page limit p)

-- trapping is on in the pixel's zone, and no OpaqueIgnore ink lies there
abbrev pub is_open : PageParts → At → Bool
is_open page p = (params_at page (zone_of page p)).enabled && not (shut page p)

-- the rule runs for plate c: its ink is Normal, and not one that is left alone
abbrev pub is_drawn : PageParts → List (List ℕ) → ℕ → Bool
is_drawn page spared c = spreads (ink_at page c).kind
    && not (list_any (bytes_eq (ink_at page c).name) spared)

-- what the rule sees of plate c
abbrev pub scene : PageParts → RichBlack → ℕ → Scene
scene page rich c = record {
  wide = width page;
  tall = height page;
  is_free = λ x y. not (covered page rich.limit (record { x = x; y = y }));
  tint_at = λ x y. tint page c (record { x = x; y = y });
  limit = near_limit rich.width page.resolution;
}

-- the pixel's tint of plate c may change
abbrev pub may_change : PageParts → RichBlack → ℕ → At → Bool
may_change page rich c p = is_drawn page rich.spared c && covered page rich.limit p
    && is_open page p && not (is_black_ink page (zone_of page p) c)

-- the new tint of plate c at a pixel
abbrev pub kept : PageParts → RichBlack → ℕ → At → ℕ
kept page rich c p = if may_change page rich c p then drawn (scene page rich c) p.x p.y
    else tint page c p

-- the new tints of plate c, row by row
unfoldable pub kept_tints : PageParts → RichBlack → ℕ → List ℕ
kept_tints page rich c = list_below (λ k. kept page rich c (sample_at page k)) (samples page)
