-- Keepaway for underprints: under colour, a white is drawn back from where the colour ends.
use Rattle.std.specs.Prelude.{ℕ, zero, suc, ◌*◌, ◌+◌, ◌-◌, ◌/◌, Bool, true, false, ◌&&◌, ◌||◌, not, nat_lt}
use Rattle.std.specs.Prelude.{nat_le, ◌==◌, min, List, [], ◌∷◌, Option, Some, None, if◌then◌else◌}
use Rattle.std.specs.Str.{bytes_eq}
use Rattle.lists.specs.Words.{any_below, gap, list_below, square, sum_below}
use Rattle.page_model.specs.declared.parts.At.{At}
use Rattle.page_model.specs.declared.parts.PageParts.{PageParts}
use Rattle.page_model.specs.Density.{counts}
use Rattle.page_model.specs.Page.{height, ink_at, maxval, plates, sample_at, samples, tint, width}
use Rattle.draw_back.specs.Drawn.{Scene, drawn}
use Rattle.keepaway.specs.Keepaway.{near_limit, pixel}
use Rattle.underprint.specs.declared.parts.White.{White}
use Rattle.underprint.specs.declared.way.Way.{Way}
use Rattle.underprint.specs.declared.way.Way.TheVariants.{Left, Right, Above, Below}

-- by which width the ink of this name is drawn back, if it is an underprint
abbrev pub width_in : List White → List ℕ → Option ℕ
width_in [] name = None
width_in (w ∷ ws) name = if bytes_eq name w.name then Some w.width else width_in ws name

-- whether there is no width
abbrev pub is_none : Option ℕ → Bool
is_none None = true
is_none (Some n) = false

-- by which width plate c is drawn back, if it is an underprint
abbrev pub width_of : PageParts → List White → ℕ → Option ℕ
width_of page whites c = width_in whites (ink_at page c).name

-- plate c has colour: its ink is Normal or Opaque, and no underprint
abbrev pub is_colour : PageParts → List White → ℕ → Bool
is_colour page whites c = counts (ink_at page c).kind && is_none (width_of page whites c)

-- the tint of plate c at a pixel, if it has colour
abbrev pub colour_tint : PageParts → List White → At → ℕ → ℕ
colour_tint page whites p c = if is_colour page whites c then tint page c p else 0

-- a pixel has colour where the tints of these plates are a tenth of full ink or more together
abbrev pub has_colour : PageParts → List White → At → Bool
has_colour page whites p =
    nat_le (maxval page) (10 * sum_below (colour_tint page whites p) (plates page))

-- the pixel in column j of row y is another one than p, and has no colour
abbrev pub is_outline : PageParts → List White → At → ℕ → ℕ → Bool
is_outline page whites p y j = not ((y == p.y) && (j == p.x))
    && not (has_colour page whites (record { x = j; y = y }))

-- row y has such a pixel in p's column or beside it
abbrev pub outline_in_row : PageParts → List White → At → ℕ → Bool
outline_in_row page whites p y =
    any_below (λ j. nat_le (gap p.x j) 1 && is_outline page whites p y j) (width page)

-- some pixel without colour touches p, diagonally too
abbrev pub touches_outline : PageParts → List White → At → Bool
touches_outline page whites p =
    any_below (λ y. nat_le (gap p.y y) 1 && outline_in_row page whites p y) (height page)

-- a pixel is covered where it has colour, and where all pixels that touch it have
unfoldable pub covered : PageParts → List White → At → Bool
covered page whites p = has_colour page whites p || not (touches_outline page whites p)

-- the pixel that lies k + 1 pixels from p this way is on the page, and has no ink of plate c
abbrev pub ends_at : PageParts → ℕ → At → Way → ℕ → Bool
ends_at page c p Left k =
    nat_lt k p.x && (tint page c (record { x = p.x - (k + 1); y = p.y }) == 0)
ends_at page c p Right k = nat_lt (p.x + (k + 1)) (width page)
    && (tint page c (record { x = p.x + (k + 1); y = p.y }) == 0)
ends_at page c p Above k =
    nat_lt k p.y && (tint page c (record { x = p.x; y = p.y - (k + 1) }) == 0)
ends_at page c p Below k = nat_lt (p.y + (k + 1)) (height page)
    && (tint page c (record { x = p.x; y = p.y + (k + 1) }) == 0)

-- how many numbers, at most n, come before the first that passes
abbrev pub run_before : (ℕ → Bool) → ℕ → ℕ
run_before test zero = 0
run_before test (suc n) =
    if (run_before test n == n) && not (test n) then suc n else run_before test n

-- how far a run of ink is followed, in pixels: three widths
abbrev pub followed : ℕ → ℕ → ℕ
followed wide resolution = (3 * (wide * resolution) + (pixel - 1)) / pixel

-- how far the ink of plate c goes on from p this way, as far as it is followed; it goes on beyond
-- the page
abbrev pub run : PageParts → ℕ → ℕ → At → Way → ℕ
run page wide c p way = run_before (ends_at page c p way) (followed wide page.resolution)

-- how thick the ink of plate c is at p: the lesser of its runs along the row and the column
abbrev pub thickness : PageParts → ℕ → ℕ → At → ℕ
thickness page wide c p = 1 + min (run page wide c p Left + run page wide c p Right)
    (run page wide c p Above + run page wide c p Below)

-- the greatest squared distance that is near at this thickness: a third of it where it is thinner
-- than three widths, else the width and half a pixel
abbrev pub limit_at : ℕ → ℕ → ℕ → ℕ
limit_at wide resolution thick = if nat_lt (thick * pixel) (3 * (wide * resolution))
    then square (thick / 3) else near_limit wide resolution

-- what the rule sees of plate c, with this limit
abbrev pub scene : PageParts → List White → ℕ → ℕ → Scene
scene page whites c limit = record {
  wide = width page;
  tall = height page;
  is_free = λ x y. not (covered page whites (record { x = x; y = y }));
  tint_at = λ x y. tint page c (record { x = x; y = y });
  limit = limit;
}

-- the new tint at a pixel of plate c, drawn back to this limit
abbrev pub drawn_to : PageParts → List White → ℕ → ℕ → At → ℕ
drawn_to page whites c limit p =
    if covered page whites p then drawn (scene page whites c limit) p.x p.y else tint page c p

-- the new tint of a plate that is drawn back by this width, if it is an underprint
abbrev pub kept_by : PageParts → List White → Option ℕ → ℕ → At → ℕ
kept_by page whites None c p = tint page c p
kept_by page whites (Some wide) c p =
    drawn_to page whites c (limit_at wide page.resolution (thickness page wide c p)) p

-- the new tint of plate c at a pixel
abbrev pub kept : PageParts → List White → ℕ → At → ℕ
kept page whites c p = kept_by page whites (width_of page whites c) c p

-- the new tints of plate c, row by row
unfoldable pub kept_tints : PageParts → List White → ℕ → List ℕ
kept_tints page whites c = list_below (λ k. kept page whites c (sample_at page k)) (samples page)
