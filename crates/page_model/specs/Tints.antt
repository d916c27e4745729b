-- What a trapped sample is printed with: the inks of both sides, scaled so that the trap is no
-- darker than asked.
use Rattle.std.specs.Prelude.{ℕ, List, ◌+◌, ◌-◌, ◌*◌, ◌/◌, ◌&&◌, max, Option, Some, None}
use Rattle.std.specs.Prelude.{if◌then◌else◌}
use Rattle.page_model.specs.declared.parts.At.{At}
use Rattle.page_model.specs.declared.parts.EdgeAt.{EdgeAt}
use Rattle.page_model.specs.declared.parts.PageParts.{PageParts}
use Rattle.page_model.specs.declared.parts.Plane.{Plane}
use Rattle.page_model.specs.Page.{ink_at, params_at, tint, plates, width, height, maxval, samples}
use Rattle.page_model.specs.Page.{sample_at}
use Rattle.page_model.specs.Decider.{decider}
use Rattle.page_model.specs.Density.{density, density_of, spreads}
use Rattle.page_model.specs.Edges.{across}
use Rattle.page_model.specs.Trapped.{trapped_in}
use Rattle.lists.specs.Words.{list_below}
use Rattle.page_model.specs.Zones.{zone_of}
use Rattle.page_model.specs.Limits.{scale}

-- the tint of plate c where the inks of both sides lie one over the other
abbrev pub full : PageParts → At → EdgeAt → ℕ → ℕ
full page p e c = if spreads (ink_at page c).kind
    then max (tint page c p) (tint page c (across p e)) else tint page c p

-- the density of a sample's full tints
abbrev pub full_density : PageParts → At → EdgeAt → ℕ
full_density page p e = density_of page (full page p e)

-- the full tint, scaled down so that the density grows only by its part, TrapColorScaling
abbrev pub scaled_in : PageParts → ℕ → At → EdgeAt → ℕ → ℕ
scaled_in page z p e c =
    let here = density page p in
    let there = full_density page p e in
    (full page p e c * (here * scale + (params_at page z).trap_color_scaling * (there - here))) /
    (there * scale)

-- the new tint of plate c at p, which lies in zone z, with e as its decider
unfoldable pub new_in : PageParts → ℕ → At → EdgeAt → ℕ → ℕ
new_in page z p e c = if trapped_in page z p e && spreads (ink_at page c).kind
    then scaled_in page z p e c else tint page c p

-- the new tint of plate c where e is the decider, by the zone of the sample
abbrev pub new_by : PageParts → At → EdgeAt → ℕ → ℕ
new_by page p e c = new_in page (zone_of page p) p e c

-- with an edge, if there is one
abbrev pub new_from : PageParts → At → ℕ → Option EdgeAt → ℕ
new_from page p c None = tint page c p
new_from page p c (Some e) = new_by page p e c

-- the new tint of plate c at p
abbrev pub new : PageParts → At → ℕ → ℕ
new page p c = new_from page p c (decider page p)

-- the new tints of plate c, row by row
unfoldable pub new_tints : PageParts → ℕ → List ℕ
new_tints page c = list_below (λ k. new page (sample_at page k) c) (samples page)

-- plate c after trapping
abbrev pub trapped_plane : PageParts → ℕ → Plane
trapped_plane page c =
    record {
      width = width page;
      height = height page;
      maxval = maxval page;
      tints = new_tints page c;
    }

-- all plates after trapping
unfoldable pub trapped_planes : PageParts → List Plane
trapped_planes page = list_below (trapped_plane page) (plates page)
