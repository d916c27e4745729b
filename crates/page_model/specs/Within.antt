-- Whether a sample is near enough to its edge: the trap width, more at black, half of it on both
-- sides of a slid edge.
use Rattle.std.specs.Prelude.{ℕ, ◌*◌, Bool, ◌&&◌, ◌||◌, nat_lt, nat_le, ◌==◌, min, max}
use Rattle.std.specs.Prelude.{if◌then◌else◌}
use Rattle.page_model.specs.declared.parts.At.{At}
use Rattle.page_model.specs.declared.parts.EdgeAt.{EdgeAt}
use Rattle.page_model.specs.declared.parts.PageParts.{PageParts}
use Rattle.page_model.specs.declared.parts.TrapParams.{TrapParams}
use Rattle.page_model.specs.Page.{ink_at, params_at, plates, maxval, tint}
use Rattle.page_model.specs.Density.{plate_counts, density}
use Rattle.page_model.specs.Edges.{first, second, d2}
use Rattle.lists.specs.Words.{any_below, square}
use Rattle.page_model.specs.Zones.{zone_of}
use Rattle.page_model.specs.Limits.{half_sample, scale}

-- the density of the edge's lighter side
abbrev pub low : PageParts → EdgeAt → ℕ
low page e = min (density page (first e)) (density page (second e))

-- and of its darker side
abbrev pub high : PageParts → EdgeAt → ℕ
high page e = max (density page (first e)) (density page (second e))

-- densities so near that the trap slides to the middle of the edge
abbrev pub slid : TrapParams → ℕ → ℕ → Bool
slid params less more = nat_le (params.sliding_trap_limit * more) (less * scale)

-- whether an edge is slid, by its samples' densities
abbrev pub edge_slid : PageParts → TrapParams → EdgeAt → Bool
edge_slid page params e = slid params (low page e) (high page e)

-- plate c counts as black at the sample: a dark enough ink with tint enough
abbrev pub black_plate : PageParts → TrapParams → At → ℕ → Bool
black_plate page params p c = plate_counts page c
    && nat_le params.black_density_limit (ink_at page c).density && nat_lt 0 (tint page c p)
    && nat_le (params.black_color_limit * maxval page) (tint page c p * scale)

-- whether some plate makes a sample black
abbrev pub black_sample : PageParts → TrapParams → At → Bool
black_sample page params p = any_below (black_plate page params p) (plates page)

-- a side of the edge's greater density has a black ink
abbrev pub black : PageParts → TrapParams → EdgeAt → Bool
black page params e =
    ((density page (first e) == high page e) && black_sample page params (first e))
    || ((density page (second e) == high page e) && black_sample page params (second e))

-- the edge is at most a trap width away, by the parameters of zone z: the black width at a black
-- edge, and half the width at a slid one
unfoldable pub within_in : PageParts → ℕ → At → EdgeAt → Bool
within_in page z p e =
    let params = params_at page z in
    let factor = (if black page params e then params.black_width else scale) in
    let parts = (if edge_slid page params e then 2 else 1) in
    nat_le (d2 p e * square (half_sample * parts))
    (square (params.trap_width * factor * page.resolution))

-- whether an edge is near enough to trap a sample, by the zone of the sample
abbrev pub within : PageParts → At → EdgeAt → Bool
within page p e = within_in page (zone_of page p) p e
