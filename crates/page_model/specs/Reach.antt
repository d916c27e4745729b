-- How far an edge can trap, in half-samples.
use Rattle.std.specs.Prelude.{ℕ, ◌*◌, ◌/◌, max, length, if◌then◌else◌}
use Rattle.page_model.specs.declared.parts.PageParts.{PageParts}
use Rattle.page_model.specs.declared.parts.TrapParams.{TrapParams}
use Rattle.page_model.specs.Page.{params_at}
use Rattle.lists.specs.Words.{greatest_below}
use Rattle.page_model.specs.Limits.{half_sample, scale}

-- the widest trap of the parameters in whole half-samples: the trap width, or with the black
-- width where that is more
abbrev pub params_reach : ℕ → TrapParams → ℕ
params_reach resolution params =
    (params.trap_width * max params.black_width scale * resolution) / half_sample

-- a disabled zone reaches nowhere
abbrev pub zone_reach : PageParts → ℕ → ℕ
zone_reach page z =
    if (params_at page z).enabled then params_reach page.resolution (params_at page z) else 0

-- the greatest reach of the page's zones
unfoldable pub page_reach : PageParts → ℕ
page_reach page = greatest_below (zone_reach page) (length page.zones)
