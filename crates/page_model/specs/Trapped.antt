-- Which samples change: near enough, apart from the edge's other side, and on its darker side or
-- on both.
use Rattle.std.specs.Prelude.{ℕ, Bool, ◌&&◌, ◌||◌, not, nat_lt, false, Option, Some, None}
use Rattle.page_model.specs.declared.parts.At.{At}
use Rattle.page_model.specs.declared.parts.EdgeAt.{EdgeAt}
use Rattle.page_model.specs.declared.parts.PageParts.{PageParts}
use Rattle.page_model.specs.Page.{params_at}
use Rattle.page_model.specs.Apart.{apart}
use Rattle.page_model.specs.Decider.{decider}
use Rattle.page_model.specs.Density.{density, shut}
use Rattle.page_model.specs.Edges.{own, across}
use Rattle.page_model.specs.Within.{edge_slid, within_in}
use Rattle.page_model.specs.Zones.{zone_of}

-- the edge traps p, which lies in zone z: it is within and apart, and p is on the darker side of
-- it, unless it is slid
unfoldable pub trapped_in : PageParts → ℕ → At → EdgeAt → Bool
trapped_in page z p e = not (shut page p) && (params_at page z).enabled && within_in page z p e
    && apart page z p (across p e)
    && (edge_slid page (params_at page z) e
    || nat_lt (density page (across p e)) (density page (own p e)))

-- whether a sample is trapped at an edge, by the zone of the sample
abbrev pub trapped : PageParts → At → EdgeAt → Bool
trapped page p e = trapped_in page (zone_of page p) p e

-- trapped by an edge, if there is one
abbrev pub trapped_by : PageParts → At → Option EdgeAt → Bool
trapped_by page p None = false
trapped_by page p (Some e) = trapped page p e

-- the sample is trapped by its decider
abbrev pub is_trapped : PageParts → At → Bool
is_trapped page p = trapped_by page p (decider page p)
