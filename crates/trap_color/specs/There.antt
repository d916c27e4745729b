-- Whether an edge traps a sample by the parameters of one zone, be it enabled or not.
use Rattle.std.specs.Prelude.{ℕ, Bool, ◌&&◌, ◌||◌, not, nat_lt}
use Rattle.page_model.specs.declared.parts.At.{At}
use Rattle.page_model.specs.declared.parts.EdgeAt.{EdgeAt}
use Rattle.page_model.specs.declared.parts.PageParts.{PageParts}
use Rattle.page_model.specs.Apart.{apart}
use Rattle.page_model.specs.Density.{density, shut}
use Rattle.page_model.specs.Edges.{across, own}
use Rattle.page_model.specs.Page.{params_at}
use Rattle.page_model.specs.Within.{edge_slid, within_in}

-- the edge traps p by the parameters of zone z, be the zone enabled or not
abbrev pub is_trapped_there : PageParts → ℕ → At → EdgeAt → Bool
is_trapped_there page z p
    e = (edge_slid page (params_at page z) e
    || nat_lt (density page (across p e)) (density page (own p e)))
    && (within_in page z p e && (apart page z p (across p e) && not (shut page p)))
