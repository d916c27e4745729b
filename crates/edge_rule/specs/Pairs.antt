-- Samples of one zone that are judged together: where a tint falls by a step, and where a trap
-- may be made.
use Rattle.std.specs.Prelude.{◌≡◌, ℕ, ◌+◌, ◌-◌, ◌<◌, ◌≤◌, Bool, false, ◌&&◌, not, nat_le, length}
use Rattle.std.specs.Prelude.{Option, Some, None}
use Rattle.page_model.specs.declared.parts.At.{At}
use Rattle.page_model.specs.declared.parts.PageParts.{PageParts}
use Rattle.page_model.specs.Apart.{apart}
use Rattle.page_model.specs.Density.{shut}
use Rattle.page_model.specs.Page.{height, params_at, width}
use Rattle.page_model.specs.Zones.{zone_of}

-- how many samples are marked at once at most
abbrev pub most_together : ℕ
most_together = 1024

-- the sample k columns to the right of p
abbrev pub along : At → ℕ → At
along p k = record { x = p.x + k; y = p.y }

-- whether a tint falls by at least this step, where any fall is one
abbrev pub falls_by : Option ℕ → ℕ → ℕ → Bool
falls_by None here there = false
falls_by (Some step) here there = nat_le step (here - there)

-- a trap may be made between two samples of one zone: the zone is enabled, they are apart by its
-- limits, and neither is shut
abbrev pub pair_decides : PageParts → ℕ → At → At → Bool
pair_decides page z p q =
    (params_at page z).enabled && (apart page z p q && (not (shut page p) && not (shut page q)))

-- n samples of row y from x on lie in zone z, with the samples to their right and below them
pub record LieIn (page : PageParts) (y x n z : ℕ) : Type 0 where
  pub known : z < length page.zones
  pub inside : x + n < width page
  pub above : y + 1 < height page
  pub here : (k : ℕ) → k ≤ n → zone_of page (record { x = x + k; y = y }) ≡ z
  pub below : (k : ℕ) → k < n → zone_of page (record { x = x + k; y = y + 1 }) ≡ z
