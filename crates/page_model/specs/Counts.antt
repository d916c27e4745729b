-- What the report tells of a page.
use Rattle.std.specs.Prelude.{ℕ, ◌&&◌, not, Bool, ◌==◌, length}
use Rattle.page_model.specs.declared.parts.At.{At}
use Rattle.page_model.specs.declared.parts.Counts.{Counts}
use Rattle.page_model.specs.declared.parts.PageParts.{PageParts}
use Rattle.page_model.specs.Page.{plates, samples, sample_at, tint}
use Rattle.page_model.specs.Decider.{grid_points, grid_point, is_candidate}
use Rattle.page_model.specs.Tints.{new}
use Rattle.lists.specs.Words.{any_below, count_below, list_below}
use Rattle.page_model.specs.Zones.{zone_of}

-- plate c has another tint at the sample than before
abbrev pub plate_changes : PageParts → ℕ → At → Bool
plate_changes page c p = not (new page p c == tint page c p)

-- at least one plate has another tint there
abbrev pub sample_changes : PageParts → At → Bool
sample_changes page p = any_below (λ c. plate_changes page c p) (plates page)

-- how many samples lie in zone z
abbrev pub zone_samples : PageParts → ℕ → ℕ
zone_samples page z = count_below (λ k. zone_of page (sample_at page k) == z) (samples page)

-- and how many of these change
abbrev pub zone_changed : PageParts → ℕ → ℕ
zone_changed page z = count_below
    (λ k. (zone_of page (sample_at page k) == z) && sample_changes page (sample_at page k))
    (samples page)

-- how many edges of the page decide
abbrev pub deciding_edges : PageParts → ℕ
deciding_edges page = count_below (λ k. is_candidate page (grid_point page k)) (grid_points page)

-- how many samples of plate c change
abbrev pub plate_changed : PageParts → ℕ → ℕ
plate_changed page c = count_below (λ k. plate_changes page c (sample_at page k)) (samples page)

-- what the report of the page tells
unfoldable pub page_counts : PageParts → Counts
page_counts page = record {
  zone_samples = list_below (zone_samples page) (length page.zones);
  zone_changed = list_below (zone_changed page) (length page.zones);
  edges = deciding_edges page;
  plate_changed = list_below (plate_changed page) (plates page);
}
