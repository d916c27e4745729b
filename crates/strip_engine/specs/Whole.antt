-- The zones and marks of all samples of a page, row by row.
use Rattle.std.specs.Prelude.{ℕ, List, ◌/◌, ◌%◌}
use Rattle.page_model.specs.declared.parts.PageParts.{PageParts}
use Rattle.page_model.specs.Deciding.{mark}
use Rattle.page_model.specs.Page.{sample_at, samples, width}
use Rattle.lists.specs.Words.{list_below}
use Rattle.page_model.specs.Zones.{zone_of}

-- the zone of each sample, row by row
unfoldable pub sample_zones : PageParts → List ℕ
sample_zones page = list_below (λ k. zone_of page (sample_at page k)) (samples page)

-- the two marks of each sample, row by row
unfoldable pub sample_marks : PageParts → List ℕ
sample_marks page = list_below (λ k. mark page (k / width page) (k % width page)) (samples page)
