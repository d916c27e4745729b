-- What a page after trapping has for its report: a count for each zone and plate, and as many plates as before.
use Rattle.std.proofs.Common.{◌≡◌, length}
use Rattle.lists.proofs.ListBelow.{length-list_below}
use Rattle.page_model.specs.declared.parts.PageParts.{PageParts}
use Rattle.page_model.specs.Counts.{page_counts, zone_samples, zone_changed, plate_changed}
use Rattle.page_model.specs.Page.{plates}
use Rattle.page_model.specs.Tints.{trapped_plane, trapped_planes}
use Rattle.trap_report.specs.Report.{AreCounts}

-- The counts of a page are as many as a report asks for.
pub counts_fit : (page : PageParts) → AreCounts page (page_counts page)
unfolding page_counts
counts_fit page = record {
  zone_samples = length-list_below (zone_samples page) (length page.zones);
  zone_changed = length-list_below (zone_changed page) (length page.zones);
  plate_changed = length-list_below (plate_changed page) (plates page);
}

-- A page has as many plates after trapping as before.
pub as_many_planes : (page : PageParts) → length (trapped_planes page) ≡ plates page
unfolding trapped_planes
as_many_planes page = length-list_below (trapped_plane page) (plates page)
