-- Why separations make no page, in the order in which it is reported.
use Rattle.std.specs.Prelude.{ℕ, ◌*◌, ◌==◌, ◌&&◌, nat_lt, length, Option, Some, None, if◌then◌else◌}
use Rattle.page_model.specs.declared.page.PageFault.{PageFault}
use Rattle.page_model.specs.declared.page.PageFault.TheVariants.{SizeDiffers, MaxvalDiffers}
use Rattle.page_model.specs.declared.page.PageFault.TheVariants.{TooManySamples, ReachTooWide}
use Rattle.page_model.specs.declared.parts.PageParts.{PageParts}
use Rattle.page_model.specs.Page.{plates, width, height, maxval}
use Rattle.page_model.specs.Planes.{plane_at}
use Rattle.page_model.specs.Reach.{zone_reach}
use Rattle.lists.specs.Words.{first_some, or_else}
use Rattle.page_model.specs.Limits.{most_reach, most_samples}

-- where plate c differs from plate 0: in a side, or in the maxval alone
abbrev pub difference : PageParts → ℕ → Option PageFault
difference page c =
    let plane = plane_at page.planes c in
    if (plane.width == width page) && (plane.height == height page)
    then (if plane.maxval == maxval page then None else Some (MaxvalDiffers c))
    else Some (SizeDiffers c)

-- more samples in all plates together than a page may have
abbrev pub too_many : PageParts → Option PageFault
too_many page = if nat_lt most_samples (width page * height page * plates page)
    then Some TooManySamples else None

-- an enabled zone that would trap over more than 256 half-samples
abbrev pub too_wide : PageParts → ℕ → Option PageFault
too_wide page z = if nat_lt most_reach (zone_reach page z) then Some (ReachTooWide z) else None

-- the first fault of the parts, in the order in which faults are judged
abbrev pub page_fault : PageParts → Option PageFault
page_fault page = or_else (or_else (first_some (difference page) (plates page)) (too_many page))
    (first_some (too_wide page) (length page.zones))
