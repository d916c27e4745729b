-- The zones and marks of the whole page as lists, and their entries.
use Rattle.std.proofs.Common.{◌≡◌, ℕ, ◌/◌, ◌%◌, ◌<◌, length, refl}
use Rattle.std.specs.Prelude.{slice_index_or}
use Rattle.std.proofs.lemmas.Nat.{div-mul-add, mod-mul-add, mul-add-lt}
use Rattle.page_model.specs.declared.parts.At.{At}
use Rattle.page_model.specs.declared.parts.PageParts.{PageParts}
use Rattle.page_model.specs.Deciding.{mark}
use Rattle.page_model.specs.Page.{InPage, place, samples, sample_at, width, height}
use Rattle.page_model.specs.Zones.{zone_of}
use Rattle.strip_engine.specs.Whole.{sample_marks, sample_zones}
use Rattle.lists.proofs.ListBelow.{length-list_below, list_below-at}

pub sample_zones-length : (page : PageParts) → length (sample_zones page) ≡ samples page
unfolding sample_zones
sample_zones-length page = length-list_below _ (samples page)

pub sample_zones-at : (page : PageParts) (k d : ℕ) → k < samples page → slice_index_or (sample_zones page) k d ≡ zone_of page (sample_at page k)
unfolding sample_zones
sample_zones-at page k d l = list_below-at _ (samples page) k d l

pub sample_marks-length : (page : PageParts) → length (sample_marks page) ≡ samples page
unfolding sample_marks
sample_marks-length page = length-list_below _ (samples page)

pub sample_marks-at : (page : PageParts) (k d : ℕ) → k < samples page → slice_index_or (sample_marks page) k d ≡ mark page (k / width page) (k % width page)
unfolding sample_marks
sample_marks-at page k d l = list_below-at _ (samples page) k d l

pub ruleset zone_reads = (sample_zones-length, sample_zones-at)

-- a sample's place is its number
pub sample_at-place : (page : PageParts) (p : At) → InPage page p → sample_at page (place page p) ≡ p
sample_at-place page p h = rw (div-mul-add p.y (width page) p.x h.x, mod-mul-add p.y (width page) p.x h.x) refl

pub place-below : (page : PageParts) (p : At) → InPage page p → place page p < samples page
place-below page p h = mul-add-lt p.y (width page) p.x (height page) h.y h.x

pub ruleset places = (sample_at-place, place-below)
