-- The planes of a page after trapping are in range.
use Rattle.std.proofs.Common.{◌≡◌, ℕ, ◌*◌, ◌<◌, ◌≤◌, length, arith}
use Rattle.std.specs.List.{All}
use Rattle.std.proofs.Math.Nat.{mul-le-mul, div-lt_iff_lt-mul, mod-lt}
use Rattle.page_model.specs.declared.parts.PageParts.{PageParts}
use Rattle.page_model.specs.declared.parts.Plane.{Plane}
use Rattle.page_model.specs.Conditions.{IsPage, IsPlane}
use Rattle.page_model.specs.Page.{InPage, plates, width, height, maxval, samples, sample_at}
use Rattle.page_model.specs.Tints.{new, new_tints, trapped_plane, trapped_planes}
use Rattle.lists.proofs.ListBelow.{length-list_below, all_below}
use Rattle.page_model.specs.Limits.{most_samples}
use Rattle.page_model.proofs.PageLemmas.{plane_of}
use Rattle.page_model.proofs.TintLemmas.{new_at_most}

sample_in : (page : PageParts) (k : ℕ) → 0 < width page → k < samples page → InPage page (sample_at page k)
sample_in page k some l = record {
  x = mod-lt k some;
  y = (div-lt_iff_lt-mul some).1 (omega (arith, l));
}

tints_at_most : (page : PageParts) (c : ℕ) → IsPage page → 0 < width page → c < plates page → All (λ (t : ℕ). t ≤ maxval page) (new_tints page c)
unfolding new_tints
tints_at_most page c valid some l = all_below (λ (t : ℕ). t ≤ maxval page) (λ k. new page (sample_at page k) c) (samples page) (λ k below. new_at_most page (sample_at page k) c valid l (sample_in page k some below))

tints_count : (page : PageParts) (c : ℕ) → length (new_tints page c) ≡ width page * height page
unfolding new_tints
tints_count page c = length-list_below (λ k. new page (sample_at page k) c) (samples page)

-- each has as many samples as the page
few_in_plane : (page : PageParts) (c : ℕ) → IsPage page → c < plates page → (trapped_plane page c).width * (trapped_plane page c).height ≤ most_samples
few_in_plane page c valid l =
    let whole : width page * height page * 1 ≤ width page * height page * plates page = mul-le-mul (omega arith) (omega (arith, l)) in
    omega (arith, whole, valid.few_samples)

plane_in_range : (page : PageParts) (c : ℕ) → IsPage page → c < plates page → IsPlane (trapped_plane page c)
plane_in_range page c valid l =
    let first = plane_of page 0 valid (omega (arith, l)) in
    record {
      some_width = first.some_width;
      narrow = first.narrow;
      some_height = first.some_height;
      low = first.low;
      some_maxval = first.some_maxval;
      maxval_fits = first.maxval_fits;
      full = tints_count page c;
      below = tints_at_most page c valid first.some_width l;
    }

pub planes_in_range : (page : PageParts) → IsPage page → All IsPlane (trapped_planes page)
unfolding trapped_planes
planes_in_range page valid = all_below IsPlane (trapped_plane page) (plates page) (λ c l. plane_in_range page c valid l)

pub few_in_planes : (page : PageParts) → IsPage page → All (λ (plane : Plane). plane.width * plane.height ≤ most_samples) (trapped_planes page)
unfolding trapped_planes
few_in_planes page valid = all_below (λ (plane : Plane). plane.width * plane.height ≤ most_samples) (trapped_plane page) (plates page) (λ c l. few_in_plane page c valid l)
