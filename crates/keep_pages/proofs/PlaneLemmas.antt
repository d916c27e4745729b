-- The planes of a page under black are in range afterwards.
use Rattle.std.proofs.Common.{◌≡◌, ℕ, ◌*◌, ◌<◌, ◌≤◌, length, arith}
use Rattle.std.specs.List.{All}
use Rattle.std.proofs.Math.Nat.{mul-le-mul, div-lt_iff_lt-mul, mod-lt}
use Rattle.page_model.specs.declared.parts.At.{At}
use Rattle.page_model.specs.declared.parts.PageParts.{PageParts}
use Rattle.page_model.specs.declared.parts.Plane.{Plane}
use Rattle.page_model.specs.Conditions.{IsPage, IsPlane}
use Rattle.page_model.specs.Page.{InPage, plates, width, height, maxval, samples, sample_at, tint}
use Rattle.lists.proofs.ListBelow.{length-list_below, all_below}
use Rattle.page_model.specs.Limits.{most_samples}
use Rattle.page_model.proofs.PageLemmas.{plane_of, tint_at_most}
use Rattle.draw_back.proofs.DrawnLemmas.{drawn_is, drawn_only, drawn_stored}
use Rattle.draw_back.specs.Laws.{DrawnLaw}
use Rattle.draw_back.specs.Drawn.{Scene}
use Rattle.keepaway.specs.Keepaway.{scene}
use Rattle.keepaway.proofs.KeepLemmas.{local as local_under_black}
use Rattle.underprint.proofs.UnderLemmas.{local as local_under_colour}
use Rattle.keep_pages.specs.declared.uses.KeepUse.{KeepUse}
use Rattle.keep_pages.specs.declared.uses.KeepUse.TheVariants.{UnderBlack, UnderColour}
use Rattle.keep_pages.specs.KeptPages.{Locality, kept, kept_plane, kept_planes, kept_tints}

drawn_law : (s : Scene) (x y : ℕ) → DrawnLaw s x y
drawn_law s x y = record {
  is = drawn_is s x y;
  only = λ v is. drawn_only s x y v is;
  stored = drawn_stored s x y;
  less = (drawn_is s x y).own;
}

-- what a new tint can be
pub locality : (page : PageParts) (used : KeepUse) (c : ℕ) (p : At) → Locality page used c p
locality page (UnderBlack rich) c p = local_under_black page rich c p (drawn_law (scene page rich c) p.x p.y)
locality page (UnderColour whites) c p = local_under_colour drawn_law page whites c p

kept_less : (page : PageParts) (used : KeepUse) (c : ℕ) (p : At) → kept page used c p ≤ tint page c p
kept_less page (UnderBlack rich) c p = (locality page (UnderBlack rich) c p).less
kept_less page (UnderColour whites) c p = (locality page (UnderColour whites) c p).less

sample_in : (page : PageParts) (k : ℕ) → 0 < width page → k < samples page → InPage page (sample_at page k)
sample_in page k some l = record {
  x = mod-lt k some;
  y = (div-lt_iff_lt-mul some).1 (omega (arith, l));
}

kept_at_most : (page : PageParts) (used : KeepUse) (c : ℕ) (p : At) → IsPage page → c < plates page → InPage page p → kept page used c p ≤ maxval page
kept_at_most page used c p valid l inside =
    let less : kept page used c p ≤ tint page c p = kept_less page used c p in
    let most : tint page c p ≤ maxval page = tint_at_most page c p valid l inside in
    omega arith

tints_at_most : (page : PageParts) (used : KeepUse) (c : ℕ) → IsPage page → 0 < width page → c < plates page → All (λ (t : ℕ). t ≤ maxval page) (kept_tints page used c)
unfolding kept_tints
tints_at_most page used c valid some l = all_below (λ (t : ℕ). t ≤ maxval page) (λ k. kept page used c (sample_at page k)) (samples page) (λ k below. kept_at_most page used c (sample_at page k) valid l (sample_in page k some below))

tints_count : (page : PageParts) (used : KeepUse) (c : ℕ) → length (kept_tints page used c) ≡ width page * height page
unfolding kept_tints
tints_count page used c = length-list_below (λ k. kept page used c (sample_at page k)) (samples page)

few_in_plane : (page : PageParts) (used : KeepUse) (c : ℕ) → IsPage page → c < plates page → (kept_plane page used c).width * (kept_plane page used c).height ≤ most_samples
few_in_plane page used c valid l =
    let whole : width page * height page * 1 ≤ width page * height page * plates page = mul-le-mul (omega arith) (omega (arith, l)) in
    omega (arith, whole, valid.few_samples)

plane_in_range : (page : PageParts) (used : KeepUse) (c : ℕ) → IsPage page → c < plates page → IsPlane (kept_plane page used c)
plane_in_range page used c valid l =
    let first = plane_of page 0 valid (omega (arith, l)) in
    record {
      some_width = first.some_width;
      narrow = first.narrow;
      some_height = first.some_height;
      low = first.low;
      some_maxval = first.some_maxval;
      maxval_fits = first.maxval_fits;
      full = tints_count page used c;
      below = tints_at_most page used c valid first.some_width l;
    }

pub planes_in_range : (page : PageParts) (used : KeepUse) → IsPage page → All IsPlane (kept_planes page used)
unfolding kept_planes
planes_in_range page used valid = all_below IsPlane (kept_plane page used) (plates page) (λ c l. plane_in_range page used c valid l)

pub few_in_planes : (page : PageParts) (used : KeepUse) → IsPage page → All (λ (plane : Plane). plane.width * plane.height ≤ most_samples) (kept_planes page used)
unfolding kept_planes
few_in_planes page used valid = all_below (λ (plane : Plane). plane.width * plane.height ≤ most_samples) (kept_plane page used) (plates page) (λ c l. few_in_plane page used c valid l)

pub planes_count : (page : PageParts) (used : KeepUse) → length (kept_planes page used) ≡ plates page
unfolding kept_planes
planes_count page used = length-list_below (kept_plane page used) (plates page)
