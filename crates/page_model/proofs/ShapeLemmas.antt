-- What planes of one shape have, and that the planes of a page are of one shape before it is trapped and after.
use Rattle.std.proofs.Common.{◌≡◌, ℕ, ◌*◌, ◌<◌, ◌≤◌, List, length, arith, sym, ap, ◌∙◌, subst}
use Rattle.std.specs.List.{All}
use Rattle.page_model.specs.declared.parts.PageParts.{PageParts}
use Rattle.page_model.specs.declared.parts.Plane.{Plane}
use Rattle.page_model.specs.Conditions.{IsPage, IsPlane}
use Rattle.page_model.specs.Page.{plates, width, height}
use Rattle.std.proofs.lemmas.List.{get_or_default}
use Rattle.page_model.specs.Limits.{most_samples}
use Rattle.page_model.specs.Planes.{plane_at, no_plane, tints_of}
use Rattle.page_model.specs.Tints.{trapped_plane, trapped_planes}
use Rattle.page_model.proofs.TrappedPlanes.{planes_in_range}
use Rattle.lists.proofs.ListBelow.{length-list_below, list_below-at, all_below}
use Rattle.page_model.specs.Shapes.{AreOneShape, IsLike, wide, tall}

-- plane c is in range and like the first
pub plane_of : (planes : List Plane) (c : ℕ) → AreOneShape planes → c < length planes → IsPlane (plane_at planes c)
plane_of planes c shape l = shape.in_range c no_plane l

pub like_of : (planes : List Plane) (c : ℕ) → AreOneShape planes → c < length planes → IsLike planes (plane_at planes c)
like_of planes c shape l = shape.alike c no_plane l

-- a tint for each sample of a row after another
pub tints_count : (planes : List Plane) (c : ℕ) → AreOneShape planes → c < length planes → length (tints_of planes c) ≡ wide planes * tall planes
tints_count planes c shape l =
    let like = like_of planes c shape l in
    (plane_of planes c shape l).full ∙ ap (λ (w : ℕ). w * (plane_at planes c).height) like.as_wide ∙ ap (λ (h : ℕ). wide planes * h) like.as_tall

pub page_shape : (page : PageParts) → IsPage page → AreOneShape page.planes
page_shape page valid = record {
  some = valid.parts.some_plates;
  few = valid.parts.few_plates;
  in_range = valid.parts.planes_in_range;
  alike = λ c d l.
      (let agrees = valid.agree c l in
      let like : IsLike page.planes (plane_at page.planes c) = record { as_wide = agrees.wide; as_tall = agrees.tall; as_deep = agrees.deep } in
      subst (IsLike page.planes) (get_or_default page.planes c no_plane d l) like);
  few_samples = valid.few_samples;
}

trapped_count : (page : PageParts) → length (trapped_planes page) ≡ plates page
unfolding trapped_planes
trapped_count page = length-list_below (trapped_plane page) (plates page)

trapped_first : (page : PageParts) → 0 < plates page → plane_at (trapped_planes page) 0 ≡ trapped_plane page 0
unfolding trapped_planes
trapped_first page l = list_below-at (trapped_plane page) (plates page) 0 no_plane l

trapped_alike : (page : PageParts) → (planes : List Plane) → plane_at planes 0 ≡ trapped_plane page 0 → All (IsLike planes) (trapped_planes page)
unfolding trapped_planes
trapped_alike page planes first = all_below (IsLike planes) (trapped_plane page) (plates page) (λ c l. record {
  as_wide = sym (ap (λ (p : Plane). p.width) first);
  as_tall = sym (ap (λ (p : Plane). p.height) first);
  as_deep = sym (ap (λ (p : Plane). p.maxval) first);
})

trapped_few : (page : PageParts) (w h n : ℕ) → w ≡ width page → h ≡ height page → n ≡ plates page → width page * height page * plates page ≤ most_samples → w * h * n ≤ most_samples
trapped_few page w h n a b c few = rw (a, b, c) few

pub trapped_shape : (page : PageParts) → IsPage page → AreOneShape (trapped_planes page)
trapped_shape page valid =
    let first = trapped_first page (omega (arith, valid.parts.some_plates)) in
    record {
      some = omega (arith, trapped_count page, valid.parts.some_plates);
      few = omega (arith, trapped_count page, valid.parts.few_plates);
      in_range = planes_in_range page valid;
      alike = trapped_alike page (trapped_planes page) first;
      few_samples = trapped_few page _ _ _ (ap (λ (p : Plane). p.width) first) (ap (λ (p : Plane). p.height) first) (trapped_count page) valid.few_samples;
    }
