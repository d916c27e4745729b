-- Planes in range: those that were read, those that a set was put onto, and those of a page before and after trapping.
use Rattle.std.proofs.Common.{◌≡◌, ℕ, ◌*◌, ◌<◌, ◌≤◌, List, length, All, sym, ap, ◌∙◌, subst, arith}
use Rattle.std.proofs.lemmas.List.{get_or_default}
use Rattle.lists.proofs.ListBelow.{length-list_below, list_below-at}
use Rattle.page_model.specs.declared.parts.PageParts.{PageParts}
use Rattle.page_model.specs.declared.parts.Plane.{Plane}
use Rattle.page_model.specs.Conditions.{IsPage, IsPlane}
use Rattle.page_model.specs.Page.{plates}
use Rattle.page_model.specs.Planes.{no_plane, plane_at}
use Rattle.page_model.specs.Tints.{trapped_plane, trapped_planes}
use Rattle.page_files.specs.Steps.{IsPlaneOfPage}
use Rattle.page_model.specs.Shapes.{AreOneShape}
use Rattle.trapset_cli.specs.Putting.{AreInRange, IsSmall}
use Rattle.trap_set.specs.Applying.{IsBelow, KeepsPlane, KeepsPlanes}
use Rattle.trap_set.specs.Runs.{ArePair}

-- planes that were read
pub read_in_range : (planes : List Plane) (count : ℕ) → All IsPlaneOfPage planes → length planes ≡ count → AreInRange planes count
read_in_range planes count fine as_many = record {
  planes_ok = λ k d within. (fine k d within).0;
  small = λ k d within. (fine k d within).1;
  as_many = as_many;
}

kept_area : (old new : Plane) → KeepsPlane old new → old.width * old.height ≡ new.width * new.height
kept_area old new keeps = ap (λ (w : ℕ). w * old.height) (sym keeps.as_wide) ∙ ap (λ (h : ℕ). new.width * h) (sym keeps.as_tall)

kept_plane : (old new : Plane) → KeepsPlane old new → IsBelow new → IsPlane old → IsPlane new
kept_plane old new keeps below is = record {
  some_width = omega (arith, keeps.as_wide, is.some_width);
  narrow = omega (arith, keeps.as_wide, is.narrow);
  some_height = omega (arith, keeps.as_tall, is.some_height);
  low = omega (arith, keeps.as_tall, is.low);
  some_maxval = omega (arith, keeps.as_deep, is.some_maxval);
  maxval_fits = omega (arith, keeps.as_deep, is.maxval_fits);
  full = keeps.as_many ∙ is.full ∙ kept_area old new keeps;
  below = below;
}

-- planes that a set was put onto
pub kept_in_range : (old new : List Plane) (count : ℕ) → KeepsPlanes old new → AreInRange old count → AreInRange new count
kept_in_range old new count keeps is =
    let below : All IsBelow new = keeps.below (λ k d within. (is.planes_ok k d within).below) in
    record {
      planes_ok = λ c d within.
          (let before : c < length old = omega (arith, keeps.as_many, within) in
          subst IsPlane (get_or_default new c no_plane d within) (kept_plane (plane_at old c) (plane_at new c) (keeps.each c before) (below c no_plane within) (is.planes_ok c no_plane before)));
      small = λ c d within.
          (let before : c < length old = omega (arith, keeps.as_many, within) in
          subst IsSmall (get_or_default new c no_plane d within) (subst (λ (n : ℕ). n ≤ 160000000) (kept_area (plane_at old c) (plane_at new c) (keeps.each c before)) (is.small c no_plane before)));
      as_many = keeps.as_many ∙ is.as_many;
    }

trapped_first : (page : PageParts) → 0 < plates page → plane_at (trapped_planes page) 0 ≡ trapped_plane page 0
unfolding trapped_planes
trapped_first page some = list_below-at (trapped_plane page) (plates page) 0 no_plane some

-- the planes of a page before trapping and after
pub page_pair : (page : PageParts) → IsPage page → AreOneShape page.planes → AreOneShape (trapped_planes page) → ArePair page.planes (trapped_planes page)
unfolding trapped_planes
page_pair page valid before after =
    let first = trapped_first page (omega (arith, valid.parts.some_plates)) in
    record {
      before = before;
      after = after;
      as_many = length-list_below (trapped_plane page) (plates page);
      as_wide = ap (λ (p : Plane). p.width) first;
      as_tall = ap (λ (p : Plane). p.height) first;
      as_deep = ap (λ (p : Plane). p.maxval) first;
    }
