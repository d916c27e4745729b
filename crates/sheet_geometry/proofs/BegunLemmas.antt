-- A sheet whose planes begin with some tints: no ink follows.
use Rattle.std.proofs.Common.{◌≡◌, ℕ, ◌*◌, ◌-◌, ◌<◌, ◌≤◌, List, [], ◌++◌, length, map, replicate, sym, ap, ◌∙◌, subst, arith, length-append, append_assoc}
use Rattle.std.proofs.lemmas.List.{get_or-map, length-map, length-replicate, same_lists}
use Rattle.std.proofs.lemmas.List.Elements.{All-append, All-replicate}
use Rattle.lists.specs.Words.{list_below}
use Rattle.lists.proofs.ListBelow.{all_below, length-list_below, list_below-at}
use Rattle.page_model.specs.declared.parts.PageParts.{PageParts}
use Rattle.page_model.specs.declared.parts.Plane.{Plane}
use Rattle.page_model.specs.Page.{height, maxval, plates, width}
use Rattle.page_model.specs.Planes.{no_plane, plane_at, tints_of}
use Rattle.sheet_geometry.specs.Begun.{BeginsEarlier, BeginsWith, MayBegin}
use Rattle.sheet_geometry.specs.Outline.{IsFull, IsOutlineSheet, outline_plane, outline_sheet}
use Rattle.sheet_geometry.specs.Sheets.{IsSheet}
use Rattle.sheet_geometry.proofs.Pages.{any_default}
use Rattle.sheet_geometry.proofs.OutlineLemmas.{full_is, plane_outline}

module _ (outline : PageParts) (tints : ℕ → List ℕ) (is : IsOutlineSheet outline) (blank : outline_sheet outline ≡ outline) (may : MayBegin outline tints) where
  abbrev filled : ℕ → Plane
  filled c = record {
    width = width outline;
    height = height outline;
    maxval = maxval outline;
    tints = tints c ++ replicate (width outline * height outline - length (tints c)) 0;
  }

  abbrev sheet : PageParts
  sheet = record {
    resolution = outline.resolution;
    planes = list_below filled (plates outline);
    inks = outline.inks;
    zones = outline.zones;
  }

  -- a plane of the bare sheet has its sides, and no tints
  plane_is : (c : ℕ) → c < plates outline → outline_plane (filled c) ≡ plane_at outline.planes c
  plane_is c l =
      let agrees = is.agree c l in
      let none : [] ≡ tints_of outline.planes c = ap (λ (p : Plane). p.tints) (sym (plane_outline outline.planes c)) ∙ ap (λ (s : PageParts). tints_of s.planes c) blank in
      λ i. record { width = sym agrees.wide i; height = sym agrees.tall i; maxval = sym agrees.deep i; tints = none i }

  planes_are : map outline_plane (list_below filled (plates outline)) ≡ outline.planes
  planes_are = same_lists (map outline_plane (list_below filled (plates outline))) outline.planes (length-map (list_below filled (plates outline)) outline_plane ∙ length-list_below filled (plates outline)) (λ k d within.
      let below : k < plates outline = omega (arith, within, length-map (list_below filled (plates outline)) outline_plane, length-list_below filled (plates outline)) in
      let here : k < length (list_below filled (plates outline)) = omega (arith, below, length-list_below filled (plates outline)) in
      get_or-map outline_plane (list_below filled (plates outline)) k no_plane d here
      ∙ ap outline_plane (list_below-at filled (plates outline) k no_plane below)
      ∙ plane_is k below
      ∙ any_default outline.planes k no_plane d below)

  outline_same : outline_sheet sheet ≡ outline
  outline_same = ap (λ (planes : List Plane). record { resolution = outline.resolution; planes = planes; inks = outline.inks; zones = outline.zones }) planes_are

  filled_ok : (c : ℕ) → c < plates outline → IsFull (filled c)
  filled_ok c l = record {
    full = (let few = may.few c l in omega (arith, few, length-append (tints c) (replicate (width outline * height outline - length (tints c)) 0), length-replicate {A = ℕ} (width outline * height outline - length (tints c)) 0));
    below = All-append (λ (t : ℕ). t ≤ maxval outline) (tints c) (replicate (width outline * height outline - length (tints c)) 0) (may.below c l) (All-replicate (λ (t : ℕ). t ≤ maxval outline) (width outline * height outline - length (tints c)) 0 (omega arith));
  }

  valid : IsSheet sheet
  valid = full_is sheet (subst IsOutlineSheet (sym outline_same) is) (all_below IsFull filled (plates outline) filled_ok)

  pub some_sheet : (sheet : PageParts) × BeginsWith outline tints sheet
  some_sheet = (
    sheet,
    record {
      valid = valid;
      same = outline_same;
      each = λ c l. (replicate (width outline * height outline - length (tints c)) 0, ap (λ (p : Plane). p.tints) (list_below-at filled (plates outline) c no_plane l));
    },
  )

pub begins_earlier : BeginsEarlier
begins_earlier outline _ tints more begins = record {
  valid = begins.valid;
  same = begins.same;
  each = λ c l. (let rest = begins.each c l in (more c ++ rest.0, rest.1 ∙ append_assoc (tints c) (more c) rest.0));
}
