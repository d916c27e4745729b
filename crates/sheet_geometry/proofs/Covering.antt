-- The planes of a sheet cover each window of it.
use Rattle.std.proofs.Common.{◌≡◌, ℕ, ◌+◌, ◌*◌, ◌<◌, ◌≤◌, List, length, sym, ap, ◌∙◌, subst, arith}
use Rattle.std.specs.Prelude.{slice_index_or}
use Rattle.std.specs.List.{All}
use Rattle.std.proofs.Math.Nat.{mul-le-mul}
use Rattle.page_model.specs.declared.parts.PageParts.{PageParts}
use Rattle.page_model.specs.declared.parts.Plane.{Plane}
use Rattle.page_model.specs.Page.{height, plates, width}
use Rattle.page_model.specs.Planes.{no_plane, plane_at}
use Rattle.sheet_geometry.specs.declared.cuts.Cut.{Cut}
use Rattle.sheet_geometry.specs.Windows.{IsCut}
use Rattle.sheet_geometry.proofs.Pages.{any_default}
use Rattle.sheet_geometry.specs.WindowSheets.{IsCuttable}
use Rattle.sheet_geometry.specs.Shown.{Covers}

covers_from : (sheet : PageParts) (cut : Cut) (c : ℕ) → IsCuttable sheet → IsCut sheet cut → c < plates sheet → Covers (width sheet) cut (length (plane_at sheet.planes c).tints)
covers_from sheet cut c whole is l =
    let plane = whole.ranges.parts.planes_in_range c no_plane l in
    let agrees = whole.ranges.agree c l in
    let full : length (plane_at sheet.planes c).tints ≡ width sheet * height sheet = plane.full ∙ (λ i. agrees.wide i * agrees.tall i) in
    let rows : (cut.top + cut.height) * width sheet ≤ height sheet * width sheet = mul-le-mul is.down (omega arith) in
    record {
      some_width = is.some_width;
      across = is.across;
      down = omega (arith, full, rows);
      low = (let a = is.down in let b = whole.low in omega (arith, a, b));
      narrow = (let b = whole.narrow in omega (arith, b));
    }

pub covered : (sheet : PageParts) (cut : Cut) (planes : List Plane) (wide : ℕ) → IsCuttable sheet → IsCut sheet cut → planes ≡ sheet.planes → wide ≡ width sheet → All (λ (plane : Plane). Covers wide cut (length plane.tints)) planes
covered sheet cut planes wide whole is ep ew = λ k d l.
    let inside : k < plates sheet = (let e = ap length ep in omega (arith, l, e)) in
    let same : slice_index_or planes k d ≡ plane_at sheet.planes k = any_default planes k d no_plane l ∙ ap (λ (ps : List Plane). slice_index_or ps k no_plane) ep in
    subst (λ (plane : Plane). Covers wide cut (length plane.tints)) (sym same) (subst (λ (w : ℕ). Covers w cut (length (plane_at sheet.planes k).tints)) (sym ew) (covers_from sheet cut k whole is inside))
