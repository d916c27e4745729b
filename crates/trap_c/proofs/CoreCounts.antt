-- What is counted in a core, from counts that were all 0.
use Rattle.std.proofs.Common.{◌≡◌, ℕ, ◌+◌, ◌*◌, ◌^◌, ◌<◌, ◌≤◌, List, length, get_or, ap, ◌∙◌, arith, mul-le-mul}
use Rattle.std.specs.Prelude.{replicate}
use Rattle.std.proofs.lemmas.List.{get_or-replicate, length-replicate}
use Rattle.lists.specs.Words.{list_below}
use Rattle.lists.proofs.ListBelow.{list_below-from}
use Rattle.page_model.specs.declared.parts.Counts.{Counts}
use Rattle.page_model.specs.declared.parts.PageParts.{PageParts}
use Rattle.page_model.specs.Conditions.{IsPage, IsPlane}
use Rattle.page_model.specs.Page.{plates}
use Rattle.page_model.specs.Planes.{no_plane, plane_at}
use Rattle.sheet_geometry.specs.declared.cuts.Cut.{Cut}
use Rattle.sheet_geometry.specs.Areas.{changes_in, changes_plate, edges_at, lies_in, traps}
use Rattle.sheet_engine.specs.declared.counts.SheetCounts.{SheetCounts}
use Rattle.sheet_engine.specs.Growth.{AddsArea, Grows, HasWorkspace, HasWorkspaces, LiesOn}
use Rattle.trap_c.specs.Cores.{AreNone, HasCounts, core_counts, sum_over}
use Rattle.trap_c.specs.ReportRecords.{AreFew}
use Rattle.trap_report.specs.Report.{AreCounts}
use Rattle.lists.proofs.ListBelow.{length-list_below}

none_workspace : (n more : ℕ) (counts : List ℕ) → counts ≡ replicate n 0 → more < 2 ^ 64 → HasWorkspace n more counts
none_workspace n more counts e few = record {
  long = ap (λ (xs : List ℕ). length xs) e ∙ length-replicate n 0;
  low = λ z l. (let none : get_or counts z 0 ≡ 0 = ap (λ (xs : List ℕ). get_or xs z 0) e ∙ get_or-replicate n z 0 0 l in omega (arith, none, few));
}

-- a core has few enough samples
few_in : (w h : ℕ) → w ≤ 16384 → h ≤ 16384 → w * h ≤ 268435456
few_in w h a b = (let m = mul-le-mul a b in omega (arith, m))

pub workspaces : (page : PageParts) (core : Cut) (counts : SheetCounts) → IsPage page → LiesOn page core → AreNone page counts → HasWorkspaces page (core.width * core.height) counts
workspaces page core counts is lies none =
    let some = is.parts.some_plates in
    let plane : IsPlane (plane_at page.planes 0) = is.parts.planes_in_range 0 no_plane (omega (arith, some)) in
    let few = few_in core.width core.height (omega (arith, lies.across, plane.narrow)) (omega (arith, lies.down, plane.low)) in
    record {
      zone_samples = none_workspace (length page.zones) (core.width * core.height) counts.zone_samples.items none.zone_samples (omega (arith, few));
      zone_changed = none_workspace (length page.zones) (core.width * core.height) counts.zone_changed.items none.zone_changed (omega (arith, few));
      plate_changed = none_workspace (plates page) (core.width * core.height) counts.plate_changed.items none.plate_changed (omega (arith, few));
      edges = omega (arith, few, none.edges);
    }

grown : (n : ℕ) (by : ℕ → ℕ) (before after : List ℕ) → before ≡ replicate n 0 → Grows n by before after → after ≡ list_below by n
grown n by before after e grows = list_below-from by n after
    (grows.long ∙ ap (λ (xs : List ℕ). length xs) e ∙ length-replicate n 0)
    (λ z l. grows.each z l ∙ ap (λ (m : ℕ). m + by z) (ap (λ (xs : List ℕ). get_or xs z 0) e ∙ get_or-replicate n z 0 0 l) ∙ omega arith)

abbrev made : List ℕ → List ℕ → ℕ → List ℕ → Counts
made samples changed edges plates = record { zone_samples = samples; zone_changed = changed; edges = edges; plate_changed = plates }

pub counted : (page : PageParts) (core : Cut) (before after : SheetCounts) (counts : Counts) → AreNone page before → AddsArea page core.left core.top core.width core.height before after → HasCounts after counts → counts ≡ core_counts page core
counted page core before after counts none adds same =
    let a : counts.zone_samples ≡ list_below (λ z. sum_over core (lies_in z page)) (length page.zones) = same.zone_samples ∙ grown (length page.zones) (λ z. sum_over core (lies_in z page)) before.zone_samples.items after.zone_samples.items none.zone_samples adds.zone_samples in
    let b : counts.zone_changed ≡ list_below (λ z. sum_over core (changes_in traps z page)) (length page.zones) = same.zone_changed ∙ grown (length page.zones) (λ z. sum_over core (changes_in traps z page)) before.zone_changed.items after.zone_changed.items none.zone_changed adds.zone_changed in
    let c : counts.edges ≡ sum_over core (edges_at page) = same.edges ∙ adds.edges ∙ ap (λ (m : ℕ). m + sum_over core (edges_at page)) none.edges ∙ omega arith in
    let d : counts.plate_changed ≡ list_below (λ c. sum_over core (changes_plate traps c page)) (plates page) = same.plate_changed ∙ grown (plates page) (λ c. sum_over core (changes_plate traps c page)) before.plate_changed.items after.plate_changed.items none.plate_changed adds.plate_changed in
    λ i. made (a i) (b i) (c i) (d i)

-- there is one count for each zone and each plate
pub core_counts_fit : (page : PageParts) (core : Cut) (counts : Counts) → counts ≡ core_counts page core → AreCounts page counts
core_counts_fit page core counts e = record {
  zone_samples = ap (λ (k : Counts). length k.zone_samples) e ∙ length-list_below (λ z. sum_over core (lies_in z page)) (length page.zones);
  zone_changed = ap (λ (k : Counts). length k.zone_changed) e ∙ length-list_below (λ z. sum_over core (changes_in traps z page)) (length page.zones);
  plate_changed = ap (λ (k : Counts). length k.plate_changed) e ∙ length-list_below (λ c. sum_over core (changes_plate traps c page)) (plates page);
}

-- and few enough for the arrays of C's struct
pub few_counts : (page : PageParts) (core : Cut) (counts : Counts) → IsPage page → counts ≡ core_counts page core → AreFew counts
few_counts page core counts is e =
    let fit = core_counts_fit page core counts e in
    record {
      zone_samples = omega (arith, fit.zone_samples, is.parts.few_zones);
      zone_changed = omega (arith, fit.zone_changed, is.parts.few_zones);
      plate_changed = omega (arith, fit.plate_changed, is.parts.few_plates);
    }
