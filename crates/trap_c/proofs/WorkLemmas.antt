-- A page after trapping, as it lies in the samples.
use Rattle.std.proofs.Common.{◌≡◌, ℕ, ◌*◌, ◌<◌, ◌≤◌, List, All, length, sym, ap, ◌∙◌, subst, arith}
use Rattle.lists.proofs.ListBelow.{length-list_below, list_below-at, list_below-of}
use Rattle.page_model.specs.declared.parts.PageParts.{PageParts}
use Rattle.page_model.specs.declared.parts.Plane.{Plane}
use Rattle.page_model.specs.Conditions.{IsPlane}
use Rattle.page_model.specs.Counts.{page_counts, zone_samples, zone_changed, plate_changed}
use Rattle.page_model.specs.Page.{plates, height, maxval, sample_at, samples}
use Rattle.page_model.specs.Planes.{no_plane, plane_at}
use Rattle.page_model.specs.Tints.{new, new_tints, trapped_plane, trapped_planes}
use Rattle.trap_report.specs.Report.{AreCounts}
use Rattle.trap_c.specs.declared.layout.Layout.{Layout}
use Rattle.trap_c.specs.declared.work.Done.{Done}
use Rattle.trap_c.specs.Calls.{AreTrapped, IsWorked}
use Rattle.trap_c.specs.Pages.{Fills}
use Rattle.trap_c.specs.Planes.{plane_in, size, tints_in}

-- There is one count for each zone and each plate.
pub counts_fit : (page : PageParts) → AreCounts page (page_counts page)
unfolding page_counts
counts_fit page = record {
  zone_samples = length-list_below (zone_samples page) (length page.zones);
  zone_changed = length-list_below (zone_changed page) (length page.zones);
  plate_changed = length-list_below (plate_changed page) (plates page);
}

pub as_many_planes : (page : PageParts) → length (trapped_planes page) ≡ plates page
unfolding trapped_planes
as_many_planes page = length-list_below (trapped_plane page) (plates page)

pub one_plane : (page : PageParts) (c : ℕ) → c < plates page → plane_at (trapped_planes page) c ≡ trapped_plane page c
unfolding trapped_planes
one_plane page c l = list_below-at (trapped_plane page) (plates page) c no_plane l

pub long_plane : (page : PageParts) (c : ℕ) → length (trapped_plane page c).tints ≡ samples page
unfolding new_tints
long_plane page c = length-list_below (λ k. new page (sample_at page k) c) (samples page)

-- each plane that is put in has as many tints as the layout says
pub full_plane : (page : PageParts) (layout : Layout) (count : ℕ) (planes : List Plane) → Fills layout count page → planes ≡ trapped_planes page → (c : ℕ) → c < length planes → length (plane_at planes c).tints ≡ size layout
full_plane page layout count planes is e c l =
    let here : c < plates page = omega (arith, l, ap (λ (ps : List Plane). length ps) e, as_many_planes page) in
    ap (λ (ps : List Plane). length (plane_at ps c).tints) e ∙ (ap (λ (p : Plane). length p.tints) (one_plane page c here) ∙ (long_plane page c ∙ (ap (λ (w : ℕ). w * height page) is.wide ∙ ap (λ (h : ℕ). layout.width * h) is.tall)))

abbrev made : ℕ → ℕ → ℕ → List ℕ → Plane
made w h m t = record { width = w; height = h; maxval = m; tints = t }

same_plane : (page : PageParts) (layout : Layout) (count : ℕ) (after : List ℕ) (c : ℕ) → Fills layout count page → tints_in layout after c ≡ new_tints page c → trapped_plane page c ≡ plane_in layout after c
same_plane page layout count after c is e = ap (λ (n : ℕ). made n (height page) (maxval page) (new_tints page c)) is.wide ∙ (ap (λ (n : ℕ). made layout.width n (maxval page) (new_tints page c)) is.tall ∙ (ap (λ (n : ℕ). made layout.width layout.height n (new_tints page c)) is.deep ∙ ap (made layout.width layout.height layout.maxval) (sym e)))

-- the planes that were put in are those of the page after trapping
pub trapped_lie : (page : PageParts) (layout : Layout) (count : ℕ) (planes : List Plane) (after : List ℕ) → Fills layout count page → planes ≡ trapped_planes page → ((c : ℕ) → c < length planes → tints_in layout after c ≡ (plane_at planes c).tints) → AreTrapped page layout after
trapped_lie page layout count planes after is e each =
    sym (list_below-of no_plane (plane_in layout after) (plates page) (trapped_planes page) (as_many_planes page)
    (λ c l. one_plane page c l ∙ same_plane page layout count after c is (each c (omega (arith, l, ap (λ (ps : List Plane). length ps) e, as_many_planes page)) ∙ (ap (λ (ps : List Plane). (plane_at ps c).tints) e ∙ ap (λ (p : Plane). p.tints) (one_plane page c l)))))

-- what has to be so before the planes are put into the samples

pub all_lie : (most : ℕ) (layout : Layout) (before : List ℕ) (page : PageParts) (text : List ℕ) (d : Done) → IsWorked most layout before page text d → length before ≡ length d.planes * layout.height * layout.step
all_lie most layout before page text d is = is.all ∙ ap (λ (n : ℕ). n * layout.height * layout.step) (sym (ap (λ (ps : List Plane). length ps) is.planes ∙ as_many_planes page))

pub few_lie : (most : ℕ) (layout : Layout) (before : List ℕ) (page : PageParts) (text : List ℕ) (d : Done) → IsWorked most layout before page text d → length d.planes ≤ 16
few_lie most layout before page text d is = omega (arith, ap (λ (ps : List Plane). length ps) is.planes, as_many_planes page, is.few)

pub each_full : (most : ℕ) (layout : Layout) (before : List ℕ) (page : PageParts) (text : List ℕ) (d : Done) → IsWorked most layout before page text d → (c : ℕ) → c < length d.planes → length (plane_at d.planes c).tints ≡ size layout
each_full most layout before page text d is = full_plane page layout (plates page) d.planes is.laid_out is.planes

pub each_narrow : (layout : Layout) (before : List ℕ) (page : PageParts) (text : List ℕ) (d : Done) → IsWorked 255 layout before page text d → (c : ℕ) → c < length d.planes → All (λ t. t ≤ 255) (plane_at d.planes c).tints
each_narrow layout before page text d is c l =
    let there : c < length (trapped_planes page) = omega (arith, l, ap (λ (ps : List Plane). length ps) is.planes) in
    let here : c < plates page = omega (arith, there, as_many_planes page) in
    let fits : IsPlane (plane_at d.planes c) = subst (λ (ps : List Plane). IsPlane (plane_at ps c)) (sym is.planes) (is.in_range c no_plane there) in
    let deep : (plane_at d.planes c).maxval ≡ layout.maxval = ap (λ (ps : List Plane). (plane_at ps c).maxval) is.planes ∙ (ap (λ (p : Plane). p.maxval) (one_plane page c here) ∙ is.laid_out.deep) in
    λ k t within. omega (arith, fits.below k t within, deep, is.narrow)
