-- How a call that is done ends.
use Rattle.std.proofs.Common.{◌≡◌, ℕ, ◌<◌, List, length, Ok, refl, ap, ◌∙◌, subst, arith}
use Rattle.page_model.specs.Page.{plates}
use Rattle.page_model.specs.Planes.{plane_at}
use Rattle.trap_c.specs.declared.work.Done.{Done}
use Rattle.trap_c.specs.declared.work.Told.{Told}
use Rattle.sheet_geometry.specs.declared.cuts.Cut.{Cut}
use Rattle.sheet_geometry.specs.Tiles.{IsTile, Tile, TileLaw}
use Rattle.sheet_geometry.specs.WindowLaw.{WindowLaw}
use Rattle.sheet_geometry.specs.Windows.{IsCut}
use Rattle.page_model.specs.declared.parts.PageParts.{PageParts}
use Rattle.page_model.specs.declared.parts.Plane.{Plane}
use Rattle.trap_c.specs.declared.place.Place.{Place}
use Rattle.trap_c.specs.Calls.{Tells, Traps, Works}
use Rattle.trap_c.specs.Cores.{HaveCores}
use Rattle.trap_c.specs.Places.{core_of}
use Rattle.trap_c.specs.WindowCalls.{MakesWindow, SucceedsWindow, TrapsWindow, WorksWindow}
use Rattle.trap_c.specs.Windows.{call_window}
use Rattle.trap_c.specs.Pages.{call_page}
use Rattle.trap_c.specs.Planes.{KeepsGaps, tints_in}
use Rattle.trap_c.specs.Requests.{Asked}
use Rattle.trap_c.proofs.SheetLemmas.{core_is_new, made_window, on_sheet_is}
use Rattle.trap_c.proofs.WorkLemmas.{as_many_planes, trapped_lie}
use Rattle.page_model.specs.Columns.{halo}
use Rattle.page_model.specs.Reach.{page_reach}
use Rattle.sheet_geometry.specs.Areas.{traps}

-- The planes are put in, and the report is told.
pub done_well : (most : ℕ) (asked : Asked) (before after text text' : List ℕ) (len : ℕ) (d : Done) → Works most asked.layout before (call_page most asked before) (Ok d) → ((c : ℕ) → c < length d.planes → tints_in asked.layout after c ≡ (plane_at d.planes c).tints) → KeepsGaps asked.layout before after → Tells d.report text text' len → Traps most asked before after text text' len 0
done_well most asked before after text text' len d works each gaps tells = record {
  success = λ _. (works.0, works.1, trapped_lie works.0 asked.layout (plates works.0) d.planes after works.2.laid_out works.2.planes each, gaps, subst (λ (t : List ℕ). Tells t text text' len) works.2.report tells);
  refused = λ ne. absurd (ne refl);
}

-- The cores are put in, and the core's part of the report is there.
pub window_made : (most : ℕ) (asked : Asked) (place : Place) (before after : List ℕ) (d : Done) → WorksWindow most asked.layout place before (call_window most asked place before) (Ok d) → HaveCores asked.layout (core_of place) d.planes before after (length d.planes) → ((s : PageParts) (k : Cut) → IsCut s k → WindowLaw s k) → ((s : PageParts) (t : Tile) (x y rows : ℕ) → IsTile (halo (page_reach s)) s t x y rows → TileLaw traps s t x y rows) → MakesWindow most asked place before after (Ok (record { report = d.report; counts = d.counts }))
window_made most asked place before after d works cores windows tiles =
    let page = works.0 in
    let worked = works.2 in
    let many : length d.planes ≡ plates page = ap (λ (ps : List Plane). length ps) worked.planes ∙ as_many_planes page in
    let core = core_is_new page asked.layout (plates page) place d.planes before after worked.laid_out works.4 worked.planes cores in (
      page,
      record {
        page_is = works.1;
        core = core;
        rest = λ k beside. cores.rest k (λ c y lc ly. beside c y (omega (arith, lc, many)) ly);
        sheets = λ job sheet read of. on_sheet_is asked place before page sheet job works.5 works.4 (made_window most asked place before page job works.1 read) of after core windows tiles;
      },
      worked.report,
      works.6,
      works.7,
    )

-- The report of a window that is made is told.
pub window_told : (most : ℕ) (asked : Asked) (place : Place) (before after text text' : List ℕ) (len : ℕ) (told : Told) → MakesWindow most asked place before after (Ok told) → Tells told.report text text' len → SucceedsWindow most asked place before after text text' len
window_told most asked place before after text text' len told makes tells = (
  makes.0,
  record { samples = makes.1; reported = subst (λ (t : List ℕ). Tells t text text' len) makes.2 tells },
)

pub window_done : (most : ℕ) (asked : Asked) (place : Place) (before after text text' : List ℕ) (len : ℕ) (told : Told) → MakesWindow most asked place before after (Ok told) → Tells told.report text text' len → TrapsWindow most asked place before after text text' len 0
window_done most asked place before after text text' len told makes tells = record {
  success = λ _. window_told most asked place before after text text' len told makes tells;
  refused = λ ne. absurd (ne refl);
}
