-- Rooms for the windows of a strip: what they are made for, and what they hold once the windows are trapped.
use Rattle.std.proofs.Common.{◌≡◌, ℕ, zero, suc, ◌+◌, ◌<◌, ◌≤◌, List, [], ◌∷◌, ◌++◌, length, take, drop, get_or, refl, sym, ◌∙◌, ap, subst, arith, append_assoc}
use Rattle.std.specs.Prelude.{map, slice_index_or}
use Rattle.std.specs.List.{All}
use Rattle.std.proofs.lemmas.List.{get_or-map, length-append, length-drop, length-map, length-replicate, length-take-le, map-append, take_at, take_more}
use Rattle.std.proofs.lemmas.List.Elements.{All-append}
use Rattle.lists.proofs.ListBelow.{length-list_below}
use Rattle.page_model.specs.declared.parts.PageParts.{PageParts}
use Rattle.page_model.specs.declared.parts.Plane.{Plane}
use Rattle.page_model.specs.Page.{height, plates, width}
use Rattle.page_model.specs.Tints.{new, trapped_planes}
use Rattle.page_tally.specs.Shapes.{shape_of}
use Rattle.sheet_geometry.specs.Areas.{traps}
use Rattle.sheet_geometry.specs.declared.spans.Ruler.{Ruler}
use Rattle.sheet_geometry.specs.declared.spans.Span.{Span}
use Rattle.sheet_geometry.specs.Plans.{tile_of}
use Rattle.sheet_geometry.specs.Spans.{AreSpans, IsSpan}
use Rattle.sheet_geometry.specs.Tiles.{IsTile, Tile, core_row}
use Rattle.sheet_geometry.specs.Windows.{IsCut, window}
use Rattle.sheet_geometry.proofs.Pages.{any_default}
use Rattle.sheet_geometry.proofs.Parts.{height-is, plates-same, width-is, zones-same}
use Rattle.sheet_engine.specs.declared.workspace.WindowWorkspace.{WindowWorkspace}
use Rattle.sheet_engine.specs.Workspaces.{HasCounts, HasForm, IsTrappedIn, IsWindowOf, IsWindowWorkspace, window_shape}
use Rattle.sheet_engine.specs.Strips.{IsSomeSpan, planes_of}
use Rattle.sheet_engine.specs.Works.{AreNone}
use Rattle.sheet_engine.proofs.Adding.{tile_adds}
use Rattle.sheet_engine.proofs.Walking.{next_span}
use Rattle.sheet_engine.proofs.Wholes.{all_some}
use Rattle.sheet_engine.specs.Growth.{AddsArea}
use Rattle.sheet_engine.specs.declared.counts.SheetCounts.{SheetCounts}
use Rattle.sheet_geometry.specs.Forms.{Form, form_of, zone_form}
use Rattle.sheet_geometry.proofs.FormLemmas.{window_form}
use Rattle.page_model.specs.Columns.{halo}
use Rattle.page_model.specs.Reach.{page_reach}

-- one more item
pub mapped_more : {X Y : Type 0} (f : X → Y) (xs : List X) (x : X) (ys : List Y) (i : ℕ) (d : Y) → i < length ys → map f xs ≡ take i ys → f x ≡ get_or ys i d → map f (xs ++ x ∷ []) ≡ take (i + 1) ys
mapped_more f xs x ys i d l e h = map-append f xs (x ∷ []) ∙ (λ j. e j ++ h j ∷ []) ∙ sym (take_more ys i d l)

one : {X : Type 0} (P : X → Type 0) (x : X) → P x → (k : ℕ) (d : X) → k < length (x ∷ []) → P (slice_index_or (x ∷ []) k d)
one P x is zero d l = is
one P x is (suc k) d l = absurd (omega (arith, l))

pub all_more : {X : Type 0} (P : X → Type 0) (xs : List X) (x : X) → All P xs → P x → All P (xs ++ x ∷ [])
all_more P xs x each is = All-append P xs (x ∷ []) each (λ k d l. one P x is k d l)

-- the shape of a window's page
pub shape_is : (sheet : PageParts) (row column : Span) (page : PageParts) → IsCut sheet (tile_of column row).cut → page ≡ window sheet (tile_of column row).cut → shape_of page ≡ window_shape (form_of sheet) row.wide column
unfolding form_of
shape_is sheet row column page is e =
    ap shape_of e ∙ (λ i. record {
      wide = width-is sheet (tile_of column row).cut is i;
      tall = height-is sheet (tile_of column row).cut is i;
      deep = plates-same sheet (tile_of column row).cut i;
      zones = (zones-same sheet (tile_of column row).cut ∙ sym (length-map sheet.zones zone_form)) i;
    })

pub form_is : (sheet : PageParts) (row column : Span) (page : PageParts) → IsCut sheet (tile_of column row).cut → page ≡ window sheet (tile_of column row).cut → HasForm (form_of sheet) row.wide column page
form_is sheet row column page is e = record {
  form_is = ap form_of e ∙ window_form sheet (tile_of column row).cut;
  wide = ap width e ∙ width-is sheet (tile_of column row).cut is;
  height_is = ap height e ∙ height-is sheet (tile_of column row).cut is;
}

pub zones_many : (sheet : PageParts) → length (form_of sheet).zones ≡ length sheet.zones
unfolding form_of
zones_many sheet = length-map sheet.zones zone_form

pub plates_many : (sheet : PageParts) → (form_of sheet).deep ≡ plates sheet
unfolding form_of
plates_many sheet = refl

-- counts that are 0, and counts that have grown, are as many
pub none_counts : (sheet : PageParts) (counts : SheetCounts) → AreNone sheet counts → HasCounts (form_of sheet) counts
none_counts sheet counts none = record {
  zone_samples = ap length none.zone_samples ∙ length-replicate (length sheet.zones) 0 ∙ sym (zones_many sheet);
  zone_changed = ap length none.zone_changed ∙ length-replicate (length sheet.zones) 0 ∙ sym (zones_many sheet);
  plate_changed = ap length none.plate_changed ∙ length-replicate (plates sheet) 0 ∙ sym (plates_many sheet);
}

pub grown_counts : (form : Form) (page : PageParts) (left top wide rows : ℕ) (before after : SheetCounts) → HasCounts form before → AddsArea page left top wide rows before after → HasCounts form after
grown_counts form page left top wide rows before after h adds = record {
  zone_samples = adds.zone_samples.long ∙ h.zone_samples;
  zone_changed = adds.zone_changed.long ∙ h.zone_changed;
  plate_changed = adds.plate_changed.long ∙ h.plate_changed;
}

-- a window that is trapped
pub trapped_is : (sheet : PageParts) (row : Span) (at : ℕ) (page : PageParts) (before : SheetCounts) (w : WindowWorkspace) → IsTile (halo (page_reach sheet)) sheet (tile_of w.column row) (w.column.from + w.column.skip) at row.core → page ≡ window sheet (tile_of w.column row).cut → AreNone sheet before → w.workspace.outcome.planes ≡ trapped_planes page
    → AddsArea page w.column.skip row.skip w.column.core row.core before w.counts → IsWindowWorkspace (form_of sheet) row.wide w → IsTrappedIn sheet row at w
trapped_is sheet row at page before w tile e none planes adds workspace = record {
  workspace = workspace;
  planes = planes ∙ ap trapped_planes e;
  counts = record {
    before = before;
    none = none;
    adds = tile_adds sheet (tile_of w.column row) (w.column.from + w.column.skip) at row.core before w.counts tile (subst (λ (p : PageParts). AddsArea p w.column.skip row.skip w.column.core row.core before w.counts) e adds);
  };
}

-- the planes of trapped windows
pub tiles_are : (sheet : PageParts) (row : Span) (at : ℕ) (ws : List WindowWorkspace) → All (IsTrappedIn sheet row at) ws → map (λ (w : WindowWorkspace). w.workspace.outcome.planes) ws ≡ map (planes_of sheet row) (map (λ (w : WindowWorkspace). w.column) ws)
tiles_are sheet row at [] h = refl
tiles_are sheet row at (w ∷ ws) h = λ i. (h 0 w (omega arith)).planes i ∷ tiles_are sheet row at ws (λ k d l. h (suc k) d (omega (arith, l))) i

-- windows of spans
pub windows_of : (across : Ruler) (ws : List WindowWorkspace) (end : ℕ) → AreSpans across 0 (map (λ (w : WindowWorkspace). w.column) ws) end → All (IsWindowOf across) ws
windows_of across ws end spans = λ k d l.
    subst (IsSomeSpan across) (get_or-map (λ (w : WindowWorkspace). w.column) ws k d d.column l)
    (all_some across (map (λ (w : WindowWorkspace). w.column) ws) 0 end spans k d.column (omega (arith, l, length-map ws (λ (w : WindowWorkspace). w.column))))

-- the planes of one of them, of which the others' are known alike
pub tile_at : (sheet : PageParts) (row : Span) (ws : List WindowWorkspace) (k : ℕ) (d : WindowWorkspace) → k < length ws → map (λ (w : WindowWorkspace). w.workspace.outcome.planes) ws ≡ map (planes_of sheet row) (map (λ (w : WindowWorkspace). w.column) ws) → (slice_index_or ws k d).workspace.outcome.planes ≡ planes_of sheet row (slice_index_or ws k d).column
tile_at sheet row ws k d l e =
    sym (get_or-map (λ (w : WindowWorkspace). w.workspace.outcome.planes) ws k d [] l)
    ∙ ap (λ (ps : List (List Plane)). slice_index_or ps k []) e
    ∙ get_or-map (planes_of sheet row) (map (λ (w : WindowWorkspace). w.column) ws) k d.column [] (omega (arith, l, length-map ws (λ (w : WindowWorkspace). w.column)))
    ∙ ap (planes_of sheet row) (get_or-map (λ (w : WindowWorkspace). w.column) ws k d d.column l)

-- the next window
pub next_window : (across : Ruler) (ws : List WindowWorkspace) (k left end : ℕ) (w : WindowWorkspace) → k < length ws → w ≡ slice_index_or ws k w → AreSpans across left (drop k (map (λ (w : WindowWorkspace). w.column) ws)) end → IsSpan across left w.column × AreSpans across (left + w.column.core) (drop (k + 1) (map (λ (w : WindowWorkspace). w.column) ws)) end
next_window across ws k left end w l is spans =
    let columns : List Span = map (λ (w : WindowWorkspace). w.column) ws in
    let next = next_span across columns k left end w.column (omega (arith, l, length-map ws (λ (w : WindowWorkspace). w.column))) spans in
    let same : get_or columns k w.column ≡ w.column = get_or-map (λ (w : WindowWorkspace). w.column) ws k w w.column l ∙ sym (ap (λ (w : WindowWorkspace). w.column) is) in
    subst (λ (s : Span). IsSpan across left s × AreSpans across (left + s.core) (drop (k + 1) columns) end) same next

pub window_at : (sheet : PageParts) (row : Span) (at : ℕ) (ws : List WindowWorkspace) (k : ℕ) (w : WindowWorkspace) → k < length ws → w ≡ slice_index_or ws k w → All (IsTrappedIn sheet row at) ws → IsTrappedIn sheet row at w
window_at sheet row at ws k w l is all = subst (IsTrappedIn sheet row at) (sym is) (all k w l)

-- a row put among tints, right behind the first of them
pub put_long : (shown run after : List ℕ) (a : ℕ) → a + length run ≤ length shown → after ≡ take a shown ++ (run ++ drop (a + length run) shown) → length after ≡ length shown
put_long shown run after a inside e =
    let before = length-take-le a shown (omega (arith, inside)) in
    let rest = length-drop (a + length run) shown in
    let all = length-append (take a shown) (run ++ drop (a + length run) shown) in
    let more = length-append run (drop (a + length run) shown) in
    ap length e ∙ omega (arith, all, more, before, rest, inside)

pub put_prefix : (shown run after : List ℕ) (a : ℕ) → a + length run ≤ length shown → after ≡ take a shown ++ (run ++ drop (a + length run) shown) → take (a + length run) after ≡ take a shown ++ run
put_prefix shown run after a inside e =
    let before = length-take-le a shown (omega (arith, inside)) in
    let both = length-append (take a shown) run in
    ap (take (a + length run)) (e ∙ sym (append_assoc (take a shown) run (drop (a + length run) shown)))
    ∙ take_at (take a shown ++ run) (drop (a + length run) shown) (a + length run) (omega (arith, both, before))

pub core_long : (c : ℕ) (sheet : PageParts) (k : ℕ) (tile : Tile) (run : List ℕ) → run ≡ core_row traps c sheet k tile → length run ≡ tile.core.width
core_long c sheet k tile run e = ap length e ∙ length-list_below (λ x. new (window sheet tile.cut) (record { x = tile.core.left + x; y = tile.core.top + k }) c) tile.core.width

-- the column of a window, by its number
pub column_at : (ws : List WindowWorkspace) (k : ℕ) (w : WindowWorkspace) (d : Span) → k < length ws → w ≡ slice_index_or ws k w → get_or (map (λ (w : WindowWorkspace). w.column) ws) k d ≡ w.column
column_at ws k w d l is =
    any_default (map (λ (w : WindowWorkspace). w.column) ws) k d w.column (omega (arith, l, length-map ws (λ (w : WindowWorkspace). w.column)))
    ∙ get_or-map (λ (w : WindowWorkspace). w.column) ws k w w.column l ∙ sym (ap (λ (w : WindowWorkspace). w.column) is)
