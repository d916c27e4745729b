-- What a tile's window adds to the counts is what the sheet's samples there add; and columns side by side.
use Rattle.std.proofs.Common.{◌≡◌, ℕ, ◌+◌, List, length, slice_index, sym, ◌∙◌, arith}
use Rattle.page_model.specs.declared.parts.At.{At}
use Rattle.page_model.specs.declared.parts.PageParts.{PageParts}
use Rattle.page_model.specs.Page.{plates}
use Rattle.sheet_geometry.specs.declared.cuts.Cut.{Cut}
use Rattle.sheet_geometry.specs.Areas.{area_sum, changes_in, changes_plate, edges_at, lies_in, traps}
use Rattle.sheet_geometry.specs.Tiles.{IsTile, Tile, core_sum}
use Rattle.sheet_geometry.specs.Windows.{window}
use Rattle.sheet_geometry.proofs.Areas.{area-columns}
use Rattle.sheet_geometry.proofs.Parts.{plates-same, zones-same}
use Rattle.sheet_geometry.proofs.Tiles.{tile_law, traps_local}
use Rattle.sheet_engine.specs.Growth.{AddsArea, Grows, HasWorkspace, HasWorkspaces}
use Rattle.sheet_engine.specs.declared.counts.SheetCounts.{SheetCounts}
use Rattle.page_model.specs.Columns.{halo}
use Rattle.page_model.specs.Reach.{page_reach}

grows_same : (n m : ℕ) (by to : ℕ → ℕ) (before after : List ℕ) → n ≡ m → ((z : ℕ) → by z ≡ to z) → Grows n by before after → Grows m to before after
grows_same n m by to before after e each h = record { long = h.long; each = λ z l. h.each z (omega (arith, l, e)) ∙ (λ i. slice_index before z + each z i) }

-- a tile's window tells of the sheet
pub tile_adds : (sheet : PageParts) (tile : Tile) (x y rows : ℕ) (before after : SheetCounts) → IsTile (halo (page_reach sheet)) sheet tile x y rows
    → AddsArea (window sheet tile.cut) tile.core.left tile.core.top tile.core.width tile.core.height before after → AddsArea sheet x y tile.core.width rows before after
tile_adds sheet tile x y rows before after is h =
    let law = tile_law traps traps_local (halo (page_reach sheet)) sheet (omega arith) tile x y rows is in
    record {
      zone_samples = grows_same (length (window sheet tile.cut).zones) (length sheet.zones) (λ z. core_sum (lies_in z) sheet tile) (λ z. area_sum (lies_in z sheet) x y tile.core.width rows) before.zone_samples.items after.zone_samples.items (zones-same sheet tile.cut) law.zone_samples h.zone_samples;
      zone_changed = grows_same (length (window sheet tile.cut).zones) (length sheet.zones) (λ z. core_sum (changes_in traps z) sheet tile) (λ z. area_sum (changes_in traps z sheet) x y tile.core.width rows) before.zone_changed.items after.zone_changed.items (zones-same sheet tile.cut) law.zone_changed h.zone_changed;
      plate_changed = grows_same (plates (window sheet tile.cut)) (plates sheet) (λ c. core_sum (changes_plate traps c) sheet tile) (λ c. area_sum (changes_plate traps c sheet) x y tile.core.width rows) before.plate_changed.items after.plate_changed.items (plates-same sheet tile.cut) law.plate_changed h.plate_changed;
      edges = h.edges ∙ (λ i. before.edges + law.marks i);
    }

workspace_same : (n m more : ℕ) (counts : List ℕ) → m ≡ n → HasWorkspace n more counts → HasWorkspace m more counts
workspace_same n m more counts e h = record { long = h.long ∙ sym e; low = λ z l. h.low z (omega (arith, l, e)) }

pub workspaces_same : (sheet : PageParts) (cut : Cut) (more : ℕ) (counts : SheetCounts) → HasWorkspaces sheet more counts → HasWorkspaces (window sheet cut) more counts
workspaces_same sheet cut more counts h = record {
  zone_samples = workspace_same (length sheet.zones) (length (window sheet cut).zones) more counts.zone_samples.items (zones-same sheet cut) h.zone_samples;
  zone_changed = workspace_same (length sheet.zones) (length (window sheet cut).zones) more counts.zone_changed.items (zones-same sheet cut) h.zone_changed;
  plate_changed = workspace_same (plates sheet) (plates (window sheet cut)) more counts.plate_changed.items (plates-same sheet cut) h.plate_changed;
  edges = h.edges;
}

grows_columns : (n left top a b tall : ℕ) (f : ℕ → At → ℕ) (before mid after : List ℕ) → Grows n (λ z. area_sum (f z) left top a tall) before mid → Grows n (λ z. area_sum (f z) (left + a) top b tall) mid after → Grows n (λ z. area_sum (f z) left top (a + b) tall) before after
grows_columns n left top a b tall f before mid after g h = record {
  long = h.long ∙ g.long;
  each = λ z l. (let s = g.each z l in let t = h.each z l in let e = area-columns (f z) left top a b tall in omega (arith, s, t, e));
}

-- columns beside columns
pub columns_add : (sheet : PageParts) (left top a b tall : ℕ) (before mid after : SheetCounts) → AddsArea sheet left top a tall before mid → AddsArea sheet (left + a) top b tall mid after → AddsArea sheet left top (a + b) tall before after
columns_add sheet left top a b tall before mid after g h = record {
  zone_samples = grows_columns (length sheet.zones) left top a b tall (λ z. lies_in z sheet) before.zone_samples.items mid.zone_samples.items after.zone_samples.items g.zone_samples h.zone_samples;
  zone_changed = grows_columns (length sheet.zones) left top a b tall (λ z. changes_in traps z sheet) before.zone_changed.items mid.zone_changed.items after.zone_changed.items g.zone_changed h.zone_changed;
  plate_changed = grows_columns (plates sheet) left top a b tall (λ c. changes_plate traps c sheet) before.plate_changed.items mid.plate_changed.items after.plate_changed.items g.plate_changed h.plate_changed;
  edges = (let s = g.edges in let t = h.edges in let e = area-columns (edges_at sheet) left top a b tall in omega (arith, s, t, e));
}
