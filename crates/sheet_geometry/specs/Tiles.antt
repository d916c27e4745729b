-- A sheet in tiles: of each window a core, and the cores side by side are the sheet.
use Rattle.std.specs.Prelude.{◌≡◌, ℕ, zero, suc, ◌+◌, ◌<◌, ◌≤◌, max, List, [], ◌∷◌, ◌++◌, sum_by}
use Rattle.page_model.specs.declared.parts.At.{At}
use Rattle.page_model.specs.declared.parts.PageParts.{PageParts}
use Rattle.lists.specs.Words.{list_below}
use Rattle.page_model.specs.Counts.{deciding_edges, plate_changed, zone_changed, zone_samples}
use Rattle.page_model.specs.Page.{height, sample_at, samples, width}
use Rattle.page_model.specs.Tints.{new_tints}
use Rattle.sheet_geometry.specs.declared.cuts.Cut.{Cut}
use Rattle.sheet_geometry.specs.Areas.{area_sum, changes_in, changes_plate, edges_at, lies_in}
use Rattle.sheet_geometry.specs.Areas.{page_sum, traps}
use Rattle.sheet_geometry.specs.PageRules.{PageRule}
use Rattle.sheet_geometry.specs.Windows.{IsCut, window}

-- a window and its core, whose place is given within the window
pub record Tile : Type 0 where
  pub cut : Cut
  pub core : Cut

-- The core lies in the window. On each side on which the sheet goes on beyond the window, the
-- window goes on beyond the core: by `near` samples, to the right and below by one at least.
pub record IsCore (near : ℕ) (sheet : PageParts) (cut core : Cut) : Type 0 where
  pub across : core.left + core.width ≤ cut.width
  pub down : core.top + core.height ≤ cut.height
  pub left : 0 < cut.left → near ≤ core.left
  pub top : 0 < cut.top → near ≤ core.top
  pub right : cut.left + cut.width < width sheet
      → core.left + core.width + max 1 near ≤ cut.width
  pub bottom : cut.top + cut.height < height sheet
      → core.top + core.height + max 1 near ≤ cut.height

-- a tile of a sheet, whose core has its upper left sample there, and `rows` rows
pub record IsTile (near : ℕ) (sheet : PageParts) (tile : Tile) (x y rows : ℕ) : Type 0 where
  pub cut : IsCut sheet tile.cut
  pub core : IsCore near sheet tile.cut tile.core
  pub left : tile.cut.left + tile.core.left ≡ x
  pub top : tile.cut.top + tile.core.top ≡ y
  pub tall : tile.core.height ≡ rows

-- tiles whose cores stand side by side from a column on to the last one of the sheet
abbrev pub IsStrip : ℕ → PageParts → ℕ → ℕ → ℕ → List Tile → Type 0
IsStrip near sheet top tall left [] = left ≡ width sheet
IsStrip near sheet top tall left (tile ∷ tiles) =
    IsTile near sheet tile left top tall
    × IsStrip near sheet top tall (left + tile.core.width) tiles

-- a strip: its height, and its tiles
pub record Strip : Type 0 where
  pub tall : ℕ
  pub tiles : List Tile

-- strips one below the other from a row on to the last one of the sheet
abbrev pub IsTiling : ℕ → PageParts → ℕ → List Strip → Type 0
IsTiling near sheet top [] = top ≡ height sheet
IsTiling near sheet top (strip ∷ strips) = IsStrip near sheet top strip.tall 0 strip.tiles
    × IsTiling near sheet (top + strip.tall) strips

-- the sum over the samples of a tile's core, by the tile's window
abbrev pub core_sum : (PageParts → At → ℕ) → PageParts → Tile → ℕ
core_sum f sheet tile =
    area_sum (f (window sheet tile.cut))
    tile.core.left tile.core.top tile.core.width tile.core.height

-- and over all tiles
abbrev pub tiles_sum : (PageParts → At → ℕ) → PageParts → List Strip → ℕ
tiles_sum f sheet strips = sum_by (λ (strip : Strip). sum_by (core_sum f sheet) strip.tiles) strips

-- row y of the new tints of plate c of a tile's core, by the tile's window
abbrev pub core_row : PageRule → ℕ → PageParts → ℕ → Tile → List ℕ
core_row rule c sheet y tile = list_below (λ x. rule.tint (window sheet tile.cut)
    (record { x = tile.core.left + x; y = tile.core.top + y }) c) tile.core.width

-- row y of a strip, tile after tile
abbrev pub strip_row : PageRule → ℕ → PageParts → ℕ → List Tile → List ℕ
strip_row rule c sheet y [] = []
strip_row rule c sheet y (tile ∷ tiles) =
    core_row rule c sheet y tile ++ strip_row rule c sheet y tiles

-- some first rows of a strip
abbrev pub strip_rows : PageRule → ℕ → PageParts → List Tile → ℕ → List ℕ
strip_rows rule c sheet tiles zero = []
strip_rows rule c sheet tiles (suc n) =
    strip_rows rule c sheet tiles n ++ strip_row rule c sheet n tiles

-- all rows of all strips
abbrev pub tiled_tints : PageRule → ℕ → PageParts → List Strip → List ℕ
tiled_tints rule c sheet [] = []
tiled_tints rule c sheet (strip ∷ strips) =
    strip_rows rule c sheet strip.tiles strip.tall ++ tiled_tints rule c sheet strips

-- the new tints of plate c of a page, row by row
abbrev pub rule_tints : PageRule → PageParts → ℕ → List ℕ
rule_tints rule page c = list_below (λ k. rule.tint page (sample_at page k) c) (samples page)

-- What is counted in a tile's core by its window is what is counted there on the sheet, and its
-- rows of new tints are the sheet's there.
pub record TileLaw (rule : PageRule) (sheet : PageParts) (tile : Tile) (x y rows : ℕ)
    : Type 0 where
  pub zone_samples : (z : ℕ)
      → core_sum (lies_in z) sheet tile ≡ area_sum (lies_in z sheet) x y tile.core.width rows
  pub zone_changed : (z : ℕ) → core_sum (changes_in rule z) sheet tile
      ≡ area_sum (changes_in rule z sheet) x y tile.core.width rows
  pub plate_changed : (c : ℕ) → core_sum (changes_plate rule c) sheet tile
      ≡ area_sum (changes_plate rule c sheet) x y tile.core.width rows
  pub marks : core_sum rule.mark sheet tile ≡ area_sum (rule.mark sheet) x y tile.core.width rows
  pub tints : (c k : ℕ) → k < rows → core_row rule c sheet k tile
      ≡ list_below (λ i. rule.tint sheet (record { x = x + i; y = y + k }) c) tile.core.width

-- What is counted on a sheet by a rule is the sum of what is counted in the cores of its tiles, and
-- each plate's new tints are those of the cores.
pub record TilingLaw (rule : PageRule) (sheet : PageParts) (strips : List Strip) : Type 0 where
  pub zone_samples : (z : ℕ) → page_sum (lies_in z) sheet ≡ tiles_sum (lies_in z) sheet strips
  pub zone_changed : (z : ℕ)
      → page_sum (changes_in rule z) sheet ≡ tiles_sum (changes_in rule z) sheet strips
  pub plate_changed : (c : ℕ)
      → page_sum (changes_plate rule c) sheet ≡ tiles_sum (changes_plate rule c) sheet strips
  pub marks : page_sum rule.mark sheet ≡ tiles_sum rule.mark sheet strips
  pub tints : (c : ℕ) → rule_tints rule sheet c ≡ tiled_tints rule c sheet strips

-- what the report of a sheet that is trapped counts is the sum of what is counted in the cores of its
-- tiles, and each plate's new tints are those of the cores
pub record TrapTilingLaw (sheet : PageParts) (strips : List Strip) : Type 0 where
  pub zone_samples : (z : ℕ) → zone_samples sheet z ≡ tiles_sum (lies_in z) sheet strips
  pub zone_changed : (z : ℕ)
      → zone_changed sheet z ≡ tiles_sum (changes_in traps z) sheet strips
  pub plate_changed : (c : ℕ)
      → plate_changed sheet c ≡ tiles_sum (changes_plate traps c) sheet strips
  pub edges : deciding_edges sheet ≡ tiles_sum edges_at sheet strips
  pub tints : (c : ℕ) → new_tints sheet c ≡ tiled_tints traps c sheet strips
