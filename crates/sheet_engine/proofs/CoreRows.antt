-- A row of a core stands in its window's planes; and rows side by side.
use Rattle.std.proofs.Common.{◌≡◌, ℕ, zero, suc, ◌+◌, ◌*◌, ◌<◌, ◌≤◌, List, [], ◌∷◌, ◌++◌, length, slice_index, refl, sym, ◌∙◌, ap, arith, append_assoc, take, get_or}
use Rattle.std.specs.Prelude.{map}
use Rattle.std.proofs.lemmas.List.{append-nil, map_more}
use Rattle.std.proofs.Math.Nat.{mul-le-mul}
use Rattle.std.proofs.lemmas.Nat.{mul-add-lt}
use Rattle.page_model.specs.declared.parts.At.{At}
use Rattle.page_model.specs.declared.parts.PageParts.{PageParts}
use Rattle.page_model.specs.declared.parts.Plane.{Plane}
use Rattle.lists.proofs.ListBelow.{list_below-from}
use Rattle.page_model.specs.Page.{height, plates, width}
use Rattle.page_model.specs.Planes.{no_plane, plane_at}
use Rattle.page_model.specs.Tints.{new, trapped_planes}
use Rattle.sheet_geometry.specs.Areas.{traps}
use Rattle.sheet_geometry.specs.Tiles.{IsCore, Tile, core_row, strip_row}
use Rattle.sheet_geometry.specs.Windows.{IsCut, window}
use Rattle.sheet_geometry.proofs.Parts.{height-is, plates-same, width-is}
use Rattle.page_tally.proofs.StandingLemmas.{numbered}
use Rattle.page_tally.specs.Standing.{AreTrappedTo}
use Rattle.sheet_engine.proofs.Whole.{are_trapped}

-- a core's row lies in the tints of its window
pub row_lies : (wide high left core top rows k count : ℕ) → left + core ≤ wide → top + rows ≤ high → k < rows → count ≡ wide * high → (top + k) * wide + left + core ≤ count
row_lies wide high left core top rows k count across down l e =
    let t : (top + k + 1) * wide ≤ high * wide = mul-le-mul (omega (arith, down, l)) (omega arith) in
    omega (arith, t, e, across)

module _ (near : ℕ) (sheet : PageParts) (tile : Tile) (is : IsCut sheet tile.cut) (core : IsCore near sheet tile.cut tile.core) (planes : List Plane) (whole : planes ≡ trapped_planes (window sheet tile.cut)) where
  trapped : AreTrappedTo (window sheet tile.cut) planes (height (window sheet tile.cut) * width (window sheet tile.cut))
  trapped = are_trapped (window sheet tile.cut) planes whole

  pub plane_long : (c : ℕ) → c < plates sheet → length (plane_at planes c).tints ≡ tile.cut.width * tile.cut.height
  plane_long c l = (trapped.each c (let e = plates-same sheet tile.cut in omega (arith, l, e))).long ∙ (λ i. width-is sheet tile.cut is i * height-is sheet tile.cut is i)

  pub planes_many : length planes ≡ plates sheet
  planes_many = trapped.count ∙ plates-same sheet tile.cut

  at_core : (c k x : ℕ) → c < plates sheet → k < tile.core.height → x < tile.core.width → slice_index (plane_at planes c).tints ((tile.core.top + k) * tile.cut.width + tile.core.left + x) ≡ new (window sheet tile.cut) (record { x = tile.core.left + x; y = tile.core.top + k }) c
  at_core c k x l lk lx =
      let w : ℕ = width (window sheet tile.cut) in
      let h : ℕ = height (window sheet tile.cut) in
      let ew = width-is sheet tile.cut is in
      let eh = height-is sheet tile.cut is in
      let column : tile.core.left + x < w = (let a = core.across in omega (arith, a, lx, ew)) in
      let line : tile.core.top + k < h = (let a = core.down in omega (arith, a, lk, eh)) in
      let place : (tile.core.top + k) * tile.cut.width + tile.core.left + x ≡ (tile.core.top + k) * w + (tile.core.left + x) = (let e : (tile.core.top + k) * tile.cut.width ≡ (tile.core.top + k) * w = ap (λ (n : ℕ). (tile.core.top + k) * n) (sym ew) in omega (arith, e)) in
      let inside : (tile.core.top + k) * w + (tile.core.left + x) < h * w = (let t = mul-add-lt (tile.core.top + k) w (tile.core.left + x) h line column in omega (arith, t)) in
      ap (slice_index (plane_at planes c).tints) place
      ∙ (trapped.each c (let e = plates-same sheet tile.cut in omega (arith, l, e))).done ((tile.core.top + k) * w + (tile.core.left + x)) inside
      ∙ ap (λ (p : At). new (window sheet tile.cut) p c) (numbered (window sheet tile.cut) (tile.core.top + k) (tile.core.left + x) column)

  pub row_is : (c k : ℕ) (row : List ℕ) → c < plates sheet → k < tile.core.height → length row ≡ tile.core.width → ((x : ℕ) → x < tile.core.width → slice_index row x ≡ slice_index (plane_at planes c).tints ((tile.core.top + k) * tile.cut.width + tile.core.left + x)) → row ≡ core_row traps c sheet k tile
  row_is c k row l lk long each = list_below-from (λ x. new (window sheet tile.cut) (record { x = tile.core.left + x; y = tile.core.top + k }) c) tile.core.width row long (λ x lx. each x lx ∙ at_core c k x l lk lx)

-- one more tile
row_push : (c : ℕ) (sheet : PageParts) (y : ℕ) (tiles : List Tile) (tile : Tile) → strip_row traps c sheet y (tiles ++ tile ∷ []) ≡ strip_row traps c sheet y tiles ++ core_row traps c sheet y tile
row_push c sheet y [] tile = append-nil (core_row traps c sheet y tile)
row_push c sheet y (t ∷ ts) tile = ap (λ (xs : List ℕ). core_row traps c sheet y t ++ xs) (row_push c sheet y ts tile) ∙ sym (append_assoc (core_row traps c sheet y t) (strip_row traps c sheet y ts) (core_row traps c sheet y tile))

pub row_more : {X : Type 0} (c : ℕ) (sheet : PageParts) (y : ℕ) (f : X → Tile) (columns : List X) (j : ℕ) (d : X) → j < length columns → strip_row traps c sheet y (map f (take (j + 1) columns)) ≡ strip_row traps c sheet y (map f (take j columns)) ++ core_row traps c sheet y (f (get_or columns j d))
row_more c sheet y f columns j d l = ap (strip_row traps c sheet y) (map_more f columns j d l) ∙ row_push c sheet y (map f (take j columns)) (f (get_or columns j d))

any_default : {X : Type 0} (xs : List X) (k : ℕ) (d e : X) → k < length xs → get_or xs k d ≡ get_or xs k e
any_default [] k d e l = absurd (omega (arith, l))
any_default (x ∷ xs) zero d e l = refl
any_default (x ∷ xs) (suc k) d e l = any_default xs k d e (omega (arith, l))

pub plane_read : (planes : List Plane) (c : ℕ) (d : Plane) → c < length planes → get_or planes c d ≡ plane_at planes c
plane_read planes c d l = any_default planes c d no_plane l
