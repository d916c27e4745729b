-- The cores of a tiling are the sheet: what is counted is the sum of what is counted in them, and the new tints are theirs.
use Rattle.std.proofs.Common.{◌≡◌, ℕ, zero, suc, ◌+◌, ◌-◌, ◌*◌, ◌/◌, ◌<◌, ◌≤◌, ◌&&◌, not, List, [], ◌∷◌, ◌++◌, sym, ◌∙◌, ap, arith, max, append_assoc}
use Rattle.std.specs.Prelude.{◌==◌, sum_by}
use Rattle.std.proofs.lemmas.List.{append-nil}
use Rattle.std.proofs.lemmas.List.Sums.{sum_by-cons}
use Rattle.std.proofs.lemmas.Nat.{div-mul-add, mod-mul-add}
use Rattle.page_model.specs.declared.parts.At.{At}
use Rattle.page_model.specs.declared.parts.PageParts.{PageParts}
use Rattle.lists.specs.Words.{any_below, list_below}
use Rattle.lists.proofs.ListBelow.{list_below-add}
use Rattle.lists.proofs.Same.{list_below-same}
use Rattle.page_model.specs.Columns.{halo}
use Rattle.page_model.specs.Page.{height, sample_at, samples, width}
use Rattle.page_model.specs.Reach.{page_reach}
use Rattle.page_model.specs.Tints.{new_tints}
use Rattle.sheet_geometry.specs.declared.cuts.Cut.{Cut}
use Rattle.sheet_geometry.specs.Areas.{area_sum, changes_in, changes_plate, is_new, lies_in, one_if, page_sum, traps}
use Rattle.sheet_geometry.specs.PageRules.{HasNext, IsLocal, PageRule}
use Rattle.sheet_geometry.specs.Tiles.{IsCore, IsStrip, IsTile, IsTiling, Strip, Tile, TileLaw, TilingLaw, TrapTilingLaw, core_row, core_sum, rule_tints, strip_row, strip_rows, tiled_tints, tiles_sum}
use Rattle.sheet_geometry.specs.WindowLaw.{IsInside}
use Rattle.sheet_geometry.specs.Windows.{IsCut, on_sheet, window}
use Rattle.sheet_geometry.proofs.Areas.{area-columns, area-no_columns, area-rows, area-same, counts_by_samples, row-columns}
use Rattle.sheet_geometry.proofs.Parts.{Lies, plates-same, tint-same}
use Rattle.sheet_geometry.proofs.Windows.{lower-same, reach-same, right-same, traps_alike}
use Rattle.sheet_geometry.proofs.Zones.{zone_of-same}

abbrev at_ : ℕ → ℕ → At
at_ x y = record { x = x; y = y }

low_far : (r near c x : ℕ) → (r + 1) / 2 ≤ near → near ≤ c → r ≤ 2 * (c + x)
low_far r near c x e h = omega (arith, e, h)

high_far : (r near c w x side : ℕ) → x < w → (r + 1) / 2 ≤ near → c + w + max 1 near ≤ side → r + 2 * (c + x) + 2 ≤ 2 * side
high_far r near c w x side l e h = omega (arith, l, e, h)

next_far : (near c w x side : ℕ) → x < w → c + w + max 1 near ≤ side → c + x + 1 < side
next_far near c w x side l h = omega (arith, l, h)

module _ (near : ℕ) (sheet : PageParts) (cut core : Cut) (x y : ℕ) (is : IsCore near sheet cut core) (lx : x < core.width) (ly : y < core.height) where
  in_cut : Lies cut (at_ (core.left + x) (core.top + y))
  in_cut = record { x = (let a = is.across in omega (arith, a, lx)); y = (let a = is.down in omega (arith, a, ly)) }

  core_inside : (reach : ℕ) → halo reach ≤ near → IsInside sheet cut reach (at_ (core.left + x) (core.top + y))
  core_inside reach enough = record {
    x = in_cut.x;
    y = in_cut.y;
    left = λ more. low_far reach near core.left x enough (is.left more);
    top = λ more. low_far reach near core.top y enough (is.top more);
    right = λ more. high_far reach near core.left core.width x cut.width lx enough (is.right more);
    bottom = λ more. high_far reach near core.top core.height y cut.height ly enough (is.bottom more);
  }

  has_next : HasNext sheet cut (at_ (core.left + x) (core.top + y))
  has_next = record {
    right = λ more. next_far near core.left core.width x cut.width lx (is.right more);
    below = λ more. next_far near core.top core.height y cut.height ly (is.bottom more);
  }

-- what is told of a sample of a core by its window is so on the sheet, where the halo is at least `near`
abbrev Local : ℕ → PageParts → (PageParts → At → ℕ) → Type 0
Local near sheet f = (cut core : Cut) (x y : ℕ) → IsCut sheet cut → IsCore near sheet cut core → x < core.width → y < core.height
    → f (window sheet cut) (at_ (core.left + x) (core.top + y)) ≡ f sheet (on_sheet cut (at_ (core.left + x) (core.top + y)))

local_zones : (near : ℕ) (sheet : PageParts) (z : ℕ) → Local near sheet (lies_in z)
local_zones near sheet z cut core x y is core_is lx ly = ap (λ (n : ℕ). one_if (n == z)) (zone_of-same sheet cut (at_ (core.left + x) (core.top + y)) is (in_cut near sheet cut core x y core_is lx ly))

module _ (rule : PageRule) (law : IsLocal rule) (near : ℕ) (sheet : PageParts) (enough : halo (rule.reach sheet) ≤ near) where
  local_new : (c : ℕ) → Local near sheet (λ page p. rule.tint page p c)
  local_new c cut core x y is core_is lx ly = law.tints sheet cut (at_ (core.left + x) (core.top + y)) c is (core_inside near sheet cut core x y core_is lx ly (rule.reach sheet) enough)

  local_marks : Local near sheet rule.mark
  local_marks cut core x y is core_is lx ly = law.marks sheet cut (at_ (core.left + x) (core.top + y)) is (core_inside near sheet cut core x y core_is lx ly (rule.reach sheet) enough) (has_next near sheet cut core x y core_is lx ly)

  news_same : (cut core : Cut) (x y : ℕ) → IsCut sheet cut → IsCore near sheet cut core → x < core.width → y < core.height
      → (c : ℕ) → is_new rule (window sheet cut) (at_ (core.left + x) (core.top + y)) c ≡ is_new rule sheet (on_sheet cut (at_ (core.left + x) (core.top + y))) c
  news_same cut core x y is core_is lx ly c = λ i. not (local_new c cut core x y is core_is lx ly i == tint-same sheet cut c (at_ (core.left + x) (core.top + y)) is (in_cut near sheet cut core x y core_is lx ly) i)

  local_changes : (z : ℕ) → Local near sheet (changes_in rule z)
  local_changes z cut core x y is core_is lx ly = λ i. one_if ((zone_of-same sheet cut (at_ (core.left + x) (core.top + y)) is (in_cut near sheet cut core x y core_is lx ly) i == z)
      && any_below (λ c. news_same cut core x y is core_is lx ly c i) (plates-same sheet cut i))

  local_plates : (c : ℕ) → Local near sheet (changes_plate rule c)
  local_plates c cut core x y is core_is lx ly = ap one_if (news_same cut core x y is core_is lx ly c)

regrouped : (a b c d : ℕ) → a + b ≡ d → a + (b + c) ≡ d + c
regrouped a b c d e = omega (arith, e)

-- a sample of a tile's core, by the tile's window
tile_same : (f : PageParts → At → ℕ) (near : ℕ) (sheet : PageParts) → Local near sheet f → (tile : Tile) (left top tall x y : ℕ) → IsTile near sheet tile left top tall → x < tile.core.width → y < tall
    → f (window sheet tile.cut) (at_ (tile.core.left + x) (tile.core.top + y)) ≡ f sheet (at_ (left + x) (top + y))
tile_same f near sheet local tile left top tall x y is lx ly =
    local tile.cut tile.core x y is.cut is.core lx (let e = is.tall in omega (arith, e, ly))
    ∙ (λ i. f sheet (at_ (regrouped tile.cut.left tile.core.left x left is.left i) (regrouped tile.cut.top tile.core.top y top is.top i)))

-- the core of a tile ends on the sheet
tile_across : (near : ℕ) (sheet : PageParts) (tile : Tile) (left top tall : ℕ) → IsTile near sheet tile left top tall → left + tile.core.width ≤ width sheet
tile_across near sheet tile left top tall is = (let a = is.core.across in let b = is.cut.across in let e = is.left in omega (arith, a, b, e))

module _ (f : PageParts → At → ℕ) (near : ℕ) (sheet : PageParts) (local : Local near sheet f) where
  tile_sum : (tile : Tile) (left top tall : ℕ) → IsTile near sheet tile left top tall → core_sum f sheet tile ≡ area_sum (f sheet) left top tile.core.width tall
  tile_sum tile left top tall is =
      ap (λ (n : ℕ). area_sum (f (window sheet tile.cut)) tile.core.left tile.core.top tile.core.width n) is.tall
      ∙ area-same (f (window sheet tile.cut)) (f sheet) tile.core.left tile.core.top left top tile.core.width tall (λ x y lx ly. tile_same f near sheet local tile left top tall x y is lx ly)

  strip_sum : (tiles : List Tile) (top tall left wide : ℕ) → left + wide ≡ width sheet → IsStrip near sheet top tall left tiles → sum_by (core_sum f sheet) tiles ≡ area_sum (f sheet) left top wide tall
  strip_sum [] top tall left wide e is =
      let none : wide ≡ 0 = omega (arith, e, is) in
      sym (ap (λ (n : ℕ). area_sum (f sheet) left top n tall) none ∙ area-no_columns (f sheet) left top tall)
  strip_sum (tile ∷ tiles) top tall left wide e is =
      let here = tile_across near sheet tile left top tall is.0 in
      let rest : ℕ = wide - tile.core.width in
      let all : tile.core.width + rest ≡ wide = omega (arith, here, e) in
      let end : left + tile.core.width + rest ≡ width sheet = omega (arith, all, e) in
      sum_by-cons (core_sum f sheet) tile tiles
      ∙ (λ i. tile_sum tile left top tall is.0 i + strip_sum tiles top tall (left + tile.core.width) rest end is.1 i)
      ∙ sym (area-columns (f sheet) left top tile.core.width rest tall)
      ∙ ap (λ (n : ℕ). area_sum (f sheet) left top n tall) all

  strips_sum : (strips : List Strip) (top : ℕ) → IsTiling near sheet top strips → area_sum (f sheet) 0 0 (width sheet) top + tiles_sum f sheet strips ≡ area_sum (f sheet) 0 0 (width sheet) (height sheet)
  strips_sum [] top is = (let e : area_sum (f sheet) 0 0 (width sheet) top ≡ area_sum (f sheet) 0 0 (width sheet) (height sheet) = ap (area_sum (f sheet) 0 0 (width sheet)) is in omega (arith, e))
  strips_sum (strip ∷ strips) top is =
      let first : sum_by (core_sum f sheet) strip.tiles ≡ area_sum (f sheet) 0 top (width sheet) strip.tall = strip_sum strip.tiles top strip.tall 0 (width sheet) (omega arith) is.0 in
      let shift : area_sum (f sheet) 0 top (width sheet) strip.tall ≡ area_sum (f sheet) 0 (0 + top) (width sheet) strip.tall = ap (λ (n : ℕ). area_sum (f sheet) 0 n (width sheet) strip.tall) (from_none top) in
      let both = area-rows (f sheet) 0 0 (width sheet) top strip.tall in
      let cons = sum_by-cons (λ (s : Strip). sum_by (core_sum f sheet) s.tiles) strip strips in
      let more = strips_sum strips (top + strip.tall) is.1 in
      added (area_sum (f sheet) 0 0 (width sheet) top) (tiles_sum f sheet (strip ∷ strips)) (area_sum (f sheet) 0 (0 + top) (width sheet) strip.tall) (tiles_sum f sheet strips) (area_sum (f sheet) 0 0 (width sheet) (top + strip.tall)) (area_sum (f sheet) 0 0 (width sheet) (height sheet))
      (cons ∙ ap (λ (n : ℕ). n + tiles_sum f sheet strips) (first ∙ shift)) both more where
        from_none : (n : ℕ) → n ≡ 0 + n
        from_none n = omega arith

        added : (before all one rest next whole : ℕ) → all ≡ one + rest → next ≡ before + one → next + rest ≡ whole → before + all ≡ whole
        added before all one rest next whole a b c = omega (arith, a, b, c)

  pub sheet_sum : (strips : List Strip) → IsTiling near sheet 0 strips → page_sum f sheet ≡ tiles_sum f sheet strips
  sheet_sum strips is = sym (strips_sum strips 0 is) ∙ from_nothing (tiles_sum f sheet strips) where
    from_nothing : (n : ℕ) → 0 + n ≡ n
    from_nothing n = omega arith

-- ---- the new tints

module _ (rule : PageRule) (law : IsLocal rule) (near c : ℕ) (sheet : PageParts) (enough : halo (rule.reach sheet) ≤ near) where
  tile_row : (tile : Tile) (left top tall y : ℕ) → IsTile near sheet tile left top tall → y < tall → core_row rule c sheet y tile ≡ list_below (λ x. rule.tint sheet (at_ (left + x) (top + y)) c) tile.core.width
  tile_row tile left top tall y is ly =
      list_below-same (λ x. rule.tint (window sheet tile.cut) (at_ (tile.core.left + x) (tile.core.top + y)) c) (λ x. rule.tint sheet (at_ (left + x) (top + y)) c) tile.core.width
      (λ x lx. tile_same (λ page p. rule.tint page p c) near sheet (local_new rule law near sheet enough c) tile left top tall x y is lx ly)

  whole_row : (tiles : List Tile) (top tall y left wide : ℕ) → left + wide ≡ width sheet → y < tall → IsStrip near sheet top tall left tiles → strip_row rule c sheet y tiles ≡ list_below (λ x. rule.tint sheet (at_ (left + x) (top + y)) c) wide
  whole_row [] top tall y left wide e ly is =
      let none : 0 ≡ wide = omega (arith, e, is) in
      ap (list_below (λ x. rule.tint sheet (at_ (left + x) (top + y)) c)) none
  whole_row (tile ∷ tiles) top tall y left wide e ly is =
      let here = tile_across near sheet tile left top tall is.0 in
      let rest : ℕ = wide - tile.core.width in
      let all : tile.core.width + rest ≡ wide = omega (arith, here, e) in
      let end : left + tile.core.width + rest ≡ width sheet = omega (arith, all, e) in
      (λ i. tile_row tile left top tall y is.0 ly i ++ whole_row tiles top tall y (left + tile.core.width) rest end ly is.1 i)
      ∙ sym (row-columns (λ p. rule.tint sheet p c) left (top + y) tile.core.width rest)
      ∙ ap (list_below (λ x. rule.tint sheet (at_ (left + x) (top + y)) c)) all

  abbrev pub tints_to : ℕ → List ℕ
  tints_to n = list_below (λ k. rule.tint sheet (sample_at sheet k) c) n

  row_of : (top y : ℕ) → list_below (λ x. rule.tint sheet (at_ (0 + x) (top + y)) c) (width sheet) ≡ list_below (λ x. rule.tint sheet (sample_at sheet ((top + y) * width sheet + x)) c) (width sheet)
  row_of top y = list_below-same (λ x. rule.tint sheet (at_ (0 + x) (top + y)) c) (λ x. rule.tint sheet (sample_at sheet ((top + y) * width sheet + x)) c) (width sheet)
      (λ x l. λ i. rule.tint sheet (at_ ((from_none x ∙ sym (mod-mul-add (top + y) (width sheet) x l)) i) (sym (div-mul-add (top + y) (width sheet) x l) i)) c) where
        from_none : (n : ℕ) → 0 + n ≡ n
        from_none n = omega arith

  pub rows_to : (tiles : List Tile) (top tall n : ℕ) → n ≤ tall → IsStrip near sheet top tall 0 tiles → tints_to ((top + n) * width sheet) ≡ tints_to (top * width sheet) ++ strip_rows rule c sheet tiles n
  rows_to tiles top tall zero l is = (let e : (top + 0) * width sheet ≡ top * width sheet = omega arith in ap tints_to e ∙ sym (append-nil (tints_to (top * width sheet))))
  rows_to tiles top tall (suc n) l is =
      let e : (top + suc n) * width sheet ≡ (top + n) * width sheet + width sheet = omega arith in
      let less : n ≤ tall = omega (arith, l) in
      let row : list_below (λ x. rule.tint sheet (sample_at sheet ((top + n) * width sheet + x)) c) (width sheet) ≡ strip_row rule c sheet n tiles =
      sym (whole_row tiles top tall n 0 (width sheet) (omega arith) (omega (arith, l)) is ∙ row_of top n) in
      ap tints_to e
      ∙ list_below-add (λ k. rule.tint sheet (sample_at sheet k) c) ((top + n) * width sheet) (width sheet)
      ∙ (λ i. rows_to tiles top tall n less is i ++ row i)
      ∙ append_assoc (tints_to (top * width sheet)) (strip_rows rule c sheet tiles n) (strip_row rule c sheet n tiles)

  strips_to : (strips : List Strip) (top : ℕ) → IsTiling near sheet top strips → tints_to (height sheet * width sheet) ≡ tints_to (top * width sheet) ++ tiled_tints rule c sheet strips
  strips_to [] top is = ap (λ (n : ℕ). tints_to (n * width sheet)) (sym is) ∙ sym (append-nil (tints_to (top * width sheet)))
  strips_to (strip ∷ strips) top is =
      strips_to strips (top + strip.tall) is.1
      ∙ ap (λ (t : List ℕ). t ++ tiled_tints rule c sheet strips) (rows_to strip.tiles top strip.tall strip.tall (omega arith) is.0)
      ∙ append_assoc (tints_to (top * width sheet)) (strip_rows rule c sheet strip.tiles strip.tall) (tiled_tints rule c sheet strips)

  pub tiled : (strips : List Strip) → IsTiling near sheet 0 strips → rule_tints rule sheet c ≡ tiled_tints rule c sheet strips
  tiled strips is = (let e : samples sheet ≡ height sheet * width sheet = omega arith in let z : 0 * width sheet ≡ 0 = omega arith in
      ap tints_to e ∙ strips_to strips 0 is ∙ ap (λ (n : ℕ). tints_to n ++ tiled_tints rule c sheet strips) z)

module _ (rule : PageRule) (law : IsLocal rule) (near : ℕ) (sheet : PageParts) (enough : halo (rule.reach sheet) ≤ near) where
  pub tiling_law : (strips : List Strip) → IsTiling near sheet 0 strips → TilingLaw rule sheet strips
  tiling_law strips is = record {
    zone_samples = λ z. sheet_sum (lies_in z) near sheet (local_zones near sheet z) strips is;
    zone_changed = λ z. sheet_sum (changes_in rule z) near sheet (local_changes rule law near sheet enough z) strips is;
    plate_changed = λ c. sheet_sum (changes_plate rule c) near sheet (local_plates rule law near sheet enough c) strips is;
    marks = sheet_sum rule.mark near sheet (local_marks rule law near sheet enough) strips is;
    tints = λ c. tiled rule law near c sheet enough strips is;
  }

  pub tile_law : (tile : Tile) (x y rows : ℕ) → IsTile near sheet tile x y rows → TileLaw rule sheet tile x y rows
  tile_law tile x y rows is = record {
    zone_samples = λ z. tile_sum (lies_in z) near sheet (local_zones near sheet z) tile x y rows is;
    zone_changed = λ z. tile_sum (changes_in rule z) near sheet (local_changes rule law near sheet enough z) tile x y rows is;
    plate_changed = λ c. tile_sum (changes_plate rule c) near sheet (local_plates rule law near sheet enough c) tile x y rows is;
    marks = tile_sum rule.mark near sheet (local_marks rule law near sheet enough) tile x y rows is;
    tints = λ c k l. tile_row rule law near c sheet enough tile x y rows k is l;
  }

-- the trapping rule is local
pub traps_local : IsLocal traps
traps_local = record {
  reach = reach-same;
  tints = λ sheet cut p c is inside. (traps_alike sheet cut is p inside).tints c;
  marks = λ sheet cut p is inside next. (let here : Lies cut p = record { x = inside.x; y = inside.y } in
      λ i. one_if (right-same sheet cut is p here next.right i) + one_if (lower-same sheet cut is p here next.below i));
}

pub trap_tiling_law : (sheet : PageParts) (strips : List Strip) → 1 ≤ width sheet → 1 ≤ height sheet → IsTiling (halo (page_reach sheet)) sheet 0 strips → TrapTilingLaw sheet strips
unfolding new_tints
trap_tiling_law sheet strips wide tall is =
    let counts = counts_by_samples sheet wide tall in
    let law = tiling_law traps traps_local (halo (page_reach sheet)) sheet (omega arith) strips is in
    record {
      zone_samples = λ z. counts.zone_samples z ∙ law.zone_samples z;
      zone_changed = λ z. counts.zone_changed z ∙ law.zone_changed z;
      plate_changed = λ c. counts.plate_changed c ∙ law.plate_changed c;
      edges = counts.edges ∙ law.marks;
      tints = law.tints;
    }
