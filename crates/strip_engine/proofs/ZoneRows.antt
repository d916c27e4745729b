-- The lists of the whole page, and the rows that are taken out of them.
use Rattle.std.proofs.Common.{◌≡◌, ℕ, ◌+◌, ◌-◌, ◌*◌, ◌/◌, ◌%◌, ◌<◌, ◌≤◌, List, length, slice_index, arith, ap, sym, ◌∙◌}
use Rattle.std.proofs.Math.Nat.{mul-le-mul, div-lt_iff_lt-mul}
use Rattle.std.proofs.lemmas.Nat.{div-mul-add, mod-mul-add, mul-add-lt}
use Rattle.page_model.specs.declared.parts.PageParts.{PageParts}
use Rattle.page_model.specs.Conditions.{IsPage}
use Rattle.page_model.specs.Deciding.{mark}
use Rattle.page_model.specs.Page.{height, samples, width}
use Rattle.page_model.specs.Zones.{AreZones, zone_of}
use Rattle.page_model.proofs.PageLemmas.{plane_of}
use Rattle.lists.specs.Words.{list_below}
use Rattle.lists.proofs.ListBelow.{list_below-from}
use Rattle.row_values.specs.Rows.{HoldsMarks, HoldsRows, HoldsZones, zone_value}
use Rattle.strip_engine.specs.Rows.{AreRows}
use Rattle.page_tally.proofs.StandingLemmas.{numbered}
use Rattle.page_tally.specs.Standing.{AreMarks}
use Rattle.strip_engine.specs.Whole.{sample_marks, sample_zones}
use Rattle.strip_engine.proofs.WholeLemmas.{sample_marks-at, sample_zones-at, sample_zones-length}

pub some_width : (page : PageParts) → IsPage page → 1 ≤ width page
some_width page valid = (plane_of page 0 valid valid.parts.some_plates).some_width

-- all rows of the page are the whole list
whole : (page : PageParts) (h : ℕ) (value : ℕ → ℕ → ℕ) (items : List ℕ) → 1 ≤ width page → h ≡ height page → HoldsRows (width page) value (record { first = 0; count = h }) items → items ≡ list_below (λ k. value (k / width page) (k % width page)) (samples page)
whole page h value items some eh all = list_below-from (λ k. value (k / width page) (k % width page)) (samples page) items (omega (arith, all.long, rw eh at all.long)) (λ k l.
    let row : k / width page < h = rw eh ((div-lt_iff_lt-mul some).1 (omega (arith, l))) in
    let column : k % width page < width page = omega (arith, some) in
    let place : k / width page * width page + k % width page ≡ k = omega (arith, some) in
    let here : 0 + k / width page ≡ k / width page = omega arith in
    ap (slice_index items) (sym place) ∙ all.each (k / width page) (k % width page) row column ∙ ap (λ (y : ℕ). value y (k % width page)) here)

pub whole_zones : (page : PageParts) (h : ℕ) (items : List ℕ) → 1 ≤ width page → h ≡ height page → HoldsZones page (record { first = 0; count = h }) items → items ≡ sample_zones page
unfolding sample_zones
whole_zones page h items some eh all = whole page h (zone_value page) items some eh all

pub whole_marks : (page : PageParts) (h : ℕ) (items : List ℕ) → 1 ≤ width page → h ≡ height page → HoldsMarks page (record { first = 0; count = h }) items → items ≡ sample_marks page
unfolding sample_marks
whole_marks page h items some eh all = whole page h (mark page) items some eh all

-- and back
pub all_zones : (page : PageParts) (h : ℕ) (items : List ℕ) → h ≡ height page → items ≡ sample_zones page → HoldsZones page (record { first = 0; count = h }) items
all_zones page h items eh e = record {
  long = ap length e ∙ sample_zones-length page ∙ omega (arith, eh, ap (λ (n : ℕ). n * width page) eh);
  each = λ k o lk lo. rw e (sample_zones-at page (k * width page + o) 0 (omega (arith, mul-add-lt k (width page) o (height page) (rw eh at lk) lo)) ∙ ap (zone_of page) (numbered page k o lo) ∙ ap (λ (y : ℕ). zone_value page y o) (let here : k ≡ 0 + k = omega arith in here));
}

-- the rows from one on and before another
pub part_of_marks : (page : PageParts) (w from count to : ℕ) (all part : List ℕ) → w ≡ width page → from + count ≤ height page → to ≡ from + count → all ≡ sample_marks page → AreRows w from to all part → HoldsMarks page (record { first = from; count = count }) part
part_of_marks page w from count to all part ew inside et e rows =
    let step : to - from ≡ count = omega (arith, et) in
    let long : length part ≡ count * w = rw step at rows.long in
    record {
      long = rw (← ew) long;
      each = λ k o lk lo. (
          let lw : o < w = omega (arith, lo, ew) in
          let place : from * w + (k * w + o) ≡ (from + k) * w + o = omega arith in
          let here : slice_index part (k * w + o) ≡ slice_index all ((from + k) * w + o) = rows.each (k * w + o) (rw step (omega (arith, mul-add-lt k w o count lk lw))) ∙ ap (slice_index all) place in
          let there : slice_index all ((from + k) * w + o) ≡ mark page (from + k) o = rw (e, ew) (sample_marks-at page ((from + k) * width page + o) 0 (omega (arith, mul-add-lt (from + k) (width page) o (height page) (omega (arith, lk, inside)) lo)) ∙ ap (λ (n : ℕ). mark page n (((from + k) * width page + o) % width page)) (div-mul-add (from + k) (width page) o lo) ∙ ap (mark page (from + k)) (mod-mul-add (from + k) (width page) o lo)) in
          ap (λ (n : ℕ). slice_index part (k * n + o)) (sym ew) ∙ here ∙ there);
    }

-- a row of the zones of all samples
pub zones_of_row-are : (page : PageParts) (w y : ℕ) (all row : List ℕ) → w ≡ width page → y < height page → all ≡ sample_zones page → AreRows w y (y + 1) all row → AreZones page y row
zones_of_row-are page w y all row ew down whole rows =
    let step : y + 1 - y ≡ 1 = omega arith in
    let one : (y + 1 - y) * w ≡ width page = rw step (omega (arith, ew)) in
    record {
      wide = rows.long ∙ one;
      each = λ x l. rows.each x (omega (arith, one, l)) ∙ rw (whole, ew) (sample_zones-at page (y * width page + x) 0 (mul-add-lt y (width page) x (height page) down l) ∙ ap (zone_of page) (numbered page y x l));
    }

-- and of the marks
pub marks_of_row-are : (page : PageParts) (w y : ℕ) (all row : List ℕ) → w ≡ width page → y < height page → all ≡ sample_marks page → AreRows w y (y + 1) all row → AreMarks page y row
marks_of_row-are page w y all row ew down whole rows =
    let step : y + 1 - y ≡ 1 = omega arith in
    let one : (y + 1 - y) * w ≡ width page = rw step (omega (arith, ew)) in
    record {
      wide = rows.long ∙ one;
      each = λ x l. rows.each x (omega (arith, one, l)) ∙ rw (whole, ew) (sample_marks-at page (y * width page + x) 0 (mul-add-lt y (width page) x (height page) down l) ∙ ap (λ (n : ℕ). mark page n ((y * width page + x) % width page)) (div-mul-add y (width page) x l) ∙ ap (mark page y) (mod-mul-add y (width page) x l));
    }

pub rows_fit : (page : PageParts) (w from to : ℕ) (all : List ℕ) → w ≡ width page → from ≤ to → to ≤ height page → length all ≡ samples page → from * w + (to - from) * w ≤ length all
rows_fit page w from to all ew less inside long =
    let whole : from * w + (to - from) * w ≡ to * w = plain (to - from) (omega (arith, less)) in
    let fits : to * w ≤ height page * width page = mul-le-mul inside (omega (arith, ew)) in
    omega (arith, whole, long, fits) where
      plain : (d : ℕ) → to ≡ from + d → from * w + d * w ≡ to * w
      plain d e = rw e (omega arith)
