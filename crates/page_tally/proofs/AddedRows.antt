-- The counts of some rows and of those that follow them, added.
use Rattle.std.proofs.Common.{◌≡◌, ℕ, ◌+◌, ◌*◌, ◌^◌, ◌<◌, ◌≤◌, ◌&&◌, ◌∙◌, arith, List, length, slice_index}
use Rattle.std.specs.Prelude.{◌==◌}
use Rattle.std.proofs.Math.Nat.{mul-le-mul_left}
use Rattle.page_model.specs.declared.parts.PageParts.{PageParts}
use Rattle.page_model.specs.Conditions.{IsPage}
use Rattle.page_model.specs.Counts.{sample_changes}
use Rattle.page_model.specs.Page.{height, sample_at, width}
use Rattle.page_model.specs.Zones.{zone_of}
use Rattle.page_model.proofs.PageLemmas.{plane_of}
use Rattle.page_tally.proofs.CountLemmas.{count_below-le}
use Rattle.page_tally.specs.Standing.{AreSamplesCounted, AreZonesCounted}

-- the counts of two runs of rows, one after the other, are those of both

pub samples_added : (page : PageParts) (from to n : ℕ) (counts more sums : List ℕ) → length sums ≡ length counts → ((z : ℕ) → z < length counts → slice_index sums z ≡ slice_index counts z + slice_index more z) → AreSamplesCounted page from (to * width page) counts → AreSamplesCounted page to n more → AreSamplesCounted page from n sums
samples_added page from to n counts more sums long each a b = record {
  long = long ∙ a.long;
  each = λ z l. omega (arith, each z (omega (arith, l, a.long)), a.each z l, b.each z l);
}

pub changes_added : (page : PageParts) (from to n : ℕ) (counts more sums : List ℕ) → length sums ≡ length counts → ((z : ℕ) → z < length counts → slice_index sums z ≡ slice_index counts z + slice_index more z) → AreZonesCounted page from (to * width page) counts → AreZonesCounted page to n more → AreZonesCounted page from n sums
changes_added page from to n counts more sums long each a b = record {
  long = long ∙ a.long;
  each = λ z l. omega (arith, each z (omega (arith, l, a.long)), a.each z l, b.each z l);
}

-- and fit
pub samples_fit : (page : PageParts) (from to n z : ℕ) (counts more : List ℕ) → n ≤ 2 ^ 28 → z < length page.zones → AreSamplesCounted page from (to * width page) counts → AreSamplesCounted page to n more → slice_index counts z + slice_index more z < 2 ^ 64
samples_fit page from to n z counts more few l a b = omega (arith, few, a.each z l, b.each z l, count_below-le (λ i. zone_of page (sample_at page i) == z) n)

pub changes_fit : (page : PageParts) (from to n z : ℕ) (counts more : List ℕ) → n ≤ 2 ^ 28 → z < length page.zones → AreZonesCounted page from (to * width page) counts → AreZonesCounted page to n more → slice_index counts z + slice_index more z < 2 ^ 64
changes_fit page from to n z counts more few l a b = omega (arith, few, a.each z l, b.each z l, count_below-le (λ i. (zone_of page (sample_at page i) == z) && sample_changes page (sample_at page i)) n)

-- so many rows are few enough samples
pub rows_few : (page : PageParts) (y : ℕ) → IsPage page → y ≤ height page → y * width page ≤ 2 ^ 28
rows_few page y valid l =
    let plane = plane_of page 0 valid valid.parts.some_plates in
    let rows : y * width page ≤ y * 16384 = mul-le-mul_left y plane.narrow in
    omega (arith, rows, l, plane.low)
