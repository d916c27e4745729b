-- Runs of values, taken cell by cell.
use Rattle.std.proofs.Common.{◌≡◌, ℕ, ◌+◌, ◌-◌, ◌*◌, ◌/◌, ◌%◌, ◌<◌, ◌≤◌, List, slice_index, inl, inr, sym, ap, ◌∙◌, arith}
use Rattle.std.proofs.Math.Nat.{mul-le-mul_left, mul-le-mul_right, mul_comm}
use Rattle.std.proofs.lemmas.Bool.{cases_order}

-- where the values of one more cell end
pub next_cell : (o count lanes : ℕ) → o < count → o * lanes + lanes ≤ count * lanes
next_cell o count lanes l =
    let t : (o + 1) * lanes ≤ count * lanes = mul-le-mul_right lanes (omega (arith, l)) in let e : (o + 1) * lanes ≡ o * lanes + lanes = grind arith in omega (arith, t, e)

-- cells have lesser numbers than their values
pub cells_few : (cell count lanes total : ℕ) → 1 ≤ lanes → (cell + count) * lanes ≤ total → total ≤ 1073741824 → cell + count ≤ 1073741824
cells_few cell count lanes total some inside few =
    let t : (cell + count) * 1 ≤ (cell + count) * lanes = mul-le-mul_left (cell + count) some in omega (arith, t, inside, few)

-- where a run stands that begins with a cell, and its whole cells
pub record WholeCells (from count cell lanes whole total : ℕ) : Type 0 where
  pub begins : cell * lanes ≡ from
  pub inside : (cell + whole) * lanes ≤ total
  pub few : whole * lanes ≤ count
  pub fewer : whole ≤ count

pub whole_cells : (from count lanes total : ℕ) → 1 ≤ lanes → from % lanes ≡ 0 → from + count ≤ total → WholeCells from count (from / lanes) lanes (count / lanes) total
whole_cells from count lanes total some first inside =
    let a : lanes * (from / lanes) + from % lanes ≡ from = omega (arith, some) in let b : lanes * (count / lanes) + count % lanes ≡ count = omega (arith, some) in
    let c = mul_comm (from / lanes) lanes in let d = mul_comm (count / lanes) lanes in
    let e : (from / lanes + count / lanes) * lanes ≡ from / lanes * lanes + count / lanes * lanes = grind arith in
    let t : count / lanes * 1 ≤ count / lanes * lanes = mul-le-mul_left (count / lanes) some in record {
      begins = omega (arith, a, c, first);
      inside = omega (arith, a, b, c, d, e, first, inside);
      few = omega (arith, b, d);
      fewer = omega (arith, b, d, t);
    }

-- where a run stands that begins within a cell
pub begins_at : (from lanes : ℕ) → 1 ≤ lanes → from / lanes * lanes + from % lanes ≡ from
begins_at from lanes some = let a : lanes * (from / lanes) + from % lanes ≡ from = omega (arith, some) in omega (arith, a, mul_comm (from / lanes) lanes)

-- more values from a place on
pub values_more : (place done count : ℕ) (before after : List ℕ) (f : ℕ → ℕ) → ((k : ℕ) → k < place + done → slice_index after k ≡ slice_index before k) → ((j : ℕ) → j < count → slice_index after (place + done + j) ≡ f (done + j)) → ((j : ℕ) → j < done → slice_index before (place + j) ≡ f j) → (j : ℕ) → j < done + count → slice_index after (place + j) ≡ f j
values_more place done count before after f kept here there j l = elim (cases_order j done) [
  | inl e ↦ last j (omega (arith, e)) l
  | inr (inl less) ↦ kept (place + j) (omega (arith, less)) ∙ there j less
  | inr (inr more) ↦ last j (omega (arith, more)) l
] where
  last : (j : ℕ) → done ≤ j → j < done + count → slice_index after (place + j) ≡ f j
  last j a l =
      let d : ℕ = j - done in let e : done + d ≡ j = omega (arith, a) in let s : place + done + d ≡ place + j = omega (arith, a) in
      ap (slice_index after) (sym s) ∙ (here d (omega (arith, a, l)) ∙ ap f e)
