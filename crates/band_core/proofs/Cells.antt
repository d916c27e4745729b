-- A cell of given values, and what is unpacked from it.
use Rattle.std.proofs.Common.{◌≡◌, ℕ, ◌+◌, ◌-◌, ◌*◌, ◌/◌, ◌%◌, ◌^◌, ◌<◌, ◌≤◌, List, min, sym, ap, ◌∙◌, arith, div-add-mod'}
use Rattle.std.proofs.Math.Nat.{mod-lt}
use Rattle.lists.specs.Words.{list_below}
use Rattle.page_model.specs.Bands.{phase_of}
use Rattle.page_model.proofs.BandLemmas.{ceiling-above}
use Rattle.band_core.specs.Layouts.{Layout}
use Rattle.band_core.specs.Packing.{packed, lane}
use Rattle.band_core.specs.Places.{HasCell, piece_count, bits_of, lanes_of, value_total, cell_total, first_cell_of, piece_of_cell}
use Rattle.band_core.proofs.Lanes.{lane_packed}
use Rattle.band_core.proofs.Places.{owner-is, some_lanes}
use Rattle.band_core.specs.Boards.{Board, cell_at}
use Rattle.band_core.specs.Values.{cut, cell_of}
use Rattle.band_core.specs.Recipe.{unpacked}
use Rattle.lists.proofs.ListBelow.{length-list_below, list_below-at, all_below}
use Rattle.lists.proofs.Same.{list_below-same}

cut_same : (f g : ℕ → ℕ) (lanes total o : ℕ) → ((k : ℕ) → k < total → f k ≡ g k) → cut f lanes total o ≡ cut g lanes total o
cut_same f g lanes total o each = list_below-same (λ l. f (o * lanes + l)) (λ l. g (o * lanes + l)) (min lanes (total - o * lanes)) (λ l m. each (o * lanes + l) (omega (arith, m)))

-- cell j of piece i
pub cell_at_piece : (layout : Layout) (values : ℕ → ℕ → ℕ) (i j : ℕ) → piece_of_cell layout j ≡ i
    → cell_of layout values j ≡ 1 + packed (bits_of (phase_of layout.bands i)) (cut (values i) (lanes_of (phase_of layout.bands i)) (value_total layout i) (j - first_cell_of layout i))
unfolding cell_of
cell_at_piece layout values i j e = ap (λ (n : ℕ). 1 + packed (bits_of (phase_of layout.bands n)) (cut (values n) (lanes_of (phase_of layout.bands n)) (value_total layout n) (j - first_cell_of layout n))) e

-- values that agree in a piece make the same cells of it
pub cell_same : (layout : Layout) (values others : ℕ → ℕ → ℕ) (i j : ℕ) → i < piece_count layout → HasCell layout i j → ((k : ℕ) → k < value_total layout i → values i k ≡ others i k) → cell_of layout values j ≡ cell_of layout others j
cell_same layout values others i j l h each =
    let e = owner-is layout i j l h in let phase : ℕ = phase_of layout.bands i in
    cell_at_piece layout values i j e
    ∙ (ap (λ (vs : List ℕ). 1 + packed (bits_of phase) vs) (cut_same (values i) (others i) (lanes_of phase) (value_total layout i) (j - first_cell_of layout i) each)
    ∙ sym (cell_at_piece layout others i j e))

-- the lane of value k in the cut of its cell
pub lane_of_cut : (values : ℕ → ℕ) (bits lanes total k : ℕ) → 1 ≤ lanes → k < total → ((m : ℕ) → m < total → values m < 2 ^ bits) → lane bits (packed bits (cut values lanes total (k / lanes))) (k % lanes) ≡ values k
lane_of_cut values bits lanes total k some l small =
    let o : ℕ = k / lanes in let e = div-add-mod' k lanes in let m = mod-lt k some in
    let n : ℕ = min lanes (total - o * lanes) in
    let inside : k % lanes < n = omega (arith, e, m, l) in
    let f : ℕ → ℕ = λ h. values (o * lanes + h) in
    lane_packed bits (list_below f n) (k % lanes) (all_below (λ v. v < 2 ^ bits) f n (λ h q. small (o * lanes + h) (omega (arith, q)))) (let t = length-list_below f n in omega (arith, t, inside))
    ∙ (list_below-at f n (k % lanes) 0 inside ∙ ap values e)

pub cell_inside : (layout : Layout) (i k : ℕ) → k < value_total layout i → HasCell layout i (first_cell_of layout i + k / lanes_of (phase_of layout.bands i))
unfolding cell_total
cell_inside layout i k l = record { from = omega arith; below = (let t = ceiling-above (value_total layout i) (lanes_of (phase_of layout.bands i)) k (some_lanes (phase_of layout.bands i)) l in omega (arith, t)) }

-- where a cell is that of such values, they are unpacked from it
pub unpacked_is : (layout : Layout) (values : ℕ → ℕ → ℕ) (board : Board) (i k : ℕ) → i < piece_count layout → k < value_total layout i
    → ((m : ℕ) → m < value_total layout i → values i m < 2 ^ bits_of (phase_of layout.bands i))
    → cell_at board (first_cell_of layout i + k / lanes_of (phase_of layout.bands i)) ≡ cell_of layout values (first_cell_of layout i + k / lanes_of (phase_of layout.bands i))
    → unpacked layout board i k ≡ values i k
unfolding unpacked
unpacked_is layout values board i k l m small same =
    let phase : ℕ = phase_of layout.bands i in let start : ℕ = first_cell_of layout i in let o : ℕ = k / lanes_of phase in
    let is = same ∙ cell_at_piece layout values i (start + o) (owner-is layout i (start + o) l (cell_inside layout i k m)) in
    let here : start + o - start ≡ o = omega arith in
    let packed_is : cell_at board (start + o) - 1 ≡ packed (bits_of phase) (cut (values i) (lanes_of phase) (value_total layout i) o) = omega (arith, is ∙ ap (λ (z : ℕ). 1 + packed (bits_of phase) (cut (values i) (lanes_of phase) (value_total layout i) z)) here) in
    ap (λ (z : ℕ). lane (bits_of phase) z (k % lanes_of phase)) packed_is ∙ lane_of_cut (values i) (bits_of phase) (lanes_of phase) (value_total layout i) k (some_lanes phase) m small
