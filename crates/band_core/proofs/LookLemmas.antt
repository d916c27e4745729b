-- What the code looks at is what the definitions ask.
use Rattle.std.proofs.Common.{◌≡◌, ℕ, suc, ◌+◌, ◌<◌, ◌≤◌, ◌^◌, ◌==◌, Bool, true, false, ◌&&◌, ◌||◌, nat_le, nat_lt, List, slice_index, refl, sym, ap, ◌∙◌, inl, inr, arith, subst}
use Rattle.std.specs.Prelude.{not, slice_index_or}
use Rattle.std.proofs.lemmas.Bool.{cases_Bool, cases_eq, and_parts, and_from, false≢true, not-true, not-false}
use Rattle.lists.specs.Words.{any_below, count_below}
use Rattle.lists.proofs.AnyBelow.{any_below-from}
use Rattle.lists.proofs.Sums.{any_below-at}
use Rattle.page_model.specs.declared.bands.Bands.{Bands}
use Rattle.page_model.specs.Bands.{pieces_of}
use Rattle.band_core.specs.Needs.{is_need}
use Rattle.band_core.proofs.CountLemmas.{count-less, count-same}
use Rattle.band_core.specs.Layouts.{Layout, IsLayout}
use Rattle.band_core.specs.Places.{piece_count, cells_of, first_cell_of, cell_total}
use Rattle.band_core.proofs.Places.{cells_fit}
use Rattle.band_core.proofs.Sums.{sum_at_most}
use Rattle.band_core.specs.declared.state.State.{State}
use Rattle.band_core.specs.declared.state.State.TheVariants.{Free}
use Rattle.band_core.specs.Shapes.{shape_of}
use Rattle.band_core.specs.Boards.{state_claimed, state_done, lacks_in, empty_in, hand_in}

-- some need of piece i is not done
abbrev pub Lacks : Layout → List State → ℕ → Type 0
Lacks layout states i = (n : ℕ) × (n < piece_count layout) × (is_need layout.bands i n ≡ true) × (state_done (slice_index_or states n Free) ≡ false)

-- its needs before the k-th are done
abbrev pub DoneBefore : Layout → List State → ℕ → ℕ → Type 0
DoneBefore layout states i k = (n : ℕ) → is_need layout.bands i n ≡ true → count_below (is_need layout.bands i) n < k → state_done (slice_index_or states n Free) ≡ true

abbrev lacking : Layout → List State → ℕ → ℕ → Bool
lacking layout states i n = is_need layout.bands i n && not (state_done (slice_index_or states n Free))

-- after a look at all needs
pub lacks_is : (layout : Layout) (states : List State) (i k : ℕ) (any : Bool) → IsLayout layout → i < piece_count layout → k ≡ count_below (is_need layout.bands i) (piece_count layout) → (any ≡ true → Lacks layout states i) → (any ≡ false → DoneBefore layout states i k) → any ≡ lacks_in (shape_of layout) states i
unfolding lacks_in
lacks_is layout states i k true is l e some all = let w = some refl in sym (any_below-from (lacking layout states i) (piece_count layout) w.0 w.1 (and_from (is_need layout.bands i w.0) (not (state_done (slice_index_or states w.0 Free))) w.2 (ap not w.3)))
lacks_is layout states i k false is l e some all = elim (cases_Bool (any_below (lacking layout states i) (piece_count layout))) [
  | inr none ↦ sym none
  | inl t ↦ (let f = any_below-at (lacking layout states i) (piece_count layout) t in
      let two = and_parts (is_need layout.bands i f.0) (not (state_done (slice_index_or states f.0 Free))) f.2 in
      let before = count-less (is_need layout.bands i) f.0 (piece_count layout) two.0 f.1 in
      absurd (false≢true (sym (ap not (all refl f.0 two.0 (omega (arith, before, e)))) ∙ two.1)))
]

-- a need of bands that are the layout's
pub same_count : (layout : Layout) (bands : Bands) (i n : ℕ) → bands ≡ layout.bands → n ≡ count_below (is_need bands i) (pieces_of bands) → n ≡ count_below (is_need layout.bands i) (piece_count layout)
same_count layout bands i n e t = subst (λ (b : Bands). n ≡ count_below (is_need b i) (pieces_of b)) e t

pub same_need : (layout : Layout) (bands : Bands) (i n k : ℕ) → bands ≡ layout.bands → is_need bands i n ≡ true → count_below (is_need bands i) n ≡ k → (is_need layout.bands i n ≡ true) × (count_below (is_need layout.bands i) n ≡ k)
same_need layout bands i n k e need order = (subst (λ (b : Bands). is_need b i n ≡ true) e need, subst (λ (b : Bands). count_below (is_need b i) n ≡ k) e order)

-- one need more
pub lacks_next : (layout : Layout) (states : List State) (i k n : ℕ) (any done : Bool) → done ≡ state_done (slice_index_or states n Free) → n < piece_count layout → is_need layout.bands i n ≡ true → count_below (is_need layout.bands i) n ≡ k
    → (any ≡ true → Lacks layout states i) → (any ≡ false → DoneBefore layout states i k)
    → ((any || not done) ≡ true → Lacks layout states i) × ((any || not done) ≡ false → DoneBefore layout states i (k + 1))
lacks_next layout states i k n true done is inside need order some all = (λ t. some refl, λ f. absurd (false≢true (sym f)))
lacks_next layout states i k n false done is inside need order some all = (
  (λ t. (n, inside, need, sym is ∙ not-true done t)),
  (λ f m other less. elim (cases_eq (count_below (is_need layout.bands i) m) k) [
    | inl same ↦ (let e = count-same (is_need layout.bands i) m n other need (omega (arith, same, order)) in ap (λ (z : ℕ). state_done (slice_index_or states z Free)) e ∙ (sym is ∙ not-false done f))
    | inr ne ↦ all refl m other (omega (arith, less, ne))
  ]),
)

pub empty_is : (layout : Layout) (cells : List ℕ) (i n : ℕ) → n ≡ cell_total layout i → any_below (λ o. slice_index cells (first_cell_of layout i + o) == 0) n ≡ empty_in (shape_of layout) cells i
unfolding empty_in
empty_is layout cells i n e = ap (any_below (λ o. slice_index cells (first_cell_of layout i + o) == 0)) e

pub hand_is : (layout : Layout) (states : List State) (j n : ℕ) → n ≡ piece_count layout → any_below (λ i. state_claimed (slice_index_or states i Free) && (nat_le (first_cell_of layout i) j && nat_lt j (first_cell_of layout i + cell_total layout i))) n ≡ hand_in (shape_of layout) states j
unfolding hand_in
hand_is layout states j n e = ap (any_below (λ i. state_claimed (slice_index_or states i Free) && (nat_le (first_cell_of layout i) j && nat_lt j (first_cell_of layout i + cell_total layout i)))) e

-- the cells of a piece end within the cells
pub ends_inside : (layout : Layout) (i : ℕ) → i < piece_count layout → first_cell_of layout i + cell_total layout i ≤ cells_of layout
ends_inside layout i l = sum_at_most (cell_total layout) (suc i) (piece_count layout) (omega (arith, l))

pub ends_fit : (layout : Layout) (i : ℕ) → IsLayout layout → i < piece_count layout → first_cell_of layout i + cell_total layout i < 2 ^ 31
ends_fit layout i is l = let t = ends_inside layout i l in let u = cells_fit layout is in omega (arith, t, u)
