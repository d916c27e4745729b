-- A change of one word is an event's change of the board that the words are.
use Rattle.std.proofs.Common.{◌≡◌, ℕ, zero, suc, ◌+◌, ◌<◌, ◌≤◌, true, List, length, replicate, refl, sym, ap, ◌∙◌, inl, inr, arith, subst, get_or-set_same, get_or-set_other, length-set}
use Rattle.std.specs.Prelude.{slice_index, slice_set}
use Rattle.std.proofs.lemmas.Bool.{cases_eq}
use Rattle.std.proofs.lemmas.List.{ext_get_or, length-replicate}
use Rattle.lists.specs.Words.{list_below}
use Rattle.band_core.specs.declared.state.State.TheVariants.{Free}
use Rattle.band_core.specs.declared.event.Event.{Event}
use Rattle.band_core.specs.declared.event.Event.TheVariants.{Claim, Put, Done}
use Rattle.band_core.specs.TableShapes.{Shape, IsShape}
use Rattle.band_core.specs.Runs.{Sound, ByDefinition}
use Rattle.band_core.specs.Boards.{state_at, cell_at, set_state, set_cell, IsBoard, InRange, allowed, changed, opening}
use Rattle.band_core.specs.TableWords.{AreWords, state_of, board_of, rewritten}
use Rattle.band_core.proofs.Runs.{default_at, sound_after}
use Rattle.lists.proofs.ListBelow.{length-list_below, list_below-at}
use Rattle.lists.proofs.Same.{list_below-same, list_below-set}

pub is_board : (k : Shape) (words : List ℕ) → IsBoard k (board_of k words)
is_board k words = record { states = length-list_below (λ i. state_of (slice_index words i)) k.pieces; cells = length-list_below (λ j. slice_index words (k.pieces + j)) k.cells }

pub state_is : (k : Shape) (words : List ℕ) (i : ℕ) → i < k.pieces → state_at (board_of k words) i ≡ state_of (slice_index words i)
state_is k words i l = list_below-at (λ n. state_of (slice_index words n)) k.pieces i Free l

pub cell_is : (k : Shape) (words : List ℕ) (j : ℕ) → j < k.cells → cell_at (board_of k words) j ≡ slice_index words (k.pieces + j)
cell_is k words j l = list_below-at (λ n. slice_index words (k.pieces + n)) k.cells j 0 l

-- a piece's word
pub piece_changed : (k : Shape) (words : List ℕ) (i w : ℕ) → length words ≡ k.pieces + k.cells → i < k.pieces → board_of k (slice_set words i w) ≡ set_state (board_of k words) i (state_of w)
piece_changed k words i w wide l =
    let states = list_below-set Free (λ n. state_of (slice_index words n)) (λ n. state_of (slice_index (slice_set words i w) n)) k.pieces i (state_of w) l (ap state_of (get_or-set_same words i w 0 (omega (arith, wide, l)))) (λ m ne. ap state_of (get_or-set_other words i m w 0 ne)) in
    let cells = list_below-same (λ j. slice_index (slice_set words i w) (k.pieces + j)) (λ j. slice_index words (k.pieces + j)) k.cells (λ j m. get_or-set_other words i (k.pieces + j) w 0 (λ e. omega (arith, e, l))) in
    (λ z. record { states = states z; cells = cells z })

-- a cell's word
pub cell_changed : (k : Shape) (words : List ℕ) (j w : ℕ) → length words ≡ k.pieces + k.cells → j < k.cells → board_of k (slice_set words (k.pieces + j) w) ≡ set_cell (board_of k words) j w
cell_changed k words j w wide l =
    let cells = list_below-set 0 (λ n. slice_index words (k.pieces + n)) (λ n. slice_index (slice_set words (k.pieces + j) w) (k.pieces + n)) k.cells j w l (get_or-set_same words (k.pieces + j) w 0 (omega (arith, wide, l))) (λ m ne. get_or-set_other words (k.pieces + j) (k.pieces + m) w 0 (λ e. ne (omega (arith, e)))) in
    let states = list_below-same (λ n. state_of (slice_index (slice_set words (k.pieces + j) w) n)) (λ n. state_of (slice_index words n)) k.pieces (λ n m. ap state_of (get_or-set_other words (k.pieces + j) n w 0 (λ e. omega (arith, e, m)))) in
    (λ z. record { states = states z; cells = cells z })

pub one_word : (k : Shape) (words : List ℕ) (event : Event) → length words ≡ k.pieces + k.cells → InRange k event → board_of k (rewritten k words event) ≡ changed (board_of k words) event
one_word k words (Claim i) wide l = piece_changed k words i 1 wide l
one_word k words (Put j v) wide l = cell_changed k words j v wide l
one_word k words (Done i) wide l = piece_changed k words i 2 wide l

-- words that are all 0
pub zero_at : (n i : ℕ) → slice_index (replicate n 0) i ≡ 0
zero_at zero i = refl
zero_at (suc n) zero = refl
zero_at (suc n) (suc i) = zero_at n i

all_same : {X : Type 0} (d : X) (f : ℕ → X) (n : ℕ) → ((i : ℕ) → f i ≡ d) → list_below f n ≡ replicate n d
all_same d f n each = ext_get_or d (list_below f n) (replicate n d) (length-list_below f n ∙ sym (length-replicate n d)) (λ i l. list_below-at f n i d (let t = length-list_below f n in omega (arith, l, t)) ∙ (each i ∙ sym (default_at d n i)))

pub opening_words : (k : Shape) → board_of k (replicate (k.pieces + k.cells) 0) ≡ opening k
opening_words k =
    let states = all_same Free (λ i. state_of (slice_index (replicate (k.pieces + k.cells) 0) i)) k.pieces (λ i. ap state_of (zero_at (k.pieces + k.cells) i)) in
    let cells = all_same {X = ℕ} 0 (λ j. slice_index (replicate (k.pieces + k.cells) 0) (k.pieces + j)) k.cells (λ j. zero_at (k.pieces + k.cells) (k.pieces + j)) in
    (λ z. record { states = states z; cells = cells z })

-- what a change leaves of the words
piece_kept : (k : Shape) (words : List ℕ) (i w : ℕ) → AreWords k words → i < k.pieces → w ≤ 2 → AreWords k (slice_set words i w)
piece_kept k words i w are l few = record {
  wide = length-set words i w ∙ are.wide;
  states = λ n m. elim (cases_eq n i) [
    | inl e ↦ subst (λ (z : ℕ). z ≤ 2) (sym (ap (slice_index (slice_set words i w)) e ∙ get_or-set_same words i w 0 (let t = are.wide in omega (arith, t, l)))) few
    | inr ne ↦ subst (λ (z : ℕ). z ≤ 2) (sym (get_or-set_other words i n w 0 ne)) (are.states n m)
  ];
}

pub words_kept : (k : Shape) (words : List ℕ) (event : Event) → AreWords k words → InRange k event → AreWords k (rewritten k words event)
words_kept k words (Claim i) are l = piece_kept k words i 1 are l (omega arith)
words_kept k words (Done i) are l = piece_kept k words i 2 are l (omega arith)
words_kept k words (Put j v) are l = record {
  wide = length-set words (k.pieces + j) v ∙ are.wide;
  states = λ n m. subst (λ (z : ℕ). z ≤ 2) (sym (get_or-set_other words (k.pieces + j) n v 0 (λ e. omega (arith, e, m)))) (are.states n m);
}

pub sound_words : (k : Shape) → IsShape k → (defined : ℕ → ℕ) (words : List ℕ) (event : Event) → AreWords k words → InRange k event → ByDefinition defined event → allowed k (board_of k words) event ≡ true → Sound k defined (board_of k words) → Sound k defined (board_of k (rewritten k words event))
sound_words k ok defined words event are l by may sound = subst (Sound k defined) (sym (one_word k words event are.wide l)) (sound_after k ok defined (board_of k words) sound event l by may)
