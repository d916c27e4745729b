-- What a change of one state or of one cell leaves of a board.
use Rattle.std.proofs.Common.{◌≡◌, ◌≢◌, ℕ, ◌+◌, ◌-◌, ◌<◌, ◌==◌, Bool, true, false, ◌&&◌, refl, sym, ap, ◌∙◌, inl, inr, arith, get_or-set_same, get_or-set_other, length-set}
use Rattle.std.specs.Prelude.{not, nat_lt, nat_le}
use Rattle.std.proofs.lemmas.Bool.{cases_order, false≢true, true≢false, and_parts, and_cases, not-false, eqb-false, leb-true, ltb-true}
use Rattle.lists.proofs.AnyBelow.{any_below-none}
use Rattle.lists.proofs.Sums.{any_below-at}
use Rattle.band_core.specs.declared.state.State.{State}
use Rattle.band_core.specs.declared.state.State.TheVariants.{Free, Claimed, Done as IsDone}
use Rattle.band_core.specs.TableShapes.{Shape, IsShape, Has}
use Rattle.band_core.specs.Boards.{Board, state_at, cell_at, state_free, state_claimed, state_done, is_claimed, is_done, lacks, lacks_in, has_empty, empty_in, in_hand, hand_in, set_state, set_cell, IsBoard}

-- a state is one of three
pub free_not_done : (s : State) → state_free s ≡ true → state_done s ≡ false
free_not_done Free t = refl
free_not_done Claimed t = absurd (false≢true t)
free_not_done IsDone t = absurd (false≢true t)

pub claimed_not_done : (s : State) → state_claimed s ≡ true → state_done s ≡ false
claimed_not_done Free t = refl
claimed_not_done Claimed t = refl
claimed_not_done IsDone t = absurd (false≢true t)

pub claimed_not_free : (s : State) → state_claimed s ≡ true → state_free s ≡ false
claimed_not_free Free t = absurd (false≢true t)
claimed_not_free Claimed t = refl
claimed_not_free IsDone t = refl

pub free_if_neither : (s : State) → state_claimed s ≡ false → state_done s ≡ false → state_free s ≡ true
free_if_neither Free c d = refl
free_if_neither Claimed c d = absurd (true≢false c)
free_if_neither IsDone c d = absurd (true≢false d)

pub clash : (b : Bool) → b ≡ true → b ≡ false → ⊥
clash b t f = false≢true (sym f ∙ t)

module _ (k : Shape) (board : Board) (whole : IsBoard k board) where
  pub here : (i : ℕ) (s : State) → i < k.pieces → state_at (set_state board i s) i ≡ s
  here i s l = get_or-set_same board.states i s Free (omega (arith, l, whole.states))

  pub elsewhere : (i n : ℕ) (s : State) → n ≢ i → state_at (set_state board i s) n ≡ state_at board n
  elsewhere i n s ne = get_or-set_other board.states i n s Free ne

  pub filled : (j v : ℕ) → j < k.cells → cell_at (set_cell board j v) j ≡ v
  filled j v l = get_or-set_same board.cells j v 0 (omega (arith, l, whole.cells))

  pub unfilled : (j h v : ℕ) → h ≢ j → cell_at (set_cell board j v) h ≡ cell_at board h
  unfilled j h v ne = get_or-set_other board.cells j h v 0 ne

  pub whole_state : (i : ℕ) (s : State) → IsBoard k (set_state board i s)
  whole_state i s = record { states = length-set board.states i s ∙ whole.states; cells = whole.cells }

  pub whole_cell : (j v : ℕ) → IsBoard k (set_cell board j v)
  whole_cell j v = record { states = whole.states; cells = length-set board.cells j v ∙ whole.cells }

  -- no need lacks
  pub needs_done : (i n : ℕ) → lacks k board i ≡ false → k.needs i n ≡ true → n < k.pieces → is_done board n ≡ true
  unfolding lacks_in
  needs_done i n f need l = elim (and_cases (k.needs i n) (not (is_done board n)) (any_below-none (λ m. k.needs i m && not (is_done board m)) k.pieces n f l)) [
    | inl nope ↦ absurd (clash _ need nope)
    | inr fine ↦ not-false (is_done board n) fine
  ]

  -- no cell is empty
  pub none_empty : (i j : ℕ) → has_empty k board i ≡ false → Has k i j → cell_at board j ≢ 0
  unfolding empty_in
  none_empty i j f h zero_there =
      let t = any_below-none (λ o. cell_at board (k.start i + o) == 0) (k.size i) (j - k.start i) f (let a = h.from in let b = h.below in omega (arith, a, b)) in
      let e : k.start i + (j - k.start i) ≡ j = (let a = h.from in omega (arith, a)) in
      eqb-false _ _ t (ap (cell_at board) e ∙ zero_there)

  -- a cell in hand is one of a claimed piece
  pub hand : (j : ℕ) → in_hand k board j ≡ true → (i : ℕ) × Has k i j × (is_claimed board i ≡ true)
  unfolding hand_in
  hand j t =
      let f = any_below-at (λ i. is_claimed board i && (nat_le (k.start i) j && nat_lt j (k.start i + k.size i))) k.pieces t in
      let two = and_parts (is_claimed board f.0) (nat_le (k.start f.0) j && nat_lt j (k.start f.0 + k.size f.0)) f.2 in
      let ends = and_parts (nat_le (k.start f.0) j) (nat_lt j (k.start f.0 + k.size f.0)) two.1 in
      (f.0, record { piece = f.1; from = leb-true _ _ ends.0; below = ltb-true _ _ ends.1 }, two.0)

-- two pieces have no cell in common
pub one_owner : (k : Shape) (i n j : ℕ) → IsShape k → Has k i j → Has k n j → n ≡ i
one_owner k i n j ok a b = elim (cases_order n i) [
  | inl e ↦ e
  | inr (inl before) ↦ (let o = ok.in_order n i before a.piece in let x = b.below in let y = a.from in absurd (omega (arith, o, x, y)))
  | inr (inr suffix) ↦ (let o = ok.in_order i n suffix b.piece in let x = a.below in let y = b.from in absurd (omega (arith, o, x, y)))
]
