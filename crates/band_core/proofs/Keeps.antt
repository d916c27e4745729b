-- Each event keeps a board sound.
use Rattle.std.proofs.Common.{◌≡◌, ◌≢◌, ◌⊎◌, ℕ, ◌<◌, true, false, sym, ap, ◌∙◌, inl, inr, arith, subst}
use Rattle.std.proofs.lemmas.Bool.{cases_eq, false≢true}
use Rattle.band_core.specs.declared.state.State.TheVariants.{Claimed, Done as IsDone}
use Rattle.band_core.specs.TableShapes.{Shape, IsShape, Has}
use Rattle.band_core.specs.Boards.{Board, state_at, cell_at, state_free, state_done, is_free, is_claimed, is_done, lacks, has_empty, set_state, set_cell}
use Rattle.band_core.specs.Runs.{Sound}
use Rattle.band_core.proofs.Boards.{clash, free_not_done, claimed_not_done, claimed_not_free, here, elsewhere, filled, unfilled, whole_state, whole_cell, needs_done, none_empty, one_owner}

module _ (k : Shape) (ok : IsShape k) (defined : ℕ → ℕ) (board : Board) (r : Sound k defined board) where
  pub sound_claim : (i : ℕ) → i < k.pieces → is_free board i ≡ true → lacks k board i ≡ false → Sound k defined (set_state board i Claimed)
  sound_claim i l free enough = record {
    whole = whole_state k board r.whole i Claimed;
    cells = r.cells;
    full = λ n j h d. elim (cases_eq n i) [
      | inl e ↦ absurd (false≢true (sym (ap state_done (at_i n e)) ∙ d))
      | inr ne ↦ r.full n j h (sym (ap state_done (other n ne)) ∙ d)
    ];
    empty = λ n j h f. elim (cases_eq n i) [
      | inl e ↦ absurd (false≢true (sym (ap state_free (at_i n e)) ∙ f))
      | inr ne ↦ r.empty n j h (sym (ap state_free (other n ne)) ∙ f)
    ];
    ready = λ n m q not_free need. elim (cases_eq n i) [
      | inl e ↦ stays m (needs_done k board r.whole i m enough (subst (λ (z : ℕ). k.needs z m ≡ true) e need) (let t = ok.earlier n m q need in omega (arith, t, q)))
      | inr ne ↦ stays m (r.ready n m q (sym (ap state_free (other n ne)) ∙ not_free) need)
    ];
  } where
    at_i : (n : ℕ) → n ≡ i → state_at (set_state board i Claimed) n ≡ Claimed
    at_i n e = ap (state_at (set_state board i Claimed)) e ∙ here k board r.whole i Claimed l

    other : (n : ℕ) → n ≢ i → state_at (set_state board i Claimed) n ≡ state_at board n
    other n ne = elsewhere k board r.whole i n Claimed ne

    -- what was done is done
    stays : (m : ℕ) → is_done board m ≡ true → is_done (set_state board i Claimed) m ≡ true
    stays m d = ap state_done (other m (λ e. clash _ (sym (ap (is_done board) e) ∙ d) (free_not_done (state_at board i) free))) ∙ d

  pub sound_done : (i : ℕ) → i < k.pieces → is_claimed board i ≡ true → has_empty k board i ≡ false → Sound k defined (set_state board i IsDone)
  sound_done i l mine full = record {
    whole = whole_state k board r.whole i IsDone;
    cells = r.cells;
    full = λ n j h d. elim (cases_eq n i) [
      | inl e ↦ none_empty k board r.whole i j full (subst (λ (z : ℕ). Has k z j) e h)
      | inr ne ↦ r.full n j h (sym (ap state_done (other n ne)) ∙ d)
    ];
    empty = λ n j h f. elim (cases_eq n i) [
      | inl e ↦ absurd (false≢true (sym (ap state_free (at_i n e)) ∙ f))
      | inr ne ↦ r.empty n j h (sym (ap state_free (other n ne)) ∙ f)
    ];
    ready = λ n m q not_free need. elim (cases_eq n i) [
      | inl e ↦ stays m (r.ready n m q (ap (is_free board) e ∙ claimed_not_free (state_at board i) mine) need)
      | inr ne ↦ stays m (r.ready n m q (sym (ap state_free (other n ne)) ∙ not_free) need)
    ];
  } where
    at_i : (n : ℕ) → n ≡ i → state_at (set_state board i IsDone) n ≡ IsDone
    at_i n e = ap (state_at (set_state board i IsDone)) e ∙ here k board r.whole i IsDone l

    other : (n : ℕ) → n ≢ i → state_at (set_state board i IsDone) n ≡ state_at board n
    other n ne = elsewhere k board r.whole i n IsDone ne

    stays : (m : ℕ) → is_done board m ≡ true → is_done (set_state board i IsDone) m ≡ true
    stays m d = elim (cases_eq m i) [ inl e ↦ ap state_done (at_i m e) | inr ne ↦ ap state_done (other m ne) ∙ d ]

  pub sound_put : (i j v : ℕ) → j < k.cells → Has k i j → is_claimed board i ≡ true → v ≡ defined j → Sound k defined (set_cell board j v)
  sound_put i j v l has mine is = record {
    whole = whole_cell k board r.whole j v;
    cells = λ h m. elim (cases_eq h j) [
      | inl e ↦ inr (ap (cell_at (set_cell board j v)) e ∙ (filled k board r.whole j v l ∙ (is ∙ ap defined (sym e))))
      | inr ne ↦ subst (λ (z : ℕ). (z ≡ 0) ⊎ (z ≡ defined h)) (sym (unfilled k board r.whole j h v ne)) (r.cells h m)
    ];
    full = λ n h q d z. r.full n h q d (sym (unfilled k board r.whole j h v (apart n h q (λ e. clash _ (sym (ap (is_done board) e) ∙ d) (claimed_not_done (state_at board i) mine)))) ∙ z);
    empty = λ n h q f. unfilled k board r.whole j h v (apart n h q (λ e. clash _ (sym (ap (is_free board) e) ∙ f) (claimed_not_free (state_at board i) mine))) ∙ r.empty n h q f;
    ready = r.ready;
  } where
    -- cell j is one of piece i alone
    apart : (n h : ℕ) → Has k n h → n ≢ i → h ≢ j
    apart n h q ne e = ne (one_owner k i n j ok has (subst (λ (z : ℕ). Has k n z) e q))
