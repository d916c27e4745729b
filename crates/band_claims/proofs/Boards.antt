-- How a change of one word keeps the words a sound board, and what they say of a view.
use Rattle.std.proofs.Common.{◌≡◌, ◌≢◌, ◌⊎◌, ℕ, zero, suc, ◌+◌, ◌<◌, ◌≤◌, List, length, set, sym, refl, ap, ◌∙◌, inl, inr, arith, Option, Some, None, Bool, true, false, ◌&&◌, ◌||◌, subst, get_or-set_other, get_or-set_same, eq-eqb, ne_eqb, ◌==◌}
use Rattle.std.specs.Prelude.{MatchOption, not}
use Rattle.std.proofs.lemmas.Bool.{cases_eq, cases_order}
use Rattle.lists.specs.Words.{any_below}
use Rattle.band_core.specs.TableShapes.{Shape, IsShape, Has}
use Rattle.band_core.specs.Boards.{state_at, cell_at, state_free, state_claimed, state_done, is_done, lacks, lacks_in, has_empty, empty_in}
use Rattle.band_core.specs.TableWords.{state_of, board_of}
use Rattle.band_core.specs.Runs.{Sound}
use Rattle.band_core.proofs.Keeps.{sound_claim as board_claim, sound_done as board_done, sound_put as board_put}
use Rattle.band_core.proofs.TableWords.{state_is, cell_is, piece_changed, cell_changed}
use Rattle.band_claims.specs.declared.table_key.TableKey.{TableKey}
use Rattle.band_claims.specs.declared.view.View.{View}
use Rattle.band_claims.specs.Views.{one_if, is_hand, holds, Knows}
use Rattle.band_claims.specs.Rule.{piece_word, cell_word}
use Rattle.band_claims.proofs.Kept.{Holding, Sits}

pub same_one : (i j : ℕ) → i ≡ j → one_if (i == j) ≡ 1
same_one i j e = rw (eq-eqb i j e) refl

pub other_zero : (i j : ℕ) → i ≢ j → one_if (i == j) ≡ 0
other_zero i j e = rw (ne_eqb i j e) refl

not_in_hand : (i j : ℕ) → is_hand i (Some j) ≡ 0 → j ≢ i
not_in_hand i j out e = omega (arith, same_one i j (sym e), out)

none_below : (test : ℕ → Bool) (n : ℕ) → ((j : ℕ) → j < n → test j ≡ false) → any_below test n ≡ false
none_below test zero each = refl
none_below test (suc n) each = neither (any_below test n) (test n) (none_below test n (λ j l. each j (omega (arith, l)))) (each n (omega arith)) where
  neither : (a b : Bool) → a ≡ false → b ≡ false → (a || b) ≡ false
  neither a b x y = rw (x, y) refl

unless : (a b : Bool) → (a ≡ true → b ≡ true) → (a && not b) ≡ false
unless true b t = ap not (t refl)
unless false b t = refl

-- two pieces have no cell in common
apart_in : (k : Shape) → IsShape k → (i j o p : ℕ) → i < k.pieces → j < k.pieces → j ≢ i → o < k.size i → p < k.size j → k.start j + p ≢ k.start i + o
apart_in k ok i j o p a b ne l m e = elim (cases_order i j) [
  | inl same ↦ ne (sym same)
  | inr (inl before) ↦ omega (arith, ok.in_order i j before b)
  | inr (inr suffix) ↦ omega (arith, ok.in_order j i suffix a)
]

module _ (k : Shape) (ok : IsShape k) (words : List ℕ) (wide : length words ≡ k.pieces + k.cells) where
  abbrev after_piece : ℕ → ℕ → List ℕ
  after_piece i n = set words i n

  abbrev after_cell : ℕ → ℕ → List ℕ
  after_cell j n = set words (k.pieces + j) n

  pub piece_here : (i n : ℕ) → i < k.pieces → piece_word (after_piece i n) i ≡ n
  piece_here i n l = get_or-set_same words i n 0 (omega (arith, wide))

  pub piece_else : (i j n : ℕ) → j ≢ i → piece_word (after_piece i n) j ≡ piece_word words j
  piece_else i j n ne = get_or-set_other words i j n 0 ne

  pub cell_stays : (i j n : ℕ) → i < k.pieces → cell_word k (after_piece i n) j ≡ cell_word k words j
  cell_stays i j n l = get_or-set_other words i (k.pieces + j) n 0 (λ e. omega arith)

  pub cell_here : (j n : ℕ) → j < k.cells → cell_word k (after_cell j n) j ≡ n
  cell_here j n l = get_or-set_same words (k.pieces + j) n 0 (omega (arith, wide))

  pub cell_else : (j h n : ℕ) → h ≢ j → cell_word k (after_cell j n) h ≡ cell_word k words h
  cell_else j h n ne = get_or-set_other words (k.pieces + j) (k.pieces + h) n 0 (λ e. ne (omega arith))

  pub piece_stays : (i j n : ℕ) → i < k.pieces → piece_word (after_cell j n) i ≡ piece_word words i
  piece_stays i j n l = get_or-set_other words (k.pieces + j) i n 0 (λ e. omega arith)

  apart : (i j o p : ℕ) → i < k.pieces → j < k.pieces → j ≢ i → o < k.size i → p < k.size j → k.start j + p ≢ k.start i + o
  apart = apart_in k ok

  pub states_piece : ((j : ℕ) → j < k.pieces → piece_word words j ≤ 2) → (i n : ℕ) → i < k.pieces → n ≤ 2 → (j : ℕ) → j < k.pieces → piece_word (after_piece i n) j ≤ 2
  states_piece r i n l two j m = elim (cases_eq j i) [ inl e ↦ rw e (omega (arith, piece_here i n l, two)) | inr ne ↦ omega (arith, piece_else i j n ne, r j m) ]

  pub states_cell : ((j : ℕ) → j < k.pieces → piece_word words j ≤ 2) → (c x j : ℕ) → j < k.pieces → piece_word (after_cell c x) j ≤ 2
  states_cell r c x j m = omega (arith, piece_stays j c x m, r j m)

  pub word_state : (i w : ℕ) → i < k.pieces → piece_word words i ≡ w → state_at (board_of k words) i ≡ state_of w
  word_state i w l e = state_is k words i l ∙ ap state_of e

  pub none_lack : (i : ℕ) → ((n : ℕ) → n < k.pieces → k.needs i n ≡ true → piece_word words n ≡ 2) → lacks k (board_of k words) i ≡ false
  unfolding lacks_in
  none_lack i needs = none_below (λ n. k.needs i n && not (is_done (board_of k words) n)) k.pieces (λ n m. unless (k.needs i n) (is_done (board_of k words) n) (λ t. ap state_done (word_state n 2 m (needs n m t))))

  pub inside_at : (i o : ℕ) → i < k.pieces → o < k.size i → k.start i + o < k.cells
  inside_at i o l m = omega (arith, ok.inside i l, m)

  pub none_left : (i : ℕ) → i < k.pieces → ((o : ℕ) → o < k.size i → cell_word k words (k.start i + o) ≢ 0) → has_empty k (board_of k words) i ≡ false
  unfolding empty_in
  none_left i l full = none_below (λ o. cell_at (board_of k words) (k.start i + o) == 0) (k.size i) (λ o m. ne_eqb _ 0 (λ e. full o m (sym (cell_is k words (k.start i + o) (inside_at i o l m)) ∙ e)))

  pub has : (i o : ℕ) → i < k.pieces → o < k.size i → Has k i (k.start i + o)
  has i o l m = record { piece = l; from = omega arith; below = omega (arith, m) }

  module _ (defined : ℕ → ℕ) (r : Sound k defined (board_of k words)) where
    pub sound_claim : (i : ℕ) → i < k.pieces → piece_word words i ≡ 0 → ((n : ℕ) → k.needs i n ≡ true → piece_word words n ≡ 2) → Sound k defined (board_of k (after_piece i 1))
    sound_claim i l free needs = subst (Sound k defined) (sym (piece_changed k words i 1 wide l)) (board_claim k ok defined (board_of k words) r i l (ap state_free (word_state i 0 l free)) (none_lack i (λ n _. needs n)))

    pub sound_finish : (i : ℕ) → i < k.pieces → piece_word words i ≡ 1 → ((o : ℕ) → o < k.size i → cell_word k words (k.start i + o) ≢ 0) → Sound k defined (board_of k (after_piece i 2))
    sound_finish i l mine full = subst (Sound k defined) (sym (piece_changed k words i 2 wide l)) (board_done k ok defined (board_of k words) r i l (ap state_claimed (word_state i 1 l mine)) (none_left i l full))

    pub sound_put : (i o : ℕ) → i < k.pieces → o < k.size i → piece_word words i ≡ 1 → Sound k defined (board_of k (after_cell (k.start i + o) (defined (k.start i + o))))
    sound_put i o l p mine = let c : ℕ = k.start i + o in
        subst (Sound k defined) (sym (cell_changed k words c (defined c) wide (inside_at i o l p))) (board_put k ok defined (board_of k words) r i c (defined c) (inside_at i o l p) (has i o l p) (ap state_claimed (word_state i 1 l mine)) refl)

    pub free_cell : (i o : ℕ) → i < k.pieces → o < k.size i → piece_word words i ≡ 0 → cell_word k words (k.start i + o) ≡ 0
    free_cell i o l m free = sym (cell_is k words (k.start i + o) (inside_at i o l m)) ∙ r.empty i (k.start i + o) (has i o l m) (ap state_free (word_state i 0 l free))

    pub done_cell : (i o : ℕ) → i < k.pieces → o < k.size i → piece_word words i ≡ 2 → cell_word k words (k.start i + o) ≢ 0
    done_cell i o l m done e = r.full i (k.start i + o) (has i o l m) (ap state_done (word_state i 2 l done)) (cell_is k words (k.start i + o) (inside_at i o l m) ∙ e)

    pub some_cell : (j : ℕ) → j < k.cells → (cell_word k words j ≡ 0) ⊎ (cell_word k words j ≡ defined j)
    some_cell j m = subst (λ (z : ℕ). (z ≡ 0) ⊎ (z ≡ defined j)) (cell_is k words j m) (r.cells j m)

  module _ (key : TableKey) where
    hand_piece : (i n : ℕ) → i < k.pieces → (filled : ℕ) (h : Option ℕ) → MatchOption h (Unit {0}) (Holding k words filled) → is_hand i h ≡ 0 → MatchOption h (Unit {0}) (Holding k (after_piece i n) filled)
    hand_piece i n l filled None t out = tt
    hand_piece i n l filled (Some j) t out =
        let ne : j ≢ i = not_in_hand i j out in record {
          piece = t.piece;
          is_claimed = piece_else i j n ne ∙ t.is_claimed;
          at_most = t.at_most;
          prefix = λ o m e. t.prefix o m (sym (cell_stays i (k.start j + o) n l) ∙ e);
          back = λ o m q. cell_stays i (k.start j + o) n l ∙ t.back o m q;
        }

    hand_cell : (i o n : ℕ) → i < k.pieces → o < k.size i → (filled : ℕ) (h : Option ℕ) → MatchOption h (Unit {0}) (Holding k words filled) → is_hand i h ≡ 0 → MatchOption h (Unit {0}) (Holding k (after_cell (k.start i + o) n) filled)
    hand_cell i o n l p filled None t out = tt
    hand_cell i o n l p filled (Some j) t out =
        let ne : j ≢ i = not_in_hand i j out in record {
          piece = t.piece;
          is_claimed = piece_stays j (k.start i + o) n t.piece ∙ t.is_claimed;
          at_most = t.at_most;
          prefix = λ h m e. t.prefix h m (sym (cell_else (k.start i + o) (k.start j + h) n (apart i j o h l t.piece ne p (omega (arith, m, t.at_most)))) ∙ e);
          back = λ h m q. cell_else (k.start i + o) (k.start j + h) n (apart i j o h l t.piece ne p q) ∙ t.back h m q;
        }

    -- a change of the word of piece i, which was not done, leaves what the words say of a view that doesn't hold it
    pub sits_piece : (i n : ℕ) → i < k.pieces → piece_word words i ≤ 1 → (v : View) → holds i v ≡ 0 → Sits k key words v → Sits k key (after_piece i n) v
    sits_piece i n l free v out t = record {
      page = t.page;
      hand = hand_piece i n l v.filled v.stored t.hand out;
      known = λ j m. let d = t.known j m in let ne : j ≢ i = (λ e. omega (arith, d.1, free, ap (piece_word words) e)) in (d.0, piece_else i j n ne ∙ d.1);
      unshared = t.unshared;
    }

    pub sits_cell : (i o n : ℕ) → i < k.pieces → o < k.size i → (v : View) → holds i v ≡ 0 → Sits k key words v → Sits k key (after_cell (k.start i + o) n) v
    sits_cell i o n l p v out t = record {
      page = t.page;
      hand = hand_cell i o n l p v.filled v.stored t.hand out;
      known = λ j m. let d = t.known j m in (d.0, piece_stays j (k.start i + o) n d.0 ∙ d.1);
      unshared = t.unshared;
    }

    -- a view that knows what it knew, and holds nothing
    pub known_piece : (i n : ℕ) → i < k.pieces → piece_word words i ≤ 1 → (v : View) → Sits k key words v → (j : ℕ) → Knows v j → (j < k.pieces) × (piece_word (after_piece i n) j ≡ 2)
    known_piece i n l free v t j m = let d = t.known j m in let ne : j ≢ i = (λ e. omega (arith, d.1, free, ap (piece_word words) e)) in (d.0, piece_else i j n ne ∙ d.1)
