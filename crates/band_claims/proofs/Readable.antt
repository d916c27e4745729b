-- The rule as it is read and the rule as it is kept are one; and what its sums say of single views.
use Rattle.std.proofs.Common.{◌≡◌, ℕ, zero, suc, ◌+◌, ◌<◌, ◌≤◌, ◌==◌, List, [], ◌∷◌, refl, sym, ap, ◌∙◌, inl, inr, arith, Option, Some, None, Bool, true, false, ne_eqb}
use Rattle.std.specs.Prelude.{MatchOption}
use Rattle.std.proofs.lemmas.Bool.{cases_eq, false≢true}
use mathlib.Core.Option.{some}
use lib.ListN.{get_elem?}
use Rattle.atomic_table.specs.Table.{State}
use Rattle.band_core.specs.TableShapes.{Shape, IsShape}
use Rattle.band_core.specs.Boards.{state_claimed, state_done, is_claimed, is_done}
use Rattle.band_core.specs.TableWords.{state_of, board_of}
use Rattle.band_core.proofs.TableWords.{state_is, cell_is}
use Rattle.band_claims.specs.declared.table_key.TableKey.{TableKey}
use Rattle.band_claims.specs.declared.view.View.{View}
use Rattle.band_claims.specs.Views.{one_if, total, is_hand, holds, publishes}
use Rattle.band_claims.specs.Rule.{piece_word, Ruled, FirstFilled}
use Rattle.band_claims.specs.Laws.{StoredOnce, PublishedOnce}
use Rattle.band_claims.proofs.Kept.{Holding, Kept}
use Rattle.band_claims.proofs.Totals.{one_of, two_of}
use Rattle.band_claims.proofs.Boards.{same_one, other_zero}

-- a sum that is not 0 has a part that is not
some_part : (f : View → ℕ) (views : List View) → 1 ≤ total f views → (id : ℕ) × (v : View) × (get_elem? views id ≡ some v) × (1 ≤ f v)
some_part f [] l = absurd (omega (arith, l))
some_part f (x ∷ xs) l = elim (cases_eq (f x) 0) [
  | inl none_here ↦ (let t = some_part f xs (omega (arith, l, none_here)) in (suc t.0, t.1, t.2, t.3))
  | inr here ↦ (zero, x, refl, omega (arith, here))
]

in_hand : (i : ℕ) (h : Option ℕ) → 1 ≤ is_hand i h → h ≡ Some i
in_hand i None l = absurd (omega (arith, l))
in_hand i (Some j) l = elim (cases_eq i j) [ inl e ↦ ap Some (sym e) | inr ne ↦ absurd (omega (arith, l, other_zero i j ne)) ]

one_hand : (i : ℕ) (v : View) → v.stored ≡ Some i → holds i v ≡ 1
one_hand i v e = ap (is_hand i) e ∙ same_one i i refl

at_most_one : (b : Bool) → one_if b ≤ 1
at_most_one true = omega arith
at_most_one false = omega arith

claimed_is : (w : ℕ) → state_claimed (state_of w) ≡ (w == 1)
claimed_is zero = refl
claimed_is (suc zero) = refl
claimed_is (suc (suc w)) = sym (ne_eqb (suc (suc w)) 1 (λ e. omega (arith, e)))

done_is : (w : ℕ) → state_done (state_of w) ≡ true → w ≤ 2 → w ≡ 2
done_is zero t l = absurd (false≢true t)
done_is (suc zero) t l = absurd (false≢true t)
done_is (suc (suc w)) t l = omega (arith, l)

done_test : (w : ℕ) → w ≤ 2 → state_done (state_of w) ≡ (w == 2)
done_test zero l = refl
done_test (suc zero) l = refl
done_test (suc (suc zero)) l = refl
done_test (suc (suc (suc w))) l = absurd (omega (arith, l))

hand_from : (k : Shape) (words : List ℕ) (n : ℕ) (h : Option ℕ) → ((i : ℕ) → h ≡ Some i → Holding k words n i) → MatchOption h (Unit {0}) (Holding k words n)
hand_from k words n None each = tt
hand_from k words n (Some i) each = each i refl

module _ (k : Shape) (ok : IsShape k) (defined : ℕ → ℕ) (key : TableKey) (s : State (Unit {0}) View) where
  claimed_at : (i : ℕ) → i < k.pieces → is_claimed (board_of k s.words) i ≡ (piece_word s.words i == 1)
  claimed_at i l = ap state_claimed (state_is k s.words i l) ∙ claimed_is (piece_word s.words i)

  done_at : (i : ℕ) → i < k.pieces → piece_word s.words i ≤ 2 → is_done (board_of k s.words) i ≡ (piece_word s.words i == 2)
  done_at i l m = ap state_done (state_is k s.words i l) ∙ done_test (piece_word s.words i) m

  two_words : Ruled k defined key s → (i : ℕ) → i < k.pieces → is_done (board_of k s.words) i ≡ true → piece_word s.words i ≡ 2
  two_words r i l t = done_is (piece_word s.words i) (sym (ap state_done (state_is k s.words i l)) ∙ t) (r.words.states i l)

  holding : Ruled k defined key s → (id i : ℕ) (v : View) → get_elem? s.views id ≡ some v → v.stored ≡ Some i → Holding k s.words v.filled i
  holding r id i v at is = let f = r.stored_filled id i v at is in record {
    piece = f.piece;
    is_claimed = elim (cases_eq (piece_word s.words i) 1) [
      | inl e ↦ e
      | inr ne ↦ absurd (omega (arith, one_of (holds i) s.views id v at, one_hand i v is, r.one_holder i f.piece, ap one_if (claimed_at i f.piece), other_zero (piece_word s.words i) 1 ne))
    ];
    at_most = f.at_most;
    prefix = λ o m e. f.prefix o m (cell_is k s.words (k.start i + o) (omega (arith, m, f.at_most, ok.inside i f.piece)) ∙ e);
    back = λ o m q. sym (cell_is k s.words (k.start i + o) (omega (arith, q, ok.inside i f.piece))) ∙ f.back o m q;
  }

  pub kept : Ruled k defined key s → Kept k defined key s
  kept r = record {
    wide = r.words.wide;
    states = r.words.states;
    sound = r.sound;
    seats = λ id v at. record {
      page = r.one_page id v at;
      hand = hand_from k s.words v.filled v.stored (λ i is. holding r id i v at is);
      known = λ i m. let t = r.known_done id i v at m in (t.0, two_words r i t.0 t.1);
      unshared = r.unshared id v at;
    };
    one_holder = λ i l. r.one_holder i l ∙ ap one_if (claimed_at i l);
    once = λ i l. r.once i l ∙ ap one_if (done_at i l (r.words.states i l));
    shares = r.shares;
  }

  first_filled : Kept k defined key s → (id i : ℕ) (v : View) → get_elem? s.views id ≡ some v → v.stored ≡ Some i → FirstFilled k (board_of k s.words) i v.filled
  first_filled r id i v at is =
      let t = r.seats id v at in
      let h : Holding k s.words v.filled i = rw is at t.hand in record {
        piece = h.piece;
        at_most = h.at_most;
        prefix = λ o m e. h.prefix o m (sym (cell_is k s.words (k.start i + o) (omega (arith, m, h.at_most, ok.inside i h.piece))) ∙ e);
        back = λ o m q. cell_is k s.words (k.start i + o) (omega (arith, q, ok.inside i h.piece)) ∙ h.back o m q;
      }

  pub ruled : Kept k defined key s → Ruled k defined key s
  ruled r = record {
    words = record { wide = r.wide; states = r.states };
    one_page = λ id v at. (r.seats id v at).page;
    sound = r.sound;
    one_holder = λ i l. r.one_holder i l ∙ ap one_if (sym (claimed_at i l));
    stored_filled = λ id i v at is. first_filled r id i v at is;
    known_done = λ id i v at m. let t = (r.seats id v at).known i m in (t.0, ap state_done (state_is k s.words i t.0 ∙ ap state_of t.1));
    once = λ i l. r.once i l ∙ ap one_if (sym (done_at i l (r.states i l)));
    shares = r.shares;
    unshared = λ id v at. (r.seats id v at).unshared;
  }

pub most_once : (k : Shape) (defined : ℕ → ℕ) (key : TableKey) (s : State (Unit {0}) View) → Ruled k defined key s → (i : ℕ) → total (publishes i) s.views ≤ 1
most_once k defined key s r i = elim (cases_eq (total (publishes i) s.views) 0) [
  | inl z ↦ omega (arith, z)
  | inr there ↦ (let t = some_part (publishes i) s.views (omega (arith, there)) in let d = r.known_done t.0 i t.1 t.2 (omega (arith, t.3)) in omega (arith, r.once i d.0, at_most_one (is_done (board_of k s.words) i)))
]

pub stored_once : StoredOnce
stored_once k defined key s r i l = (
  (λ is. let t = some_part (holds i) s.views (omega (arith, r.one_holder i l, ap one_if is)) in (t.0, t.1, t.2, in_hand i t.1.stored t.3)),
  (λ id v at e. either_way (is_claimed (board_of k s.words) i) (omega (arith, one_of (holds i) s.views id v at, one_hand i v e, r.one_holder i l))),
  (λ id other v w at at' e d. elim (cases_eq other id) [
    | inl same ↦ same
    | inr ne ↦ absurd (omega (arith, two_of (holds i) s.views id other v w ne at at', one_hand i v e, one_hand i w d, r.one_holder i l, at_most_one (is_claimed (board_of k s.words) i)))
  ]),
) where
  either_way : (b : Bool) → 1 ≤ one_if b → b ≡ true
  either_way true l = refl
  either_way false l = absurd (omega (arith, l))

pub published_once : PublishedOnce
published_once k defined key s r i = (
  (λ id v at. omega (arith, one_of (publishes i) s.views id v at, most i)),
  (λ id other v w at at' a b. elim (cases_eq other id) [
    | inl same ↦ same
    | inr ne ↦ absurd (omega (arith, two_of (publishes i) s.views id other v w ne at at', a, b, most i))
  ]),
) where
  most : (i : ℕ) → total (publishes i) s.views ≤ 1
  most = most_once k defined key s r
