-- The steps of a table are a run of the core.
use Rattle.std.proofs.Common.{◌≡◌, ℕ, ◌+◌, ◌<◌, ◌≤◌, ◌==◌, Bool, true, ◌&&◌, nat_le, nat_lt, List, [], ◌∷◌, length, set, sym, ap, ◌∙◌, arith, subst, Option, Some, None}
use Rattle.std.specs.Prelude.{not, if◌then◌else◌}
use Rattle.std.proofs.lemmas.Bool.{and_from, eq-eqb, le-leb, lt-ltb}
use Rattle.atomic_table.specs.Table.{State}
use Rattle.lists.proofs.AnyBelow.{any_below-from}
use Rattle.band_core.specs.declared.event.Event.{Event}
use Rattle.band_core.specs.TableShapes.{Shape, IsShape}
use Rattle.band_core.specs.Boards.{Board, cell_at, state_free, state_claimed, is_free, is_claimed, lacks, has_empty, in_hand, hand_in, allowed, changed, InRange}
use Rattle.band_core.specs.Runs.{Sound, ByDefinition, Halo, Step, IsRun, played}
use Rattle.band_core.specs.TableWords.{board_of, rewritten}
use Rattle.band_core.proofs.Runs.{defined_fits}
use Rattle.band_core.proofs.TableWords.{one_word, cell_is}
use Rattle.band_claims.specs.declared.table_key.TableKey.{TableKey}
use Rattle.band_claims.specs.declared.view.View.{View}
use Rattle.band_claims.specs.Kinds.{Kind, looks, wins, loses, reads, puts, finishes, splits, joins, Happens, Leads, event_of, events_of, and_then}
use Rattle.band_claims.specs.Rule.{piece_word}
use Rattle.band_claims.specs.Views.{put}
use Rattle.band_claims.proofs.Boards.{word_state, none_lack, none_left, inside_at}
use Rattle.band_claims.proofs.Keeps.{after_look, after_loss, after_read, wins as keeps_wins, stores, ends, stored_by, splits as keeps_splits, joins as keeps_joins}
use Rattle.band_claims.proofs.Kept.{Kept}
use Rattle.atomic_table.proofs.Lists.{set_else}

-- an event that may happen on the board of the words, and is their change
pub record IsEvent (k : Shape) (defined : ℕ → ℕ) (words next : List ℕ) (event : Event) : Type 0 where
  pub in_range : InRange k event
  pub fits : ByDefinition defined event
  pub may : allowed k (board_of k words) event ≡ true
  pub change : next ≡ rewritten k words event

-- what a step does to the words: nothing, or an event
abbrev pub Does : Shape → (ℕ → ℕ) → List ℕ → List ℕ → Option Event → Type 0
Does k defined words next None = next ≡ words
Does k defined words next (Some event) = IsEvent k defined words next event

module _ (k : Shape) (ok : IsShape k) (defined : ℕ → ℕ) (some_value : (j : ℕ) → j < k.cells → 1 ≤ defined j) (key : TableKey) where
  abbrev St : Type 0
  St = State (Unit {0}) View

  -- each kind of step keeps the rule
  pub keeps_rule : (s t : St) (kind : Kind) → Kept k defined key s → Happens k defined s kind t → Kept k defined key t
  keeps_rule s t (looks id i) r h = subst (Kept k defined key) (sym h.3) (after_look k ok defined some_value key s r id i h.0 h.1 h.2)
  keeps_rule s t (wins id i) r h = subst (Kept k defined key) (sym h.3) (keeps_wins k ok defined some_value key s r id i h.0 h.1.sees h.1.piece h.1.idle h.1.shares h.2 h.1.known)
  keeps_rule s t (loses id i) r h = subst (Kept k defined key) (sym h.3) (after_loss k ok defined some_value key s r id i (piece_word s.words i) h.0 h.1.sees h.2)
  keeps_rule s t (reads id j) r h = subst (Kept k defined key) (sym h.2) (after_read k ok defined some_value key s r id h.0 h.1.sees)
  keeps_rule s t (puts id j value) r h =
      let v = h.0 in let m = h.1 in let here : k.start m.piece + v.filled ≡ j = sym m.next in
      let right : defined (k.start m.piece + v.filled) ≡ value = ap defined here ∙ sym m.right in
      let P : ℕ → ℕ → Type 0 = λ c x. Kept k defined key record { words = set s.words (k.pieces + c) x; homes = s.homes; views = set s.views id (put v) } in
      subst (Kept k defined key) (sym h.2) (subst (λ (c : ℕ). P c value) here (subst (λ (x : ℕ). P (k.start m.piece + v.filled) x) right (stores k ok defined some_value key s r id m.piece v m.sees m.holding m.workspace)))
  keeps_rule s t (finishes id i) r h = subst (Kept k defined key) (sym h.2) (ends k ok defined some_value key s r id i h.0 h.1.sees h.1.holding h.1.full)
  keeps_rule s t (splits id works) r h = subst (Kept k defined key) (sym h.3) (keeps_splits k ok defined some_value key id works h.0 s r h.1)
  keeps_rule s t (joins id other) r h =
      let m = h.2 in
      subst (Kept k defined key) (sym h.3) (keeps_joins k ok defined some_value key id other h.0 h.1 m.other_idle s r m.sees m.two (set_else s.views id other _ m.two ∙ m.other_sees))

  -- and is an event of the board, or leaves it
  free_on : (s : St) (i : ℕ) → Kept k defined key s → i < k.pieces → piece_word s.words i ≡ 0 → is_free (board_of k s.words) i ≡ true
  free_on s i r l e = ap state_free (word_state k ok s.words r.wide i 0 l e)

  claimed_on : (s : St) (i : ℕ) → Kept k defined key s → i < k.pieces → piece_word s.words i ≡ 1 → is_claimed (board_of k s.words) i ≡ true
  claimed_on s i r l e = ap state_claimed (word_state k ok s.words r.wide i 1 l e)

  in_hand_on : (s : St) (i o : ℕ) → Kept k defined key s → i < k.pieces → o < k.size i → piece_word s.words i ≡ 1 → in_hand k (board_of k s.words) (k.start i + o) ≡ true
  unfolding hand_in
  in_hand_on s i o r l m e =
      any_below-from (λ p. is_claimed (board_of k s.words) p && (nat_le (k.start p) (k.start i + o) && nat_lt (k.start i + o) (k.start p + k.size p))) k.pieces i l
      (and_from (is_claimed (board_of k s.words) i) (nat_le (k.start i) (k.start i + o) && nat_lt (k.start i + o) (k.start i + k.size i)) (claimed_on s i r l e)
      (and_from (nat_le (k.start i) (k.start i + o)) (nat_lt (k.start i + o) (k.start i + k.size i)) (le-leb _ _ (omega arith)) (lt-ltb _ _ (omega (arith, m)))))

  pub does : (s t : St) (kind : Kind) → Kept k defined key s → Happens k defined s kind t → Does k defined s.words t.words (event_of kind)
  does s t (looks id i) r h = ap (λ (z : St). z.words) h.3
  does s t (wins id i) r h = let m = h.1 in let v = r.seats id h.0 m.sees in record {
    in_range = m.piece;
    fits = tt;
    may = and_from (is_free (board_of k s.words) i) (not (lacks k (board_of k s.words) i)) (free_on s i r m.piece h.2) (ap not (none_lack k ok s.words r.wide i (λ n _ need. (v.known n (m.known n need)).1)));
    change = ap (λ (z : St). z.words) h.3;
  }
  does s t (loses id i) r h = ap (λ (z : St). z.words) h.3
  does s t (reads id j) r h = ap (λ (z : St). z.words) h.2
  does s t (puts id j value) r h =
      let v = h.0 in let m = h.1 in let stored = stored_by k ok defined some_value key s r id m.piece v m.sees m.holding in
      let inside = inside_at k ok s.words r.wide m.piece v.filled stored.piece m.workspace in
      let here : k.start m.piece + v.filled ≡ j = sym m.next in
      let empty : cell_at (board_of k s.words) (k.start m.piece + v.filled) ≡ 0 = cell_is k s.words (k.start m.piece + v.filled) inside ∙ stored.back v.filled (omega arith) m.workspace in record {
        in_range = subst (λ (c : ℕ). c < k.cells) here inside;
        fits = m.right;
        may = subst (λ (c : ℕ). ((cell_at (board_of k s.words) c == 0) && in_hand k (board_of k s.words) c) ≡ true) here
            (and_from (cell_at (board_of k s.words) (k.start m.piece + v.filled) == 0) (in_hand k (board_of k s.words) (k.start m.piece + v.filled)) (eq-eqb _ 0 empty) (in_hand_on s m.piece v.filled r stored.piece m.workspace stored.is_claimed));
        change = ap (λ (z : St). z.words) h.2;
      }
  does s t (finishes id i) r h =
      let v = h.0 in let m = h.1 in let stored = stored_by k ok defined some_value key s r id i v m.sees m.holding in record {
        in_range = stored.piece;
        fits = tt;
        may = and_from (is_claimed (board_of k s.words) i) (not (has_empty k (board_of k s.words) i)) (claimed_on s i r stored.piece stored.is_claimed) (ap not (none_left k ok s.words r.wide i stored.piece (λ o l. stored.prefix o (let full = m.full in omega (arith, l, full)))));
        change = ap (λ (z : St). z.words) h.2;
      }
  does s t (splits id works) r h = ap (λ (z : St). z.words) h.3
  does s t (joins id other) r h = ap (λ (z : St). z.words) h.3

  module _ (recipe : Board → ℕ → ℕ) (halo : Halo k defined recipe) where
    -- the events of the steps are a run from the board of the words, and lead to the board of the words that come out
    abbrev Runs : List ℕ → List ℕ → List Event → Type 0
    Runs words last events = IsRun k recipe (board_of k words) events × (board_of k last ≡ played (board_of k words) events)

    one_more : (words next last : List ℕ) (o : Option Event) (events : List Event) → length words ≡ k.pieces + k.cells → Sound k defined (board_of k words) → Does k defined words next o → Runs next last events → Runs words last (and_then o events)
    one_more words next last None events wide sound same runs = subst (λ (ws : List ℕ). Runs ws last events) same runs
    one_more words next last (Some event) events wide sound is runs =
        let board = ap (board_of k) is.change ∙ one_word k words event wide is.in_range in
        let step : Step k recipe (board_of k words) event = record {
          in_range = is.in_range;
          by_recipe = defined_fits k defined recipe (board_of k words) halo sound event is.fits is.may;
          has_after = ap (λ (b : Bool). if b then Some (changed (board_of k words) event) else None) is.may;
        } in
        ((step, subst (λ (b : Board). IsRun k recipe b events) board runs.0), subst (λ (b : Board). board_of k last ≡ played b events) board runs.1)

    pub steps_run : (s t : St) (kinds : List Kind) → Kept k defined key s → Leads k defined s kinds t → Kept k defined key t × Runs s.words t.words (events_of kinds)
    steps_run s t [] r same = (subst (Kept k defined key) (sym same) r, (tt, ap (λ (z : St). board_of k z.words) same))
    steps_run s t (kind ∷ kinds) r leads =
        let m = leads.0 in let kept = keeps_rule s m kind r leads.1 in
        let rest = steps_run m t kinds kept leads.2 in
        (rest.0, one_more s.words m.words t.words (event_of kind) (events_of kinds) r.wide r.sound (does s m kind r leads.1) rest.1)
