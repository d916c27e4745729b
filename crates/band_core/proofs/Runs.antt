-- Over a run each board is sound, cells stay, and no piece is claimed or done twice; and no board is stuck.
use Rattle.std.proofs.Common.{◌≡◌, ◌≢◌, ◌⊎◌, ℕ, zero, suc, ◌<◌, ◌≤◌, ◌==◌, Bool, true, false, List, [], ◌∷◌, ◌++◌, replicate, refl, sym, ap, ◌∙◌, inl, inr, arith, ne_eqb, eq-eqb}
use Rattle.std.specs.Prelude.{not, Some, None, if◌then◌else◌, slice_index_or}
use Rattle.std.specs.Option.{is_some}
use Rattle.std.proofs.lemmas.List.{length-replicate}
use Rattle.std.proofs.lemmas.Bool.{cases_eq, cases_Bool, false≢true, true≢false, and_parts, not-true, eqb-true}
use Rattle.band_core.specs.declared.state.State.TheVariants.{Free, Claimed, Done as IsDone}
use Rattle.band_core.specs.declared.event.Event.{Event}
use Rattle.band_core.specs.declared.event.Event.TheVariants.{Claim, Put, Done}
use Rattle.band_core.specs.TableShapes.{Shape, IsShape}
use Rattle.band_core.specs.Boards.{Board, state_at, cell_at, state_free, state_done, is_free, is_claimed, is_done, lacks, has_empty, in_hand, set_state, IsBoard, allowed, changed, after, opening, InRange}
use Rattle.band_core.specs.Runs.{Sound, ByRecipe, ByDefinition, Step, IsRun, played, done_by, times_done, claimed_by, times_claimed, RunLaw, Halo}
use Rattle.band_core.proofs.Boards.{clash, free_not_done, claimed_not_done, claimed_not_free, free_if_neither, here, elsewhere, unfilled, whole_state, whole_cell, hand}
use Rattle.band_core.proofs.Keeps.{sound_claim, sound_done, sound_put}

if_some : (b : Bool) (x : Board) → (if b then Some x else None) ≡ Some x → b ≡ true
if_some true x e = refl
if_some false x e = absurd (false≢true (ap is_some e))

pub is_allowed : (k : Shape) (board : Board) (event : Event) → after k board event ≡ Some (changed board event) → allowed k board event ≡ true
is_allowed k board event e = if_some (allowed k board event) (changed board event) e

-- each event that is allowed, its value that of its cell, keeps a board sound
pub sound_after : (k : Shape) → IsShape k → (defined : ℕ → ℕ) (board : Board) → Sound k defined board → (event : Event) → InRange k event → ByDefinition defined event → allowed k board event ≡ true → Sound k defined (changed board event)
sound_after k ok defined board r (Claim i) l fits t = let two = and_parts (is_free board i) (not (lacks k board i)) t in sound_claim k ok defined board r i l two.0 (not-true _ two.1)
sound_after k ok defined board r (Put j v) l fits t = let two = and_parts (cell_at board j == 0) (in_hand k board j) t in let h = hand k board r.whole j two.1 in sound_put k ok defined board r h.0 j v l h.1 h.2 fits
sound_after k ok defined board r (Done i) l fits t = let two = and_parts (is_claimed board i) (not (has_empty k board i)) t in sound_done k ok defined board r i l two.0 (not-true _ two.1)

-- by the halo a recipe's value is the cell's
pub recipe_fits : (k : Shape) (defined : ℕ → ℕ) (recipe : Board → ℕ → ℕ) (board : Board) → Halo k defined recipe → Sound k defined board → (event : Event) → ByRecipe recipe board event → allowed k board event ≡ true → ByDefinition defined event
recipe_fits k defined recipe board halo r (Claim i) by t = tt
recipe_fits k defined recipe board halo r (Put j v) by t =
    let two = and_parts (cell_at board j == 0) (in_hand k board j) t in let h = hand k board r.whole j two.1 in
    by ∙ halo board r h.0 j h.1 (λ n need. r.ready h.0 n h.1.piece (claimed_not_free (state_at board h.0) h.2) need)
recipe_fits k defined recipe board halo r (Done i) by t = tt

-- and a value that is the cell's is the recipe's
pub defined_fits : (k : Shape) (defined : ℕ → ℕ) (recipe : Board → ℕ → ℕ) (board : Board) → Halo k defined recipe → Sound k defined board → (event : Event) → ByDefinition defined event → allowed k board event ≡ true → ByRecipe recipe board event
defined_fits k defined recipe board halo r (Claim i) by t = tt
defined_fits k defined recipe board halo r (Put j v) by t =
    let two = and_parts (cell_at board j == 0) (in_hand k board j) t in let h = hand k board r.whole j two.1 in
    by ∙ sym (halo board r h.0 j h.1 (λ n need. r.ready h.0 n h.1.piece (claimed_not_free (state_at board h.0) h.2) need))
defined_fits k defined recipe board halo r (Done i) by t = tt

pub sound_step : (k : Shape) → IsShape k → (defined : ℕ → ℕ) (recipe : Board → ℕ → ℕ) → Halo k defined recipe → (board : Board) (event : Event) → Sound k defined board → Step k recipe board event → Sound k defined (changed board event)
sound_step k ok defined recipe halo board event r s = let t = is_allowed k board event s.has_after in sound_after k ok defined board r event s.in_range (recipe_fits k defined recipe board halo r event s.by_recipe t) t

-- the opening board
pub default_at : {A : Type 0} (a : A) (n i : ℕ) → slice_index_or (replicate n a) i a ≡ a
default_at a zero i = refl
default_at a (suc n) zero = refl
default_at a (suc n) (suc i) = default_at a n i

free_at : (n i : ℕ) → slice_index_or (replicate n Free) i Free ≡ Free
free_at n i = default_at Free n i

empty_at : (n j : ℕ) → slice_index_or {A = ℕ} (replicate n 0) j 0 ≡ 0
empty_at n j = let z : ℕ = 0 in default_at z n j

pub sound_opening : (k : Shape) (defined : ℕ → ℕ) → Sound k defined (opening k)
sound_opening k defined = record {
  whole = record { states = length-replicate k.pieces Free; cells = length-replicate k.cells 0 };
  cells = λ j l. inl (empty_at k.cells j);
  full = λ i j h d. absurd (false≢true (sym (ap state_done (free_at k.pieces i)) ∙ d));
  empty = λ i j h f. empty_at k.cells j;
  ready = λ i n l f need. absurd (true≢false (sym (ap state_free (free_at k.pieces i)) ∙ f));
}

-- a run in two parts
pub played_both : (board : Board) (early late : List Event) → played board (early ++ late) ≡ played (played board early) late
played_both board [] late = refl
played_both board (event ∷ early) late = played_both (changed board event) early late

pub first_part : (k : Shape) (recipe : Board → ℕ → ℕ) (board : Board) (early late : List Event) → IsRun k recipe board (early ++ late) → IsRun k recipe board early
first_part k recipe board [] late r = tt
first_part k recipe board (event ∷ early) late r = (r.0, first_part k recipe (changed board event) early late r.1)

pub second_part : (k : Shape) (recipe : Board → ℕ → ℕ) (board : Board) (early late : List Event) → IsRun k recipe board (early ++ late) → IsRun k recipe (played board early) late
second_part k recipe board [] late r = r
second_part k recipe board (event ∷ early) late r = second_part k recipe (changed board event) early late r.1

module _ (k : Shape) (ok : IsShape k) (defined : ℕ → ℕ) (recipe : Board → ℕ → ℕ) (halo : Halo k defined recipe) where
  pub sound_run : (board : Board) (events : List Event) → Sound k defined board → IsRun k recipe board events → Sound k defined (played board events)
  sound_run board [] s r = s
  sound_run board (event ∷ events) s r = sound_run (changed board event) events (sound_step k ok defined recipe halo board event s r.0) r.1

-- a cell that is filled stays
cell_stays : (k : Shape) (board : Board) (event : Event) → IsBoard k board → allowed k board event ≡ true → (j : ℕ) → cell_at board j ≢ 0 → cell_at (changed board event) j ≡ cell_at board j
cell_stays k board (Claim i) w t j some = refl
cell_stays k board (Put h v) w t j some = let two = and_parts (cell_at board h == 0) (in_hand k board h) t in unfilled k board w h j v (λ e. some (ap (cell_at board) e ∙ eqb-true _ _ two.0))
cell_stays k board (Done i) w t j some = refl

whole_after : (k : Shape) (board : Board) (event : Event) → IsBoard k board → IsBoard k (changed board event)
whole_after k board (Claim i) w = whole_state k board w i Claimed
whole_after k board (Put j v) w = whole_cell k board w j v
whole_after k board (Done i) w = whole_state k board w i IsDone

pub cells_stay : (k : Shape) (recipe : Board → ℕ → ℕ) (board : Board) (events : List Event) → IsBoard k board → IsRun k recipe board events → (j : ℕ) → cell_at board j ≢ 0 → cell_at (played board events) j ≡ cell_at board j
cells_stay k recipe board [] w r j some = refl
cells_stay k recipe board (event ∷ events) w r j some =
    let same = cell_stays k board event w (is_allowed k board event r.0.has_after) j some in
    cells_stay k recipe (changed board event) events (whole_after k board event w) r.1 j (λ z. some (sym same ∙ z)) ∙ same

-- a piece that is done stays so
done_stays : (k : Shape) (board : Board) (event : Event) → IsBoard k board → allowed k board event ≡ true → (i : ℕ) → is_done board i ≡ true → (is_done (changed board event) i ≡ true) × (done_by i event ≡ 0)
done_stays k board (Claim n) w t i d =
    let two = and_parts (is_free board n) (not (lacks k board n)) t in
    let other : i ≢ n = (λ e. clash _ (sym (ap (is_done board) e) ∙ d) (free_not_done (state_at board n) two.0)) in
    (ap state_done (elsewhere k board w n i Claimed other) ∙ d, refl)
done_stays k board (Put j v) w t i d = (d, refl)
done_stays k board (Done n) w t i d =
    let two = and_parts (is_claimed board n) (not (has_empty k board n)) t in
    let other : i ≢ n = (λ e. clash _ (sym (ap (is_done board) e) ∙ d) (claimed_not_done (state_at board n) two.0)) in
    (ap state_done (elsewhere k board w n i IsDone other) ∙ d, rw (ne_eqb i n other) refl)

never_again : (k : Shape) (recipe : Board → ℕ → ℕ) (board : Board) (events : List Event) → IsBoard k board → IsRun k recipe board events → (i : ℕ) → is_done board i ≡ true → times_done i events ≡ 0
never_again k recipe board [] w r i d = refl
never_again k recipe board (event ∷ events) w r i d =
    let t = done_stays k board event w (is_allowed k board event r.0.has_after) i d in
    let rest = never_again k recipe (changed board event) events (whole_after k board event w) r.1 i t.0 in let now = t.1 in omega (arith, rest, now)

-- one event makes a piece done once at most, and it is so then
done_then : (k : Shape) (board : Board) (event : Event) → IsBoard k board → InRange k event → (i : ℕ) → (done_by i event ≡ 0) ⊎ ((done_by i event ≡ 1) × (is_done (changed board event) i ≡ true))
done_then k board (Claim n) w l i = inl refl
done_then k board (Put j v) w l i = inl refl
done_then k board (Done n) w l i = elim (cases_eq i n) [
  | inl e ↦ inr (rw (eq-eqb i n e) refl, ap (is_done (set_state board n IsDone)) e ∙ ap state_done (here k board w n IsDone l))
  | inr ne ↦ inl (rw (ne_eqb i n ne) refl)
]

pub done_once : (k : Shape) (recipe : Board → ℕ → ℕ) (board : Board) (events : List Event) → IsBoard k board → IsRun k recipe board events → (i : ℕ) → times_done i events ≤ 1
done_once k recipe board [] w r i = omega arith
done_once k recipe board (event ∷ events) w r i = elim (done_then k board event w r.0.in_range i) [
  | inl none ↦ (let rest = done_once k recipe (changed board event) events (whole_after k board event w) r.1 i in omega (arith, rest, none))
  | inr one ↦ (let rest = never_again k recipe (changed board event) events (whole_after k board event w) r.1 i one.1 in let now = one.0 in omega (arith, rest, now))
]

-- a piece that is not free stays so, and is not claimed
taken_stays : (k : Shape) (board : Board) (event : Event) → IsBoard k board → InRange k event → allowed k board event ≡ true → (i : ℕ) → is_free board i ≡ false → (is_free (changed board event) i ≡ false) × (claimed_by i event ≡ 0)
taken_stays k board (Claim n) w l t i f =
    let two = and_parts (is_free board n) (not (lacks k board n)) t in
    let other : i ≢ n = (λ e. clash _ two.0 (sym (ap (is_free board) e) ∙ f)) in
    (ap state_free (elsewhere k board w n i Claimed other) ∙ f, rw (ne_eqb i n other) refl)
taken_stays k board (Put j v) w l t i f = (f, refl)
taken_stays k board (Done n) w l t i f = (
  elim (cases_eq i n) [
    | inl e ↦ ap (is_free (set_state board n IsDone)) e ∙ ap state_free (here k board w n IsDone l)
    | inr ne ↦ ap state_free (elsewhere k board w n i IsDone ne) ∙ f
  ],
  refl,
)

never_claimed : (k : Shape) (recipe : Board → ℕ → ℕ) (board : Board) (events : List Event) → IsBoard k board → IsRun k recipe board events → (i : ℕ) → is_free board i ≡ false → times_claimed i events ≡ 0
never_claimed k recipe board [] w r i f = refl
never_claimed k recipe board (event ∷ events) w r i f =
    let t = taken_stays k board event w r.0.in_range (is_allowed k board event r.0.has_after) i f in
    let rest = never_claimed k recipe (changed board event) events (whole_after k board event w) r.1 i t.0 in let now = t.1 in omega (arith, rest, now)

-- one event claims a piece once at most, and it is not free then
claimed_then : (k : Shape) (board : Board) (event : Event) → IsBoard k board → InRange k event → (i : ℕ) → (claimed_by i event ≡ 0) ⊎ ((claimed_by i event ≡ 1) × (is_free (changed board event) i ≡ false))
claimed_then k board (Claim n) w l i = elim (cases_eq i n) [
  | inl e ↦ inr (rw (eq-eqb i n e) refl, ap (is_free (set_state board n Claimed)) e ∙ ap state_free (here k board w n Claimed l))
  | inr ne ↦ inl (rw (ne_eqb i n ne) refl)
]
claimed_then k board (Put j v) w l i = inl refl
claimed_then k board (Done n) w l i = inl refl

pub claimed_once : (k : Shape) (recipe : Board → ℕ → ℕ) (board : Board) (events : List Event) → IsBoard k board → IsRun k recipe board events → (i : ℕ) → times_claimed i events ≤ 1
claimed_once k recipe board [] w r i = omega arith
claimed_once k recipe board (event ∷ events) w r i = elim (claimed_then k board event w r.0.in_range i) [
  | inl none ↦ (let rest = claimed_once k recipe (changed board event) events (whole_after k board event w) r.1 i in omega (arith, rest, none))
  | inr one ↦ (let rest = never_claimed k recipe (changed board event) events (whole_after k board event w) r.1 i one.1 in let now = one.0 in omega (arith, rest, now))
]

pub run_law : (k : Shape) → IsShape k → (defined : ℕ → ℕ) (recipe : Board → ℕ → ℕ) → Halo k defined recipe → RunLaw k defined recipe
run_law k ok defined recipe halo = record {
  sound = λ early late r. sound_run k ok defined recipe halo (opening k) early (sound_opening k defined) (first_part k recipe (opening k) early late r);
  stays = λ early late r j some.
      let s = sound_run k ok defined recipe halo (opening k) early (sound_opening k defined) (first_part k recipe (opening k) early late r) in
      ap (λ (b : Board). cell_at b j) (played_both (opening k) early late) ∙ cells_stay k recipe (played (opening k) early) late s.whole (second_part k recipe (opening k) early late r) j some;
  claimed = λ events r i. claimed_once k recipe (opening k) events (sound_opening k defined).whole r i;
  once = λ events r i. done_once k recipe (opening k) events (sound_opening k defined).whole r i;
}

-- all pieces below n are done, or there is a first one that is not
abbrev FirstShort : Board → ℕ → Type 0
FirstShort board n = ((i : ℕ) → i < n → is_done board i ≡ true) ⊎ ((f : ℕ) × (f < n) × (is_done board f ≡ false) × ((m : ℕ) → m < f → is_done board m ≡ true))

first_short : (board : Board) (n : ℕ) → FirstShort board n
first_short board zero = inl (λ i l. absurd (omega (arith, l)))
first_short board (suc n) = elim (first_short board n) [
  | inl all ↦ elim (cases_Bool (is_done board n)) [
    | inl d ↦ inl (λ i l. elim (cases_eq i n) [ inl e ↦ ap (is_done board) e ∙ d | inr ne ↦ all i (omega (arith, l, ne)) ])
    | inr short ↦ inr (n, omega arith, short, all)
  ]
  | inr f ↦ inr (f.0, (let l = f.1 in omega (arith, l)), f.2, f.3)
]

-- no board is stuck
pub no_stuck : (k : Shape) → IsShape k → (board : Board) → ((i : ℕ) → i < k.pieces → is_claimed board i ≡ false) → (i : ℕ) → i < k.pieces → is_done board i ≡ false
    → (f : ℕ) × (f < k.pieces) × (is_free board f ≡ true) × ((n : ℕ) → k.needs f n ≡ true → is_done board n ≡ true)
no_stuck k ok board idle i l short = elim (first_short board k.pieces) [
  | inl all ↦ absurd (clash _ (all i l) short)
  | inr f ↦ (f.0, f.1, free_if_neither (state_at board f.0) (idle f.0 f.1) f.2, λ n need. f.3 n (ok.earlier f.0 n f.1 need))
]
