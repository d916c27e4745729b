-- The lower envelope of a row's arms, pushed arm by arm from the left (the envelope of parabolas).
use Rattle.std.proofs.Common.{◌≡◌, ℕ, zero, suc, ◌+◌, ◌*◌, ◌-◌, ◌<◌, ◌≤◌, ◌↔◌, inl, inr, refl, sym, ◌∙◌, ap, arith, List, length, slice_index, slice_set, slice_index_or, Some, None, add-one}
use Rattle.std.proofs.lemmas.Bool.{cases_lt, cases_eq}
use Rattle.std.proofs.lemmas.List.{get_or-set_same, get_or-set_other, get_or_read}
use Rattle.lists.specs.Words.{gap, square}
use Rattle.page_model.specs.Arms.{ArmModel, LeftHolds}
use Rattle.row_envelope.specs.Envelope.{arm_at, d2_of_arm, arm_d2, every, nearest, no_arm, Rising}
use Rattle.lists.proofs.FirstLeast.{only, beaten, kept, first_least-from, first_least-none}
use Rattle.row_envelope.specs.Hull.{IsError, Wins, InEntry, IsHull, IsSettled}

below_gap : (u x d : ℕ) → x ≡ u + d → square (gap u x) + 2 * x * u ≡ u * u + x * x
below_gap u x d e = let g : gap u x ≡ d = omega arith in rw (g, e) (omega arith)

above_gap : (u x d : ℕ) → u ≡ x + d → square (gap u x) + 2 * x * u ≡ u * u + x * x
above_gap u x d e = let g : gap u x ≡ d = omega arith in rw (g, e) (omega arith)

-- (u - x)^2 + 2ux is u^2 + x^2
square_of_gap : (u x : ℕ) → square (gap u x) + 2 * x * u ≡ u * u + x * x
square_of_gap u x = elim (cases_lt u x) [ inl below ↦ below_gap u x (x - u) (omega arith) | inr above ↦ above_gap u x (u - x) (omega arith) ]

multiplied : (u v g h x m n : ℕ) → m + 2 * x * u ≡ u * u + x * x → n + 2 * x * v ≡ v * v + x * x → (2 * x * v + (u * u + g) ≤ 2 * x * u + (v * v + h)) ↔ (m + g ≤ n + h)
multiplied u v g h x m n em en = (λ l. omega (arith, em, en, l), λ l. omega (arith, em, en, l))

-- the left arm holds where it is at most as far
LeftHolds-far : (a b : ArmModel) (x : ℕ) → LeftHolds a b x ↔ (d2_of_arm a x ≤ d2_of_arm b x)
LeftHolds-far a b x = multiplied a.column b.column a.square b.square x _ _ (square_of_gap a.column x) (square_of_gap b.column x)

far_at : (arms : List ArmModel) (x k : ℕ) (b : ArmModel) → arm_at arms k ≡ b → arm_d2 arms x k ≡ d2_of_arm b x
unfolding arm_d2
far_at arms x k b e = ap (λ (c : ArmModel). d2_of_arm c x) e

-- below the stop the top is at most as far as the new arm
near_below : (arms : List ArmModel) (last from p i x : ℕ) (a b : ArmModel) → arm_at arms p ≡ a → arm_at arms i ≡ b → IsError a b last from → x ≤ last → x < from → arm_d2 arms x p ≤ arm_d2 arms x i
near_below arms last from p i x a b ea eb error fits below = rw (far_at arms x p a ea, far_at arms x i b eb) ((LeftHolds-far a b x).0 ((error.splits x fits).1 below))

-- from the stop on it is farther
far_from : (arms : List ArmModel) (last from p i x : ℕ) (a b : ArmModel) → arm_at arms p ≡ a → arm_at arms i ≡ b → IsError a b last from → x ≤ last → from ≤ x → arm_d2 arms x i < arm_d2 arms x p
far_from arms last from p i x a b ea eb error fits above = elim (cases_lt (arm_d2 arms x i) (arm_d2 arms x p)) [
  | inl l ↦ l
  | inr le ↦ (let holds = (LeftHolds-far a b x).1 (rw (far_at arms x p a ea, far_at arms x i b eb) at le) in
      let below = (error.splits x fits).0 holds in
      absurd (omega (arith, below, above)))
]

-- the top that is dropped: from its start on the new arm wins
pub dropped : (arms : List ArmModel) (i last : ℕ) (places starts : List ℕ) (stored left from : ℕ) (a b : ArmModel) → IsHull arms i last places starts stored → 0 < left → left ≤ stored → arm_at arms (slice_index places (left - 1)) ≡ a → arm_at arms i ≡ b → IsError a b last from → from ≤ slice_index starts (left - 1) → ((x2 : ℕ) → left < stored → slice_index starts left ≤ x2 → x2 ≤ last → Wins arms (suc i) x2 i) → (x2 : ℕ) → slice_index starts (left - 1) ≤ x2 → x2 ≤ last → Wins arms (suc i) x2 i
dropped arms i last places starts stored left from a b hull some fewer ea eb error low beyond x2 begun fits = elim (cases_lt left stored) [
  | inl more ↦ elim (cases_lt x2 (slice_index starts left)) [
    | inl before ↦ by_top (record { at_start = begun; before_next = λ _. (let e : left - 1 + 1 ≡ left = omega arith in rw e before); fits = fits })
    | inr after ↦ beyond x2 more after fits
  ]
  | inr whole ↦ by_top (record { at_start = begun; before_next = λ l. absurd (omega (arith, l)); fits = fits })
] where
  by_top : InEntry starts stored last (left - 1) x2 → Wins arms (suc i) x2 i
  by_top entry = beaten (arm_d2 arms x2) every i (slice_index places (left - 1)) (hull.wins (left - 1) x2 (omega arith) entry) refl (far_from arms last from _ i x2 a b ea eb error fits (omega arith))

-- where the hull is empty, there is no arm before
pub emptied : (arms : List ArmModel) (i last : ℕ) (places starts : List ℕ) (stored left : ℕ) → IsHull arms i last places starts stored → left ≡ 0 → ((x2 : ℕ) → left < stored → slice_index starts left ≤ x2 → x2 ≤ last → Wins arms (suc i) x2 i) → IsSettled arms i last places starts left 0
emptied arms i last places starts stored left hull none beyond = record {
  within = omega arith;
  begin = λ _. refl;
  later = λ l. omega (arith, l);
  kept = λ k x2 l. absurd (omega (arith, l));
  top = λ x2 l. absurd (omega (arith, l));
  new = λ x2 _ fits. elim (cases_lt 0 stored) [
    | inl some ↦ beyond x2 (omega arith) (rw (none, hull.begin some) (omega arith)) fits
    | inr outline ↦ (let first : i ≡ 0 = first_arm outline in rw first (only (arm_d2 arms x2) every 0 (λ j l. absurd (omega (arith, l))) refl))
  ];
} where
  first_arm : stored ≤ 0 → i ≡ 0
  first_arm outline = elim (cases_lt 0 i) [ inl l ↦ absurd (omega (arith, hull.some l, outline)) | inr z ↦ omega arith ]

-- the top stays, up to where the new arm begins
pub stopped : (arms : List ArmModel) (i last : ℕ) (places starts : List ℕ) (stored left from : ℕ) (a b : ArmModel) → IsHull arms i last places starts stored → 0 < left → left ≤ stored → arm_at arms (slice_index places (left - 1)) ≡ a → arm_at arms i ≡ b → IsError a b last from → slice_index starts (left - 1) < from → ((x2 : ℕ) → left < stored → slice_index starts left ≤ x2 → x2 ≤ last → Wins arms (suc i) x2 i) → IsSettled arms i last places starts left from
stopped arms i last places starts stored left from a b hull some fewer ea eb error high beyond = record {
  within = error.within;
  begin = λ e. absurd (omega (arith, e));
  later = λ _. omega arith;
  kept = λ k x2 l entry. lower k x2 l entry;
  top = λ x2 _ begun before fits. (elim (cases_lt left stored) [
    | inl more ↦ elim (cases_lt x2 (slice_index starts left)) [
      | inl next ↦ stays x2 begun (λ _. (let e : left - 1 + 1 ≡ left = omega arith in rw e next)) before fits
      | inr after ↦ absurd (not_beyond x2 more after before fits begun)
    ]
    | inr whole ↦ stays x2 begun (λ l. absurd (omega (arith, l))) before fits
  ]);
  new = λ x2 after fits. (elim (cases_lt left stored) [
    | inl more ↦ elim (cases_lt x2 (slice_index starts left)) [
      | inl next ↦ passed x2 (λ _. (let e : left - 1 + 1 ≡ left = omega arith in rw e next)) after fits
      | inr above ↦ beyond x2 more above fits
    ]
    | inr whole ↦ passed x2 (λ l. absurd (omega (arith, l))) after fits
  ]);
} where
  stays : (x2 : ℕ) → slice_index starts (left - 1) ≤ x2 → (left - 1 + 1 < stored → x2 < slice_index starts (left - 1 + 1)) → x2 < from → x2 ≤ last → Wins arms (suc i) x2 (slice_index places (left - 1))
  stays x2 begun next before fits = kept (arm_d2 arms x2) every i (slice_index places (left - 1)) (hull.wins (left - 1) x2 (omega arith) (record { at_start = begun; before_next = next; fits = fits })) (λ _. near_below arms last from _ i x2 a b ea eb error fits before)

  passed : (x2 : ℕ) → (left - 1 + 1 < stored → x2 < slice_index starts (left - 1 + 1)) → from ≤ x2 → x2 ≤ last → Wins arms (suc i) x2 i
  passed x2 next after fits = beaten (arm_d2 arms x2) every i (slice_index places (left - 1)) (hull.wins (left - 1) x2 (omega arith) (record { at_start = omega arith; before_next = next; fits = fits })) refl (far_from arms last from _ i x2 a b ea eb error fits after)

  not_beyond : (x2 : ℕ) → left < stored → slice_index starts left ≤ x2 → x2 < from → x2 ≤ last → slice_index starts (left - 1) ≤ x2 → ⊥
  not_beyond x2 more after before fits begun =
      let strict = (beyond x2 more after fits).first (slice_index places (left - 1)) (hull.below (left - 1) (omega arith)) refl in
      let near = near_below arms last from _ i x2 a b ea eb error fits before in
      omega (arith, strict, near)

  lower : (k x2 : ℕ) → k + 1 < left → InEntry starts left last k x2 → Wins arms (suc i) x2 (slice_index places k)
  lower k x2 l entry =
      let won = hull.wins k x2 (omega arith) (record { at_start = entry.at_start; before_next = λ _. entry.before_next l; fits = entry.fits }) in
      let next = entry.before_next l in
      let upto = hull.ordered (k + 1) (left - 1) (omega arith) (omega arith) in
      let near = near_below arms last from (slice_index places (left - 1)) i x2 a b ea eb error entry.fits (omega (arith, next, upto, high)) in
      let best = won.least (slice_index places (left - 1)) (hull.below (left - 1) (omega arith)) refl in
      kept (arm_d2 arms x2) every i (slice_index places k) won (λ _. omega (arith, best, near))

-- the new arm joins the entries that are left
pub joined : (arms : List ArmModel) (i last : ℕ) (places starts : List ℕ) (stored left from : ℕ) → IsHull arms i last places starts stored → left ≤ stored → left < length places → left < length starts → IsSettled arms i last places starts left from → IsHull arms (i + 1) last (slice_set places left i) (slice_set starts left from) (left + 1)
joined arms i last places starts stored left from hull fewer workspace_p workspace_s settled = record {
  few = omega (arith, hull.few);
  some = λ _. omega arith;
  below = λ k l. elim (cases_eq k left) [ inl e ↦ rw (e, place_new) (omega arith) | inr ne ↦ rw (place_old k ne) (omega (arith, hull.below k (omega (arith, ne)))) ];
  begin = λ _. elim (cases_eq left 0) [
    | inl e ↦ ap (λ (n : ℕ). slice_index (slice_set starts left from) n) (sym e) ∙ start_new ∙ settled.begin e
    | inr ne ↦ start_old 0 (λ z. ne (sym z)) ∙ hull.begin (omega (arith, ne))
  ];
  ordered = λ j k le l. elim (cases_eq k left) [
    | inl e ↦ elim (cases_eq j left) [
      | inl f ↦ rw (e, f) (omega arith)
      | inr nf ↦ rw (e, start_new, start_old j nf) (omega (arith, hull.ordered j (left - 1) (omega (arith, nf)) (omega (arith, nf)), settled.later (omega (arith, nf))))
    ]
    | inr ne ↦ (let nf = (λ (f : j ≡ left). ne (omega (arith, f))) in rw (start_old k ne, start_old j nf) (hull.ordered j k le (omega (arith, ne))))
  ];
  fits = λ k l. elim (cases_eq k left) [ inl e ↦ rw (e, start_new) settled.within | inr ne ↦ rw (start_old k ne) (hull.fits k (omega (arith, ne))) ];
  wins = λ k x2 l entry. rw add-one (elim (cases_eq k left) [
    | inl e ↦ rw (e, place_new) (settled.new x2 (rw (e, start_new) at entry.at_start) entry.fits)
    | inr ne ↦ elim (cases_eq (k + 1) left) [
      | inl e ↦ rw (place_old k ne) (top_of k x2 ne e entry)
      | inr nf ↦ rw (place_old k ne) (settled.kept k x2 (omega (arith, ne, nf)) (record {
        at_start = rw (start_old k ne) at entry.at_start;
        before_next = λ m. rw (start_old (k + 1) nf) at (entry.before_next (omega (arith, m)));
        fits = entry.fits;
      }))
    ]
  ]);
} where
  place_new : slice_index (slice_set places left i) left ≡ i
  place_new = get_or-set_same places left i 0 workspace_p

  place_old : (k : ℕ) → (k ≡ left → ⊥) → slice_index (slice_set places left i) k ≡ slice_index places k
  place_old k ne = get_or-set_other places left k i 0 ne

  start_new : slice_index (slice_set starts left from) left ≡ from
  start_new = get_or-set_same starts left from 0 workspace_s

  start_old : (k : ℕ) → (k ≡ left → ⊥) → slice_index (slice_set starts left from) k ≡ slice_index starts k
  start_old k ne = get_or-set_other starts left k from 0 ne

  top_of : (k x2 : ℕ) → (k ≡ left → ⊥) → k + 1 ≡ left → InEntry (slice_set starts left from) (left + 1) last k x2 → Wins arms (suc i) x2 (slice_index places k)
  top_of k x2 ne e entry =
      let place : left - 1 ≡ k = omega arith in
      let begun = rw (start_old k ne) at entry.at_start in
      let next = entry.before_next (omega arith) in
      let before = rw (e, start_new) at next in
      let wins = settled.top x2 (omega arith) (rw place begun) before entry.fits in
      rw place at wins

-- the entry that has a sample's coordinate has the nearest arm
pub nearest_by_entry : (arms : List ArmModel) (last : ℕ) (places starts : List ℕ) (stored k x : ℕ) → IsHull arms (length arms) last places starts stored → k < stored → InEntry starts stored last k (2 * x) → Some (slice_index places k) ≡ nearest arms x
unfolding nearest
nearest_by_entry arms last places starts stored k x hull within entry = sym (first_least-from (arm_d2 arms (2 * x)) every (length arms) (slice_index places k) (hull.wins k (2 * x) within entry))

pub nearest_none : (arms : List ArmModel) (x : ℕ) → length arms ≡ 0 → None ≡ nearest arms x
unfolding nearest
nearest_none arms x none = sym (first_least-none (arm_d2 arms (2 * x)) every (length arms) (λ j l. absurd (omega (arith, l))))

-- rising arms: what two reads give
pub rising_at : (arms : List ArmModel) (p i : ℕ) (a b : ArmModel) → Rising arms → p < i → i < length arms → a ≡ slice_index_or arms p a → b ≡ slice_index_or arms i b → a.column < b.column
rising_at arms p i a b rising below within at_p at_i =
    let rises = rising p i b below within in
    rw (get_or_read arms p a (omega arith) at_p b) (rw (← at_i) at rises)

pub arm_read : (arms : List ArmModel) (p : ℕ) (a : ArmModel) → p < length arms → a ≡ slice_index_or arms p a → arm_at arms p ≡ a
arm_read arms p a within at_p = sym (get_or_read arms p a within at_p no_arm)

place_at_most_column : (arms : List ArmModel) → Rising arms → (k : ℕ) → k < length arms → k ≤ (arm_at arms k).column
place_at_most_column arms rising zero within = omega arith
place_at_most_column arms rising (suc k) within =
    let rises = rising k (suc k) no_arm (omega arith) within in
    omega (arith, place_at_most_column arms rising k (omega arith), rises)

-- there are at most as many arms as doubled columns
pub few_arms : (arms : List ArmModel) (width : ℕ) → 1 ≤ width → Rising arms → ((k : ℕ) → k < length arms → (arm_at arms k).column + 2 ≤ 2 * width) → length arms + 1 ≤ 2 * width
few_arms arms width some rising inside = elim (cases_lt 0 (length arms)) [
  | inl l ↦ omega (arith, inside (length arms - 1) (omega arith), place_at_most_column arms rising (length arms - 1) (omega arith))
  | inr z ↦ omega arith
]
