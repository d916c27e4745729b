-- Rows that are lowered, column by column and offer by offer.
use Rattle.std.proofs.Common.{◌≡◌, ℕ, ◌+◌, ◌<◌, ◌≤◌, ◌==◌, ◌⊎◌, min, List, length, slice_index, slice_set, refl, subst, ◌∙◌, inl, inr, arith, if◌then◌else◌}
use Rattle.std.proofs.lemmas.Bool.{cases_eq, cases_lt}
use Rattle.std.proofs.lemmas.Bool.Decides.{nat_tests}
use Rattle.std.proofs.lemmas.List.{get_or-set_same, get_or-set_other}
use Rattle.draw_back.specs.Lowers.{Lowers}

-- one more column of a row is lowered
pub lowers_next : (old new : List ℕ) (from x v : ℕ) (offers : ℕ → ℕ → Type 0) → from ≤ x → x < length new → Lowers old new from x offers → v ≤ slice_index new x → ((u : ℕ) → offers x u → v ≤ u) → ((b : ℕ) → b ≤ slice_index new x → ((u : ℕ) → offers x u → b ≤ u) → b ≤ v) → Lowers old (slice_set new x v) from (x + 1) offers
lowers_next old new from x v offers begun inside so low each great =
    let same : slice_index (slice_set new x v) x ≡ v = get_or-set_same new x v 0 inside in
    let other : (i : ℕ) → (i ≡ x → ⊥) → slice_index (slice_set new x v) i ≡ slice_index new i = λ i ne. get_or-set_other new x i v 0 ne in
    record {
      before = λ i l. other i (λ e. absurd (omega (arith, e))) ∙ so.before i l;
      past = λ i l. other i (λ e. absurd (omega (arith, e))) ∙ so.past i (omega arith);
      less = λ i. elim (cases_eq i x) [
        | inl e ↦ rw e (omega (arith, same, low, so.less x))
        | inr ne ↦ omega (arith, other i ne, so.less i)
      ];
      each = λ i u l m o. elim (cases_eq i x) [
        | inl e ↦ let there : offers x u = subst (λ (n : ℕ). offers n u) e o in rw e (omega (arith, same, each u there))
        | inr ne ↦ omega (arith, other i ne, so.each i u l (omega (arith, ne)) o)
      ];
      greatest = λ i b own all. elim (cases_eq i x) [
        | inl e ↦ let there : (u : ℕ) → offers x u → b ≤ u = subst (λ (n : ℕ). (u : ℕ) → offers n u → b ≤ u) e all in
            let here : b ≤ slice_index old x = subst (λ (n : ℕ). b ≤ slice_index old n) e own in
            rw e (omega (arith, same, great b (so.greatest x b here there) there))
        | inr ne ↦ omega (arith, other i ne, so.greatest i b own all)
      ];
    }

-- nothing is offered in the columns between
pub lowers_wider : (old new : List ℕ) (from near far : ℕ) (offers : ℕ → ℕ → Type 0) → near ≤ far → ((x v : ℕ) → near ≤ x → x < far → offers x v → ⊥) → Lowers old new from near offers → Lowers old new from far offers
lowers_wider old new from near far offers order none so = record {
  before = so.before;
  past = λ x l. so.past x (omega arith);
  less = so.less;
  each = λ x v l m o. elim (near_or_far x near) [
    | inl close ↦ so.each x v l close o
    | inr beyond ↦ absurd (none x v beyond m o)
  ];
  greatest = so.greatest;
}
  where
    near_or_far : (x near : ℕ) → (x < near) ⊎ (near ≤ x)
    near_or_far = cases_lt

-- a row that is as it was, where nothing is offered
pub lowers_not : (old : List ℕ) (from to : ℕ) (offers : ℕ → ℕ → Type 0) → ((x v : ℕ) → from ≤ x → x < to → offers x v → ⊥) → Lowers old old from to offers
lowers_not old from to offers none = record {
  before = λ x l. refl;
  past = λ x l. refl;
  less = λ x. omega arith;
  each = λ x v l m o. absurd (none x v l m o);
  greatest = λ x b own all. own;
}

-- first by some offers and then by others
pub lowers_both : (a b c : List ℕ) (from to : ℕ) (one two both : ℕ → ℕ → Type 0) → Lowers a b from to one → Lowers b c from to two → ((x v : ℕ) → both x v → one x v ⊎ two x v) → ((x v : ℕ) → one x v → both x v) → ((x v : ℕ) → two x v → both x v) → Lowers a c from to both
lowers_both a b c from to one two both first second split in_one in_two = record {
  before = λ x l. second.before x l ∙ first.before x l;
  past = λ x l. second.past x l ∙ first.past x l;
  less = λ x. omega (arith, second.less x, first.less x);
  each = λ x v l m o. elim (split x v o) [
    | inl p ↦ omega (arith, second.less x, first.each x v l m p)
    | inr p ↦ second.each x v l m p
  ];
  greatest = λ x n own all. second.greatest x n (first.greatest x n own (λ v o. all v (in_one x v o))) (λ v o. all v (in_two x v o));
}

-- the same offers in other words
pub lowers_as : (a b : List ℕ) (from to : ℕ) (one two : ℕ → ℕ → Type 0) → ((x v : ℕ) → two x v → one x v) → ((x v : ℕ) → one x v → two x v) → Lowers a b from to one → Lowers a b from to two
lowers_as a b from to one two back on so = record {
  before = so.before;
  past = so.past;
  less = so.less;
  each = λ x v l m o. so.each x v l m (back x v o);
  greatest = λ x n own all. so.greatest x n own (λ v o. all v (on x v o));
}

-- a tint that is lowered by a source, if the mark of that allows
pub lowered_low : (t u m : ℕ) → (if m == 0 then min t u else t) ≤ t
lowered_low t u m = grind (arith, nat_tests)

pub lowered_source : (t u m : ℕ) → m ≡ 0 → (if m == 0 then min t u else t) ≤ u
lowered_source t u m free = rw free (omega arith)

pub lowered_greatest : (t u m b : ℕ) → b ≤ t → (m ≡ 0 → b ≤ u) → b ≤ (if m == 0 then min t u else t)
lowered_greatest t u m b own source = elim (cases_eq m 0) [
  | inl e ↦ rw e (omega (arith, source e))
  | inr ne ↦ grind (arith, nat_tests, ne, own)
]
