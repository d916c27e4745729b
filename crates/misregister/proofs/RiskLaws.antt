-- What is known of the risk without working it out.
use Rattle.std.proofs.Common.{◌≡◌, ℕ, zero, suc, ◌+◌, ◌*◌, ◌/◌, ◌%◌, ◌<◌, ◌≤◌, Bool, true, false, ◌&&◌, List, length, refl, sym, ◌∙◌, inl, inr, arith, subst}
use Rattle.std.proofs.lemmas.Bool.{cases_Bool, cases_eq, and_parts, and_from, or_left, or_right, leb-true, le-leb, false_from_ne_true, false≢true, not-true}
use Rattle.page_model.specs.declared.parts.Plane.{Plane}
use Rattle.lists.specs.Words.{any_below, count_below}
use Rattle.lists.proofs.Sums.{any_below-at}
use Rattle.page_model.specs.Shapes.{wide, tall}
use Rattle.misregister.specs.Risk.{all_below, is_outline, is_near, bares_in_row, can_outline, is_inked, is_at_risk, risk}

-- a place that passes is found
pub any_below-from : (test : ℕ → Bool) (n c : ℕ) → c < n → test c ≡ true → any_below test n ≡ true
any_below-from test zero c l t = let e : ⊥ = omega arith in absurd e
any_below-from test (suc n) c l t = elim (cases_eq c n) [
  | inl e ↦ or_right (any_below test n) (test n) (subst (λ (k : ℕ). test k ≡ true) e t)
  | inr ne ↦ or_left (any_below test n) (test n) (any_below-from test n c (omega (arith, ne)) t)
]

pub any_below-more : (f g : ℕ → Bool) (n : ℕ) → ((k : ℕ) → k < n → f k ≡ true → g k ≡ true) → any_below f n ≡ true → any_below g n ≡ true
any_below-more f g n h e = let w = any_below-at f n e in any_below-from g n w.0 w.1 (h w.0 w.1 w.2)

pub all_below-at : (test : ℕ → Bool) (n c : ℕ) → all_below test n ≡ true → c < n → test c ≡ true
all_below-at test zero c h l = let e : ⊥ = omega arith in absurd e
all_below-at test (suc n) c h l =
    let parts = and_parts (all_below test n) (test n) h in
    elim (cases_eq c n) [
      | inl e ↦ subst (λ (k : ℕ). test k ≡ true) (sym e) parts.1
      | inr ne ↦ all_below-at test n c parts.0 (omega (arith, ne))
    ]

pub all_below-from : (test : ℕ → Bool) (n : ℕ) → ((c : ℕ) → c < n → test c ≡ true) → all_below test n ≡ true
all_below-from test zero h = refl
all_below-from test (suc n) h = and_from (all_below test n) (test n) (all_below-from test n (λ c l. h c (omega arith))) (h n (omega arith))

pub count_below-more : (f g : ℕ → Bool) (n : ℕ) → ((k : ℕ) → k < n → f k ≡ true → g k ≡ true) → count_below f n ≤ count_below g n
count_below-more f g zero h = omega arith
count_below-more f g (suc n) h =
    let less = count_below-more f g n (λ k l t. h k (omega arith) t) in
    elim (cases_Bool (f n)) [
      | inl t ↦ rw (t, h n (omega arith) t) (omega (arith, less))
      | inr e ↦ rw e (omega (arith, less))
    ]

pub count_below-none : (f : ℕ → Bool) (n : ℕ) → ((k : ℕ) → k < n → f k ≡ false) → count_below f n ≡ 0
count_below-none f zero h = refl
count_below-none f (suc n) h = rw (h n (omega arith), count_below-none f n (λ k l. h k (omega arith))) refl

-- a greater radius reaches further
near_more : (r a b : ℕ) → is_near r a b ≡ true → is_near (r + 1) a b ≡ true
near_more r a b h = le-leb _ _ (omega (arith, leb-true _ _ h))

and_more : (a b c d : Bool) → (a ≡ true → c ≡ true) → (b ≡ true → d ≡ true) → (a && b) ≡ true → (c && d) ≡ true
and_more a b c d f g h = let parts = and_parts a b h in and_from c d (f parts.0) (g parts.1)

row_more : (planes : List Plane) (r c x k : ℕ) → bares_in_row planes r c x k ≡ true → bares_in_row planes (r + 1) c x k ≡ true
row_more planes r c x k = any_below-more (λ j. is_near r x j && is_outline planes c j k) (λ j. is_near (r + 1) x j && is_outline planes c j k) (wide planes) (λ j l. and_more _ _ _ _ (near_more r x j) (λ h. h))

bares_more : (planes : List Plane) (r c x y : ℕ) → can_outline planes r c x y ≡ true → can_outline planes (r + 1) c x y ≡ true
bares_more planes r c x y = any_below-more (λ k. is_near r y k && bares_in_row planes r c x k) (λ k. is_near (r + 1) y k && bares_in_row planes (r + 1) c x k) (tall planes) (λ k l. and_more _ _ _ _ (near_more r y k) (row_more planes r c x k))

at_risk_more : (planes : List Plane) (r x y : ℕ) → is_at_risk planes r x y ≡ true → is_at_risk planes (r + 1) x y ≡ true
at_risk_more planes r x y = and_more _ _ _ _ (λ h. h) (λ h. all_below-from _ _ (λ c l. bares_more planes r c x y (all_below-at _ (length planes) c h l)))

pub risk_grows : (planes : List Plane) (r : ℕ) → risk planes r ≤ risk planes (r + 1)
risk_grows planes r = count_below-more _ _ (wide planes * tall planes) (λ k l. at_risk_more planes r (k % wide planes) (k / wide planes))

-- without a shift a sample is bare only where no plate has ink
same_place : (a b : ℕ) → is_near 0 a b ≡ true → a ≡ b
same_place a b h = omega (arith, leb-true _ _ h)

outline_at_rest : (planes : List Plane) (c x y : ℕ) → can_outline planes 0 c x y ≡ true → is_outline planes c x y ≡ true
outline_at_rest planes c x y h =
    let row = any_below-at _ (tall planes) h in
    let parts = and_parts _ _ row.2 in
    let column = any_below-at _ (wide planes) parts.1 in
    let inner = and_parts _ _ column.2 in
    stands column.0 row.0 (same_place x column.0 inner.0) (same_place y row.0 parts.0) inner.1 where
      stands : (j k : ℕ) → x ≡ j → y ≡ k → is_outline planes c j k ≡ true → is_outline planes c x y ≡ true
      stands j k across down outline = rw (across, down) outline

none_at_rest : (planes : List Plane) (x y : ℕ) → is_at_risk planes 0 x y ≡ true → ⊥
none_at_rest planes x y h =
    let parts = and_parts (is_inked planes x y) (all_below (λ c. can_outline planes 0 c x y) (length planes)) h in
    let inked = any_below-at _ (length planes) parts.0 in
    let outline = outline_at_rest planes inked.0 x y (all_below-at _ (length planes) inked.0 parts.1 inked.1) in
    let clash : false ≡ true = sym (not-true _ inked.2) ∙ outline in
    false≢true clash

pub risk_at_rest : (planes : List Plane) → risk planes 0 ≡ 0
risk_at_rest planes = count_below-none _ (wide planes * tall planes) (λ k l. false_from_ne_true _ (none_at_rest planes (k % wide planes) (k / wide planes)))
