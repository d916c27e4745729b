-- The tint that a pixel is drawn back to is the greatest that is at most its own and each source's.
use Rattle.std.proofs.Common.{◌≡◌, ℕ, zero, suc, ◌<◌, ◌≤◌, ◌⊎◌, Bool, true, false, min, refl, inl, inr, sym, subst, ◌∙◌, arith}
use Rattle.std.proofs.lemmas.Bool.{cases_eq, cases_lt}
use Rattle.draw_back.specs.Drawn.{Scene, IsDrawn, drawn, is_source, least_below, least_in_row}
use Rattle.draw_back.specs.Laws.{Source}

true_or_false : (b : Bool) → (b ≡ true) ⊎ (b ≡ false)
true_or_false true = inl refl
true_or_false false = inr refl

-- with the next number, where it passes
least_with : (test : ℕ → Bool) (f : ℕ → ℕ) (start n : ℕ) → test n ≡ true → least_below test f start (suc n) ≡ min (least_below test f start n) (f n)
least_with test f start n e = rw e refl

-- and where it does not
least_without : (test : ℕ → Bool) (f : ℕ → ℕ) (start n : ℕ) → test n ≡ false → least_below test f start (suc n) ≡ least_below test f start n
least_without test f start n e = rw e refl

least_falls : (test : ℕ → Bool) (f : ℕ → ℕ) (start n : ℕ) → least_below test f start (suc n) ≤ least_below test f start n
least_falls test f start n = elim (true_or_false (test n)) [
  | inl e ↦ let step = least_with test f start n e in omega arith
  | inr e ↦ let step = least_without test f start n e in omega arith
]

least_low : (test : ℕ → Bool) (f : ℕ → ℕ) (start n : ℕ) → least_below test f start n ≤ start
least_low test f start zero = omega arith
least_low test f start (suc n) =
    let low : least_below test f start n ≤ start = least_low test f start n in
    let falls : least_below test f start (suc n) ≤ least_below test f start n = least_falls test f start n in
    omega arith

least_each : (test : ℕ → Bool) (f : ℕ → ℕ) (start n k : ℕ) → k < n → test k ≡ true → least_below test f start n ≤ f k
least_each test f start zero k l pass = absurd (omega arith)
least_each test f start (suc n) k l pass = elim (cases_eq k n) [
  | inl e ↦ let here : test n ≡ true = subst (λ (i : ℕ). test i ≡ true) e pass in
      let step = least_with test f start n here in rw e (omega arith)
  | inr ne ↦ let before : least_below test f start n ≤ f k = least_each test f start n k (omega (arith, ne)) pass in
      let falls : least_below test f start (suc n) ≤ least_below test f start n = least_falls test f start n in
      omega arith
]

least_greatest : (test : ℕ → Bool) (f : ℕ → ℕ) (start n b : ℕ) → b ≤ start → ((k : ℕ) → k < n → test k ≡ true → b ≤ f k) → b ≤ least_below test f start n
least_greatest test f start zero b own all = own
least_greatest test f start (suc n) b own all =
    let before : b ≤ least_below test f start n = least_greatest test f start n b own (λ k l pass. all k (omega arith) pass) in
    elim (true_or_false (test n)) [
      | inl e ↦ let step = least_with test f start n e in let here : b ≤ f n = all n (omega arith) e in omega arith
      | inr e ↦ let step = least_without test f start n e in omega arith
    ]

-- the definition is that greatest number
pub drawn_is : (s : Scene) (x y : ℕ) → IsDrawn s x y (drawn s x y)
unfolding drawn
drawn_is s x y = record {
  own = least_low (λ k. true) (least_in_row s x y) (s.tint_at x y) s.tall;
  each = λ j k in_row on_page source. omega (
    arith,
    least_each (λ i. true) (least_in_row s x y) (s.tint_at x y) s.tall k on_page refl,
    least_each (λ i. is_source s x y i k) (λ i. s.tint_at i k) (s.tint_at x y) s.wide j in_row source,
  );
  greatest = λ b own all. least_greatest (λ i. true) (least_in_row s x y) (s.tint_at x y) s.tall b own
      (λ k on_page passes. least_greatest (λ i. is_source s x y i k) (λ i. s.tint_at i k) (s.tint_at x y) s.wide b own (λ j in_row source. all j k in_row on_page source));
}

-- and the only one
pub drawn_only : (s : Scene) (x y v : ℕ) → IsDrawn s x y v → v ≡ drawn s x y
drawn_only s x y v is =
    let d = drawn s x y in
    let the : IsDrawn s x y d = drawn_is s x y in
    let up : v ≤ d = the.greatest v is.own is.each in
    let down : d ≤ v = is.greatest d the.own the.each in
    omega arith

-- a pixel without a source keeps its tint
pub drawn_alone : (s : Scene) (x y : ℕ) → ((j k : ℕ) → j < s.wide → k < s.tall → is_source s x y j k ≡ true → ⊥) → drawn s x y ≡ s.tint_at x y
drawn_alone s x y none = sym (drawn_only s x y (s.tint_at x y) (record {
  own = omega arith;
  each = λ j k in_row on_page source. absurd (none j k in_row on_page source);
  greatest = λ b own all. own;
}))

-- and so does one without ink
pub drawn_outline : (s : Scene) (x y : ℕ) → s.tint_at x y ≡ 0 → drawn s x y ≡ s.tint_at x y
drawn_outline s x y outline =
    let the : IsDrawn s x y (drawn s x y) = drawn_is s x y in
    let own : drawn s x y ≤ s.tint_at x y = the.own in
    omega arith

-- the least is the start, or that of a number that passes
least_stored : (test : ℕ → Bool) (f : ℕ → ℕ) (start n : ℕ) → (least_below test f start n ≡ start) ⊎ ((k : ℕ) × (k < n) × (test k ≡ true) × (least_below test f start n ≡ f k))
least_stored test f start zero = inl refl
least_stored test f start (suc n) = elim (true_or_false (test n)) [
  | inl e ↦ let step = least_with test f start n e in elim (cases_lt (f n) (least_below test f start n)) [
    | inl l ↦ inr (n, omega arith, e, omega arith)
    | inr l ↦ let same : least_below test f start (suc n) ≡ least_below test f start n = omega arith in earlier same (least_stored test f start n)
  ]
  | inr e ↦ earlier (least_without test f start n e) (least_stored test f start n)
]
  where
    earlier : least_below test f start (suc n) ≡ least_below test f start n → ((least_below test f start n ≡ start) ⊎ ((k : ℕ) × (k < n) × (test k ≡ true) × (least_below test f start n ≡ f k))) → (least_below test f start (suc n) ≡ start) ⊎ ((k : ℕ) × (k < suc n) × (test k ≡ true) × (least_below test f start (suc n) ≡ f k))
    earlier same before = elim before [
      | inl e ↦ inl (same ∙ e)
      | inr h ↦ inr (h.0, omega (arith, h.1), h.2, same ∙ h.3)
    ]

-- a pixel keeps its tint, or has that of a source
pub drawn_stored : (s : Scene) (x y : ℕ) → (drawn s x y ≡ s.tint_at x y) ⊎ ((at : Source s x y) × (drawn s x y ≡ s.tint_at at.column at.row))
unfolding drawn
drawn_stored s x y = elim (least_stored (λ k. true) (least_in_row s x y) (s.tint_at x y) s.tall) [
  | inl e ↦ inl e
  | inr h ↦ elim (least_stored (λ j. is_source s x y j h.0) (λ j. s.tint_at j h.0) (s.tint_at x y) s.wide) [
    | inl e ↦ inl (h.3 ∙ e)
    | inr g ↦ inr (record { column = g.0; row = h.0; in_row = g.1; on_page = h.1; source = g.2 }, h.3 ∙ g.3)
  ]
]
