-- A trap is no darker than the scaling asks, where no ink is opaque.
use Rattle.std.proofs.Common.{◌≡◌, ◌≢◌, ℕ, zero, suc, ◌+◌, ◌*◌, ◌-◌, ◌/◌, ◌<◌, ◌≤◌, ◌⊎◌, Bool, true, false, ◌&&◌, inl, inr, arith, ap, ◌∙◌, if◌then◌else◌}
use Rattle.std.proofs.lemmas.Bool.{cases_lt}
use Rattle.std.proofs.Math.Nat.{mul-le-mul_left, div-mul-le_self}
use Rattle.page_model.specs.declared.parts.At.{At}
use Rattle.page_model.specs.declared.parts.EdgeAt.{EdgeAt}
use Rattle.page_model.specs.declared.parts.InkKind.{InkKind}
use Rattle.page_model.specs.declared.parts.InkKind.TheVariants.{Opaque}
use Rattle.page_model.specs.declared.parts.PageParts.{PageParts}
use Rattle.page_model.specs.Density.{counts, density, density_of, plate_counts, spreads, weight}
use Rattle.page_model.specs.Page.{ink_at, params_at, plates, tint}
use Rattle.page_model.specs.Tints.{full, full_density, new_in, scaled_in}
use Rattle.page_model.specs.Trapped.{trapped_in}
use Rattle.lists.specs.Words.{sum_below}
use Rattle.trap_color.specs.Opaque.{HasNoOpaque}

sum_below-le : (f g : ℕ → ℕ) (n : ℕ) → ((c : ℕ) → c < n → f c ≤ g c) → sum_below f n ≤ sum_below g n
sum_below-le f g zero h = omega arith
sum_below-le f g (suc n) h = omega (arith, sum_below-le f g n (λ c l. h c (omega arith)), h n (omega arith))

-- a factor goes into a sum
sum_below-scaled : (f : ℕ → ℕ) (a n : ℕ) → sum_below (λ c. f c * a) n ≡ sum_below f n * a
sum_below-scaled f a zero = omega arith
sum_below-scaled f a (suc n) = omega (arith, sum_below-scaled f a n)

-- parts of a whole, each cut to x in y of it
sum_below-cut : (f g : ℕ → ℕ) (x y n : ℕ) → ((c : ℕ) → c < n → f c * y ≤ g c * x) → sum_below f n * y ≤ sum_below g n * x
sum_below-cut f g x y n h = rw (← sum_below-scaled f y n, ← sum_below-scaled g x n) (sum_below-le (λ c. f c * y) (λ c. g c * x) n h)

cut_at_most : (w f x y : ℕ) → w * (f * x / y) * y ≤ w * f * x
cut_at_most w f x y =
    let cut : f * x / y * y ≤ f * x = div-mul-le_self (f * x) y in
    omega (arith, mul-le-mul_left w cut)

-- the light of x in y of f, where f itself cancels
cancelled : (d f x : ℕ) → 0 < f → d * (f * 10000) ≤ f * x → d * 10000 ≤ x
cancelled d f x some le = elim (cases_lt x (d * 10000)) [
  | inl over ↦ (let more : f * (x + 1) ≤ f * (d * 10000) = mul-le-mul_left f (omega arith) in absurd (omega (arith, more, le, some)))
  | inr under ↦ under
]

kind_cases : (kind : InkKind) → (spreads kind ≡ true) ⊎ ((counts kind ≡ false) ⊎ (kind ≡ Opaque))
kind_cases kind = grind arith

no_weight : (page : PageParts) (c : ℕ) → plate_counts page c ≡ false → weight page c ≡ 0
no_weight page c h = ap (λ (b : Bool). if b then (ink_at page c).density else 0) h

new_scaled : (page : PageParts) (z : ℕ) (p : At) (e : EdgeAt) (c : ℕ) → trapped_in page z p e ≡ true → spreads (ink_at page c).kind ≡ true → new_in page z p e c ≡ scaled_in page z p e c
unfolding new_in
new_scaled page z p e c t s = ap (λ (b : Bool). if b && spreads (ink_at page c).kind then scaled_in page z p e c else tint page c p) t ∙ ap (λ (b : Bool). if b then scaled_in page z p e c else tint page c p) s

abbrev light : PageParts → ℕ → At → EdgeAt → ℕ
light page z p e = density page p * 10000 + (params_at page z).trap_color_scaling * (full_density page p e - density page p)

each_cut : (page : PageParts) (z : ℕ) (p : At) (e : EdgeAt) (c : ℕ) → trapped_in page z p e ≡ true → (ink_at page c).kind ≢ Opaque → weight page c * new_in page z p e c * (full_density page p e * 10000) ≤ weight page c * full page p e c * light page z p e
each_cut page z p e c t clear = elim (kind_cases (ink_at page c).kind) [
  | inl s ↦ rw (new_scaled page z p e c t s) (cut_at_most (weight page c) (full page p e c) (light page z p e) (full_density page p e * 10000))
  | inr (inl n) ↦ rw (no_weight page c n) (omega arith)
  | inr (inr o) ↦ absurd (clear o)
]

pub density_law : (page : PageParts) (z : ℕ) (p : At) (e : EdgeAt) → HasNoOpaque page → trapped_in page z p e ≡ true → 0 < full_density page p e → density_of page (new_in page z p e) * 10000 ≤ light page z p e
density_law page z p e clear t some =
    cancelled (density_of page (new_in page z p e)) (full_density page p e) (light page z p e) some
    (sum_below-cut (λ c. weight page c * new_in page z p e c) (λ c. weight page c * full page p e c) (light page z p e) (full_density page p e * 10000) (plates page) (λ c l. each_cut page z p e c t (clear c l)))
