-- No sample is darker than its trap with full tints, and what counts weighs something.
use Rattle.std.proofs.Common.{◌≡◌, ℕ, ◌*◌, ◌<◌, ◌≤◌, Bool, true, ◌&&◌, nat_lt, inl, inr, arith, refl, false}
use Rattle.std.proofs.lemmas.Bool.{cases_Bool, and_parts, ltb-true}
use Rattle.std.proofs.Math.Nat.{mul-le-mul}
use Rattle.page_model.specs.declared.parts.At.{At}
use Rattle.page_model.specs.declared.parts.EdgeAt.{EdgeAt}
use Rattle.page_model.specs.declared.parts.PageParts.{PageParts}
use Rattle.page_model.specs.Apart.{falls, apart}
use Rattle.page_model.specs.Conditions.{IsPage}
use Rattle.page_model.specs.Density.{density, weight, plate_counts, spreads}
use Rattle.page_model.specs.Edges.{across}
use Rattle.page_model.specs.Page.{plates, tint, ink_at, no_ink}
use Rattle.page_model.specs.Tints.{full_density, full}
use Rattle.page_model.specs.Trapped.{trapped_in}
use Rattle.lists.specs.Words.{any_below}
use Rattle.lists.proofs.Sums.{sum_below-le, sum_below-pos, any_below-at}

tint-le-full : (page : PageParts) (p : At) (e : EdgeAt) (c : ℕ) → tint page c p ≤ full page p e c
tint-le-full page p e c = elim (cases_Bool (spreads (ink_at page c).kind)) [ inl t ↦ rw t (omega arith) | inr f ↦ rw f (omega arith) ]

pub density-le-full : (page : PageParts) (p : At) (e : EdgeAt) → density page p ≤ full_density page p e
density-le-full page p e = sum_below-le (λ c. weight page c * tint page c p) (λ c. weight page c * full page p e c) (plates page) (λ c l. mul-le-mul (omega arith) (tint-le-full page p e c))

weight-pos : (page : PageParts) (c : ℕ) → IsPage page → c < plates page → plate_counts page c ≡ true → 0 < weight page c
weight-pos page c valid l t = rw t (omega (arith, (valid.parts.inks_in_range c no_ink (omega (arith, l, valid.parts.one_ink_each))).some_density))

-- a sample from which a counting plate falls has a density above 0
pub density-pos : (page : PageParts) (z : ℕ) (p q : At) → IsPage page → apart page z p q ≡ true → 0 < density page p
density-pos page z p q valid h =
    let found = any_below-at (falls page z p q) (plates page) ((and_parts _ _ h).0) in
    let c = found.0 in
    let parts = and_parts (plate_counts page c) (nat_lt (tint page c q) (tint page c p)) ((and_parts (plate_counts page c && nat_lt (tint page c q) (tint page c p)) _ found.2).0) in
    let some_tint : 0 < tint page c p = omega (arith, ltb-true _ _ parts.1) in
    let some_weight = weight-pos page c valid found.1 parts.0 in
    sum_below-pos (λ n. weight page n * tint page n p) (plates page) c found.1 (mul-le-mul some_weight some_tint)

pub trapped-apart : (page : PageParts) (z : ℕ) (p : At) (e : EdgeAt) → trapped_in page z p e ≡ true → apart page z p (across p e) ≡ true
unfolding trapped_in
trapped-apart page z p e t = (and_parts _ (apart page z p (across p e)) ((and_parts _ _ t).0)).1

pub trapped-pos : (page : PageParts) (z : ℕ) (p : At) (e : EdgeAt) → IsPage page → trapped_in page z p e ≡ true → 0 < full_density page p e
trapped-pos page z p e valid t = omega (arith, density-pos page z p (across p e) valid (trapped-apart page z p e t), density-le-full page p e)

both_ways : (a b : Bool) → (a && b) ≡ (b && a)
both_ways true true = refl
both_ways true false = refl
both_ways false true = refl
both_ways false false = refl

pub apart_comm : (page : PageParts) (z : ℕ) (p q : At) → apart page z p q ≡ apart page z q p
apart_comm page z p q = both_ways (any_below (falls page z p q) (plates page)) (any_below (falls page z q p) (plates page))
