-- Sizes: what is within the limits of a page, and how much fits a window.
use Rattle.std.proofs.Common.{◌≡◌, ℕ, ◌*◌, ◌/◌, ◌≤◌, inl, inr, min, max, arith, subst, mul-le-mul, div-mul-le_self}
use Rattle.std.proofs.lemmas.Bool.{cases_lt}
use Rattle.page_model.specs.Page.{plates}

-- what is a share of so many is not more than they are
pub share : (most part n : ℕ) → n ≤ most / part → n * part ≤ most
share most part n l =
    let a : n * part ≤ most / part * part = mul-le-mul l (omega arith) in
    let b = div-mul-le_self most part in
    omega (arith, a, b)

-- a window that is as small as may be has few samples
pub least_few : (workspace plates : ℕ) → workspace ≤ 2816 → plates ≤ 16 → workspace * workspace * plates ≤ 160000000
least_few workspace plates small few =
    let a : workspace * workspace ≤ 2816 * 2816 = mul-le-mul small small in
    let b : workspace * workspace * plates ≤ 2816 * 2816 * 16 = mul-le-mul a few in
    omega (arith, b)

-- what the greater of a number and of a lesser one is bounded by
pub bounded : (r x other workspace w q : ℕ) → r ≡ max x other → x ≡ min w q → other ≡ workspace → r ≤ max workspace q
bounded r x other workspace w q a b c = omega (arith, a, b, c)

in_order : (a b c : ℕ) → a * b * c ≡ b * (a * c)
in_order a b c = grind arith

grouped : (a b c : ℕ) → a * b * c ≡ a * (b * c)
grouped a b c = grind arith

-- so many rows, with the least columns, have few samples
pub rows_few : (columns rows plates r q : ℕ) → columns * rows * plates ≤ 160000000 → q ≡ 160000000 / (columns * plates) → r ≤ max rows q → columns * r * plates ≤ 160000000
rows_few columns rows plates r q least e l = elim (cases_lt rows r) [
  | inl more ↦ (let m : r ≤ q = omega (arith, l, more) in
      let t = share 160000000 (columns * plates) r (subst (λ (n : ℕ). r ≤ n) e m) in
      let o = in_order columns r plates in
      omega (arith, t, o))
  | inr less ↦ (let m : columns * r ≤ columns * rows = mul-le-mul (omega arith) less in
      let t : columns * r * plates ≤ columns * rows * plates = mul-le-mul m (omega arith) in
      omega (arith, t, least))
]

-- so many columns, with these rows, have few samples
pub columns_few : (workspace rows plates samples r q : ℕ) → workspace * rows * plates ≤ 160000000 → samples ≤ 160000000 → q ≡ samples / (rows * plates) → r ≤ max workspace q → r * rows * plates ≤ 160000000
columns_few workspace rows plates samples r q least few e l = elim (cases_lt workspace r) [
  | inl more ↦ (let m : r ≤ q = omega (arith, l, more) in
      let t = share samples (rows * plates) r (subst (λ (n : ℕ). r ≤ n) e m) in
      let o = grouped r rows plates in
      omega (arith, t, o, few))
  | inr less ↦ (let m : r * rows ≤ workspace * rows = mul-le-mul less (omega arith) in
      let t : r * rows * plates ≤ workspace * rows * plates = mul-le-mul m (omega arith) in
      omega (arith, t, least))
]
