-- Samples whose axes are nested do not overlap.
use Rattle.std.proofs.Common.{◌≡◌, ℕ, ◌+◌, ◌-◌, ◌*◌, ◌<◌, ◌≤◌, true, ◌&&◌, ◌⊎◌, inl, inr, leb, refl, ap, arith}
use Rattle.std.specs.Prelude.{ℤ, pos, negsuc}
use Rattle.std.proofs.lemmas.Bool.{and_parts, cases_order, leb-true, or_cases}
use Rattle.std.proofs.lemmas.Nat.{mul-le}
use Rattle.raster_samples.specs.declared.raster.Axis.{Axis}
use Rattle.raster_samples.specs.Strides.{backward, forward, step}
use Rattle.raster_samples.specs.Checks.{are_nested, clears, reach}

-- a step leads one way alone
pub one_way : (stride : ℤ) → (forward stride ≡ 0) ⊎ (backward stride ≡ 0)
one_way (pos n) = inr refl
one_way (negsuc n) = inl refl

-- Sample i of an axis lies at `i * f` ahead and `i * b` back.
near_forward : (f n i j : ℕ) → i < n → i * f ≤ j * f + (n - 1) * f
near_forward f n i j li =
    let most : i * f ≤ (n - 1) * f = mul-le i f (n - 1) f (omega arith) (omega arith) in
    omega arith

-- two samples of an axis are at most its reach apart
near_way : (f b n i j : ℕ) → (f ≡ 0) ⊎ (b ≡ 0) → i < n → j < n → i * f + j * b ≤ j * f + i * b + (n - 1) * (f + b)
near_way f b n i j (inl e) li lj =
    let back : j * b ≤ i * b + (n - 1) * b = near_forward b n j i lj in
    let none : i * f ≡ i * 0 = ap (λ (m : ℕ). i * m) e in
    omega arith
near_way f b n i j (inr e) li lj =
    let ahead_of : i * f ≤ j * f + (n - 1) * f = near_forward f n i j li in
    let none : j * b ≡ j * 0 = ap (λ (m : ℕ). j * m) e in
    omega arith

-- of two samples of an axis one lies at least a step before the other
far_way : (f b i j : ℕ) → (f ≡ 0) ⊎ (b ≡ 0) → i < j → (i * f + j * b + (f + b) ≤ j * f + i * b) ⊎ (j * f + i * b + (f + b) ≤ i * f + j * b)
far_way f b i j (inl e) l =
    let more : (i + 1) * b ≤ j * b = mul-le (i + 1) b j b (omega arith) (omega arith) in
    let none : j * f ≡ j * 0 = ap (λ (m : ℕ). j * m) e in
    inr (omega arith)
far_way f b i j (inr e) l =
    let more : (i + 1) * f ≤ j * f = mul-le (i + 1) f j f (omega arith) (omega arith) in
    let none : j * b ≡ j * 0 = ap (λ (m : ℕ). j * m) e in
    let none_before : i * b ≡ i * 0 = ap (λ (m : ℕ). i * m) e in
    inl (omega arith)

-- how far sample i is ahead, and how far back
abbrev pub over : Axis → ℕ → ℕ
over a i = i * forward a.stride

abbrev pub under : Axis → ℕ → ℕ
under a i = i * backward a.stride

near : (a : Axis) (i j : ℕ) → i < a.count → j < a.count → over a i + under a j ≤ over a j + under a i + reach a
near a i j li lj = near_way (forward a.stride) (backward a.stride) a.count i j (one_way a.stride) li lj

apart_by : (span f b i j : ℕ) → (f ≡ 0) ⊎ (b ≡ 0) → span ≤ f + b → i * f + j * b < j * f + i * b + span → j * f + i * b < i * f + j * b + span → i < j → ⊥
apart_by span f b i j way wide up down l =
    elim (far_way f b i j way l) [
      | inl h ↦ omega arith
      | inr h ↦ omega arith
    ]

-- two samples of an axis that are closer than its step are one
one_sample : (a : Axis) (i j span : ℕ) → clears a span ≡ true → i < a.count → j < a.count → over a i + under a j < over a j + under a i + span → over a j + under a i < over a i + under a j + span → i ≡ j
one_sample a i j span clear li lj up down =
    elim (or_cases (leb a.count 1) (leb span (step a.stride)) clear) [
      | inl few ↦ (let one : a.count ≤ 1 = leb-true a.count 1 few in omega arith)
      | inr wide ↦ (
          let steps : span ≤ forward a.stride + backward a.stride = leb-true span (step a.stride) wide in
          elim (cases_order i j) [
            | inl same ↦ same
            | inr other ↦ elim other [
              | inl less ↦ absurd (apart_by span (forward a.stride) (backward a.stride) i j (one_way a.stride) steps up down less)
              | inr more ↦ absurd (apart_by span (forward a.stride) (backward a.stride) j i (one_way a.stride) steps down up more)
            ]
          ])
    ]

-- Sample (i1, i2, i3) of three axes begins at p from the origin.
pub record Stands (a b c : Axis) (origin i1 i2 i3 p : ℕ) : Type 0 where
  pub one : i1 < a.count
  pub two : i2 < b.count
  pub three : i3 < c.count
  pub at : p + (under a i1 + (under b i2 + under c i3)) ≡ origin + (over a i1 + (over b i2 + over c i3))

-- two samples of nested axes that begin less than a sample apart are one
pub nested : (size origin p q : ℕ) (a b c : Axis) (i1 i2 i3 j1 j2 j3 : ℕ) → are_nested size a b c ≡ true → Stands a b c origin i1 i2 i3 p → Stands a b c origin j1 j2 j3 q → p < q + size → q < p + size → (i1 ≡ j1) × (i2 ≡ j2) × (i3 ≡ j3)
nested size origin p q a b c i1 i2 i3 j1 j2 j3 nest s t up down =
    let first = and_parts (clears a size) (clears b (size + reach a) && clears c (size + reach a + reach b)) nest in
    let rest = and_parts (clears b (size + reach a)) (clears c (size + reach a + reach b)) first.1 in
    let here = s.at in
    let there = t.at in
    let a1 = near a i1 j1 s.one t.one in
    let a2 = near a j1 i1 t.one s.one in
    let b1 = near b i2 j2 s.two t.two in
    let b2 = near b j2 i2 t.two s.two in
    let e3 : i3 ≡ j3 = one_sample c i3 j3 (size + reach a + reach b) rest.1 s.three t.three (omega arith) (omega arith) in
    let o3 : over c i3 ≡ over c j3 = ap (over c) e3 in
    let u3 : under c i3 ≡ under c j3 = ap (under c) e3 in
    let e2 : i2 ≡ j2 = one_sample b i2 j2 (size + reach a) rest.0 s.two t.two (omega arith) (omega arith) in
    let o2 : over b i2 ≡ over b j2 = ap (over b) e2 in
    let u2 : under b i2 ≡ under b j2 = ap (under b) e2 in
    let e1 : i1 ≡ j1 = one_sample a i1 j1 size first.0 s.one t.one (omega arith) (omega arith) in
    (e1, e2, e3)
