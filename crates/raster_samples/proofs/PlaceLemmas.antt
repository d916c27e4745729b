-- Samples of a raster in memory: they lie inside, and no two overlap.
use Rattle.std.proofs.Common.{◌≡◌, ℕ, ◌+◌, ◌-◌, ◌*◌, ◌<◌, ◌≤◌, true, inl, inr, subst, arith}
use Rattle.std.proofs.lemmas.Bool.{and_parts, leb-true, or_cases}
use Rattle.std.proofs.lemmas.Nat.{mul-le}
use Rattle.raster_samples.specs.declared.raster.Raster.{Raster}
use Rattle.raster_samples.specs.Strides.{backward, forward}
use Rattle.raster_samples.specs.declared.raster.Access.{Access}
use Rattle.raster_samples.specs.declared.raster.Access.TheVariants.{Write}
use Rattle.raster_samples.specs.Checks.{IsRaster, are_apart, are_inside, are_nested, may_be}
use Rattle.raster_samples.specs.Places.{AreApart, AreInside, IsAt, ahead, begins, behind}
use Rattle.raster_samples.proofs.NestLemmas.{nested}

before_last : (n i s : ℕ) → i < n → i * s ≤ (n - 1) * s
before_last n i s l = mul-le i s (n - 1) s (omega arith) (omega arith)

-- no sample is farther behind than the last ones, or farther ahead
pub behind_most : (r : Raster) (c y x : ℕ) → IsAt r c y x → behind r c y x ≤ behind r (r.planes.count - 1) (r.rows.count - 1) (r.pixels.count - 1)
behind_most r c y x at =
    let p = before_last r.planes.count c (backward r.planes.stride) at.plane in
    let q = before_last r.rows.count y (backward r.rows.stride) at.row in
    let s = before_last r.pixels.count x (backward r.pixels.stride) at.column in
    omega arith

pub ahead_most : (r : Raster) (c y x : ℕ) → IsAt r c y x → ahead r c y x ≤ ahead r (r.planes.count - 1) (r.rows.count - 1) (r.pixels.count - 1)
ahead_most r c y x at =
    let p = before_last r.planes.count c (forward r.planes.stride) at.plane in
    let q = before_last r.rows.count y (forward r.rows.stride) at.row in
    let s = before_last r.pixels.count x (forward r.pixels.stride) at.column in
    omega arith

-- the bytes of each sample lie between those of the farthest
pub bounds : (r : Raster) (total c y x : ℕ) → IsRaster r total → IsAt r c y x → (behind r c y x ≤ r.origin) × (r.origin + ahead r c y x + r.sample_size ≤ total)
bounds r total c y x fits at =
    let low = behind_most r c y x at in
    let high = ahead_most r c y x at in
    let least = fits.low in
    let greatest = fits.high in
    (omega arith, omega arith)

pub inside : (r : Raster) (total : ℕ) → IsRaster r total → AreInside r total
inside r total fits = λ c y x at. (
    let both = bounds r total c y x fits at in
    record { low = omega arith; high = omega arith })

-- the place of a sample, without a difference
place_is : (r : Raster) (c y x : ℕ) → behind r (r.planes.count - 1) (r.rows.count - 1) (r.pixels.count - 1) ≤ r.origin → IsAt r c y x → begins r c y x + behind r c y x ≡ r.origin + ahead r c y x
place_is r c y x low at =
    let most = behind_most r c y x at in
    omega arith

pub apart : (r : Raster) → behind r (r.planes.count - 1) (r.rows.count - 1) (r.pixels.count - 1) ≤ r.origin → are_apart r ≡ true → AreApart r
apart r low nest = λ c y x d z w k at bt has had. (
    let here = place_is r c y x low at in
    let there = place_is r d z w low bt in
    let p = begins r c y x in
    let q = begins r d z w in
    let from = has.from in
    let to = has.to in
    let other_from = had.from in
    let other_to = had.to in
    let up : p < q + r.sample_size = omega arith in
    let down : q < p + r.sample_size = omega arith in
    elim (or_cases (are_nested r.sample_size r.pixels r.rows r.planes) _ nest) [
      | inl h ↦ (let e = nested r.sample_size r.origin p q r.pixels r.rows r.planes x y c w z d h (record { one = at.column; two = at.row; three = at.plane; at = omega arith }) (record { one = bt.column; two = bt.row; three = bt.plane; at = omega arith }) up down in (e.2, e.1, e.0))
      | inr more ↦ elim (or_cases (are_nested r.sample_size r.pixels r.planes r.rows) _ more) [
        | inl h ↦ (let e = nested r.sample_size r.origin p q r.pixels r.planes r.rows x c y w d z h (record { one = at.column; two = at.plane; three = at.row; at = omega arith }) (record { one = bt.column; two = bt.plane; three = bt.row; at = omega arith }) up down in (e.1, e.2, e.0))
        | inr more2 ↦ elim (or_cases (are_nested r.sample_size r.planes r.pixels r.rows) _ more2) [
          | inl h ↦ (let e = nested r.sample_size r.origin p q r.planes r.pixels r.rows c x y d w z h (record { one = at.plane; two = at.column; three = at.row; at = omega arith }) (record { one = bt.plane; two = bt.column; three = bt.row; at = omega arith }) up down in (e.0, e.2, e.1))
          | inr more3 ↦ elim (or_cases (are_nested r.sample_size r.planes r.rows r.pixels) _ more3) [
            | inl h ↦ (let e = nested r.sample_size r.origin p q r.planes r.rows r.pixels c y x d z w h (record { one = at.plane; two = at.row; three = at.column; at = omega arith }) (record { one = bt.plane; two = bt.row; three = bt.column; at = omega arith }) up down in (e.0, e.1, e.2))
            | inr more4 ↦ elim (or_cases (are_nested r.sample_size r.rows r.pixels r.planes) _ more4) [
              | inl h ↦ (let e = nested r.sample_size r.origin p q r.rows r.pixels r.planes y x c z w d h (record { one = at.row; two = at.column; three = at.plane; at = omega arith }) (record { one = bt.row; two = bt.column; three = bt.plane; at = omega arith }) up down in (e.2, e.0, e.1))
              | inr h ↦ (let e = nested r.sample_size r.origin p q r.rows r.planes r.pixels y c x z d w h (record { one = at.row; two = at.plane; three = at.column; at = omega arith }) (record { one = bt.row; two = bt.plane; three = bt.column; at = omega arith }) up down in (e.1, e.0, e.2))
            ]
          ]
        ]
      ]
    ])

-- a raster that may be written has no two samples that overlap
pub checked_apart : (access : Access) (r : Raster) (total : ℕ) → may_be access r ≡ true → are_inside r total ≡ true → access ≡ Write → AreApart r
checked_apart access r total may within e =
    apart r (leb-true _ _ (and_parts _ _ within).0) (subst (λ (a : Access). may_be a r ≡ true) e may)
