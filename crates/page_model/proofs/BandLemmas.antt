-- Bands, where they begin, and the pieces of work in them.
use Rattle.std.proofs.Common.{◌≡◌, ℕ, suc, ◌+◌, ◌-◌, ◌*◌, ◌/◌, ◌<◌, ◌≤◌, arith, div-add-mod', mul-le-mul_right, inl, inr, suc-mul}
use Rattle.std.proofs.lemmas.Nat.{div-mul-add, mod-mul-add, mul-add-lt, le-div, div_below}
use Rattle.std.proofs.Math.Nat.{mod-lt, div-mul-le_self}
use Rattle.std.proofs.lemmas.Bool.{cases_order}
use Rattle.page_model.specs.declared.bands.Bands.{Bands}
use Rattle.page_model.specs.Bands.{AreBands, ceiling, pieces_of, piece_of, phase_of, band_of}

-- a row of the page lies in a band
pub ceiling-above : (rows height y : ℕ) → 1 ≤ height → y < rows → y / height < ceiling rows height
ceiling-above rows height y h l =
    let up : suc (y / height) ≤ (rows + height - 1) / height = le-div _ _ _ h (let t = div-mul-le_self y height in omega (arith, t, l, h, suc-mul (y / height) height)) in
    omega (arith, up)

-- a band begins on the page
pub ceiling-below : (rows height b : ℕ) → 1 ≤ height → 1 ≤ rows → b < ceiling rows height → b * height < rows
ceiling-below rows height b h r l =
    let t : (suc b) * height ≤ (rows + height - 1) / height * height = mul-le-mul_right height (omega (arith, l)) in
    omega (arith, t, suc-mul b height, div-mul-le_self (rows + height - 1) height, h, r)

pub some_bands : (rows height : ℕ) → 1 ≤ height → 1 ≤ rows → 1 ≤ (rows + height - 1) / height
some_bands rows height h r = le-div _ _ _ h (omega (arith, h, r))

pub few_bands : (rows height : ℕ) → 1 ≤ height → 1 ≤ rows → rows ≤ 16384 → (rows + height - 1) / height ≤ 16384
few_bands rows height h r f = elim (cases_order ((rows + height - 1) / height) 16384) [
  | inl e ↦ omega (arith, e)
  | inr (inl l) ↦ omega (arith, l)
  | inr (inr l) ↦ (let t : 16384 * height < rows = ceiling-below rows height 16384 h r l in let u : 16384 * 1 ≤ 16384 * height = omega (arith, h) in absurd (omega (arith, t, u, f)))
]

pub band_begins : (bands : Bands) (b : ℕ) → AreBands bands → b < bands.count → b * bands.height < bands.rows
band_begins bands b is l = ceiling-below bands.rows bands.height b is.some_height is.some_rows (omega (arith, l, is.count))

pub piece_inside : (phase band count : ℕ) → phase < 4 → band < count → phase * count + band < 4 * count
piece_inside phase band count p l = let t = mul-add-lt phase count band 4 p l in omega (arith, t)

pub phase_of_piece : (bands : Bands) (phase band : ℕ) → band < bands.count → phase_of bands (piece_of bands phase band) ≡ phase
phase_of_piece bands phase band l = div-mul-add phase bands.count band l

pub band_of_piece : (bands : Bands) (phase band : ℕ) → band < bands.count → band_of bands (piece_of bands phase band) ≡ band
band_of_piece bands phase band l = mod-mul-add phase bands.count band l

pub piece-is : (bands : Bands) (i : ℕ) → piece_of bands (phase_of bands i) (band_of bands i) ≡ i
piece-is bands i = div-add-mod' i bands.count

pub band-less : (bands : Bands) (i : ℕ) → AreBands bands → band_of bands i < bands.count
band-less bands i is = mod-lt i is.some_bands

pub phase-less : (bands : Bands) (i : ℕ) → i < pieces_of bands → phase_of bands i < 4
phase-less bands i l = elim (cases_order (phase_of bands i) 4) [
  | inl e ↦ (let t = div-mul-le_self i bands.count in let u : 4 * bands.count ≤ i / bands.count * bands.count = mul-le-mul_right bands.count (omega (arith, e)) in absurd (omega (arith, t, u, l)))
  | inr (inl less) ↦ less
  | inr (inr more) ↦ (let t = div-mul-le_self i bands.count in let u : 4 * bands.count ≤ i / bands.count * bands.count = mul-le-mul_right bands.count (omega (arith, more)) in absurd (omega (arith, t, u, l)))
]

-- a piece of an earlier phase has a lesser number
pub earlier_phase : (bands : Bands) (i n : ℕ) → AreBands bands → phase_of bands n < phase_of bands i → n < i
earlier_phase bands i n is l =
    let t : suc (n / bands.count) * bands.count ≤ i / bands.count * bands.count = mul-le-mul_right bands.count (omega (arith, l)) in
    omega (arith, t, suc-mul (n / bands.count) bands.count, div-add-mod' n bands.count, div-add-mod' i bands.count, mod-lt n is.some_bands)

-- so many rows are in no more bands than they fill when cut up
pub ceiling-holds : (d h : ℕ) → 1 ≤ h → d ≤ ceiling d h * h
ceiling-holds d h some = let t = div-add-mod' (d + h - 1) h in let u = mod-lt (d + h - 1) some in omega (arith, t, u, some)

-- rows that are at most so far apart lie in bands that are so near
pub bands_near : (h d y r : ℕ) → 1 ≤ h → r ≤ y + d → r / h ≤ y / h + ceiling d h
bands_near h d y r some l =
    let q : ℕ = y / h in let k : ℕ = ceiling d h in
    let e : (q + k + 1) * h ≡ q * h + k * h + h = grind arith in
    let t : r < (q + k + 1) * h = (let a = div-add-mod' y h in let b = mod-lt y some in let c = ceiling-holds d h some in omega (arith, e, a, b, c, l)) in
    let u : r / h < q + k + 1 = div_below r h (q + k + 1) some t in omega (arith, u)

pub row_in_band : (bands : Bands) (y : ℕ) → AreBands bands → y < bands.rows → y / bands.height < bands.count
row_in_band bands y is l = let t = ceiling-above bands.rows bands.height y is.some_height l in omega (arith, t, is.count)
