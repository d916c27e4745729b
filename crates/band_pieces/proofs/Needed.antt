-- The pieces that the rows about a band lie in are needed.
use Rattle.std.proofs.Common.{◌≡◌, ℕ, ◌+◌, ◌-◌, ◌*◌, ◌/◌, ◌<◌, ◌≤◌, Bool, true, false, ◌||◌, nat_le, refl, sym, ap, ◌∙◌, subst, inl, inr, arith}
use Rattle.std.specs.Prelude.{◌==◌}
use Rattle.std.proofs.lemmas.Bool.{and_from, cases_eq, eq-eqb, false≢true, le-leb}
use Rattle.std.proofs.lemmas.Nat.{div-mul-add, div_below, le-div}
use Rattle.page_model.specs.declared.bands.Bands.{Bands}
use Rattle.page_model.specs.Bands.{AreBands, band_of, band_of_row, first_row, phase_of, piece_of}
use Rattle.page_model.specs.Columns.{halo}
use Rattle.page_model.proofs.BandLemmas.{bands_near, row_in_band}
use Rattle.band_core.specs.Needs.{halo_bands, is_need, phase_needs}
use Rattle.band_core.proofs.NeedLemmas.{need_from}

-- a row of a band
pub row_here : (h b k : ℕ) → k < h → (b * h + k) / h ≡ b
row_here h b k l = div-mul-add b h k l

or_first : (a b : Bool) → a ≡ true → (a || b) ≡ true
or_first true b e = refl
or_first false b e = absurd (false≢true e)

or_second : (a b : Bool) → b ≡ true → (a || b) ≡ true
or_second true b e = refl
or_second false true e = refl
or_second false false e = absurd (false≢true e)

module _ (bands : Bands) (is : AreBands bands) (i y : ℕ) (inside : y < bands.rows) where
  row_band : band_of_row bands y < bands.count
  row_band = row_in_band bands y is inside

  -- EDGES need the zones of the band and of the next one
  pub zones_below : phase_of bands i ≡ 1 → first_row bands (band_of bands i) ≤ y → y < first_row bands (band_of bands i) + bands.height + 1 → is_need bands i (piece_of bands 0 (band_of_row bands y)) ≡ true
  zones_below p from below =
      need_from bands i 0 (band_of_row bands y) row_band (subst (λ (q : ℕ). phase_needs bands q (band_of bands i) 0 (band_of_row bands y) ≡ true) (sym p) (elim (cases_eq (band_of_row bands y) (band_of bands i)) [
        | inl e ↦ or_first (band_of_row bands y == (band_of bands i)) _ (eq-eqb _ _ e)
        | inr ne ↦ or_second (band_of_row bands y == (band_of bands i)) _ (eq-eqb _ _ (omega (arith, low, high, ne)))
      ])) where
        some : 1 ≤ bands.height
        some = is.some_height

        low : (band_of bands i) ≤ y / bands.height
        low = le-div _ _ _ some (omega (arith, from))

        high : y / bands.height < (band_of bands i) + 2
        high = div_below y bands.height ((band_of bands i) + 2) some (let t : ((band_of bands i) + 2) * bands.height ≡ (band_of bands i) * bands.height + bands.height + bands.height = grind arith in let s = some in omega (arith, t, below, s))

  -- COLUMNS need the marks of the bands that the reach touches
  pub marks_near : phase_of bands i ≡ 2 → first_row bands (band_of bands i) ≤ y + halo bands.reach2 → y < first_row bands (band_of bands i) + bands.height + halo bands.reach2 → is_need bands i (piece_of bands 1 (band_of_row bands y)) ≡ true
  marks_near p from below =
      need_from bands i 1 (band_of_row bands y) row_band (subst (λ (q : ℕ). phase_needs bands q (band_of bands i) 1 (band_of_row bands y) ≡ true) (sym p)
      (and_from (nat_le (band_of_row bands y) ((band_of bands i) + halo_bands bands)) (nat_le (band_of bands i) (band_of_row bands y + halo_bands bands)) (le-leb _ _ low) (le-leb _ _ high))) where
        some : 1 ≤ bands.height
        some = is.some_height

        last : ℕ
        last = (band_of bands i) * bands.height + (bands.height - 1)

        low : band_of_row bands y ≤ (band_of bands i) + halo_bands bands
        low = subst (λ (z : ℕ). y / bands.height ≤ z + halo_bands bands) (row_here bands.height (band_of bands i) (bands.height - 1) (let s = some in omega (arith, s))) (bands_near bands.height (halo bands.reach2) last y some (let s = some in omega (arith, below, s)))

        high : (band_of bands i) ≤ band_of_row bands y + halo_bands bands
        high = subst (λ (z : ℕ). z ≤ y / bands.height + halo_bands bands) (row_here bands.height (band_of bands i) 0 some) (bands_near bands.height (halo bands.reach2) y ((band_of bands i) * bands.height + 0) some (omega (arith, from)))

  same_band : first_row bands (band_of bands i) ≤ y → y < first_row bands (band_of bands i) + bands.height → band_of_row bands y ≡ (band_of bands i)
  same_band from below =
      let k : ℕ = y - (band_of bands i) * bands.height in let e : (band_of bands i) * bands.height + k ≡ y = omega (arith, from) in
      ap (λ (z : ℕ). z / bands.height) (sym e) ∙ row_here bands.height (band_of bands i) k (omega (arith, from, below))

  -- TRAPS need the zones and the answers of the band
  pub zones_here : phase_of bands i ≡ 3 → first_row bands (band_of bands i) ≤ y → y < first_row bands (band_of bands i) + bands.height → is_need bands i (piece_of bands 0 (band_of_row bands y)) ≡ true
  zones_here p from below = need_from bands i 0 (band_of_row bands y) row_band (subst (λ (q : ℕ). phase_needs bands q (band_of bands i) 0 (band_of_row bands y) ≡ true) (sym p) (eq-eqb _ _ (same_band from below)))

  pub answers_here : phase_of bands i ≡ 3 → first_row bands (band_of bands i) ≤ y → y < first_row bands (band_of bands i) + bands.height → is_need bands i (piece_of bands 2 (band_of_row bands y)) ≡ true
  answers_here p from below = need_from bands i 2 (band_of_row bands y) row_band (subst (λ (q : ℕ). phase_needs bands q (band_of bands i) 2 (band_of_row bands y) ≡ true) (sym p) (eq-eqb _ _ (same_band from below)))
