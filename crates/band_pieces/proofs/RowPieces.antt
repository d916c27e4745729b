-- Which values of which piece the values of a row are.
use Rattle.std.proofs.Common.{◌≡◌, ℕ, ◌+◌, ◌-◌, ◌*◌, ◌/◌, ◌%◌, ◌<◌, ◌≤◌, sym, subst, inl, inr, ne_eqb, arith}
use Rattle.std.proofs.Math.Nat.{mul-le-mul_right}
use Rattle.std.proofs.lemmas.Bool.{cases_eq}
use Rattle.std.proofs.lemmas.Nat.{mul-add-lt}
use Rattle.page_model.specs.Bands.{band_of_row, piece_of}
use Rattle.page_model.proofs.BandLemmas.{row_in_band}
use Rattle.band_core.specs.Layouts.{IsLayout, Layout}
use Rattle.band_core.specs.Places.{per_row, value_total}
use Rattle.band_core.specs.Values.{row_value, value}
use Rattle.band_core.proofs.Bridges.{rows_of_pieces}
use Rattle.band_claims.specs.declared.table_key.TableKey.{TableKey}
use Rattle.band_claims.specs.TableKeys.{IsFit}

-- over a layout that is the key's
pub record Row (key : TableKey) (layout : Layout) (phase y : ℕ) : Type 0 where
  pub same : layout ≡ key.layout
  pub fit : IsFit key
  pub inside : y < layout.bands.rows

pub row_band : (key : TableKey) (layout : Layout) (phase y : ℕ) → Row key layout phase y → y / layout.bands.height < layout.bands.count
row_band key layout phase y r =
    subst (λ (z : Layout). y / z.bands.height < z.bands.count) (sym r.same) (row_in_band key.layout.bands y r.fit.made.bands (subst (λ (z : Layout). y < z.bands.rows) r.same r.inside))

tall : (key : TableKey) (layout : Layout) (phase y : ℕ) → Row key layout phase y → y < key.layout.bands.rows
tall key layout phase y r = subst (λ (z : Layout). y < z.bands.rows) r.same r.inside

whole : (from per total : ℕ) → 1 ≤ per → ((o : ℕ) → o < per → from + o < total) → from + per ≤ total
whole from per total some h = let t = h (per - 1) (omega (arith, some)) in omega (arith, t, some)

-- the row's values end within those of the piece
pub row_ends : (key : TableKey) (layout : Layout) (phase y : ℕ) → Row key layout phase y → 1 ≤ per_row layout phase
    → y % layout.bands.height * per_row layout phase + per_row layout phase ≤ value_total layout (piece_of layout.bands phase (band_of_row layout.bands y))
row_ends key layout phase y r some =
    subst (λ (z : Layout). y % z.bands.height * per_row z phase + per_row z phase ≤ value_total z (piece_of z.bands phase (band_of_row z.bands y))) (sym r.same)
    (whole _ _ _ (subst (λ (z : Layout). 1 ≤ per_row z phase) r.same some)
    (λ o l. (rows_of_pieces key.page.value key.layout r.fit phase y o (let t = tall key layout phase y r in let e = r.fit.tall in omega (arith, t, e)) l).0))

pub row_values_are : (key : TableKey) (layout : Layout) (phase y o : ℕ) → Row key layout phase y → o < per_row layout phase
    → value key.page.value layout (piece_of layout.bands phase (band_of_row layout.bands y)) (y % layout.bands.height * per_row layout phase + o) ≡ row_value key.page.value phase y o
row_values_are key layout phase y o r l =
    subst (λ (z : Layout). value key.page.value z (piece_of z.bands phase (band_of_row z.bands y)) (y % z.bands.height * per_row z phase + o) ≡ row_value key.page.value phase y o) (sym r.same)
    (rows_of_pieces key.page.value key.layout r.fit phase y o (let t = tall key layout phase y r in let e = r.fit.tall in omega (arith, t, e)) (subst (λ (z : Layout). o < per_row z phase) r.same l)).1

-- each phase has a value in a row
pub some_per_row : (layout : Layout) (phase : ℕ) → 1 ≤ layout.width → 1 ≤ layout.plates → 1 ≤ per_row layout phase
some_per_row layout phase wide deep = elim (cases_eq phase 2) [
  | inl e ↦ rw e (omega (arith, wide))
  | inr n2 ↦ elim (cases_eq phase 3) [
    | inl e ↦ rw e (let t : 1 * layout.width ≤ layout.plates * layout.width = mul-le-mul_right layout.width deep in omega (arith, t, wide))
    | inr n3 ↦ rw (ne_eqb phase 2 n2, ne_eqb phase 3 n3) wide
  ]
]

-- sample x of a plate has its place in the row
pub plate_inside : (layout : Layout) (plate x : ℕ) → plate < layout.plates → x < layout.width → plate * layout.width + x < layout.plates * layout.width
plate_inside layout plate x lp lx = omega (arith, mul-add-lt plate layout.width x layout.plates lp lx)

-- and a plate's values of the row end within those of the piece
pub plate_ends : (key : TableKey) (layout : Layout) (y plate : ℕ) → Row key layout 3 y → plate < layout.plates
    → y % layout.bands.height * (layout.plates * layout.width) + plate * layout.width + layout.width ≤ value_total layout (piece_of layout.bands 3 (band_of_row layout.bands y))
plate_ends key layout y plate r l =
    let made = subst (λ (z : Layout). IsLayout z) (sym r.same) r.fit.made in
    let t = row_ends key layout 3 y r (some_per_row layout 3 made.some_width made.some_plates) in
    let p : (plate + 1) * layout.width ≤ layout.plates * layout.width = mul-le-mul_right layout.width (omega (arith, l)) in
    let one : (plate + 1) * layout.width ≡ plate * layout.width + layout.width = omega arith in
    omega (arith, t, p, one)
