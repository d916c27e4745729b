-- The halo law: on a sound board the recipe gives each cell of a piece whose needs are done.
use Rattle.std.proofs.Common.{◌≡◌, ℕ, zero, suc, ◌+◌, ◌-◌, ◌*◌, ◌/◌, ◌%◌, ◌<◌, ◌≤◌, true, refl, sym, ◌∙◌, inl, inr, arith, subst, div-add-mod'}
use Rattle.std.specs.Prelude.{min}
use Rattle.std.proofs.lemmas.Bool.{cases_eq}
use Rattle.std.proofs.lemmas.Nat.{div-mul-add, mod-mul-add, mul-add-lt, div_below}
use Rattle.std.proofs.Math.Nat.{mod-lt}
use Rattle.page_model.specs.declared.parts.PageParts.{PageParts}
use Rattle.page_model.specs.Page.{height}
use Rattle.page_model.specs.Reach.{page_reach}
use Rattle.page_model.specs.Bands.{band_of_row, phase_of, band_of, piece_of, rows_in}
use Rattle.band_core.specs.Needs.{is_need}
use Rattle.page_model.proofs.BandLemmas.{row_in_band, phase_of_piece, band_of_piece, phase-less}
use Rattle.band_core.proofs.NeedLemmas.{need_less, need_earlier}
use Rattle.band_core.specs.Layouts.{Layout}
use Rattle.band_core.specs.Places.{piece_count, per_row, lanes_of, value_total, first_cell_of}
use Rattle.band_core.specs.Shapes.{shape_of}
use Rattle.band_core.specs.TableShapes.{Has}
use Rattle.band_core.specs.Boards.{Board, cell_at, is_done}
use Rattle.band_core.specs.Runs.{Sound, Halo}
use Rattle.band_core.specs.Values.{IsFor, row_value, row_of, place_of, value, cell}
use Rattle.band_core.specs.Recipe.{stored, unpacked, value_by, HoldsNeeds, recipe}
use Rattle.band_core.specs.Laws.{PhaseLaw}
use Rattle.band_core.proofs.Shapes.{is_shape, has_cell}
use Rattle.band_core.proofs.Cells.{cell_same, cell_inside, unpacked_is}
use Rattle.band_core.proofs.Fits.{value_fits}
use Rattle.band_core.proofs.Ideal.{row_ideal}
use Rattle.band_core.proofs.Local.{row_alike}

-- value k of a piece lies in a row of its band
pub record Lies (page : PageParts) (layout : Layout) (i k : ℕ) : Type 0 where
  pub inside : row_of layout i k < height page
  pub here : band_of_row layout.bands (row_of layout i k) ≡ band_of layout.bands i
  pub along : place_of layout i k < per_row layout (phase_of layout.bands i)

row_lies : (b h rows k per : ℕ) → k < min h (rows - b * h) * per → (b * h + k / per < rows) × ((b * h + k / per) / h ≡ b) × (k % per < per)
row_lies b h rows k per l = elim (cases_eq per 0) [
  | inl e ↦ (let t : k < min h (rows - b * h) * 0 = rw e at l in absurd (omega (arith, t)))
  | inr some ↦ (let r : k / per < min h (rows - b * h) = div_below k per (min h (rows - b * h)) (omega (arith, some)) l in (omega (arith, r), div-mul-add b h (k / per) (omega (arith, r)), mod-lt k (omega (arith, some))))
]

pub lies : (page : PageParts) (layout : Layout) (i k : ℕ) → IsFor page layout → k < value_total layout i → Lies page layout i k
lies page layout i k is l =
    let t = row_lies (band_of layout.bands i) layout.bands.height layout.bands.rows k (per_row layout (phase_of layout.bands i)) l in
    let a = t.0 in let tall = is.tall in record { inside = omega (arith, a, tall); here = t.1; along = t.2 }

-- by what its needs hold each value of a piece of that phase is that of the page
of_phase : (phase : ℕ) → phase < 4 → PhaseLaw phase
of_phase phase few page layout is read i k l e m known =
    let s = lies page layout i k is m in let here = phase-less layout.bands i l in
    row_alike page layout is read (row_value page) i (row_of layout i k) known s.inside s.here (phase_of layout.bands i) refl here (place_of layout i k) s.along
    ∙ row_ideal page layout is (band_of layout.bands i) (row_of layout i k) (place_of layout i k) (phase_of layout.bands i) s.here here

pub zones_law : PhaseLaw 0
zones_law = of_phase 0 (omega arith)

pub edges_law : PhaseLaw 1
edges_law = of_phase 1 (omega arith)

pub columns_law : PhaseLaw 2
columns_law = of_phase 2 (omega arith)

pub traps_law : PhaseLaw 3
traps_law = of_phase 3 (omega arith)

-- one of the four
pub each_phase : (phase : ℕ) → phase < 4 → PhaseLaw phase
each_phase zero l = zones_law
each_phase (suc zero) l = edges_law
each_phase (suc (suc zero)) l = columns_law
each_phase (suc (suc (suc zero))) l = traps_law
each_phase (suc (suc (suc (suc phase)))) l = absurd (omega (arith, l))

-- row y at place o is value k of the piece of its band
pub row_there : (h y per o : ℕ) → o < per → y / h * h + (y % h * per + o) / per ≡ y
row_there h y per o l = let t = div-mul-add (y % h) per o l in let u = div-add-mod' y h in omega (arith, t, u)

pub number_below : (h y rows per o : ℕ) → 1 ≤ h → y < rows → o < per → y % h * per + o < min h (rows - y / h * h) * per
number_below h y rows per o some l m =
    let r : y % h < min h (rows - y / h * h) = (let t = div-add-mod' y h in let u = mod-lt y some in omega (arith, t, u, l)) in
    let v = mul-add-lt (y % h) per o (min h (rows - y / h * h)) r m in let e : per * min h (rows - y / h * h) ≡ min h (rows - y / h * h) * per = grind arith in omega (arith, v, e)

module _ (page : PageParts) (layout : Layout) (is : IsFor page layout) (board : Board) (r : Sound (shape_of layout) (cell page layout) board) where
  -- a done piece holds its defined cells
  done_cell : (n j : ℕ) → Has (shape_of layout) n j → is_done board n ≡ true → cell_at board j ≡ cell page layout j
  done_cell n j h d = elim (r.cells j (let t = (is_shape layout is.made).inside n h.piece in let b = h.below in omega (arith, t, b))) [
    | inl empty ↦ absurd (r.full n j h d empty)
    | inr there ↦ there
  ]

  done_value : (n k : ℕ) → n < piece_count layout → phase_of layout.bands n < 3 → k < value_total layout n → is_done board n ≡ true → unpacked layout board n k ≡ value page layout n k
  done_value n k l early m d =
      let c = cell_inside layout n k m in
      let few : page_reach page ≤ 256 = (let reach = is.reach in let near = is.made.bands.near in omega (arith, reach, near)) in
      unpacked_is layout (value page layout) board n k l m (λ h q. value_fits page (phase_of layout.bands n) (row_of layout n h) (place_of layout n h) is.valid few early)
      (done_cell n (first_cell_of layout n + k / lanes_of (phase_of layout.bands n)) (record { piece = l; from = c.from; below = c.below }) d)

  holds : (i : ℕ) → i < piece_count layout → ((n : ℕ) → is_need layout.bands i n ≡ true → is_done board n ≡ true) → HoldsNeeds page layout (stored layout board) i
  unfolding stored
  holds i l done phase y o need inside along =
      let h : ℕ = layout.bands.height in let per : ℕ = per_row layout phase in let b : ℕ = y / h in
      let n : ℕ = piece_of layout.bands phase b in let k : ℕ = y % h * per + o in
      let bands = is.made.bands in let tall = is.tall in
      let row : y < layout.bands.rows = omega (arith, inside, tall) in
      let band = row_in_band layout.bands y bands row in
      let e = phase_of_piece layout.bands phase b band in let f = band_of_piece layout.bands phase b band in
      let less = need_less layout.bands i n bands need in
      let early = need_earlier layout.bands i n need in let four = phase-less layout.bands i l in
      let number : k < value_total layout n = subst (λ (q : ℕ). k < rows_in layout.bands (band_of layout.bands n) * per_row layout q) (sym e) (subst (λ (c : ℕ). k < rows_in layout.bands c * per) (sym f) (number_below h y layout.bands.rows per o bands.some_height row along)) in
      done_value n k (omega (arith, less, l)) (omega (arith, early, four)) number (done n need)
      ∙ ((λ z. row_value page (e z) (f z * h + k / per_row layout (e z)) (k % per_row layout (e z)))
      ∙ (λ z. row_value page phase (row_there h y per o along z) (mod-mul-add (y % h) per o along z)))

pub halo : (page : PageParts) (layout : Layout) → IsFor page layout → Halo (shape_of layout) (cell page layout) (recipe page layout)
halo page layout is = λ board r i j h done.
    cell_same layout (value_by page layout (stored layout board)) (value page layout) i j h.piece (has_cell layout i j h)
    (λ k l. each_phase (phase_of layout.bands i) (phase-less layout.bands i h.piece) page layout is (stored layout board) i k h.piece refl l (holds page layout is board r i h.piece done))
