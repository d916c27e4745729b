-- The values of a band's rows, as readers and makers hold them, and as a piece's.
use Rattle.std.proofs.Common.{◌≡◌, ℕ, ◌+◌, ◌-◌, ◌*◌, ◌/◌, ◌%◌, ◌<◌, List, length, sym, ap, ◌∙◌, subst, inl, inr, arith, div-add-mod'}
use Rattle.std.specs.Prelude.{slice_index}
use Rattle.std.proofs.Math.Nat.{mod-lt}
use Rattle.std.proofs.lemmas.Bool.{cases_eq}
use Rattle.std.proofs.lemmas.Nat.{div-mul-add, div_below, mod-mul-add}
use Rattle.page_model.specs.declared.parts.PageParts.{PageParts}
use Rattle.page_model.specs.Bands.{band_of, phase_of, rows_in}
use Rattle.page_model.specs.Deciding.{mark}
use Rattle.page_model.specs.Page.{plates, width}
use Rattle.page_model.specs.Tints.{new}
use Rattle.band_core.specs.Layouts.{Layout}
use Rattle.band_core.specs.Places.{per_row, value_total}
use Rattle.band_core.specs.Values.{IsFor, row_value, value}
use Rattle.band_claims.specs.declared.table_key.TableKey.{TableKey}
use Rattle.band_claims.specs.TableKeys.{IsFit}
use Rattle.row_values.specs.declared.rows.Rows.{Rows}
use Rattle.row_values.specs.Rows.{HoldsAnswers, HoldsMarks, HoldsRows, HoldsTints, HoldsZones, answer_value, tint_value, zone_value}
use Rattle.band_claims.specs.Filled.{AreValues}
use Rattle.band_pieces.specs.Spans.{rows_of_piece}

-- the values of a band's rows are those of its piece
pub are_values : (key : TableKey) (layout : Layout) (i : ℕ) (items : List ℕ) → layout ≡ key.layout → HoldsRows (per_row layout (phase_of layout.bands i)) (row_value key.page.value (phase_of layout.bands i)) (rows_of_piece layout.bands i) items → AreValues key i items
are_values key layout i items same h = record {
  long = subst (λ (z : Layout). length items ≡ value_total z i) same h.long;
  each = λ k l. subst (λ (z : Layout). slice_index items k ≡ value key.page.value z i k) same (one k (let t = h.long in omega (arith, l, t)));
} where
  per : ℕ
  per = per_row layout (phase_of layout.bands i)

  one : (k : ℕ) → k < rows_in layout.bands (band_of layout.bands i) * per → slice_index items k ≡ value key.page.value layout i k
  one k l = elim (cases_eq per 0) [
    | inl e ↦ (let t : k < rows_in layout.bands (band_of layout.bands i) * 0 = rw e at l in absurd (omega (arith, t)))
    | inr some ↦ ap (slice_index items) (sym (div-add-mod' k per)) ∙ h.each (k / per) (k % per) (div_below k per _ (omega (arith, some)) l) (mod-lt k (omega (arith, some)))
  ]

pub zones_from : (page : PageParts) (layout : Layout) (rows : Rows) (items : List ℕ) → layout.width ≡ width page → HoldsRows (per_row layout 0) (row_value page 0) rows items → HoldsZones page rows items
unfolding row_value
zones_from page layout rows items e h = subst (λ (w : ℕ). HoldsRows w (zone_value page) rows items) e h

pub marks_from : (page : PageParts) (layout : Layout) (rows : Rows) (items : List ℕ) → layout.width ≡ width page → HoldsRows (per_row layout 1) (row_value page 1) rows items → HoldsMarks page rows items
unfolding row_value
marks_from page layout rows items e h = subst (λ (w : ℕ). HoldsRows w (mark page) rows items) e h

pub answers_from : (page : PageParts) (layout : Layout) (rows : Rows) (items : List ℕ) → layout.width ≡ width page → HoldsRows (per_row layout 2) (row_value page 2) rows items → HoldsAnswers page rows items
unfolding row_value
answers_from page layout rows items e h = subst (λ (w : ℕ). HoldsRows (2 * w - 1) (answer_value page) rows items) e h

pub tints_from : (page : PageParts) (layout : Layout) (rows : Rows) (items : List ℕ) → layout.width ≡ width page → layout.plates ≡ plates page → HoldsRows (per_row layout 3) (row_value page 3) rows items → HoldsTints page rows items
unfolding row_value
tints_from page layout rows items e d h = subst (λ (c : ℕ). HoldsRows (c * width page) (tint_value page) rows items) d (subst (λ (w : ℕ). HoldsRows (layout.plates * w) (tint_value page) rows items) e h)

pub zones_to : (page : PageParts) (layout : Layout) (phase : ℕ) (rows : Rows) (items : List ℕ) → layout.width ≡ width page → phase ≡ 0 → HoldsZones page rows items → HoldsRows (per_row layout phase) (row_value page phase) rows items
unfolding row_value
zones_to page layout phase rows items e p h = subst (λ (q : ℕ). HoldsRows (per_row layout q) (row_value page q) rows items) (sym p) (subst (λ (w : ℕ). HoldsRows w (zone_value page) rows items) (sym e) h)

pub marks_to : (page : PageParts) (layout : Layout) (phase : ℕ) (rows : Rows) (items : List ℕ) → layout.width ≡ width page → phase ≡ 1 → HoldsMarks page rows items → HoldsRows (per_row layout phase) (row_value page phase) rows items
unfolding row_value
marks_to page layout phase rows items e p h = subst (λ (q : ℕ). HoldsRows (per_row layout q) (row_value page q) rows items) (sym p) (subst (λ (w : ℕ). HoldsRows w (mark page) rows items) (sym e) h)

pub answers_to : (page : PageParts) (layout : Layout) (phase : ℕ) (rows : Rows) (items : List ℕ) → layout.width ≡ width page → phase ≡ 2 → HoldsAnswers page rows items → HoldsRows (per_row layout phase) (row_value page phase) rows items
unfolding row_value
answers_to page layout phase rows items e p h = subst (λ (q : ℕ). HoldsRows (per_row layout q) (row_value page q) rows items) (sym p) (subst (λ (w : ℕ). HoldsRows (2 * w - 1) (answer_value page) rows items) (sym e) h)

pub tints_to : (page : PageParts) (layout : Layout) (phase : ℕ) (rows : Rows) (items : List ℕ) → layout.width ≡ width page → layout.plates ≡ plates page → phase ≡ 3 → HoldsTints page rows items → HoldsRows (per_row layout phase) (row_value page phase) rows items
unfolding row_value
tints_to page layout phase rows items e d p h = subst (λ (q : ℕ). HoldsRows (per_row layout q) (row_value page q) rows items) (sym p) (subst (λ (w : ℕ). HoldsRows (layout.plates * w) (tint_value page) rows items) (sym e) (subst (λ (c : ℕ). HoldsRows (c * width page) (tint_value page) rows items) (sym d) h))

-- of a band's rows that were made
pub made_values : (key : TableKey) (page : PageParts) (layout : Layout) (i : ℕ) (rows : Rows) (items : List ℕ) → layout ≡ key.layout → page ≡ key.page.value → rows ≡ rows_of_piece layout.bands i → HoldsRows (per_row layout (phase_of layout.bands i)) (row_value page (phase_of layout.bands i)) rows items → AreValues key i items
made_values key page layout i rows items same e r h =
    are_values key layout i items same (subst (λ (p : PageParts). HoldsRows (per_row layout (phase_of layout.bands i)) (row_value p (phase_of layout.bands i)) (rows_of_piece layout.bands i) items) e (subst (λ (z : Rows). HoldsRows (per_row layout (phase_of layout.bands i)) (row_value page (phase_of layout.bands i)) z items) r h))

-- the layout fits the page
pub lies_for : (key : TableKey) (page : PageParts) (layout : Layout) → page ≡ key.page.value → layout ≡ key.layout → IsFit key → IsFor page layout
lies_for key page layout e same fit = subst (λ (p : PageParts). IsFor p layout) (sym e) (subst (λ (z : Layout). IsFor key.page.value z) (sym same) fit)

-- a value of a row's tints is that of its plate and sample
pub plate_value : (page : PageParts) (w plate x y : ℕ) → w ≡ width page → x < width page → row_value page 3 y (plate * w + x) ≡ new page (record { x = x; y = y }) plate
unfolding row_value
plate_value page w plate x y ew l =
    ap (λ (n : ℕ). row_value page 3 y (plate * n + x)) ew
    ∙ ap (λ (n : ℕ). new page (record { x = n; y = y }) ((plate * width page + x) / width page)) (mod-mul-add plate (width page) x l)
    ∙ ap (new page (record { x = x; y = y })) (div-mul-add plate (width page) x l)
