-- The recipe reads the cells of the needs and nothing else: where these agree on two boards, so do its values.
use Rattle.std.proofs.Common.{◌≡◌, ◌⊎◌, ℕ, zero, suc, ◌+◌, ◌-◌, ◌*◌, ◌/◌, ◌%◌, ◌<◌, ◌≤◌, ◌==◌, Bool, true, false, ◌&&◌, nat_lt, nat_le, bit_and, refl, sym, ap, ◌∙◌, inl, inr, arith, subst}
use Rattle.std.specs.Prelude.{if◌then◌else◌}
use Rattle.std.proofs.lemmas.Nat.{div-mul-add, le-div}
use Rattle.std.proofs.lemmas.Bool.{cases_eq, and_from, or_left, or_right, eq-eqb, leb-true, ltb-true}
use Rattle.std.proofs.Math.Nat.{mod-lt, div-mul-le_self}
use Rattle.page_model.specs.declared.parts.At.{At}
use Rattle.page_model.specs.declared.parts.EdgeAt.{EdgeAt}
use Rattle.page_model.specs.declared.parts.PageParts.{PageParts}
use Rattle.page_model.specs.Columns.{offset_code}
use Rattle.page_model.specs.Decider.{grid_rows}
use Rattle.page_model.specs.Deciding.{decides_in}
use Rattle.page_model.specs.Edges.{first, second, right_edge, lower_edge, d2}
use Rattle.page_model.specs.Marks.{mark_bit}
use Rattle.page_model.specs.Page.{width, height}
use Rattle.lists.specs.Words.{gap}
use Rattle.page_model.proofs.PageLemmas.{plane_of}
use Rattle.page_model.specs.declared.bands.Bands.{Bands}
use Rattle.page_model.specs.Bands.{AreBands, ceiling, band_of_row, phase_of, band_of}
use Rattle.band_core.specs.Needs.{phase_needs, near_bands}
use Rattle.page_model.proofs.BandLemmas.{bands_near, row_in_band}
use Rattle.band_core.proofs.NeedLemmas.{need_from}
use Rattle.band_core.specs.Layouts.{Layout}
use Rattle.band_core.specs.Places.{per_row}
use Rattle.band_core.specs.Values.{IsFor}
use Rattle.band_core.specs.Recipe.{Reading, zone_by, decides_by, mark_by, marked_by, column_by, arm_by, edge_by, tint_by, row_by, AgreeOnNeeds}
use Rattle.lists.proofs.Same.{first_least-same, first_least-mapped}

abbrev pub at_ : ℕ → ℕ → At
at_ x y = record { x = x; y = y }

pub same_at : (x y u v : ℕ) → x ≡ u → y ≡ v → at_ x y ≡ at_ u v
same_at x y u v a b = λ i. at_ (a i) (b i)

pub and_same : (c a b : Bool) → (c ≡ true → a ≡ b) → (c && a) ≡ (c && b)
and_same true a b h = h refl
and_same false a b h = refl

-- the next row lies in the same band or in the next one
pub next_band : (h y : ℕ) → 1 ≤ h → ((y + 1) / h ≡ y / h) ⊎ ((y + 1) / h ≡ y / h + 1)
next_band h y some =
    let up : (y + 1) / h ≤ y / h + ceiling 1 h = bands_near h 1 y (y + 1) some (omega arith) in
    let one : ceiling 1 h ≡ 1 = (let e : 1 + h - 1 ≡ 1 * h + 0 = omega (arith, some) in ap (λ (n : ℕ). n / h) e ∙ div-mul-add 1 h 0 (omega (arith, some))) in
    let down : y / h ≤ (y + 1) / h = le-div (y / h) (y + 1) h some (let t = div-mul-le_self y h in omega (arith, t)) in
    elim (cases_eq ((y + 1) / h) (y / h)) [ inl e ↦ inl e | inr ne ↦ inr (omega (arith, up, one, down, ne)) ]

decides_alike : (page : PageParts) (read other : Reading) (e : EdgeAt) (p q : At) → first e ≡ p → second e ≡ q → zone_by read p ≡ zone_by other p → zone_by read q ≡ zone_by other q → decides_by page read e ≡ decides_by page other e
unfolding decides_by
decides_alike page read other e p q f s zp zq =
    let here = ap (zone_by read) f ∙ (zp ∙ ap (zone_by other) (sym f)) in let there = ap (zone_by read) s ∙ (zq ∙ ap (zone_by other) (sym s)) in
    (λ i. decides_in page (here i) (there i) e)

mark_alike : (page : PageParts) (read other : Reading) (y x : ℕ) → x < width page → ((o : ℕ) → o < width page → read 0 y o ≡ other 0 y o) → (y + 1 < height page → (o : ℕ) → o < width page → read 0 (y + 1) o ≡ other 0 (y + 1) o)
    → mark_by page read y x ≡ mark_by page other y x
mark_alike page read other y x l here below =
    let right = and_same (nat_lt (x + 1) (width page)) (decides_by page read (right_edge x y)) (decides_by page other (right_edge x y)) (λ t.
    decides_alike page read other (right_edge x y) (at_ x y) (at_ (x + 1) y) (same_at _ _ _ _ (omega arith) (omega arith)) (same_at _ _ _ _ (omega arith) (omega arith)) (here x l) (here (x + 1) (ltb-true _ _ t))) in
    let lower = and_same (nat_lt (y + 1) (height page)) (decides_by page read (lower_edge x y)) (decides_by page other (lower_edge x y)) (λ t.
    decides_alike page read other (lower_edge x y) (at_ x y) (at_ x (y + 1)) (same_at _ _ _ _ (omega arith) (omega arith)) (same_at _ _ _ _ (omega arith) (omega arith)) (here x l) (below (ltb-true _ _ t) x l)) in
    (λ i. (if right i then 1 else 0) + (if lower i then 2 else 0))

marked_alike : (page : PageParts) (read other : Reading) (x2 y2 : ℕ) → (x2 / 2 < width page → y2 / 2 < height page → read 1 (y2 / 2) (x2 / 2) ≡ other 1 (y2 / 2) (x2 / 2)) → marked_by page read x2 y2 ≡ marked_by page other x2 y2
unfolding marked_by
marked_alike page read other x2 y2 here =
    let bit : ℕ → Bool = λ m. bit_and m (mark_bit x2) == mark_bit x2 in
    ap (λ (b : Bool). ((x2 + y2) % 2 == 1) && b) (and_same (nat_le (x2 + 2) (2 * width page)) (nat_le (y2 + 2) (2 * height page) && bit (read 1 (y2 / 2) (x2 / 2))) (nat_le (y2 + 2) (2 * height page) && bit (other 1 (y2 / 2) (x2 / 2)))
    (λ across. and_same (nat_le (y2 + 2) (2 * height page)) (bit (read 1 (y2 / 2) (x2 / 2))) (bit (other 1 (y2 / 2) (x2 / 2)))
    (λ down. let a = leb-true _ _ across in let d = leb-true _ _ down in ap bit (here (omega (arith, a)) (omega (arith, d))))))

column_alike : (page : PageParts) (bands : Bands) (read other : Reading) (band x2 y : ℕ) → ((r o : ℕ) → near_bands bands (band_of_row bands r) band ≡ true → r < height page → o < width page → read 1 r o ≡ other 1 r o)
    → column_by page bands read band x2 y ≡ column_by page bands other band x2 y
unfolding column_by
column_alike page bands read other band x2 y stored =
    first_least-same (λ y2. gap y2 (2 * y)) (λ y2. (near_bands bands (band_of_row bands (y2 / 2)) band && marked_by page read x2 y2) && nat_le (gap y2 (2 * y)) bands.reach2)
    (λ y2. (near_bands bands (band_of_row bands (y2 / 2)) band && marked_by page other x2 y2) && nat_le (gap y2 (2 * y)) bands.reach2) (grid_rows page)
    (λ y2 l. ap (λ (b : Bool). b && nat_le (gap y2 (2 * y)) bands.reach2) (and_same (near_bands bands (band_of_row bands (y2 / 2)) band) (marked_by page read x2 y2) (marked_by page other x2 y2) (λ near. marked_alike page read other x2 y2 (λ across down. stored (y2 / 2) (x2 / 2) near down across))))

edge_alike : (page : PageParts) (read other : Reading) (p : At) → ((x2 : ℕ) → x2 < 2 * width page - 1 → read 2 p.y x2 ≡ other 2 p.y x2) → edge_by page read p ≡ edge_by page other p
unfolding edge_by
edge_alike page read other p stored =
    first_least-mapped (λ x2. d2 p (arm_by read p.y x2)) (λ x2. d2 p (arm_by other p.y x2)) (λ x2. nat_lt 0 (read 2 p.y x2)) (λ x2. nat_lt 0 (other 2 p.y x2)) (2 * width page - 1)
    (λ x2 l. ap (nat_lt 0) (stored x2 l)) (λ x2 l t. ap (d2 p) (arm x2 l)) (arm_by read p.y) (arm_by other p.y) (λ x2 l t. arm x2 l) where
      arm : (x2 : ℕ) → x2 < 2 * width page - 1 → arm_by read p.y x2 ≡ arm_by other p.y x2
      arm x2 l = let e = stored x2 l in (λ i. record { x2 = x2; y2 = 2 * p.y + e i - 257 })

abbrev Alike : PageParts → Layout → Reading → Reading → ℕ → ℕ → ℕ → ℕ → Type 0
Alike page layout read other i phase y o = row_by page layout.bands read phase (band_of layout.bands i) y o ≡ row_by page layout.bands other phase (band_of layout.bands i) y o

module _ (page : PageParts) (layout : Layout) (is : IsFor page layout) (read other : Reading) (i y : ℕ) (agree : AgreeOnNeeds page layout read other i) (inside : y < height page) (here : band_of_row layout.bands y ≡ band_of layout.bands i) where
  bands : AreBands layout.bands
  bands = is.made.bands

  from_need : (phase q r o : ℕ) → phase ≡ phase_of layout.bands i → phase_needs layout.bands phase (band_of layout.bands i) q (band_of_row layout.bands r) ≡ true → r < height page → o < per_row layout q → read q r o ≡ other q r o
  from_need phase q r o e t l m =
      let tall = is.tall in
      agree q r o (need_from layout.bands i q (band_of_row layout.bands r) (row_in_band layout.bands r bands (omega (arith, l, tall))) (subst (λ (p : ℕ). phase_needs layout.bands p (band_of layout.bands i) q (band_of_row layout.bands r) ≡ true) e t)) l m

  zones_of_row : (x : ℕ) → x < width page → x < per_row layout 0
  zones_of_row x l = let wide = is.wide in omega (arith, l, wide)

  row_edges : 1 ≡ phase_of layout.bands i → (x : ℕ) → x < width page → Alike page layout read other i 1 y x
  unfolding row_by
  row_edges e x l = mark_alike page read other y x l
      (λ o m. from_need 1 0 y o e (and_from _ _ refl (or_left _ _ (eq-eqb (band_of_row layout.bands y) (band_of layout.bands i) here))) inside (zones_of_row o m))
      (λ more o m. from_need 1 0 (y + 1) o e (and_from _ _ refl (elim (next_band layout.bands.height y bands.some_height) [
        | inl same ↦ or_left _ _ (eq-eqb (band_of_row layout.bands (y + 1)) (band_of layout.bands i) (same ∙ here))
        | inr next ↦ or_right _ _ (eq-eqb (band_of_row layout.bands (y + 1)) (band_of layout.bands i + 1) (next ∙ ap (λ (n : ℕ). n + 1) here))
      ])) more (zones_of_row o m))

  row_columns : 2 ≡ phase_of layout.bands i → (x2 : ℕ) → Alike page layout read other i 2 y x2
  unfolding row_by
  row_columns e x2 = ap (offset_code y) (column_alike page layout.bands read other (band_of layout.bands i) x2 y (λ r o near l m. from_need 2 1 r o e (and_from _ _ refl near) l (let wide = is.wide in omega (arith, m, wide))))

  row_traps : 3 ≡ phase_of layout.bands i → (o : ℕ) → Alike page layout read other i 3 y o
  unfolding row_by
  row_traps e o =
      let p : At = record { x = o % width page; y = y } in
      let some = (plane_of page 0 is.valid is.valid.parts.some_plates).some_width in let wide = is.wide in
      let zone = from_need 3 0 y (o % width page) e (and_from _ _ refl (eq-eqb (band_of_row layout.bands y) (band_of layout.bands i) here)) inside (zones_of_row (o % width page) (mod-lt o some)) in
      let edge = edge_alike page read other p (λ x2 m. from_need 3 2 y x2 e (and_from _ _ refl (eq-eqb (band_of_row layout.bands y) (band_of layout.bands i) here)) inside (omega (arith, m, wide))) in
      (λ j. tint_by page (zone j) p (o / width page) (edge j))

  pub row_alike : (phase : ℕ) → phase ≡ phase_of layout.bands i → phase < 4 → (o : ℕ) → o < per_row layout phase → Alike page layout read other i phase y o
  unfolding row_by
  row_alike zero e l o m = refl
  row_alike (suc zero) e l o m = row_edges e o (let wide = is.wide in omega (arith, m, wide))
  row_alike (suc (suc zero)) e l o m = row_columns e o
  row_alike (suc (suc (suc zero))) e l o m = row_traps e o
  row_alike (suc (suc (suc (suc phase)))) e l o m = absurd (omega (arith, l))
