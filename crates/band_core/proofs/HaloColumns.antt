-- COLUMNS: the answer over the marks of the bands within the halo is that of the page.
use Rattle.std.proofs.Common.{◌≡◌, ℕ, ◌+◌, ◌*◌, ◌/◌, ◌%◌, ◌<◌, ◌≤◌, Bool, true, false, ◌&&◌, nat_le, bit_and, refl, ap, ◌∙◌, arith}
use Rattle.std.specs.Prelude.{◌==◌}
use Rattle.std.proofs.lemmas.Bool.{and_from, leb-true, le-leb, eqb-true, false≢true}
use Rattle.page_model.specs.declared.parts.PageParts.{PageParts}
use Rattle.page_model.specs.Columns.{edge_decides, column_edge, halo}
use Rattle.page_model.specs.Decider.{grid_rows}
use Rattle.page_model.specs.Deciding.{decides, mark}
use Rattle.page_model.specs.Marks.{mark_bit}
use Rattle.page_model.specs.Page.{width, height}
use Rattle.lists.specs.Words.{gap}
use Rattle.page_model.specs.declared.bands.Bands.{Bands}
use Rattle.page_model.specs.Bands.{band_of_row}
use Rattle.band_core.specs.Needs.{halo_bands, near_bands}
use Rattle.page_model.proofs.BandLemmas.{bands_near}
use Rattle.band_core.specs.Recipe.{Reading, marked_by, column_by}
use Rattle.lists.proofs.Same.{first_least-same}
use Rattle.page_model.proofs.MarkLemmas.{tells}

-- an edge within reach of a row lies in a band within the halo
within_halo : (bands : Bands) (y y2 : ℕ) → 1 ≤ bands.height → gap y2 (2 * y) ≤ bands.reach2 → near_bands bands (band_of_row bands (y2 / 2)) (band_of_row bands y) ≡ true
within_halo bands y y2 some near =
    let up : y2 / 2 ≤ y + halo bands.reach2 = omega (arith, near) in let down : y ≤ y2 / 2 + halo bands.reach2 = omega (arith, near) in
    and_from (nat_le (band_of_row bands (y2 / 2)) (band_of_row bands y + halo_bands bands)) (nat_le (band_of_row bands y) (band_of_row bands (y2 / 2) + halo_bands bands))
    (le-leb _ _ (bands_near bands.height (halo bands.reach2) y (y2 / 2) some up)) (le-leb _ _ (bands_near bands.height (halo bands.reach2) (y2 / 2) y some down))

last_same : (a b c x y : Bool) → (a ≡ true → b ≡ true → c ≡ true → x ≡ (a && (b && (c && y)))) → (a && (b && (c && x))) ≡ (a && (b && (c && y)))
last_same false b c x y h = refl
last_same true false c x y h = refl
last_same true true false x y h = refl
last_same true true true x y h = h refl refl refl

-- a mark that is held tells of its edge
marked_same : (page : PageParts) (read : Reading) (x2 y2 : ℕ) → (x2 / 2 < width page → y2 / 2 < height page → read 1 (y2 / 2) (x2 / 2) ≡ mark page (y2 / 2) (x2 / 2)) → marked_by page read x2 y2 ≡ edge_decides page x2 y2
unfolding marked_by edge_decides
marked_same page read x2 y2 here =
    last_same ((x2 + y2) % 2 == 1) (nat_le (x2 + 2) (2 * width page)) (nat_le (y2 + 2) (2 * height page)) (bit_and (read 1 (y2 / 2) (x2 / 2)) (mark_bit x2) == mark_bit x2) (decides page (record { x2 = x2; y2 = y2 }))
    (λ odd across down.
    let a = leb-true _ _ across in let d = leb-true _ _ down in
    ap (λ (m : ℕ). bit_and m (mark_bit x2) == mark_bit x2) (here (omega (arith, a)) (omega (arith, d))) ∙ tells page x2 y2 (eqb-true _ _ odd) a (omega (arith, d)))

guarded : (n m e g : Bool) → (g ≡ true → n ≡ true) → (n ≡ true → m ≡ e) → ((n && m) && g) ≡ (e && g)
guarded true m e true near same = ap (λ (b : Bool). b && true) (same refl)
guarded true m e false near same = ap (λ (b : Bool). b && false) (same refl)
guarded false m e true near same = absurd (let t : false ≡ true = near refl in false≢true t)
guarded false m true false near same = refl
guarded false m false false near same = refl

-- the marks of the bands within the halo of the row's band
pub column_same : (page : PageParts) (bands : Bands) (read : Reading) (x2 y : ℕ) → 1 ≤ bands.height
    → ((r o : ℕ) → near_bands bands (band_of_row bands r) (band_of_row bands y) ≡ true → r < height page → o < width page → read 1 r o ≡ mark page r o)
    → column_by page bands read (band_of_row bands y) x2 y ≡ column_edge page bands.reach2 x2 y
unfolding column_by column_edge
column_same page bands read x2 y some stored =
    first_least-same (λ y2. gap y2 (2 * y)) (λ y2. (near_bands bands (band_of_row bands (y2 / 2)) (band_of_row bands y) && marked_by page read x2 y2) && nat_le (gap y2 (2 * y)) bands.reach2)
    (λ y2. edge_decides page x2 y2 && nat_le (gap y2 (2 * y)) bands.reach2) (grid_rows page)
    (λ y2 l. guarded (near_bands bands (band_of_row bands (y2 / 2)) (band_of_row bands y)) (marked_by page read x2 y2) (edge_decides page x2 y2) (nat_le (gap y2 (2 * y)) bands.reach2)
    (λ g. within_halo bands y y2 some (leb-true _ _ g)) (λ near. marked_same page read x2 y2 (λ across down. stored (y2 / 2) (x2 / 2) near down across)))
