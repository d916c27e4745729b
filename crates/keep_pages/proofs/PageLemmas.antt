-- Lists of a page's pixels, as the definitions that count and list them.
use Rattle.std.proofs.Common.{◌≡◌, ℕ, zero, suc, ◌+◌, ◌*◌, ◌/◌, ◌%◌, ◌<◌, ◌≤◌, ◌==◌, Bool, true, false, not, ◌++◌, append_assoc, List, length, slice_index, refl, sym, ap, subst, ◌∙◌, inl, inr, arith, if◌then◌else◌}
use Rattle.std.proofs.Math.Nat.{div-add-mod, div-lt_iff_lt-mul}
use Rattle.std.proofs.lemmas.Bool.{cases_lt}
use Rattle.lists.specs.Words.{count_below}
use Rattle.lists.proofs.ListBelow.{length-list_below, list_below-at, list_below-from}
use Rattle.page_model.specs.declared.parts.At.{At}
use Rattle.page_model.specs.declared.parts.PageParts.{PageParts}
use Rattle.page_model.specs.Page.{height, ink_at, maxval, plates, sample_at, samples, tint, width}
use Rattle.page_model.specs.Planes.{plane_at}
use Rattle.keepaway.specs.declared.parts.RichBlack.{RichBlack}
use Rattle.keepaway.specs.Rows.{AreMarks as AreBlackMarks, HasRows, mark as black_mark}
use Rattle.keepaway.proofs.KeepLemmas.{mark_free as black_mark_free}
use Rattle.underprint.specs.declared.parts.White.{White}
use Rattle.underprint.specs.Lists.{AreMarks as AreColourMarks, mark as colour_mark}
use Rattle.underprint.proofs.UnderLemmas.{mark_free as colour_mark_free}
use Rattle.keep_pages.specs.declared.uses.KeepUse.{KeepUse}
use Rattle.keep_pages.specs.declared.uses.KeepUse.TheVariants.{UnderBlack, UnderColour}
use Rattle.keep_pages.specs.KeptPages.{changed_count, covered, covered_count, kept, kept_plane, kept_planes, kept_tints, plate_line, plate_lines, report_text}
use Rattle.common_errors.specs.Lines.{line}
use Rattle.std.specs.Fmt.{decimal}
use Rattle.std.specs.Prelude.{codes}
use Rattle.trap_report.specs.Report.{head_line}

count_same : (f g : ℕ → Bool) (n : ℕ) → ((k : ℕ) → k < n → f k ≡ g k) → count_below f n ≡ count_below g n
count_same f g zero each = refl
count_same f g (suc n) each = rw (count_same f g n (λ k l. each k (omega arith)), each n (omega arith)) refl

pub count_most : (test : ℕ → Bool) (n : ℕ) → count_below test n ≤ n
count_most test zero = omega arith
count_most test (suc n) = elim (test n) as (λ b. count_below test n + (if b then 1 else 0) ≤ suc n) [ true ↦ omega (arith, count_most test n) | false ↦ omega (arith, count_most test n) ]

-- pixel k of a page is in its row and on the page
some_wide : (page : PageParts) (k : ℕ) → k < samples page → 0 < width page
some_wide page k l = elim (cases_lt 0 (width page)) [
  | inl some ↦ some
  | inr none ↦ let e : width page ≡ 0 = omega arith in absurd (omega (arith, subst (λ (w : ℕ). k < w * height page) e l))
]

pub entry_at : (page : PageParts) (value : At → ℕ) (list : List ℕ) (k : ℕ) → HasRows page value (height page) list → k < samples page → slice_index list k ≡ value (sample_at page k)
entry_at page value list k has l =
    let some : 0 < width page = some_wide page k l in
    let column : k % width page < width page = omega arith in
    let row : k / width page < height page = (div-lt_iff_lt-mul some).1 (omega (arith, l)) in
    let place : (k / width page) * width page + k % width page ≡ k = omega (arith, div-add-mod k (width page)) in
    ap (slice_index list) (sym place) ∙ has.each (k % width page) (k / width page) column row

-- the new tints, pixel by pixel
pub kept_list : (page : PageParts) (used : KeepUse) (c : ℕ) (list : List ℕ) → HasRows page (kept page used c) (height page) list → list ≡ kept_tints page used c
unfolding kept_tints
kept_list page used c list has = list_below-from (λ k. kept page used c (sample_at page k)) (samples page) list has.long (λ k l. entry_at page (kept page used c) list k has l)

pub kept_entry : (page : PageParts) (used : KeepUse) (c k : ℕ) → k < samples page → slice_index (kept_tints page used c) k ≡ kept page used c (sample_at page k)
unfolding kept_tints
kept_entry page used c k l = list_below-at (λ k. kept page used c (sample_at page k)) (samples page) k 0 l

pub kept_long : (page : PageParts) (used : KeepUse) (c : ℕ) → length (kept_tints page used c) ≡ samples page
unfolding kept_tints
kept_long page used c = length-list_below (λ k. kept page used c (sample_at page k)) (samples page)

-- plane c of the new ones
pub kept_at : (page : PageParts) (used : KeepUse) (c : ℕ) → c < plates page → plane_at (kept_planes page used) c ≡ kept_plane page used c
unfolding kept_planes
kept_at page used c l = list_below-at (kept_plane page used) (plates page) c _ l

old_entry : (page : PageParts) (c k : ℕ) → k < samples page → slice_index (plane_at page.planes c).tints k ≡ tint page c (sample_at page k)
old_entry page c k l =
    let some : 0 < width page = some_wide page k l in
    let place : (k / width page) * width page + k % width page ≡ k = omega (arith, div-add-mod k (width page)) in
    ap (slice_index (plane_at page.planes c).tints) (sym place)

-- entries that differ are pixels that change
pub changed_is : (page : PageParts) (used : KeepUse) (c n : ℕ) (old new : List ℕ) → old ≡ (plane_at page.planes c).tints → new ≡ kept_tints page used c → n ≡ samples page → count_below (λ k. not (slice_index new k == slice_index old k)) n ≡ changed_count page used c
changed_is page used c n old new is_old is_new long = rw (long, is_old, is_new)
    (count_same (λ k. not (slice_index (kept_tints page used c) k == slice_index (plane_at page.planes c).tints k)) (λ k. not (kept page used c (sample_at page k) == tint page c (sample_at page k))) (samples page)
    (λ k l. ap (λ (t : ℕ). not (t == slice_index (plane_at page.planes c).tints k)) (kept_entry page used c k l) ∙ ap (λ (t : ℕ). not (kept page used c (sample_at page k) == t)) (old_entry page c k l)))

twice : (b : Bool) → not (not b) ≡ b
twice true = refl
twice false = refl

-- marks that are not 0 are covered pixels
pub black_covered : (page : PageParts) (rich : RichBlack) (n : ℕ) (marks : List ℕ) → AreBlackMarks page rich.limit marks → n ≡ samples page → count_below (λ k. not (slice_index marks k == 0)) n ≡ covered_count page (UnderBlack rich)
black_covered page rich n marks are long = rw long
    (count_same (λ k. not (slice_index marks k == 0)) (λ k. covered page (UnderBlack rich) (sample_at page k)) (samples page)
    (λ k l. ap (λ (m : ℕ). not (m == 0)) (entry_at page (black_mark page rich.limit) marks k are l) ∙ ap not (black_mark_free page rich.limit (sample_at page k)) ∙ twice (covered page (UnderBlack rich) (sample_at page k))))

pub colour_covered : (page : PageParts) (whites : List White) (n : ℕ) (marks : List ℕ) → AreColourMarks page whites marks → n ≡ samples page → count_below (λ k. not (slice_index marks k == 0)) n ≡ covered_count page (UnderColour whites)
colour_covered page whites n marks are long = rw long
    (count_same (λ k. not (slice_index marks k == 0)) (λ k. covered page (UnderColour whites) (sample_at page k)) (samples page)
    (λ k l. ap (λ (m : ℕ). not (m == 0)) (entry_at page (colour_mark page whites) marks k are l) ∙ ap not (colour_mark_free page whites (sample_at page k)) ∙ twice (covered page (UnderColour whites) (sample_at page k))))

-- lines of the same counts
pub lines_same : (page : PageParts) (used : KeepUse) (f g : ℕ → ℕ) (n : ℕ) → ((c : ℕ) → c < n → f c ≡ g c) → plate_lines page used f n ≡ plate_lines page used g n
lines_same page used f g zero each = refl
lines_same page used f g (suc n) each = rw (lines_same page used f g n (λ c l. each c (omega arith)), each n (omega arith)) refl

one_more : (n : ℕ) → n + 1 ≡ suc n
one_more n = omega arith

-- the lines of one plate more
pub lines_next : (page : PageParts) (used : KeepUse) (f : ℕ → ℕ) (n : ℕ) → plate_lines page used f (n + 1) ≡ plate_lines page used f n ++ plate_line used (ink_at page n).name (f n)
lines_next page used f n = ap (plate_lines page used f) (one_more n)

-- the text of the same counts
pub text_same : (page : PageParts) (used : KeepUse) (a b : ℕ) (f g : ℕ → ℕ) → a ≡ b → ((c : ℕ) → c < plates page → f c ≡ g c) → report_text page used a f ≡ report_text page used b g
text_same page used a b f g same each =
    ap (λ (n : ℕ). report_text page used n f) same
    ∙ ap (λ (lines : List ℕ). line (codes "keepaway report") ++ head_line (width page) (height page) (maxval page) (plates page) ++ line (codes "covered " ++ decimal b) ++ lines ++ line (codes "end")) (lines_same page used f g (plates page) each)

-- a line that is added part by part
pub text_plate : (t0 t1 t2 t3 t4 t5 p n r d u v e : List ℕ) → t1 ≡ t0 ++ p → t2 ≡ t1 ++ n → t3 ≡ t2 ++ (r ++ d) → t4 ≡ t3 ++ (u ++ v) → t5 ≡ t4 ++ e → t5 ≡ t0 ++ ((p ++ n ++ r ++ d ++ u ++ v) ++ e)
text_plate t0 t1 t2 t3 t4 t5 p n r d u v e one two three four five = rw (five, four, three, two, one) (simp append_assoc)
