-- The deciding edges of a page, counted in the samples that have them.
use Rattle.std.proofs.Common.{◌≡◌, ℕ, ◌+◌, ◌*◌, ◌/◌, ◌%◌, ◌<◌, ◌≤◌, Bool, true, false, refl, sym, ◌∙◌, ap, arith, List, length, slice_index, if◌then◌else◌}
use Rattle.std.proofs.lemmas.Nat.{div-mul-add, mod-mul-add}
use Rattle.page_model.specs.declared.parts.PageParts.{PageParts}
use Rattle.page_model.specs.Counts.{deciding_edges}
use Rattle.page_model.specs.Deciding.{lower_mark, mark, right_mark}
use Rattle.page_model.specs.Page.{height, samples, width}
use Rattle.lists.specs.Words.{sum_below}
use Rattle.page_model.proofs.EdgeSums.{edges_at, edges_by_rows}
use Rattle.page_model.proofs.NumberSums.{one_if, sum_add, sum_rows, sum_same}
use Rattle.page_tally.specs.Standing.{AreMarks, edges_of}

mark_edges : (r l : Bool) → one_if r + one_if l ≡ (one_if r + (if l then 2 else 0)) % 2 + (one_if r + (if l then 2 else 0)) / 2
mark_edges true true = refl
mark_edges true false = refl
mark_edges false true = refl
mark_edges false false = refl

numbered : (page : PageParts) (y x : ℕ) → x < width page → edges_at page x y ≡ edges_of page (y * width page + x)
unfolding edges_at
numbered page y x l =
    mark_edges (right_mark page y x) (lower_mark page y x)
    ∙ ap (λ (n : ℕ). mark page n x % 2 + mark page n x / 2) (sym (div-mul-add y (width page) x l))
    ∙ ap (λ (n : ℕ). mark page ((y * width page + x) / width page) n % 2 + mark page ((y * width page + x) / width page) n / 2) (sym (mod-mul-add y (width page) x l))

-- the deciding edges of the page, sample by sample
pub edges_by_samples : (page : PageParts) (n : ℕ) → 1 ≤ width page → 1 ≤ height page → n ≡ samples page → sum_below (edges_of page) n ≡ deciding_edges page
edges_by_samples page n sw sh en =
    let rows : n ≡ height page * width page = omega (arith, en) in
    ap (sum_below (edges_of page)) rows
    ∙ sum_rows (edges_of page) (width page) (height page)
    ∙ sum_same (λ y. sum_below (λ x. edges_of page (y * width page + x)) (width page)) (λ y. sum_below (λ x. edges_at page x y) (width page)) (height page) (λ y ly. sum_same (λ x. edges_of page (y * width page + x)) (λ x. edges_at page x y) (width page) (λ x lx. sym (numbered page y x lx)))
    ∙ sym (edges_by_rows page sw sh)

-- the edges of row y, by its marks
edges_of_row : (page : PageParts) (y : ℕ) (marks : List ℕ) → AreMarks page y marks → sum_below (λ x. slice_index marks x % 2 + slice_index marks x / 2) (length marks) ≡ sum_below (λ x. edges_of page (y * width page + x)) (width page)
edges_of_row page y marks h =
    ap (sum_below (λ x. slice_index marks x % 2 + slice_index marks x / 2)) h.wide
    ∙ sum_same (λ x. slice_index marks x % 2 + slice_index marks x / 2) (λ x. edges_of page (y * width page + x)) (width page) (λ x l.
    ap (λ (m : ℕ). m % 2 + m / 2) (h.each x l)
    ∙ ap (λ (n : ℕ). mark page n x % 2 + mark page n x / 2) (sym (div-mul-add y (width page) x l))
    ∙ ap (λ (n : ℕ). mark page ((y * width page + x) / width page) n % 2 + mark page ((y * width page + x) / width page) n / 2) (sym (mod-mul-add y (width page) x l)))

-- and those of the rows before it
pub edges_next : (page : PageParts) (y old more : ℕ) (marks : List ℕ) → AreMarks page y marks → old ≡ sum_below (edges_of page) (y * width page) → more ≡ sum_below (λ x. slice_index marks x % 2 + slice_index marks x / 2) (length marks) → old + more ≡ sum_below (edges_of page) ((y + 1) * width page)
edges_next page y old more marks h eo em =
    let all : y * width page + width page ≡ (y + 1) * width page = omega arith in
    let sum : sum_below (edges_of page) ((y + 1) * width page) ≡ sum_below (edges_of page) (y * width page) + sum_below (λ x. edges_of page (y * width page + x)) (width page) = ap (sum_below (edges_of page)) (sym all) ∙ sum_add (edges_of page) (y * width page) (width page) in
    omega (arith, eo, em, edges_of_row page y marks h, sum)

pub few_next : (y w old more n : ℕ) → n ≡ w → old ≤ 128 * (y * w) → more ≤ 128 * n → old + more ≤ 128 * ((y + 1) * w)
few_next y w old more n en few here =
    let all : y * w + w ≡ (y + 1) * w = omega arith in
    omega (arith, en, few, here, all)
