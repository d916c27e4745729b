-- Sums over rectangles: side by side, one below the other, moved; and the counts of a page as such sums.
use Rattle.std.proofs.Common.{◌≡◌, ℕ, zero, suc, ◌+◌, ◌*◌, ◌<◌, ◌≤◌, Bool, ◌&&◌, refl, ◌∙◌, ap, arith, List, ◌++◌}
use Rattle.std.specs.Prelude.{◌==◌}
use Rattle.std.proofs.lemmas.Nat.{div-mul-add, mod-mul-add}
use Rattle.page_model.specs.declared.parts.At.{At}
use Rattle.page_model.specs.declared.parts.PageParts.{PageParts}
use Rattle.lists.specs.Words.{count_below, list_below, sum_below}
use Rattle.lists.proofs.ListBelow.{list_below-add}
use Rattle.lists.proofs.Same.{list_below-same}
use Rattle.page_model.specs.Counts.{plate_changes, sample_changes}
use Rattle.page_model.specs.Page.{height, sample_at, samples, width}
use Rattle.page_model.specs.Zones.{zone_of}
use Rattle.page_model.proofs.EdgeSums.{edges_at as edges_of, edges_by_rows}
use Rattle.page_model.proofs.NumberSums.{counted, sum_add, sum_plus, sum_rows, sum_same}
use Rattle.sheet_geometry.specs.Areas.{CountsBySamples, area_sum, edges_at, one_if, page_sum}

abbrev at_ : ℕ → ℕ → At
at_ x y = record { x = x; y = y }

farther : (a b c : ℕ) → a + (b + c) ≡ a + b + c
farther a b c = omega arith

pub area-columns : (f : At → ℕ) (left top a b tall : ℕ) → area_sum f left top (a + b) tall ≡ area_sum f left top a tall + area_sum f (left + a) top b tall
area-columns f left top a b tall =
    sum_same (λ y. sum_below (λ x. f (at_ (left + x) (top + y))) (a + b)) (λ y. sum_below (λ x. f (at_ (left + x) (top + y))) a + sum_below (λ x. f (at_ (left + a + x) (top + y))) b) tall
    (λ y _. sum_add (λ x. f (at_ (left + x) (top + y))) a b ∙ ap (λ (s : ℕ). sum_below (λ x. f (at_ (left + x) (top + y))) a + s) (sum_same (λ x. f (at_ (left + (a + x)) (top + y))) (λ x. f (at_ (left + a + x) (top + y))) b (λ x _. ap (λ (n : ℕ). f (at_ n (top + y))) (farther left a x))))
    ∙ sum_plus (λ y. sum_below (λ x. f (at_ (left + x) (top + y))) a) (λ y. sum_below (λ x. f (at_ (left + a + x) (top + y))) b) tall

pub area-rows : (f : At → ℕ) (left top wide a b : ℕ) → area_sum f left top wide (a + b) ≡ area_sum f left top wide a + area_sum f left (top + a) wide b
area-rows f left top wide a b =
    sum_add (λ y. sum_below (λ x. f (at_ (left + x) (top + y))) wide) a b
    ∙ ap (λ (s : ℕ). area_sum f left top wide a + s) (sum_same (λ y. sum_below (λ x. f (at_ (left + x) (top + (a + y)))) wide) (λ y. sum_below (λ x. f (at_ (left + x) (top + a + y))) wide) b (λ y _. ap (λ (n : ℕ). sum_below (λ x. f (at_ (left + x) n)) wide) (farther top a y)))

pub area-no_columns : (f : At → ℕ) (left top tall : ℕ) → area_sum f left top 0 tall ≡ 0
area-no_columns f left top zero = refl
area-no_columns f left top (suc n) = omega (arith, area-no_columns f left top n)

-- two areas whose samples are alike
pub area-same : (f g : At → ℕ) (left top left' top' wide tall : ℕ) → ((x y : ℕ) → x < wide → y < tall → f (at_ (left + x) (top + y)) ≡ g (at_ (left' + x) (top' + y))) → area_sum f left top wide tall ≡ area_sum g left' top' wide tall
area-same f g left top left' top' wide tall each =
    sum_same (λ y. sum_below (λ x. f (at_ (left + x) (top + y))) wide) (λ y. sum_below (λ x. g (at_ (left' + x) (top' + y))) wide) tall
    (λ y ly. sum_same (λ x. f (at_ (left + x) (top + y))) (λ x. g (at_ (left' + x) (top' + y))) wide (λ x lx. each x y lx ly))

from_none : (n : ℕ) → n ≡ 0 + n
from_none n = omega arith

-- how many samples of a page pass
counted_samples : (page : PageParts) (test : At → Bool) → count_below (λ k. test (sample_at page k)) (samples page) ≡ area_sum (λ p. one_if (test p)) 0 0 (width page) (height page)
counted_samples page test =
    let w : ℕ = width page in
    let h : ℕ = height page in
    let turned : samples page ≡ h * w = omega arith in
    let one : ℕ → ℕ = λ k. one_if (test (sample_at page k)) in
    counted (λ k. test (sample_at page k)) (samples page)
    ∙ ap (sum_below one) turned
    ∙ sum_rows one w h
    ∙ sum_same (λ y. sum_below (λ x. one (y * w + x)) w) (λ y. sum_below (λ x. one_if (test (at_ (0 + x) (0 + y)))) w) h
    (λ y _. sum_same (λ x. one (y * w + x)) (λ x. one_if (test (at_ (0 + x) (0 + y)))) w
    (λ x l. λ i. one_if (test (at_ ((mod-mul-add y w x l ∙ from_none x) i) ((div-mul-add y w x l ∙ from_none y) i)))))

-- the edges at a sample, told by its column and row or by itself
edges_here : (page : PageParts) → sum_below (λ y. sum_below (λ x. edges_of page x y) (width page)) (height page) ≡ page_sum edges_at page
unfolding edges_of
edges_here page = sum_same (λ y. sum_below (λ x. edges_of page x y) (width page)) (λ y. sum_below (λ x. edges_at page (at_ (0 + x) (0 + y))) (width page)) (height page)
    (λ y _. sum_same (λ x. edges_of page x y) (λ x. edges_at page (at_ (0 + x) (0 + y))) (width page) (λ x _. λ i. edges_of page (from_none x i) (from_none y i)))

pub counts_by_samples : (page : PageParts) → 1 ≤ width page → 1 ≤ height page → CountsBySamples page
counts_by_samples page wide tall = record {
  zone_samples = λ z. counted_samples page (λ p. zone_of page p == z);
  zone_changed = λ z. counted_samples page (λ p. (zone_of page p == z) && sample_changes page p);
  plate_changed = λ c. counted_samples page (plate_changes page c);
  edges = edges_by_rows page wide tall ∙ edges_here page;
}

-- the items of a row, side by side
pub row-columns : (f : At → ℕ) (left y a b : ℕ) → list_below (λ x. f (at_ (left + x) y)) (a + b) ≡ list_below (λ x. f (at_ (left + x) y)) a ++ list_below (λ x. f (at_ (left + a + x) y)) b
row-columns f left y a b = list_below-add (λ x. f (at_ (left + x) y)) a b ∙ ap (λ (t : List ℕ). list_below (λ x. f (at_ (left + x) y)) a ++ t) (list_below-same (λ x. f (at_ (left + (a + x)) y)) (λ x. f (at_ (left + a + x) y)) b (λ x _. ap (λ (n : ℕ). f (at_ n y)) (farther left a x)))
