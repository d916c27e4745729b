-- Rows that are written one after another, and what stands in a row that was written.
use Rattle.std.proofs.Common.{◌≡◌, ℕ, ◌+◌, ◌*◌, ◌/◌, ◌%◌, ◌<◌, ◌≤◌, ◌-◌, ◌++◌, take, drop, inl, inr, sym, ◌∙◌, ap, arith, List, length, slice_index, slice_set}
use Rattle.std.proofs.Math.Nat.{div-lt_iff_lt-mul}
use Rattle.std.proofs.lemmas.Bool.{cases_eq, cases_lt}
use Rattle.std.proofs.lemmas.List.{get_or-append_right, get_or-set_same, get_or-set_other, get_or-take, get_or_append_left, length-drop, length-set, length-take-le}
use Rattle.std.proofs.lemmas.Nat.{div-mul-add, mod-mul-add, mul-add-lt, rows}
use borrow.Rule.Slice.PartMut.{post_of, put_mid, same_len_mid}
use Rattle.page_model.specs.declared.parts.PageParts.{PageParts}
use Rattle.page_model.specs.Conditions.{IsPage}
use Rattle.page_model.specs.Page.{height, plates, width}
use Rattle.page_model.specs.Planes.{plane_at}
use Rattle.page_model.specs.Tints.{new}
use Rattle.page_model.proofs.PageLemmas.{plane_of}
use Rattle.row_values.specs.Quiet.{IsRowPut, IsRowTo, KeepsTints}

pub some_width : (page : PageParts) → IsPage page → 1 ≤ width page
some_width page valid = (plane_of page 0 valid valid.parts.some_plates).some_width

pub plane_long : (page : PageParts) (c : ℕ) → IsPage page → c < plates page → length (plane_at page.planes c).tints ≡ width page * height page
plane_long page c valid l = (plane_of page c valid l).full ∙ ap (λ (w : ℕ). w * (plane_at page.planes c).height) (valid.agree c l).wide ∙ ap (λ (h : ℕ). width page * h) (valid.agree c l).tall

-- a row of w numbers that is written into a list of n rows: what it has, and what lies above it
row_fits : (n k w long : ℕ) → k < n → long ≡ n * w → k * w + w ≤ long
row_fits n k w long l e = grind (arith, rows)

pub row_part : (n k w v : ℕ) (xs : List ℕ) → k < n → length xs ≡ n * w → v ≡ w → length (take (k * v + v - k * v) (drop (k * v) xs)) ≡ v
row_part n k w v xs l long e =
    let back : k * w + w - k * w ≡ w = omega arith in
    rw (e, back) (length-take-le w (drop (k * w) xs) (omega (arith, length-drop (k * w) xs, row_fits n k w (length xs) l long)))

pub row_long : (n k w v : ℕ) (xs ys : List ℕ) → k < n → length xs ≡ n * w → v ≡ w → length ys ≡ v → length (put_mid (k * v) (k * v + v - k * v) xs ys) ≡ length xs
row_long n k w v xs ys l long e all = same_len_mid (k * v) (k * v + v - k * v) xs ys (all ∙ sym (row_part n k w v xs l long e))

pub row_there : (n k w v a o : ℕ) (xs ys : List ℕ) → k < n → length xs ≡ n * w → v ≡ w → length ys ≡ v → o < w → slice_index (put_mid (k * v) a xs ys) (k * w + o) ≡ slice_index ys o
row_there n k w v a o xs ys l long e all lo =
    let le : k * w ≤ length xs = omega (arith, row_fits n k w (length xs) l long) in
    let back : k * w + o - k * w ≡ o = omega arith in
    rw e (get_or-append_right (take (k * w) xs) (ys ++ post_of (k * w) a xs) (k * w) (k * w + o) 0 (length-take-le (k * w) xs le) (omega arith) ∙ rw back (get_or_append_left ys (post_of (k * w) a xs) 0 o (omega arith)))

pub row_above : (n k w v a i : ℕ) (xs ys : List ℕ) → k < n → length xs ≡ n * w → v ≡ w → i < k * w → slice_index (put_mid (k * v) a xs ys) i ≡ slice_index xs i
row_above n k w v a i xs ys l long e li =
    let le : k * w ≤ length xs = omega (arith, row_fits n k w (length xs) l long) in
    rw e (get_or_append_left (take (k * w) xs) (ys ++ post_of (k * w) a xs) 0 i (omega (arith, length-take-le (k * w) xs le)) ∙ get_or-take (k * w) xs i 0 li)

-- one more row is written
pub rows_more : (w k : ℕ) (value : ℕ → ℕ → ℕ) (old later : List ℕ) → ((i : ℕ) → i < k * w → slice_index later i ≡ slice_index old i) → ((o : ℕ) → o < w → slice_index later (k * w + o) ≡ value k o) → ((j o : ℕ) → j < k → o < w → slice_index old (j * w + o) ≡ value j o) → (j o : ℕ) → j < k + 1 → o < w → slice_index later (j * w + o) ≡ value j o
rows_more w k value old later kept here before j o lj lo = elim (cases_eq j k) [
  | inl e ↦ rw e (here o lo)
  | inr ne ↦ (let less : j < k = omega (arith, lj, ne) in kept (j * w + o) (omega (arith, mul-add-lt j w o k less lo)) ∙ before j o less lo)
]

-- two places of rows are the same only in the same row
apart_places : (w c j x z : ℕ) → x < w → z < w → c * w + x ≡ j * w + z → (c ≡ j) × (x ≡ z)
apart_places w c j x z lx lz e = (
  sym (div-mul-add c w x lx) ∙ ap (λ (n : ℕ). n / w) e ∙ div-mul-add j w z lz,
  sym (mod-mul-add c w x lx) ∙ ap (λ (n : ℕ). n % w) e ∙ mod-mul-add j w z lz,
)

pub put_next : (page : PageParts) (y n c t w : ℕ) (out : List ℕ) → w ≡ width page → n < width page → c < plates page → t ≡ new page (record { x = n; y = y }) c → IsRowPut page y n c out → IsRowPut page y n (c + 1) (slice_set out (c * w + n) t)
put_next page y n c t w out ew ln lc et h = rw ew (record {
  long = length-set out (c * width page + n) t ∙ h.long;
  done = λ j x lj l lx. other j x lx (λ e. omega (arith, (apart_places (width page) j c x n lx ln e).1, l)) ∙ h.done j x lj l lx;
  here = λ j l lj. elim (cases_eq j c) [
    | inl e ↦ rw e (get_or-set_same out (c * width page + n) t 0 inside ∙ et)
    | inr ne ↦ other j n ln (λ e. ne (apart_places (width page) j c n n ln ln e).0) ∙ h.here j (omega (arith, l, ne)) lj
  ];
  there = λ j a lj. other j n ln (λ e. omega (arith, (apart_places (width page) j c n n ln ln e).0, a)) ∙ h.there j (omega (arith, a)) lj;
  rest = λ j x lj a lx. other j x lx (λ e. omega (arith, (apart_places (width page) j c x n lx ln e).1, a)) ∙ h.rest j x lj a lx;
}) where
  inside : c * width page + n < length out
  inside = omega (arith, h.long, mul-add-lt c (width page) n (plates page) lc ln)

  other : (j x : ℕ) → x < width page → (j * width page + x ≡ c * width page + n → ⊥) → slice_index (slice_set out (c * width page + n) t) (j * width page + x) ≡ slice_index out (j * width page + x)
  other j x lx ne = get_or-set_other out (c * width page + n) (j * width page + x) t 0 ne

-- a row as one list of its values
pub row_values : (page : PageParts) (y : ℕ) (out : List ℕ) → 1 ≤ width page → IsRowTo page y (width page) out → (o : ℕ) → o < plates page * width page → slice_index out o ≡ new page (record { x = o % width page; y = y }) (o / width page)
row_values page y out some h o l =
    let column : o % width page < width page = omega (arith, some) in
    let plate : o / width page < plates page = (div-lt_iff_lt-mul some).1 (omega (arith, l)) in
    let place : o / width page * width page + o % width page ≡ o = omega (arith, some) in
    ap (slice_index out) (sym place) ∙ h.done (o / width page) (o % width page) plate column column

-- a sample that keeps its tints
pub kept_further : (page : PageParts) (y n : ℕ) (out : List ℕ) → KeepsTints page (record { x = n; y = y }) → IsRowTo page y n out → IsRowTo page y (n + 1) out
kept_further page y n out keep h = record {
  long = h.long;
  done = λ c x lc l lx. elim (cases_eq x n) [
    | inl e ↦ rw e (h.rest c n lc (omega arith) (rw e at lx) ∙ sym (keep c))
    | inr ne ↦ h.done c x lc (omega (arith, l, ne)) lx
  ];
  rest = λ c x lc a lx. h.rest c x lc (omega (arith, a)) lx;
}

-- samples side by side that keep their tints
pub kept_all : (page : PageParts) (y n count : ℕ) (out : List ℕ) → ((k : ℕ) → n ≤ k → k < n + count → KeepsTints page (record { x = k; y = y })) → IsRowTo page y n out → IsRowTo page y (n + count) out
kept_all page y n count out keep h = record {
  long = h.long;
  done = λ c x lc l lx. elim (cases_lt x n) [
    | inl before ↦ h.done c x lc before lx
    | inr from ↦ h.rest c x lc from lx ∙ sym (keep x from l c)
  ];
  rest = λ c x lc a lx. h.rest c x lc (omega (arith, a)) lx;
}
