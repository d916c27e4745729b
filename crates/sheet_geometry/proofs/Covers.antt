-- Disjoint areas that cover a sheet: what is counted in them adds up to what is counted on the sheet.
use Rattle.std.proofs.Common.{◌≡◌, ℕ, zero, suc, ◌+◌, ◌-◌, ◌*◌, ◌<◌, ◌≤◌, All, List, [], ◌∷◌, length, min, refl, sym, ◌∙◌, ap, arith, inl, inr}
use Rattle.std.specs.Prelude.{sum_by}
use Rattle.std.proofs.lemmas.Bool.{cases_lt}
use Rattle.std.proofs.lemmas.List.Sums.{sum_by-cons}
use Rattle.page_model.specs.declared.parts.At.{At}
use Rattle.page_model.specs.declared.parts.PageParts.{PageParts}
use Rattle.lists.specs.Words.{sum_below}
use Rattle.page_model.specs.Page.{height, width}
use Rattle.page_model.proofs.NumberSums.{sum_none, sum_plus, sum_same}
use Rattle.sheet_geometry.specs.declared.cuts.Cut.{Cut}
use Rattle.sheet_geometry.specs.Areas.{area_sum, changes_in, changes_plate, edges_at, lies_in, page_sum, traps}
use Rattle.sheet_geometry.specs.Covers.{CoverLaw, IsCover, IsOnSheet, LiesWithin, area_at, areas_sum, no_area}
use Rattle.sheet_geometry.proofs.Areas.{area-columns, area-rows, area-same, counts_by_samples}

abbrev at_ : ℕ → ℕ → At
at_ x y = record { x = x; y = y }

-- 1 in a span of columns or rows, and 0 outside
abbrev within : ℕ → ℕ → ℕ → ℕ
within from wide n = min 1 (min (n + 1 - from) (from + wide - n))

-- 1 in an area, and 0 outside
abbrev holds : Cut → At → ℕ
holds area p = within area.left area.width p.x * within area.top area.height p.y

holds_in : (area : Cut) (p : At) → LiesWithin area p → holds area p ≡ 1
holds_in area p lies =
    let l = lies.left in
    let r = lies.right in
    let t = lies.top in
    let b = lies.bottom in
    let across : within area.left area.width p.x ≡ 1 = omega (arith, l, r) in
    let down : within area.top area.height p.y ≡ 1 = omega (arith, t, b) in
    ap (λ (n : ℕ). n * within area.top area.height p.y) across ∙ (let e : 1 * within area.top area.height p.y ≡ within area.top area.height p.y = omega arith in e) ∙ down

no_times : (n m : ℕ) → m ≡ 0 → n * m ≡ 0
no_times n m none = ap (λ (k : ℕ). n * k) none ∙ (let e : n * 0 ≡ 0 = omega arith in e)

of_none : (n m : ℕ) → n ≡ 0 → n * m ≡ 0
of_none n m none = ap (λ (k : ℕ). k * m) none ∙ (let e : 0 * m ≡ 0 = omega arith in e)

none_across : (area : Cut) (p : At) → within area.left area.width p.x ≡ 0 → holds area p ≡ 0
none_across area p none = of_none (within area.left area.width p.x) (within area.top area.height p.y) none

none_down : (area : Cut) (p : At) → within area.top area.height p.y ≡ 0 → holds area p ≡ 0
none_down area p none = no_times (within area.left area.width p.x) (within area.top area.height p.y) none

-- the sample lies in the area, or it does not and nothing is counted
data Stored (area : Cut) (p : At) : Type 0 where
  inside : LiesWithin area p → Stored area p
  outside : holds area p ≡ 0 → Stored area p

stored_or : (area : Cut) (p : At) → Stored area p
stored_or area p = elim (cases_lt p.x area.left) [
  | inl low ↦ Stored.outside (none_across area p (omega (arith, low)))
  | inr l ↦ elim (cases_lt p.x (area.left + area.width)) [
    | inr high ↦ Stored.outside (none_across area p (omega (arith, high)))
    | inl r ↦ elim (cases_lt p.y area.top) [
      | inl low ↦ Stored.outside (none_down area p (omega (arith, low)))
      | inr t ↦ elim (cases_lt p.y (area.top + area.height)) [
        | inr high ↦ Stored.outside (none_down area p (omega (arith, high)))
        | inl b ↦ Stored.inside (record { left = omega (arith, l); right = r; top = omega (arith, t); bottom = b })
      ]
    ]
  ]
]

-- ---- one area

-- an area in which nothing is counted
none_there : (f : At → ℕ) (left top wide tall : ℕ) → ((x y : ℕ) → x < wide → y < tall → f (at_ (left + x) (top + y)) ≡ 0) → area_sum f left top wide tall ≡ 0
none_there f left top wide tall none =
    sum_same (λ y. sum_below (λ x. f (at_ (left + x) (top + y))) wide) (λ y. 0) tall
    (λ y ly. sum_same (λ x. f (at_ (left + x) (top + y))) (λ x. 0) wide (λ x lx. none x y lx ly) ∙ sum_none wide)
    ∙ sum_none tall

-- what is counted of a function by an area alone
abbrev stored_of : Cut → (At → ℕ) → At → ℕ
stored_of area f p = holds area p * f p

no_stored : (area : Cut) (f : At → ℕ) (p : At) → holds area p ≡ 0 → stored_of area f p ≡ 0
no_stored area f p none = of_none (holds area p) (f p) none

all_stored : (area : Cut) (f : At → ℕ) (p : At) → holds area p ≡ 1 → stored_of area f p ≡ f p
all_stored area f p one = ap (λ (k : ℕ). k * f p) one ∙ (let e : 1 * f p ≡ f p = omega arith in e)

one_area : (f : At → ℕ) (area : Cut) (wide tall : ℕ) → area.left + area.width ≤ wide → area.top + area.height ≤ tall → area_sum (stored_of area f) 0 0 wide tall ≡ area_sum f area.left area.top area.width area.height
one_area f area wide tall across down =
    let g : At → ℕ = stored_of area f in
    let l : ℕ = area.left in
    let w : ℕ = area.width in
    let t : ℕ = area.top in
    let h : ℕ = area.height in
    let right : ℕ = wide - (l + w) in
    let under : ℕ = tall - (t + h) in
    let columns : wide ≡ l + (w + right) = omega (arith, across) in
    let rows : tall ≡ t + (h + under) = omega (arith, down) in
    let to_left : area_sum g 0 0 l tall ≡ 0 = none_there g 0 0 l tall (λ x y lx ly. no_stored area f (at_ (0 + x) (0 + y)) (none_across area (at_ (0 + x) (0 + y)) (omega (arith, lx)))) in
    let to_right : area_sum g (0 + l + w) 0 right tall ≡ 0 = none_there g (0 + l + w) 0 right tall (λ x y lx ly. no_stored area f (at_ (0 + l + w + x) (0 + y)) (none_across area (at_ (0 + l + w + x) (0 + y)) (omega arith))) in
    let above : area_sum g (0 + l) 0 w t ≡ 0 = none_there g (0 + l) 0 w t (λ x y lx ly. no_stored area f (at_ (0 + l + x) (0 + y)) (none_down area (at_ (0 + l + x) (0 + y)) (omega (arith, ly)))) in
    let below : area_sum g (0 + l) (0 + t + h) w under ≡ 0 = none_there g (0 + l) (0 + t + h) w under (λ x y lx ly. no_stored area f (at_ (0 + l + x) (0 + t + h + y)) (none_down area (at_ (0 + l + x) (0 + t + h + y)) (omega arith))) in
    let here : area_sum g (0 + l) (0 + t) w h ≡ area_sum f l t w h = area-same g f (0 + l) (0 + t) l t w h
    (λ x y lx ly.
    let p : At = at_ (l + x) (t + y) in
    let column : 0 + l + x ≡ l + x = omega arith in
    let row : 0 + t + y ≡ t + y = omega arith in
    (λ i. stored_of area f (at_ (column i) (row i))) ∙ all_stored area f p (holds_in area p (record { left = omega arith; right = omega (arith, lx); top = omega arith; bottom = omega (arith, ly) }))) in
    let cut_columns = ap (λ (n : ℕ). area_sum g 0 0 n tall) columns ∙ area-columns g 0 0 l (w + right) tall in
    let cut_right = area-columns g (0 + l) 0 w right tall in
    let cut_rows = ap (λ (n : ℕ). area_sum g (0 + l) 0 w n) rows ∙ area-rows g (0 + l) 0 w t (h + under) in
    let cut_under = area-rows g (0 + l) (0 + t) w h under in
    omega (arith, to_left, to_right, above, below, here, cut_columns, cut_right, cut_rows, cut_under)

-- ---- all areas

-- in how many of the areas a sample lies
abbrev holders : List Cut → At → ℕ
holders areas p = sum_by (λ (area : Cut). holds area p) areas

-- none of these holds the sample
no_holder : (areas : List Cut) (p : At) → ((k : ℕ) → k < length areas → LiesWithin (area_at areas k) p → ⊥) → holders areas p ≡ 0
no_holder [] p none = refl
no_holder (area ∷ areas) p none = elim (stored_or area p) [
  | Stored.inside lies ↦ absurd (none 0 (omega arith) lies)
  | Stored.outside out ↦ (let rest = no_holder areas p (λ k l lies. none (suc k) (omega (arith, l)) lies) in
      let cons = sum_by-cons (λ (a : Cut). holds a p) area areas in omega (arith, cons, out, rest))
]

-- just one of them does
one_holder : (areas : List Cut) (p : At) (k : ℕ) → k < length areas → LiesWithin (area_at areas k) p → ((j : ℕ) → j < length areas → LiesWithin (area_at areas j) p → j ≡ k) → holders areas p ≡ 1
one_holder [] p k less lies alone = absurd (omega (arith, less))
one_holder (area ∷ areas) p zero less lies alone =
    let rest = no_holder areas p (λ j l there. let e = alone (suc j) (omega (arith, l)) there in absurd (omega (arith, e))) in
    let cons = sum_by-cons (λ (a : Cut). holds a p) area areas in
    let here = holds_in area p lies in
    omega (arith, cons, here, rest)
one_holder (area ∷ areas) p (suc k) less lies alone = elim (stored_or area p) [
  | Stored.inside there ↦ absurd (let e = alone 0 (omega arith) there in omega (arith, e))
  | Stored.outside none ↦ (let rest = one_holder areas p k (omega (arith, less)) lies (λ j l there. let e = alone (suc j) (omega (arith, l)) there in omega (arith, e)) in
      let cons = sum_by-cons (λ (a : Cut). holds a p) area areas in omega (arith, cons, none, rest))
]

-- two functions are counted together
area_plus : (f g : At → ℕ) (wide tall : ℕ) → area_sum (λ p. f p + g p) 0 0 wide tall ≡ area_sum f 0 0 wide tall + area_sum g 0 0 wide tall
area_plus f g wide tall =
    sum_same (λ y. sum_below (λ x. f (at_ (0 + x) (0 + y)) + g (at_ (0 + x) (0 + y))) wide) (λ y. sum_below (λ x. f (at_ (0 + x) (0 + y))) wide + sum_below (λ x. g (at_ (0 + x) (0 + y))) wide) tall
    (λ y ly. sum_plus (λ x. f (at_ (0 + x) (0 + y))) (λ x. g (at_ (0 + x) (0 + y))) wide)
    ∙ sum_plus (λ y. sum_below (λ x. f (at_ (0 + x) (0 + y))) wide) (λ y. sum_below (λ x. g (at_ (0 + x) (0 + y))) wide) tall

times_both : (a b n : ℕ) → (a + b) * n ≡ a * n + b * n
times_both a b n = omega arith

module _ (f : PageParts → At → ℕ) (sheet : PageParts) where
  -- the sum over areas that lie on the sheet, by how many of them hold a sample
  by_holders : (areas : List Cut) → All (IsOnSheet sheet) areas → areas_sum f sheet areas ≡ area_sum (λ p. holders areas p * f sheet p) 0 0 (width sheet) (height sheet)
  by_holders [] on = sym (none_there (λ p. 0 * f sheet p) 0 0 (width sheet) (height sheet) (λ x y lx ly. of_none 0 (f sheet (at_ (0 + x) (0 + y))) refl))
  by_holders (area ∷ areas) on =
      let first = on 0 no_area (omega arith) in
      let rest = by_holders areas (λ k d l. on (suc k) d (omega (arith, l))) in
      let one = one_area (f sheet) area (width sheet) (height sheet) first.across first.down in
      let cons = sum_by-cons (λ (a : Cut). area_sum (f sheet) a.left a.top a.width a.height) area areas in
      let both = area_plus (stored_of area (f sheet)) (λ p. holders areas p * f sheet p) (width sheet) (height sheet) in
      let same : area_sum (λ p. holders (area ∷ areas) p * f sheet p) 0 0 (width sheet) (height sheet) ≡ area_sum (λ p. stored_of area (f sheet) p + holders areas p * f sheet p) 0 0 (width sheet) (height sheet) =
      area-same (λ p. holders (area ∷ areas) p * f sheet p) (λ p. stored_of area (f sheet) p + holders areas p * f sheet p) 0 0 0 0 (width sheet) (height sheet)
      (λ x y lx ly. let p : At = at_ (0 + x) (0 + y) in
      ap (λ (n : ℕ). n * f sheet p) (sum_by-cons (λ (a : Cut). holds a p) area areas) ∙ times_both (holds area p) (holders areas p) (f sheet p)) in
      omega (arith, cons, rest, one, both, same)

  pub cover_sum : (areas : List Cut) → IsCover sheet areas → page_sum f sheet ≡ areas_sum f sheet areas
  cover_sum areas cover =
      area-same (f sheet) (λ p. holders areas p * f sheet p) 0 0 0 0 (width sheet) (height sheet)
      (λ x y lx ly.
      let p : At = at_ (0 + x) (0 + y) in
      let there = cover.covered p (record { x = omega (arith, lx); y = omega (arith, ly) }) in
      let one = one_holder areas p there.0 there.1 there.2 (λ j l lies. cover.apart p j there.0 l there.1 lies there.2) in
      sym (ap (λ (n : ℕ). n * f sheet p) one ∙ (let e : 1 * f sheet p ≡ f sheet p = omega arith in e)))
      ∙ sym (by_holders areas cover.on_sheet)

pub cover_law : (sheet : PageParts) (areas : List Cut) → 1 ≤ width sheet → 1 ≤ height sheet → IsCover sheet areas → CoverLaw sheet areas
cover_law sheet areas wide tall cover =
    let counts = counts_by_samples sheet wide tall in
    record {
      zone_samples = λ z. counts.zone_samples z ∙ cover_sum (lies_in z) sheet areas cover;
      zone_changed = λ z. counts.zone_changed z ∙ cover_sum (changes_in traps z) sheet areas cover;
      plate_changed = λ c. counts.plate_changed c ∙ cover_sum (changes_plate traps c) sheet areas cover;
      edges = counts.edges ∙ cover_sum edges_at sheet areas cover;
    }
