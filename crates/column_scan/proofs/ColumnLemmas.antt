-- The edges of one column in some rows of marks, and the nearest of them: what a sweep finds is
-- the column's decider.
use Rattle.std.proofs.Common.{◌≡◌, ℕ, ◌+◌, ◌*◌, ◌-◌, ◌%◌, ◌/◌, ◌<◌, ◌≤◌, Bool, true, ◌&&◌, nat_le, inl, inr, refl, sym, ◌∙◌, ap, arith, Option, Some, None, if◌then◌else◌}
use Rattle.std.specs.Prelude.{◌==◌}
use Rattle.std.specs.Option.{MatchOption}
use Rattle.std.proofs.lemmas.Bool.{cases_lt, cases_Bool, and_parts, and_from, eqb-true, leb-true, leb-false, le-leb, false_from_ne_true}
use Rattle.page_model.specs.declared.parts.PageParts.{PageParts}
use Rattle.page_model.specs.Page.{width, height}
use Rattle.lists.specs.Words.{gap}
use Rattle.page_model.specs.Deciding.{decides}
use Rattle.page_model.specs.Marks.{Marked, HoldsEdge, stored_rows}
use Rattle.page_model.specs.Columns.{AreMarks, CoverRows, edge_decides, column_edge, column_answer, offset_code}
use Rattle.column_scan.specs.Sweep.{passes, row_edge, code_at, above_code, nearer_code, row_above, row_below, above_of, column_of}
use Rattle.column_scan.proofs.SweepLemmas.{LastFact, NextFact, last_below-is, row_below-is}
use Rattle.column_scan.proofs.PickLemmas.{UpFact, DownFact, pick, picked}

-- what is known of a column's edges in rows n of marks from row top on, asked for row top + r
record IsColumn (test : ℕ → Bool) (t : ℕ → Bool) (x2 top stored r reach tall : ℕ) : Type 0 where
  row : r < stored
  inside : top + stored ≤ tall
  forth : (j : ℕ) → j < stored → t j ≡ true → test (row_edge x2 (top + j)) ≡ true
  back : (j : ℕ) → j < stored → test (row_edge x2 (top + j)) ≡ true → t j ≡ true
  shape : (y2 : ℕ) → test y2 ≡ true → y2 ≡ row_edge x2 (y2 / 2)
  low : (y2 : ℕ) → test y2 ≡ true → y2 + 2 ≤ 2 * tall
  near : (y2 : ℕ) → test y2 ≡ true → gap y2 (2 * (top + r)) ≤ reach → (top ≤ y2 / 2) × (y2 / 2 < top + stored)

abbrev in_reach : (ℕ → Bool) → ℕ → ℕ → ℕ → Bool
in_reach test c reach y2 = test y2 && nat_le (gap y2 c) reach

-- a row of the marks whose edge is y2
record Found (t : ℕ → Bool) (x2 top stored y2 : ℕ) : Type 0 where
  at : ℕ
  within : at < stored
  edge : y2 ≡ row_edge x2 (top + at)
  passes : t at ≡ true

found : (test t : ℕ → Bool) (x2 top stored r reach tall y2 : ℕ) → IsColumn test t x2 top stored r reach tall → in_reach test (2 * (top + r)) reach y2 ≡ true → Found t x2 top stored y2
found test t x2 top stored r reach tall y2 h p =
    let parts = and_parts (test y2) (nat_le (gap y2 (2 * (top + r))) reach) p in
    let stored_row = h.near y2 parts.0 (leb-true _ _ parts.1) in
    let row : top + (y2 / 2 - top) ≡ y2 / 2 = omega (arith, stored_row.0) in
    let edge : y2 ≡ row_edge x2 (top + (y2 / 2 - top)) = h.shape y2 parts.0 ∙ ap (row_edge x2) (sym row) in
    record { at = y2 / 2 - top; within = omega (arith, stored_row.0, stored_row.1); edge = edge; passes = h.back (y2 / 2 - top) (omega (arith, stored_row.0, stored_row.1)) (ap test (sym edge) ∙ parts.0) }

reaches : (test : ℕ → Bool) (c reach y2 : ℕ) → in_reach test c reach y2 ≡ true → gap y2 c ≤ reach
reaches test c reach y2 p = leb-true _ _ (and_parts (test y2) (nat_le (gap y2 c) reach) p).1

abbrev up_of : ℕ → ℕ → ℕ → ℕ → Option ℕ → Option ℕ
up_of x2 top r reach None = None
up_of x2 top r reach (Some j) = if nat_le (2 * r) (row_edge x2 j + reach) then Some (row_edge x2 (top + j)) else None

abbrev down_of : ℕ → ℕ → ℕ → ℕ → Option ℕ → Option ℕ
down_of x2 top r reach None = None
down_of x2 top r reach (Some j) = if nat_le (row_edge x2 j) (2 * r + reach) then Some (row_edge x2 (top + j)) else None

up-is : (test t : ℕ → Bool) (x2 top stored r reach tall : ℕ) (o : Option ℕ) → IsColumn test t x2 top stored r reach tall → LastFact t (r + x2 % 2) o → UpFact (in_reach test (2 * (top + r)) reach) (2 * (top + r)) (up_of x2 top r reach o)
up-is test t x2 top stored r reach tall None h last = λ y2 le p.
    let f = found test t x2 top stored r reach tall y2 h p in
    let edge = f.edge in
    last f.at (omega (arith, edge, le)) f.passes
up-is test t x2 top stored r reach tall (Some j) h last = elim (cases_Bool (nat_le (2 * r) (row_edge x2 j + reach))) [
  | inl near ↦ rw near (
    omega (arith, last.0),
    and_from _ _ (h.forth j (omega (arith, last.0, h.row)) last.1) (le-leb _ _ (omega (arith, last.0, leb-true _ _ near))),
    λ y2 after le p.
        let f = found test t x2 top stored r reach tall y2 h p in
        let edge = f.edge in
        last.2 f.at (omega (arith, edge, after)) (omega (arith, edge, le)) f.passes,
  )
  | inr far ↦ rw far (λ y2 le p.
      let f = found test t x2 top stored r reach tall y2 h p in
      let edge = f.edge in
      let close = reaches test _ reach y2 p in
      elim (cases_lt j f.at) [
        | inl after ↦ last.2 f.at after (omega (arith, edge, le)) f.passes
        | inr upto ↦ omega (arith, edge, close, le, upto, leb-false _ _ far)
      ])
]

down-is : (test t : ℕ → Bool) (x2 top stored r reach tall : ℕ) (o : Option ℕ) → IsColumn test t x2 top stored r reach tall → NextFact t (r + x2 % 2) stored o → DownFact (in_reach test (2 * (top + r)) reach) (2 * (top + r)) (2 * tall - 1) (down_of x2 top r reach o)
down-is test t x2 top stored r reach tall None h next = λ y2 after l p.
    let f = found test t x2 top stored r reach tall y2 h p in
    let edge = f.edge in
    next f.at (omega (arith, edge, after)) f.within f.passes
down-is test t x2 top stored r reach tall (Some j) h next = elim (cases_Bool (nat_le (row_edge x2 j) (2 * r + reach))) [
  | inl near ↦
      let passed = h.forth j next.1 next.2 in
      rw near (
        omega (arith, next.0),
        omega (arith, h.low _ passed),
        and_from _ _ passed (le-leb _ _ (omega (arith, next.0, leb-true _ _ near))),
        λ y2 after before p.
            let f = found test t x2 top stored r reach tall y2 h p in
            let edge = f.edge in
            next.3 f.at (omega (arith, edge, after)) (omega (arith, edge, before)) f.passes,
      )
  | inr far ↦ rw far (λ y2 after l p.
      let f = found test t x2 top stored r reach tall y2 h p in
      let edge = f.edge in
      let close = reaches test _ reach y2 p in
      elim (cases_lt f.at j) [
        | inl before ↦ next.3 f.at (omega (arith, edge, after)) before f.passes
        | inr from ↦ omega (arith, edge, close, after, from, leb-false _ _ far)
      ])
]

-- the code of the picked edge
code-is : (x2 top r reach : ℕ) (above below : Option ℕ) → reach ≤ 256 → MatchOption above (0 ≤ r) (λ j. row_edge x2 j ≤ 2 * r) → MatchOption below (0 ≤ r) (λ j. 2 * r < row_edge x2 j) → nearer_code x2 r reach (above_code x2 r reach above) below ≡ offset_code (top + r) (pick (2 * (top + r)) (up_of x2 top r reach above) (down_of x2 top r reach below))
code-is x2 top r reach None None few a b = refl
code-is x2 top r reach None (Some j) few a b = elim (cases_Bool (nat_le (row_edge x2 j) (2 * r + reach))) [ inl near ↦ rw near (omega (arith, b)) | inr far ↦ rw far refl ]
code-is x2 top r reach (Some i) None few a b = elim (cases_Bool (nat_le (2 * r) (row_edge x2 i + reach))) [ inl near ↦ rw near (omega (arith, a)) | inr far ↦ rw far refl ]
code-is x2 top r reach (Some i) (Some j) few a b = elim (cases_Bool (nat_le (2 * r) (row_edge x2 i + reach))) [
  | inl near ↦ elim (cases_Bool (nat_le (row_edge x2 j) (2 * r + reach))) [
    | inl close ↦ rw (near, close) (both x2 top r i j (omega (arith, few, leb-true _ _ near)) a b)
    | inr far ↦ rw (near, far) (omega (arith, a))
  ]
  | inr off ↦ elim (cases_Bool (nat_le (row_edge x2 j) (2 * r + reach))) [ inl close ↦ rw (off, close) (omega (arith, b)) | inr far ↦ rw (off, far) refl ]
] where
  both : (x2 top r i j : ℕ) → 2 * r ≤ row_edge x2 i + 256 → row_edge x2 i ≤ 2 * r → 2 * r < row_edge x2 j → (if nat_le 1 (code_at x2 r i) then (if nat_le 514 (code_at x2 r j + code_at x2 r i) then code_at x2 r i else code_at x2 r j) else code_at x2 r j) ≡ offset_code (top + r) (if nat_le (2 * (top + r) + 2 * (top + r)) (row_edge x2 (top + i) + row_edge x2 (top + j)) then Some (row_edge x2 (top + i)) else Some (row_edge x2 (top + j)))
  both x2 top r i j close a b = rw (le-leb 1 (code_at x2 r i) (omega (arith, close))) (elim (cases_Bool (nat_le 514 (code_at x2 r j + code_at x2 r i))) [
    | inl up ↦ rw (up, le-leb (2 * (top + r) + 2 * (top + r)) (row_edge x2 (top + i) + row_edge x2 (top + j)) (omega (arith, leb-true _ _ up, close, a, b))) (omega (arith, a))
    | inr down ↦ rw (down, false_from_ne_true (nat_le (2 * (top + r) + 2 * (top + r)) (row_edge x2 (top + i) + row_edge x2 (top + j))) (λ p. omega (arith, leb-true _ _ p, leb-false _ _ down, close, a, b))) (omega (arith, b))
  ])

edge_stored : (m : Marked) (x2 j : ℕ) → x2 + 2 ≤ 2 * m.wide → j < stored_rows m → HoldsEdge m x2 (row_edge x2 (m.top + j))
edge_stored m x2 j inside l = record { one_odd = omega arith; across = inside; from = omega arith; to = omega (arith, l) }

passes-is : (page : PageParts) (m : Marked) (x2 j : ℕ) → AreMarks page m → x2 + 2 ≤ 2 * m.wide → j < stored_rows m → passes m x2 j ≡ edge_decides page x2 (row_edge x2 (m.top + j))
unfolding passes
passes-is page m x2 j marks inside l = marks.each x2 (row_edge x2 (m.top + j)) (edge_stored m x2 j inside l)

parts4 : (a b c d : Bool) → (a && (b && (c && d))) ≡ true → (a ≡ true) × (b ≡ true) × (c ≡ true) × (d ≡ true)
parts4 a b c d p =
    let one = and_parts a (b && (c && d)) p in
    let two = and_parts b (c && d) one.1 in
    let three = and_parts c d two.1 in
    (one.0, two.0, three.0, three.1)

pub record IsOdd (page : PageParts) (x2 y2 : ℕ) : Type 0 where
  pub odd : (x2 + y2) % 2 ≡ 1
  pub low : y2 + 2 ≤ 2 * height page

decides_facts : (page : PageParts) (x2 y2 : ℕ) → edge_decides page x2 y2 ≡ true → IsOdd page x2 y2
unfolding edge_decides
decides_facts page x2 y2 p = (let parts = parts4 ((x2 + y2) % 2 == 1) (nat_le (x2 + 2) (2 * width page)) (nat_le (y2 + 2) (2 * height page)) (decides page (record { x2 = x2; y2 = y2 })) p in record { odd = eqb-true _ _ parts.0; low = leb-true _ _ parts.2 })

decides_shape : (page : PageParts) (x2 y2 : ℕ) → edge_decides page x2 y2 ≡ true → y2 ≡ row_edge x2 (y2 / 2)
decides_shape page x2 y2 p = omega (arith, (decides_facts page x2 y2 p).odd)

decides_low : (page : PageParts) (x2 y2 : ℕ) → edge_decides page x2 y2 ≡ true → y2 + 2 ≤ 2 * height page
decides_low page x2 y2 p = (decides_facts page x2 y2 p).low

column_at : (page : PageParts) (m : Marked) (x2 r first rows reach k : ℕ) → AreMarks page m → CoverRows page m first rows reach → x2 + 2 ≤ 2 * m.wide → k < rows → m.top + r ≡ first + k → r < stored_rows m → IsColumn (edge_decides page x2) (passes m x2) x2 m.top (stored_rows m) r reach (height page)
column_at page m x2 r first rows reach k marks cover inside lk row stored = record {
  row = stored;
  inside = marks.inside;
  forth = λ j l p. sym (passes-is page m x2 j marks inside l) ∙ p;
  back = λ j l p. passes-is page m x2 j marks inside l ∙ p;
  shape = decides_shape page x2;
  low = decides_low page x2;
  near = λ y2 p close. (let low = decides_low page x2 y2 p in let h = cover.near (y2 / 2) (omega (arith, low)) (omega (arith, close, row, lk)) (omega (arith, close, row, lk)) in (h.from, h.to));
}

below_after : (x2 r n : ℕ) (t : ℕ → Bool) (o : Option ℕ) → NextFact t (r + x2 % 2) n o → MatchOption o (0 ≤ r) (λ j. 2 * r < row_edge x2 j)
below_after x2 r n t None h = omega arith
below_after x2 r n t (Some j) h = omega (arith, h.0)

above_before : (x2 r : ℕ) (t : ℕ → Bool) (o : Option ℕ) → LastFact t (r + x2 % 2) o → MatchOption o (0 ≤ r) (λ j. row_edge x2 j ≤ 2 * r)
above_before x2 r t None h = omega arith
above_before x2 r t (Some j) h = omega (arith, h.0)

-- what the two sweeps make of the marks is the page's column answer
pub column-meets : (page : PageParts) (m : Marked) (x2 r first rows reach k : ℕ) → AreMarks page m → CoverRows page m first rows reach → reach ≤ 256 → x2 + 2 ≤ 2 * m.wide → k < rows → m.top + r ≡ first + k → r < stored_rows m → column_of m x2 reach r ≡ column_answer page reach x2 (first + k)
unfolding column_of above_of column_answer column_edge
column-meets page m x2 r first rows reach k marks cover few inside lk row stored =
    let h = column_at page m x2 r first rows reach k marks cover inside lk row stored in
    let last = last_below-is (passes m x2) (r + x2 % 2) in
    let next = row_below-is m x2 r stored in
    let best = picked (in_reach (edge_decides page x2) (2 * (m.top + r)) reach) (2 * (m.top + r)) (2 * height page - 1) (up_of x2 m.top r reach (row_above m x2 r)) (down_of x2 m.top r reach (row_below m x2 r)) (omega (arith, marks.inside, stored)) (up-is _ _ _ _ _ _ _ _ _ h last) (down-is _ _ _ _ _ _ _ _ _ h next) in
    rw (← row) (code-is x2 m.top r reach (row_above m x2 r) (row_below m x2 r) few (above_before x2 r (passes m x2) _ last) (below_after x2 r _ (passes m x2) _ next) ∙ ap (offset_code (m.top + r)) (sym best))
