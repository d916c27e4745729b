-- A window of the least tints of its columns, and a block of a row lowered by it, step by step.
use Rattle.std.proofs.Common.{◌≡◌, ℕ, ◌+◌, ◌-◌, ◌*◌, ◌<◌, ◌≤◌, ◌==◌, ◌⊎◌, ◌^◌, min, List, length, replicate, slice_index, refl, subst, sym, ◌∙◌, inl, inr, arith, if◌then◌else◌}
use Rattle.std.proofs.lemmas.Bool.{cases_lt}
use Rattle.std.proofs.lemmas.List.{get_or-replicate}
use Rattle.std.proofs.lemmas.Nat.{mul-le}
use Rattle.lists.specs.Words.{gap, square}
use Rattle.draw_back.specs.Drawn.{distance2}
use Rattle.draw_back.specs.Fields.{Lists, entry, scene_of}
use Rattle.draw_back.specs.Lowers.{Lowers, IsOfFar, IsOfPlace, IsOfRows, IsOfSide, IsOfSource}
use Rattle.draw_back.proofs.LowerLemmas.{lowered_source, lowered_greatest, lowers_both, lowers_as, lowers_not}
use Rattle.draw_back.proofs.SourceLemmas.{free_is, is_free, source_columns, source_free, source_near, source_of}

pub place_source : (tints marks : List ℕ) (from halo i j v t : ℕ) → j + halo ≡ from + i → IsOfPlace tints marks from halo i v → (if slice_index marks j == 0 then min t (slice_index tints j) else t) ≤ v
place_source tints marks from halo i j v t there o =
    let e : o.column ≡ j = omega (arith, o.there) in
    rw (o.is, ← e) (lowered_source t (slice_index tints o.column) (slice_index marks o.column) o.free)

pub place_greatest : (tints marks : List ℕ) (from halo i j t b : ℕ) → j + halo ≡ from + i → j < length tints → b ≤ t → ((v : ℕ) → IsOfPlace tints marks from halo i v → b ≤ v) → b ≤ (if slice_index marks j == 0 then min t (slice_index tints j) else t)
place_greatest tints marks from halo i j t b there inside own all = lowered_greatest t (slice_index tints j) (slice_index marks j) b own
    (λ free. all (slice_index tints j) (record { column = j; there = there; inside = inside; free = free; is = refl }))

-- a tint lowered by what a window has to both sides of it
pub side_low : (t left right : ℕ) → min (min t left) right ≤ t
side_low t left right = omega arith

pub side_source : (best : List ℕ) (from halo step x v t : ℕ) → from ≤ x → step ≤ halo → IsOfSide best from halo step x v → min (min t (slice_index best (x - from + halo - step))) (slice_index best (x - from + halo + step)) ≤ v
side_source best from halo step x v t begun close o = elim o.there [
  | inl p ↦ let e : o.place ≡ x - from + halo - step = omega arith in
      let low : min (min t (slice_index best o.place)) (slice_index best (x - from + halo + step)) ≤ slice_index best o.place = omega arith in
      rw (o.is, ← e) low
  | inr p ↦ let e : o.place ≡ x - from + halo + step = omega arith in
      let low : min (min t (slice_index best (x - from + halo - step))) (slice_index best o.place) ≤ slice_index best o.place = omega arith in
      rw (o.is, ← e) low
]

pub side_greatest : (best : List ℕ) (from halo step x t b : ℕ) → from ≤ x → step ≤ halo → b ≤ t → ((v : ℕ) → IsOfSide best from halo step x v → b ≤ v) → b ≤ min (min t (slice_index best (x - from + halo - step))) (slice_index best (x - from + halo + step))
side_greatest best from halo step x t b begun close own all =
    let left : b ≤ slice_index best (x - from + halo - step) = all (slice_index best (x - from + halo - step)) (record { place = x - from + halo - step; there = inl (omega arith); is = refl }) in
    let right : b ≤ slice_index best (x - from + halo + step) = all (slice_index best (x - from + halo + step)) (record { place = x - from + halo + step; there = inr (omega arith); is = refl }) in
    omega arith

-- a row of the lists is the one of these rows that there is
pub rows_of_places : (lists : Lists) (a b : List ℕ) (places from halo k : ℕ) (tints marks : List ℕ) (is_row : ℕ → Type 0) → is_row k → k < lists.tall → ((row : ℕ) → is_row row → row ≡ k) → length tints ≡ lists.wide → ((x : ℕ) → x < lists.wide → slice_index tints x ≡ entry lists.tints lists.wide x k) → ((x : ℕ) → x < lists.wide → slice_index marks x ≡ entry lists.marks lists.wide x k) → Lowers a b 0 places (IsOfPlace tints marks from halo) → Lowers a b 0 places (IsOfRows lists from halo is_row)
rows_of_places lists a b places from halo k tints marks is_row is below only wide tint_is mark_is so =
    lowers_as a b 0 places (IsOfPlace tints marks from halo) (IsOfRows lists from halo is_row)
    (λ i v o.
    let e : o.row ≡ k = only o.row o.in_rows in
    let free : entry lists.marks lists.wide o.column k ≡ 0 = subst (λ (n : ℕ). entry lists.marks lists.wide o.column n ≡ 0) e o.free in
    let is : v ≡ entry lists.tints lists.wide o.column k = subst (λ (n : ℕ). v ≡ entry lists.tints lists.wide o.column n) e o.is in
    record { column = o.column; there = o.there; inside = rw wide o.inside; free = mark_is o.column o.inside ∙ free; is = is ∙ sym (tint_is o.column o.inside) })
    (λ i v o.
    let inside : o.column < lists.wide = omega (arith, o.inside, wide) in
    record { column = o.column; row = k; there = o.there; inside = inside; on_page = below; in_rows = is; free = sym (mark_is o.column inside) ∙ o.free; is = o.is ∙ tint_is o.column inside })
    so

-- there is no such row
pub no_rows : (lists : Lists) (a : List ℕ) (places from halo : ℕ) (is_row : ℕ → Type 0) → ((row : ℕ) → row < lists.tall → is_row row → ⊥) → Lowers a a 0 places (IsOfRows lists from halo is_row)
no_rows lists a places from halo is_row none = lowers_not a 0 places (IsOfRows lists from halo is_row) (λ i v l m o. none o.row o.on_page o.in_rows)

-- the rows one farther away come into the window
pub rows_step : (lists : Lists) (full a b c : List ℕ) (places from halo y h : ℕ) → Lowers full a 0 places (IsOfRows lists from halo (λ k. gap y k < h)) → Lowers a b 0 places (IsOfRows lists from halo (λ k. k + h ≡ y)) → Lowers b c 0 places (IsOfRows lists from halo (λ k. (0 < h) × (k ≡ y + h))) → Lowers full c 0 places (IsOfRows lists from halo (λ k. gap y k < h + 1))
rows_step lists full a b c places from halo y h so above below =
    lowers_both full a c 0 places (IsOfRows lists from halo (λ k. gap y k < h)) (IsOfRows lists from halo (λ k. gap y k ≡ h)) (IsOfRows lists from halo (λ k. gap y k < h + 1)) so
    (lowers_both a b c 0 places (IsOfRows lists from halo (λ k. k + h ≡ y)) (IsOfRows lists from halo (λ k. (0 < h) × (k ≡ y + h))) (IsOfRows lists from halo (λ k. gap y k ≡ h)) above below
    (λ i v o. elim (sides o.row o.in_rows) [
      | inl p ↦ inl (record { column = o.column; row = o.row; there = o.there; inside = o.inside; on_page = o.on_page; in_rows = p; free = o.free; is = o.is })
      | inr p ↦ inr (record { column = o.column; row = o.row; there = o.there; inside = o.inside; on_page = o.on_page; in_rows = p; free = o.free; is = o.is })
    ])
    (λ i v o. record { column = o.column; row = o.row; there = o.there; inside = o.inside; on_page = o.on_page; in_rows = omega (arith, o.in_rows); free = o.free; is = o.is })
    (λ i v o. record { column = o.column; row = o.row; there = o.there; inside = o.inside; on_page = o.on_page; in_rows = omega (arith, o.in_rows.1); free = o.free; is = o.is }))
    (λ i v o. elim (cases_lt (gap y o.row) h) [
      | inl l ↦ inl (record { column = o.column; row = o.row; there = o.there; inside = o.inside; on_page = o.on_page; in_rows = l; free = o.free; is = o.is })
      | inr l ↦ inr (record { column = o.column; row = o.row; there = o.there; inside = o.inside; on_page = o.on_page; in_rows = omega (arith, o.in_rows); free = o.free; is = o.is })
    ])
    (λ i v o. record { column = o.column; row = o.row; there = o.there; inside = o.inside; on_page = o.on_page; in_rows = omega (arith, o.in_rows); free = o.free; is = o.is })
    (λ i v o. record { column = o.column; row = o.row; there = o.there; inside = o.inside; on_page = o.on_page; in_rows = omega (arith, o.in_rows); free = o.free; is = o.is })
  where
    sides : (k : ℕ) → gap y k ≡ h → (k + h ≡ y) ⊎ ((0 < h) × (k ≡ y + h))
    sides k e = elim (cases_lt y k) [
      | inl l ↦ inr (omega arith, omega arith)
      | inr l ↦ inl (omega arith)
    ]

-- a column at a gap is so far to the left or to the right
gap_sides : (x j step : ℕ) → gap x j ≡ step → (j + step ≡ x) ⊎ (j ≡ x + step)
gap_sides x j step e = elim (cases_lt j x) [
  | inl l ↦ inl (omega arith)
  | inr l ↦ inr (omega arith)
]

-- a row is as near as the rows of the window where its pixel is near
rows_near : (a step grown limit : ℕ) → square step + square a ≤ limit → limit < square grown + square step → a < grown
rows_near a step grown limit near far = elim (cases_lt a grown) [
  | inl l ↦ l
  | inr l ↦ let grows : grown * grown ≤ a * a = mul-le grown grown a a l l in absurd (omega arith)
]

-- fewer columns away it is nearer
pub nearer : (h far close limit : ℕ) → close ≤ far → square h + square far ≤ limit → square h + square close ≤ limit
nearer h far close limit order near = let grows : close * close ≤ far * far = mul-le close close far far order order in omega arith

-- what lies to both sides of a block's columns, so many columns away, is that of all sources there
pub far_step : (lists : Lists) (a b c best : List ℕ) (from to halo y limit step grown : ℕ) → step ≤ halo → ((x : ℕ) → from ≤ x → x < to → slice_index b x < 2 ^ 16) → to - from + 2 * halo ≤ 544 → ((h : ℕ) → h < grown → square h + square step ≤ limit) → limit < square grown + square step → Lowers (replicate 544 65535) best 0 (to - from + 2 * halo) (IsOfRows lists from halo (λ k. gap y k < grown)) → Lowers a b from to (IsOfFar (scene_of lists limit) y (step + 1)) → Lowers b c from to (IsOfSide best from halo step) → Lowers a c from to (IsOfFar (scene_of lists limit) y step)
far_step lists a b c best from to halo y limit step grown inside small few near far least first second = record {
  before = λ x l. second.before x l ∙ first.before x l;
  past = λ x l. second.past x l ∙ first.past x l;
  less = λ x. omega (arith, second.less x, first.less x);
  each = λ x v l m o. elim (cases_lt step (gap x o.column)) [
    | inl e ↦ omega (arith, second.less x, first.each x v l m (record { column = o.column; row = o.row; inside = o.inside; on_page = o.on_page; away = omega arith; source = o.source; is = o.is }))
    | inr e ↦ at_side x v l m o (omega (arith, o.away))
  ];
  greatest = λ x n own all. elim (cases_lt x from) [
    | inl l ↦ rw (second.before x l ∙ first.before x l) own
    | inr l ↦ elim (cases_lt x to) [
      | inl m ↦ in_block x n l m own all
      | inr m ↦ rw (second.past x m ∙ first.past x m) own
    ]
  ];
}
  where
    at_side : (x v : ℕ) → from ≤ x → x < to → (o : IsOfFar (scene_of lists limit) y step x v) → gap x o.column ≡ step → slice_index c x ≤ v
    at_side x v l m o e =
        let place = o.column + halo - from in
        let near_by : distance2 x y o.column o.row ≤ limit = source_near (scene_of lists limit) x y o.column o.row o.source in
        let close : square step + square (gap y o.row) ≤ limit = subst (λ (n : ℕ). square n + square (gap y o.row) ≤ limit) e near_by in
        let rows : gap y o.row < grown = rows_near (gap y o.row) step grown limit close far in
        let there : (place + from + step ≡ x + halo) ⊎ (place + from ≡ x + halo + step) = elim (gap_sides x o.column step e) [ inl p ↦ inl (omega arith) | inr p ↦ inr (omega arith) ] in
        let side : slice_index c x ≤ slice_index best place = second.each x (slice_index best place) l m (record { place = place; there = there; is = refl }) in
        let low : slice_index best place ≤ v = least.each place v (omega arith) (omega arith) (record { column = o.column; row = o.row; there = omega arith; inside = o.inside; on_page = o.on_page; in_rows = rows; free = free_is (entry lists.marks lists.wide o.column o.row) (source_free (scene_of lists limit) x y o.column o.row o.source); is = o.is }) in
        omega (arith, side, low)

    far_of : (x u place : ℕ) → from ≤ x → ((place + from + step ≡ x + halo) ⊎ (place + from ≡ x + halo + step)) → IsOfRows lists from halo (λ k. gap y k < grown) place u → IsOfFar (scene_of lists limit) y step x u
    far_of x u place l there o =
        let e : gap x o.column ≡ step = elim there [ inl p ↦ omega (arith, o.there) | inr p ↦ omega (arith, o.there) ] in
        let close : square (gap y o.row) + square step ≤ limit = near (gap y o.row) o.in_rows in
        let near_by : square (gap x o.column) + square (gap y o.row) ≤ limit = rw e (omega arith) in
        record { column = o.column; row = o.row; inside = o.inside; on_page = o.on_page; away = omega arith; source = source_of (scene_of lists limit) x y o.column o.row (is_free (entry lists.marks lists.wide o.column o.row) o.free) near_by; is = o.is }

    placed : (x place : ℕ) → from ≤ x → x < to → ((place + from + step ≡ x + halo) ⊎ (place + from ≡ x + halo + step)) → place < 544
    placed x place l m there = elim there [ inl p ↦ omega arith | inr p ↦ omega arith ]

    in_block : (x n : ℕ) → from ≤ x → x < to → n ≤ slice_index a x → ((v : ℕ) → IsOfFar (scene_of lists limit) y step x v → n ≤ v) → n ≤ slice_index c x
    in_block x n l m own all =
        let here : n ≤ slice_index b x = first.greatest x n own (λ v o. all v (record { column = o.column; row = o.row; inside = o.inside; on_page = o.on_page; away = omega (arith, o.away); source = o.source; is = o.is })) in
        let top : n ≤ 65535 = omega (arith, here, small x l m) in
        second.greatest x n here (λ v o. rw o.is (least.greatest o.place n (omega (arith, top, get_or-replicate {A = ℕ} 544 o.place 65535 0 (placed x o.place l m o.there)))
        (λ u p. all u (far_of x u o.place l o.there p))))

-- no source is farther away than the radius
pub far_none : (lists : Lists) (a : List ℕ) (from to y limit r : ℕ) → limit < square (r + 1) → Lowers a a from to (IsOfFar (scene_of lists limit) y (r + 1))
far_none lists a from to y limit r beyond = lowers_not a from to (IsOfFar (scene_of lists limit) y (r + 1))
    (λ x v l m o. absurd (omega (arith, o.away, source_columns (scene_of lists limit) x y o.column o.row r beyond o.source)))

-- and all are at least no columns away
pub far_all : (lists : Lists) (a b : List ℕ) (from to y limit : ℕ) → Lowers a b from to (IsOfFar (scene_of lists limit) y 0) → Lowers a b from to (IsOfSource (scene_of lists limit) y lists.tall)
far_all lists a b from to y limit so = lowers_as a b from to (IsOfFar (scene_of lists limit) y 0) (IsOfSource (scene_of lists limit) y lists.tall)
    (λ x v o. record { column = o.column; row = o.row; inside = o.inside; on_page = o.above; away = omega arith; source = o.source; is = o.is })
    (λ x v o. record { column = o.column; row = o.row; inside = o.inside; above = o.on_page; source = o.source; is = o.is })
    so
