-- The arms of a row out of its column answers.
use Rattle.std.proofs.Common.{◌≡◌, ℕ, ◌+◌, ◌*◌, ◌-◌, ◌<◌, ◌≤◌, Bool, true, false, nat_le, inl, inr, refl, sym, ◌∙◌, ap, subst, arith, List, length, take, slice_index, slice_set, slice_index_or, Option, Some, None}
use Rattle.std.specs.Option.{MatchOption, option_map}
use Rattle.std.proofs.lemmas.Bool.{cases_lt, cases_eq, cases_order, cases_Bool, false≢true, and_parts, leb-true}
use Rattle.std.proofs.lemmas.List.{get_or-set_same, get_or-set_other, get_or-take, get_or_default, length-take-le}
use Rattle.page_model.specs.declared.parts.At.{At}
use Rattle.page_model.specs.declared.parts.EdgeAt.{EdgeAt}
use Rattle.page_model.specs.declared.parts.PageParts.{PageParts}
use Rattle.page_model.specs.Page.{width}
use Rattle.lists.specs.Words.{gap, square, IsFirstLeast}
use Rattle.page_model.specs.Decider.{grid_rows}
use Rattle.page_model.specs.Edges.{d2}
use Rattle.page_model.specs.Arms.{ArmModel}
use Rattle.row_envelope.specs.Envelope.{arm_at, d2_of_arm, arm_d2, every, nearest, no_arm, Rising}
use Rattle.page_model.specs.Columns.{edge_decides, column_edge, column_answer, offset_code, column_decider, answer_edge, answer_or_0, is_answer}
use Rattle.lists.proofs.FirstLeast.{Answers, first_least-is, first_least-from, first_least-none}
use Rattle.page_model.proofs.ColumnDecider.{column_edge-is, passes, rank}
use Rattle.row_values.specs.Arms.{arm_of, coded_edge, AreAnswers, StandsAt, AreArms, edge_at_place}

-- columns side by side without a code
pub added_blank : (codes : List ℕ) (n count : ℕ) (arms : List ArmModel) (columns : List ℕ) (raised : ℕ) → ((k : ℕ) → n ≤ k → k < n + count → slice_index codes k ≡ 0) → AreArms codes n arms columns raised → AreArms codes (n + count) arms columns raised
added_blank codes n count arms columns raised none h = record {
  few = omega (arith, h.few);
  each = λ k l. (let e = h.each k l in record { column = omega (arith, e.column); some = e.some; arm = e.arm });
  rising = h.rising;
  all = λ x2 l some. elim (cases_lt x2 n) [ inl before ↦ h.all x2 before some | inr from ↦ absurd (omega (arith, none x2 from l, some)) ];
}

pub added : (codes : List ℕ) (n : ℕ) (arms : List ArmModel) (columns : List ℕ) (count : ℕ) (joining : ArmModel) → 1 ≤ slice_index codes n → joining ≡ arm_of n (slice_index codes n) → count < length arms → count < length columns → AreArms codes n arms columns count → AreArms codes (n + 1) (slice_set arms count joining) (slice_set columns count n) (count + 1)
added codes n arms columns count joining some is workspace_a workspace_c h = record {
  few = omega (arith, h.few);
  each = λ k l. elim (cases_eq k count) [
    | inl e ↦ record { column = rw (e, column_new) (omega arith); some = rw (e, column_new) some; arm = rw (e, arm_new, column_new) is }
    | inr ne ↦ (let old = h.each k (omega (arith, ne)) in record { column = rw (column_old k ne) (omega (arith, old.column)); some = rw (column_old k ne) old.some; arm = rw (arm_old k ne, column_old k ne) old.arm })
  ];
  rising = λ j k less l. elim (cases_eq k count) [
    | inl e ↦ (let nj : j ≡ count → ⊥ = λ f. omega (arith, f, e, less) in rw (e, column_new, column_old j nj) (h.each j (omega (arith, e, less))).column)
    | inr ne ↦ (let nj : j ≡ count → ⊥ = λ f. omega (arith, f, ne, less, l) in rw (column_old k ne, column_old j nj) (h.rising j k less (omega (arith, ne))))
  ];
  all = λ x2 l has. elim (cases_eq x2 n) [
    | inl e ↦ record { place = count; within = omega arith; same = column_new ∙ sym e }
    | inr ne ↦ (let old = h.all x2 (omega (arith, ne)) has in record { place = old.place; within = omega (arith, old.within); same = column_old old.place (λ f. omega (arith, f, old.within)) ∙ old.same })
  ];
} where
  column_new : slice_index (slice_set columns count n) count ≡ n
  column_new = get_or-set_same columns count n 0 workspace_c

  column_old : (k : ℕ) → (k ≡ count → ⊥) → slice_index (slice_set columns count n) k ≡ slice_index columns k
  column_old k ne = get_or-set_other columns count k n 0 ne

  arm_new : arm_at (slice_set arms count joining) count ≡ joining
  arm_new = get_or-set_same arms count joining no_arm workspace_a

  arm_old : (k : ℕ) → (k ≡ count → ⊥) → arm_at (slice_set arms count joining) k ≡ arm_at arms k
  arm_old k ne = get_or-set_other arms count k joining no_arm ne

abbrev edge_with : ℕ → ℕ → EdgeAt
edge_with x2 y2 = record { x2 = x2; y2 = y2 }

-- what a code says of its column's answer
pub record IsDecoded (page : PageParts) (reach y x2 code : ℕ) : Type 0 where
  pub answer : is_answer (column_edge page reach x2 y) ≡ true
  pub edge : coded_edge y x2 code ≡ answer_edge page reach y x2
  pub off : gap code 257 ≡ gap (answer_or_0 (column_edge page reach x2 y)) (2 * y)
  pub back : 257 ≤ code + 2 * y
  pub fits : code ≤ 513

record IsCode (y x2 code : ℕ) (o : Option ℕ) : Type 0 where
  answer : is_answer o ≡ true
  y2 : code + 2 * y - 257 ≡ answer_or_0 o
  off : gap code 257 ≡ gap (answer_or_0 o) (2 * y)
  back : 257 ≤ code + 2 * y
  fits : code ≤ 513

code_of : (page : PageParts) (reach x2 y code : ℕ) (o : Option ℕ) → reach ≤ 256 → Answers (rank y) (passes page reach x2 y) (grid_rows page) o → code ≡ offset_code y o → 1 ≤ code → IsCode y x2 code o
code_of page reach x2 y code None few h e some = absurd (omega (arith, e, some))
code_of page reach x2 y code (Some y2) few h e some =
    let near = leb-true _ _ (and_parts (edge_decides page x2 y2) (nat_le (gap y2 (2 * y)) reach) h.passes).1 in
    record { answer = refl; y2 = omega (arith, e, near); off = omega (arith, e, near); back = omega (arith, e, near); fits = omega (arith, e, near) }

pub decoded : (page : PageParts) (reach x2 y code : ℕ) → reach ≤ 256 → code ≡ column_answer page reach x2 y → 1 ≤ code → IsDecoded page reach y x2 code
unfolding column_answer
decoded page reach x2 y code few e some =
    let is = code_of page reach x2 y code _ few (column_edge-is page reach x2 y) e some in
    record { answer = is.answer; edge = ap (edge_with x2) is.y2; off = is.off; back = is.back; fits = is.fits }

has_code : (page : PageParts) (reach x2 y code : ℕ) (o : Option ℕ) → reach ≤ 256 → Answers (rank y) (passes page reach x2 y) (grid_rows page) o → code ≡ offset_code y o → is_answer o ≡ true → 1 ≤ code
has_code page reach x2 y code None few h e some = absurd (false≢true some)
has_code page reach x2 y code (Some y2) few h e some =
    let near = leb-true _ _ (and_parts (edge_decides page x2 y2) (nat_le (gap y2 (2 * y)) reach) h.passes).1 in
    omega (arith, e, near)

pub coded : (page : PageParts) (reach x2 y code : ℕ) → reach ≤ 256 → code ≡ column_answer page reach x2 y → is_answer (column_edge page reach x2 y) ≡ true → 1 ≤ code
unfolding column_answer
coded page reach x2 y code few e some = has_code page reach x2 y code _ few (column_edge-is page reach x2 y) e some

pub answer_fits : (page : PageParts) (reach y n : ℕ) (codes : List ℕ) → reach ≤ 256 → AreAnswers page reach y n codes → (k : ℕ) → k < length codes → slice_index codes k ≤ 513
answer_fits page reach y n codes few answers k l = elim (cases_lt 0 (slice_index codes k)) [
  | inl some ↦ (decoded page reach k y (slice_index codes k) few (answers.each k (omega (arith, answers.len))) (omega arith)).fits
  | inr none ↦ omega arith
]

-- the arms that are taken
taken_at : (arms : List ArmModel) (count k : ℕ) (d : ArmModel) → count ≤ length arms → k < count → slice_index_or (take count arms) k d ≡ arm_at arms k
taken_at arms count k d workspace l = get_or-take count arms k d l ∙ get_or_default arms k d no_arm (omega arith)

column_at : (codes : List ℕ) (n : ℕ) (arms : List ArmModel) (columns : List ℕ) (count k : ℕ) (d : ArmModel) → count ≤ length arms → AreArms codes n arms columns count → k < count → (slice_index_or (take count arms) k d).column ≡ slice_index columns k
column_at codes n arms columns count k d workspace h l = ap (λ (b : ArmModel). b.column) (taken_at arms count k d workspace l ∙ (h.each k l).arm)

pub taken_rising : (codes : List ℕ) (n : ℕ) (arms : List ArmModel) (columns : List ℕ) (count : ℕ) → count ≤ length arms → AreArms codes n arms columns count → Rising (take count arms)
taken_rising codes n arms columns count workspace h = λ i j d less l.
    let whole : length (take count arms) ≡ count = length-take-le count arms workspace in
    let lj : j < count = omega (arith, l, whole) in
    let li : i < count = omega (arith, lj, less) in
    omega (arith, column_at codes n arms columns count i d workspace h li, column_at codes n arms columns count j d workspace h lj, h.rising i j less lj)

pub taken_inside : (codes : List ℕ) (n : ℕ) (arms : List ArmModel) (columns : List ℕ) (count : ℕ) → count ≤ length arms → AreArms codes n arms columns count → (k : ℕ) → k < length (take count arms) → (arm_at (take count arms) k).column < n
taken_inside codes n arms columns count workspace h k l =
    let whole : length (take count arms) ≡ count = length-take-le count arms workspace in
    let lk : k < count = omega (arith, l, whole) in
    omega (arith, column_at codes n arms columns count k no_arm workspace h lk, (h.each k lk).column)

-- how far the arm at a place is, and how far its column's edge
arm_far : (codes : List ℕ) (n : ℕ) (arms : List ArmModel) (columns : List ℕ) (count k x2 : ℕ) → count ≤ length arms → AreArms codes n arms columns count → k < count → arm_d2 (take count arms) x2 k ≡ square (gap (slice_index columns k) x2) + square (gap (slice_index codes (slice_index columns k)) 257)
unfolding arm_d2
arm_far codes n arms columns count k x2 workspace h l = ap (λ (b : ArmModel). d2_of_arm b x2) (taken_at arms count k no_arm workspace l ∙ (h.each k l).arm)

edge_far : (page : PageParts) (reach y x2 code x : ℕ) → IsDecoded page reach y x2 code → d2 (record { x = x; y = y }) (answer_edge page reach y x2) ≡ square (gap x2 (2 * x)) + square (gap code 257)
edge_far page reach y x2 code x is = ap (λ (g : ℕ). square (gap x2 (2 * x)) + square g) (sym is.off)

place_of_column : (columns : List ℕ) (count j k : ℕ) → ((i l : ℕ) → i < l → l < count → slice_index columns i < slice_index columns l) → j < count → slice_index columns j < slice_index columns k → j < k
place_of_column columns count j k rising l less = elim (cases_order j k) [
  | inl e ↦ absurd (omega (arith, ap (slice_index columns) e, less))
  | inr (inl before) ↦ before
  | inr (inr after) ↦ absurd (omega (arith, rising k j after l, less))
]

abbrev at : ℕ → ℕ → At
at x y = record { x = x; y = y }

abbrev far_of : PageParts → ℕ → ℕ → ℕ → ℕ → ℕ
far_of page reach x y x2 = d2 (at x y) (answer_edge page reach y x2)

abbrev answered : PageParts → ℕ → ℕ → ℕ → Bool
answered page reach y x2 = is_answer (column_edge page reach x2 y)

record IsRow (page : PageParts) (reach y n : ℕ) (codes : List ℕ) (arms : List ArmModel) (columns : List ℕ) (count : ℕ) : Type 0 where
  few : reach ≤ 256
  answers : AreAnswers page reach y n codes
  stand : AreArms codes n arms columns count
  workspace : count ≤ length arms

decode : (page : PageParts) (reach y n : ℕ) (codes : List ℕ) (arms : List ArmModel) (columns : List ℕ) (count k : ℕ) → IsRow page reach y n codes arms columns count → k < count → IsDecoded page reach y (slice_index columns k) (slice_index codes (slice_index columns k))
decode page reach y n codes arms columns count k row l = (let e = row.stand.each k l in decoded page reach (slice_index columns k) y (slice_index codes (slice_index columns k)) row.few (row.answers.each (slice_index columns k) e.column) e.some)

same_far : (page : PageParts) (reach x y n : ℕ) (codes : List ℕ) (arms : List ArmModel) (columns : List ℕ) (count k : ℕ) → IsRow page reach y n codes arms columns count → k < count → arm_d2 (take count arms) (2 * x) k ≡ far_of page reach x y (slice_index columns k)
same_far page reach x y n codes arms columns count k row l = arm_far codes n arms columns count k (2 * x) row.workspace row.stand l ∙ sym (edge_far page reach y (slice_index columns k) (slice_index codes (slice_index columns k)) x (decode page reach y n codes arms columns count k row l))

-- the nearest arm is that of the nearest answer
best_column : (page : PageParts) (reach x y n : ℕ) (codes : List ℕ) (arms : List ArmModel) (columns : List ℕ) (count k : ℕ) → IsRow page reach y n codes arms columns count → IsFirstLeast (arm_d2 (take count arms) (2 * x)) every count k → IsFirstLeast (far_of page reach x y) (answered page reach y) n (slice_index columns k)
best_column page reach x y n codes arms columns count k row best = record {
  below = (row.stand.each k best.below).column;
  passes = (decode page reach y n codes arms columns count k row best.below).answer;
  least = λ j l t. (let s = standing j l t in
      let far = best.least s.place s.within refl in
      let here = same_far page reach x y n codes arms columns count k row best.below in
      let there = same_far page reach x y n codes arms columns count s.place row s.within ∙ ap (far_of page reach x y) s.same in
      rw (← here, ← there) far);
  first = λ j l t. (let s = standing j (omega (arith, l, (row.stand.each k best.below).column)) t in
      let before = place_of_column columns count s.place k row.stand.rising s.within (omega (arith, s.same, l)) in
      let far = best.first s.place before refl in
      let here = same_far page reach x y n codes arms columns count k row best.below in
      let there = same_far page reach x y n codes arms columns count s.place row s.within ∙ ap (far_of page reach x y) s.same in
      rw (← here, ← there) far);
} where
  standing : (j : ℕ) → j < n → answered page reach y j ≡ true → StandsAt columns count j
  standing j l t = row.stand.all j l (coded page reach j y (slice_index codes j) row.few (row.answers.each j l) t)

by_place : (page : PageParts) (reach x y : ℕ) (codes : List ℕ) (arms : List ArmModel) (columns : List ℕ) (count : ℕ) (o : Option ℕ) → IsRow page reach y (2 * width page - 1) codes arms columns count → Answers (arm_d2 (take count arms) (2 * x)) every count o → edge_at_place codes y columns o ≡ column_decider page reach (at x y)
unfolding column_decider
by_place page reach x y codes arms columns count None row none = ap (option_map (answer_edge page reach y)) (sym (first_least-none (far_of page reach x y) (answered page reach y) (2 * width page - 1) (λ j l. unanswered j l))) where
  unanswered : (j : ℕ) → j < 2 * width page - 1 → answered page reach y j ≡ false
  unanswered j l = elim (cases_Bool (answered page reach y j)) [
    | inl t ↦ (let s = row.stand.all j l (coded page reach j y (slice_index codes j) row.few (row.answers.each j l) t) in absurd (false≢true (sym (none s.place s.within))))
    | inr f ↦ f
  ]
by_place page reach x y codes arms columns count (Some k) row best = ap Some (decode page reach y (2 * width page - 1) codes arms columns count k row best.below).edge ∙ ap (option_map (answer_edge page reach y)) (sym (first_least-from (far_of page reach x y) (answered page reach y) (2 * width page - 1) (slice_index columns k) (best_column page reach x y (2 * width page - 1) codes arms columns count k row best)))

pub row_decides : (page : PageParts) (reach x y : ℕ) (codes : List ℕ) (arms : List ArmModel) (columns : List ℕ) (count : ℕ) → reach ≤ 256 → AreAnswers page reach y (2 * width page - 1) codes → AreArms codes (2 * width page - 1) arms columns count → count ≤ length arms → edge_at_place codes y columns (nearest (take count arms) x) ≡ column_decider page reach (at x y)
unfolding nearest
row_decides page reach x y codes arms columns count few answers stand workspace =
    let row : IsRow page reach y (2 * width page - 1) codes arms columns count = record { few = few; answers = answers; stand = stand; workspace = workspace } in
    let whole : length (take count arms) ≡ count = length-take-le count arms workspace in
    rw whole (by_place page reach x y codes arms columns count _ row (first_least-is (arm_d2 (take count arms) (2 * x)) every count))

-- what naming the edges asks of the places
pub place_known : (page : PageParts) (reach x y : ℕ) (codes : List ℕ) (arms : List ArmModel) (columns : List ℕ) (count : ℕ) → reach ≤ 256 → AreAnswers page reach y (2 * width page - 1) codes → AreArms codes (2 * width page - 1) arms columns count → count ≤ length arms → count ≤ length columns → MatchOption (nearest (take count arms) x) (0 ≤ y) (λ k. (k < length columns) × (slice_index columns k < length codes) × (257 ≤ slice_index codes (slice_index columns k) + 2 * y))
unfolding nearest
place_known page reach x y codes arms columns count few answers stand workspace_a workspace_c =
    let row : IsRow page reach y (2 * width page - 1) codes arms columns count = record { few = few; answers = answers; stand = stand; workspace = workspace_a } in
    let whole : length (take count arms) ≡ count = length-take-le count arms workspace_a in
    rw whole (go _ row (first_least-is (arm_d2 (take count arms) (2 * x)) every count)) where
      go : (o : Option ℕ) → IsRow page reach y (2 * width page - 1) codes arms columns count → Answers (arm_d2 (take count arms) (2 * x)) every count o → MatchOption o (0 ≤ y) (λ k. (k < length columns) × (slice_index columns k < length codes) × (257 ≤ slice_index codes (slice_index columns k) + 2 * y))
      go None row none = omega arith
      go (Some k) row best = (omega (arith, best.below, workspace_c), omega (arith, (stand.each k best.below).column, answers.len), (decode page reach y (2 * width page - 1) codes arms columns count k row best.below).back)

-- the row in hand, with the width that the code has
pub record IsReady (page : PageParts) (reach y : ℕ) (codes : List ℕ) (arms : List ArmModel) (columns : List ℕ) (count : ℕ) : Type 0 where
  pub few : reach ≤ 256
  pub answers : AreAnswers page reach y (2 * width page - 1) codes
  pub stand : AreArms codes (2 * width page - 1) arms columns count
  pub workspace_a : count ≤ length arms
  pub workspace_c : count ≤ length columns

pub ready : (page : PageParts) (reach y w : ℕ) (codes : List ℕ) (arms : List ArmModel) (columns : List ℕ) (count : ℕ) → w ≡ width page → reach ≤ 256 → AreAnswers page reach y (2 * w - 1) codes → AreArms codes (length codes) arms columns count → length arms ≡ 2 * w - 1 → length columns ≡ 2 * w - 1 → IsReady page reach y codes arms columns count
ready page reach y w codes arms columns count e few answers stand la lc =
    let width_is : 2 * w - 1 ≡ 2 * width page - 1 = ap (λ (n : ℕ). 2 * n - 1) e in
    record {
      few = few;
      answers = subst (λ (n : ℕ). AreAnswers page reach y n codes) width_is answers;
      stand = subst (λ (n : ℕ). AreArms codes n arms columns count) (answers.len ∙ width_is) stand;
      workspace_a = omega (arith, stand.few, answers.len, la);
      workspace_c = omega (arith, stand.few, answers.len, lc);
    }

pub ready_rising : (page : PageParts) (reach y : ℕ) (codes : List ℕ) (arms : List ArmModel) (columns : List ℕ) (count : ℕ) → IsReady page reach y codes arms columns count → Rising (take count arms)
ready_rising page reach y codes arms columns count r = taken_rising codes (2 * width page - 1) arms columns count r.workspace_a r.stand

pub ready_inside : (page : PageParts) (reach y w : ℕ) (codes : List ℕ) (arms : List ArmModel) (columns : List ℕ) (count : ℕ) → w ≡ width page → 1 ≤ w → IsReady page reach y codes arms columns count → (k : ℕ) → k < length (take count arms) → (arm_at (take count arms) k).column + 2 ≤ 2 * w
ready_inside page reach y w codes arms columns count e some r k l = omega (arith, e, taken_inside codes (2 * width page - 1) arms columns count r.workspace_a r.stand k l)

pub ready_known : (page : PageParts) (reach x y : ℕ) (codes : List ℕ) (arms : List ArmModel) (columns : List ℕ) (count : ℕ) (o : Option ℕ) → o ≡ nearest (take count arms) x → IsReady page reach y codes arms columns count → MatchOption o (0 ≤ y) (λ k. (k < length columns) × (slice_index columns k < length codes) × (257 ≤ slice_index codes (slice_index columns k) + 2 * y))
ready_known page reach x y codes arms columns count o e r = rw e (place_known page reach x y codes arms columns count r.few r.answers r.stand r.workspace_a r.workspace_c)

pub ready_decides : (page : PageParts) (reach x y : ℕ) (codes : List ℕ) (arms : List ArmModel) (columns : List ℕ) (count : ℕ) (o : Option ℕ) → o ≡ nearest (take count arms) x → IsReady page reach y codes arms columns count → edge_at_place codes y columns o ≡ column_decider page reach (at x y)
ready_decides page reach x y codes arms columns count o e r = rw e (row_decides page reach x y codes arms columns count r.few r.answers r.stand r.workspace_a)
