-- Marks of some rows as the columns read them, and the answers of columns that have none.
use Rattle.std.proofs.Common.{◌≡◌, ℕ, ◌+◌, ◌*◌, ◌-◌, ◌/◌, ◌%◌, ◌<◌, ◌≤◌, true, false, ◌&&◌, nat_le, inl, inr, refl, sym, ◌∙◌, ap, subst, arith, List, length, slice_index, Option, Some, None, bit_and}
use Rattle.std.specs.Prelude.{◌==◌}
use Rattle.std.proofs.lemmas.Bool.{and_parts, cases_eq, eqb-true, false≢true, leb-true}
use Rattle.std.proofs.lemmas.Nat.{div-mul-add, mul-add-lt}
use Rattle.page_model.specs.declared.parts.PageParts.{PageParts}
use Rattle.page_model.specs.Columns.{AreMarks, CoverRows, column_answer, column_edge, edge_decides, halo, offset_code}
use Rattle.page_model.specs.Conditions.{IsPage}
use Rattle.page_model.specs.Decider.{grid_rows}
use Rattle.page_model.specs.Deciding.{decides, mark}
use Rattle.page_model.specs.Marks.{IsMarked, Marked, stored_rows}
use Rattle.page_model.specs.Page.{height, width}
use Rattle.page_model.specs.Reach.{page_reach}
use Rattle.page_model.proofs.ColumnDecider.{column_edge-is, passes, rank}
use Rattle.page_model.proofs.MarkLemmas.{tells}
use Rattle.page_model.proofs.PageLemmas.{plane_of}
use Rattle.lists.proofs.FirstLeast.{Answers}
use Rattle.lists.specs.Words.{gap}
use Rattle.row_values.specs.declared.rows.Rows.{Rows}
use Rattle.row_values.specs.Rows.{HoldsAnswers, HoldsMarks}

pub rows_stored : (w n : ℕ) (bits : List ℕ) → 1 ≤ w → length bits ≡ n * w → length bits / w ≡ n
rows_stored w n bits some long = (let e : length bits ≡ n * w + 0 = omega (arith, long) in rw e (div-mul-add n w 0 (omega arith)))

pub are_marked : (page : PageParts) (w : ℕ) (stored : Rows) (bits : List ℕ) → IsPage page → w ≡ width page → 1 ≤ stored.count → stored.first + stored.count ≤ height page → HoldsMarks page stored bits → IsMarked (record { wide = w; top = stored.first; bits = bits })
are_marked page w stored bits valid ew some inside h =
    let plane = plane_of page 0 valid valid.parts.some_plates in
    let wide : 1 ≤ w = omega (arith, ew, plane.some_width) in
    let long : length bits ≡ stored.count * w = rw ew h.long in
    let count : length bits / w ≡ stored.count = rows_stored w stored.count bits wide long in
    record { some_width = wide; narrow = omega (arith, ew, plane.narrow); whole = rw count long; ends = omega (arith, count, inside, plane.low) }

pub stored_marks : (page : PageParts) (w : ℕ) (stored : Rows) (bits : List ℕ) → w ≡ width page → 1 ≤ w → stored.first + stored.count ≤ height page → HoldsMarks page stored bits → AreMarks page (record { wide = w; top = stored.first; bits = bits })
stored_marks page w stored bits ew some inside h =
    let count : length bits / w ≡ stored.count = rows_stored w stored.count bits some (rw ew h.long) in
    record {
      wide = ew;
      inside = omega (arith, count, inside);
      each = λ x2 y2 e. (let down : y2 / 2 < stored.first + stored.count = omega (arith, e.to, count) in
          let k = y2 / 2 - stored.first in
          let row : stored.first + k ≡ y2 / 2 = omega (arith, e.from) in
          let here : slice_index bits (k * w + x2 / 2) ≡ mark page (y2 / 2) (x2 / 2) = rw ew (h.each k (x2 / 2) (omega (arith, e.from, down)) (omega (arith, e.across, ew))) ∙ ap (λ (n : ℕ). mark page n (x2 / 2)) row in
          ap (λ (n : ℕ). bit_and n (2 - x2 % 2) == 2 - x2 % 2) here ∙ tells page x2 y2 e.one_odd (rw ew at e.across) (omega (arith, down, inside)));
    }

-- the rows that are near enough are held
pub covered : (page : PageParts) (rows stored : Rows) (m : Marked) (reach : ℕ) → reach ≡ page_reach page → m.top ≡ stored.first → stored_rows m ≡ stored.count → 1 ≤ rows.count → rows.first + rows.count ≤ height page → ((row : ℕ) → rows.first ≤ row + halo (page_reach page) → stored.first ≤ row) → ((row : ℕ) → row < height page → row < rows.first + rows.count + halo (page_reach page) → row < stored.first + stored.count) → CoverRows page m rows.first rows.count reach
covered page rows stored m reach er et eh some inside above under = subst (λ (r : ℕ). CoverRows page m rows.first rows.count r) (sym er) (record {
  some = some;
  asked = inside;
  near = λ row l a b. record { from = omega (arith, et, above row a); to = omega (arith, et, eh, under row l b) };
})

pub answers_stored : (page : PageParts) (rows : Rows) (w reach : ℕ) (out : List ℕ) → w ≡ width page → reach ≡ page_reach page → length out ≡ rows.count * (2 * width page - 1) → ((k x2 : ℕ) → k < rows.count → x2 < 2 * w - 1 → slice_index out (k * (2 * w - 1) + x2) ≡ column_answer page reach x2 (rows.first + k)) → HoldsAnswers page rows out
answers_stored page rows w reach out ew er long each = record {
  long = long;
  each = λ k o lk lo. subst (λ (n : ℕ). slice_index out (k * (2 * n - 1) + o) ≡ column_answer page (page_reach page) o (rows.first + k)) ew (subst (λ (r : ℕ). slice_index out (k * (2 * w - 1) + o) ≡ column_answer page r o (rows.first + k)) er (each k o lk (omega (arith, lo, ew))));
}

record HasSides (page : PageParts) (x2 y2 : ℕ) : Type 0 where
  odd : (x2 + y2) % 2 ≡ 1
  across : x2 + 2 ≤ 2 * width page

sides : (page : PageParts) (x2 y2 : ℕ) → edge_decides page x2 y2 ≡ true → HasSides page x2 y2
unfolding edge_decides
sides page x2 y2 p =
    let one = and_parts ((x2 + y2) % 2 == 1) (nat_le (x2 + 2) (2 * width page) && (nat_le (y2 + 2) (2 * height page) && decides page (record { x2 = x2; y2 = y2 }))) p in
    let two = and_parts (nat_le (x2 + 2) (2 * width page)) (nat_le (y2 + 2) (2 * height page) && decides page (record { x2 = x2; y2 = y2 })) one.1 in
    record { odd = eqb-true _ _ one.0; across = leb-true _ _ two.0 }

unmarked : (m x2 : ℕ) → m ≡ 0 → (bit_and m (2 - x2 % 2) == 2 - x2 % 2) ≡ false
unmarked m x2 e = elim (cases_eq (x2 % 2) 1) [
  | inl odd ↦ (let bit : 2 - x2 % 2 ≡ 1 = omega (arith, odd) in rw (e, bit) refl)
  | inr ne ↦ (let bit : 2 - x2 % 2 ≡ 2 = omega (arith, ne) in rw (e, bit) refl)
]

-- where the rows that are near enough have no mark no column has an answer
pub blank : (page : PageParts) (rows stored : Rows) (marks : List ℕ) (k x2 : ℕ) → HoldsMarks page stored marks → ((j : ℕ) → j < length marks → slice_index marks j ≡ 0) → ((row : ℕ) → rows.first ≤ row + halo (page_reach page) → stored.first ≤ row) → ((row : ℕ) → row < height page → row < rows.first + rows.count + halo (page_reach page) → row < stored.first + stored.count) → k < rows.count → x2 < 2 * width page - 1 → column_answer page (page_reach page) x2 (rows.first + k) ≡ 0
unfolding column_answer
blank page rows stored marks k x2 h zeros above under lk lx = go (column_edge page (page_reach page) x2 (rows.first + k)) (column_edge-is page (page_reach page) x2 (rows.first + k)) where
  go : (o : Option ℕ) → Answers (rank (rows.first + k)) (passes page (page_reach page) x2 (rows.first + k)) (grid_rows page) o → offset_code (rows.first + k) o ≡ 0
  go None none = refl
  go (Some y2) best =
      let parts = and_parts (edge_decides page x2 y2) (nat_le (gap y2 (2 * (rows.first + k))) (page_reach page)) best.passes in
      let close = leb-true _ _ parts.1 in
      let is = sides page x2 y2 parts.0 in
      let down : y2 / 2 < height page = omega (arith, best.below) in
      let from : stored.first ≤ y2 / 2 = above (y2 / 2) (omega (arith, close)) in
      let to : y2 / 2 < stored.first + stored.count = under (y2 / 2) down (omega (arith, close, lk)) in
      let j = y2 / 2 - stored.first in
      let row : stored.first + j ≡ y2 / 2 = omega (arith, from) in
      let column : x2 / 2 < width page = omega (arith, lx) in
      let inside : j < stored.count = omega (arith, from, to) in
      let place : j * width page + x2 / 2 < length marks = omega (arith, h.long, mul-add-lt j (width page) (x2 / 2) stored.count inside column) in
      let none : mark page (y2 / 2) (x2 / 2) ≡ 0 = sym (h.each j (x2 / 2) inside column ∙ ap (λ (n : ℕ). mark page n (x2 / 2)) row) ∙ zeros (j * width page + x2 / 2) place in
      absurd (false≢true (sym (sym (tells page x2 y2 is.odd is.across down) ∙ unmarked (mark page (y2 / 2) (x2 / 2)) x2 none) ∙ parts.0))
