-- TRAPS: the edge by the answers that are held is that of the page's columns, and so the new tint is the page's.
use Rattle.std.proofs.Common.{◌≡◌, ℕ, ◌+◌, ◌-◌, ◌*◌, ◌<◌, ◌≤◌, true, nat_lt, nat_le, refl, ap, ◌∙◌, arith, Option, Some, None}
use Rattle.std.proofs.lemmas.Bool.{and_parts, leb-true, lt-ltb, false≢true}
use Rattle.page_model.specs.declared.parts.At.{At}
use Rattle.page_model.specs.declared.parts.EdgeAt.{EdgeAt}
use Rattle.page_model.specs.declared.parts.PageParts.{PageParts}
use Rattle.page_model.specs.Columns.{edge_decides, column_edge, column_answer, offset_code, column_decider, answer_edge, answer_or_0, is_answer}
use Rattle.page_model.specs.Conditions.{IsPage}
use Rattle.page_model.specs.Decider.{grid_rows}
use Rattle.page_model.specs.Edges.{d2}
use Rattle.page_model.specs.Page.{width}
use Rattle.page_model.specs.Reach.{page_reach}
use Rattle.page_model.specs.Tints.{new, new_in, new_from}
use Rattle.lists.specs.Words.{gap}
use Rattle.page_model.specs.Zones.{zone_of}
use Rattle.page_model.proofs.ColumnDecider.{column_edge-is, passes, rank}
use Rattle.lists.proofs.FirstLeast.{Answers}
use Rattle.page_model.proofs.ReachLaws.{traps_by_columns}
use Rattle.band_core.specs.Recipe.{Reading, zone_by, arm_by, edge_by, tint_by}
use Rattle.lists.proofs.Same.{first_least-mapped}

-- what a code tells of the answer that it stands for
record Tells (y code : ℕ) (o : Option ℕ) : Type 0 where
  some : nat_lt 0 code ≡ is_answer o
  edge : is_answer o ≡ true → 2 * y + code - 257 ≡ answer_or_0 o

code_tells : (page : PageParts) (reach x2 y code : ℕ) (o : Option ℕ) → reach ≤ 256 → Answers (rank y) (passes page reach x2 y) (grid_rows page) o → code ≡ offset_code y o → Tells y code o
code_tells page reach x2 y code None few h e = record { some = rw e refl; edge = λ t. absurd (false≢true t) }
code_tells page reach x2 y code (Some y2) few h e =
    let near = leb-true _ _ (and_parts (edge_decides page x2 y2) (nat_le (gap y2 (2 * y)) reach) h.passes).1 in
    record { some = lt-ltb 0 code (omega (arith, e, near, few)); edge = λ t. omega (arith, e, near, few) }

tells_of : (page : PageParts) (reach x2 y code : ℕ) → reach ≤ 256 → code ≡ column_answer page reach x2 y → Tells y code (column_edge page reach x2 y)
unfolding column_answer
tells_of page reach x2 y code few e = code_tells page reach x2 y code (column_edge page reach x2 y) few (column_edge-is page reach x2 y) e

-- the answers of the sample's row
pub edge_same : (page : PageParts) (read : Reading) (reach : ℕ) (p : At) → reach ≤ 256 → ((x2 : ℕ) → x2 < 2 * width page - 1 → read 2 p.y x2 ≡ column_answer page reach x2 p.y) → edge_by page read p ≡ column_decider page reach p
unfolding edge_by column_decider
edge_same page read reach p few stored =
    first_least-mapped (λ x2. d2 p (arm_by read p.y x2)) (λ x2. d2 p (answer_edge page reach p.y x2)) (λ x2. nat_lt 0 (read 2 p.y x2)) (λ x2. is_answer (column_edge page reach x2 p.y)) (2 * width page - 1)
    (λ x2 l. (reported x2 l).some) (λ x2 l t. ap (d2 p) (arm x2 l t)) (arm_by read p.y) (answer_edge page reach p.y) arm where
      reported : (x2 : ℕ) → x2 < 2 * width page - 1 → Tells p.y (read 2 p.y x2) (column_edge page reach x2 p.y)
      reported x2 l = tells_of page reach x2 p.y (read 2 p.y x2) few (stored x2 l)

      arm : (x2 : ℕ) → x2 < 2 * width page - 1 → is_answer (column_edge page reach x2 p.y) ≡ true → arm_by read p.y x2 ≡ answer_edge page reach p.y x2
      arm x2 l t = let e = (reported x2 l).edge t in (λ i. record { x2 = x2; y2 = e i })

tint_same : (page : PageParts) (zone : ℕ) (p : At) (c : ℕ) (o : Option EdgeAt) → zone ≡ zone_of page p → tint_by page zone p c o ≡ new_from page p c o
tint_same page zone p c None z = refl
tint_same page zone p c (Some e) z = ap (λ (n : ℕ). new_in page n p e c) z

-- the zone of the sample and the answers of its row
pub new_same : (page : PageParts) (read : Reading) (p : At) (c : ℕ) → IsPage page → page_reach page ≤ 256 → read 0 p.y p.x ≡ zone_of page p → ((x2 : ℕ) → x2 < 2 * width page - 1 → read 2 p.y x2 ≡ column_answer page (page_reach page) x2 p.y)
    → tint_by page (zone_by read p) p c (edge_by page read p) ≡ new page p c
new_same page read p c valid few zone stored =
    tint_same page (zone_by read p) p c (edge_by page read p) zone
    ∙ (ap (new_from page p c) (edge_same page read (page_reach page) p few stored)
    ∙ (traps_by_columns page p valid).tints_alike c)
