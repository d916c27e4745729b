-- The values of the first three phases fit their bits.
use Rattle.std.proofs.Common.{ℕ, zero, suc, ◌+◌, ◌*◌, ◌^◌, ◌<◌, ◌≤◌, Bool, true, false, nat_le, Option, Some, None, arith}
use Rattle.std.specs.Prelude.{if◌then◌else◌}
use Rattle.std.proofs.lemmas.Bool.{and_parts, leb-true}
use Rattle.page_model.specs.declared.parts.At.{At}
use Rattle.page_model.specs.declared.parts.PageParts.{PageParts}
use Rattle.page_model.specs.Columns.{edge_decides, column_edge, column_answer, offset_code}
use Rattle.page_model.specs.Conditions.{IsPage}
use Rattle.page_model.specs.Decider.{grid_rows}
use Rattle.page_model.specs.Deciding.{right_mark, lower_mark}
use Rattle.page_model.specs.Reach.{page_reach}
use Rattle.lists.specs.Words.{gap}
use Rattle.page_model.specs.Zones.{zone_of}
use Rattle.page_model.proofs.ColumnDecider.{column_edge-is, passes, rank}
use Rattle.lists.proofs.FirstLeast.{Answers}
use Rattle.page_model.proofs.ZoneLemmas.{zone_of-is}
use Rattle.band_core.specs.Places.{bits_of}
use Rattle.band_core.specs.Values.{row_value}

zone_fits : (page : PageParts) (p : At) → IsPage page → zone_of page p < 256
zone_fits page p valid = let t = (zone_of-is page p valid).known in let u = valid.parts.few_zones in omega (arith, t, u)

two_bits : (r l : Bool) → (if r then 1 else 0) + (if l then 2 else 0) < 4
two_bits true true = omega arith
two_bits true false = omega arith
two_bits false true = omega arith
two_bits false false = omega arith

code_fits : (page : PageParts) (reach x2 y : ℕ) (o : Option ℕ) → reach ≤ 256 → Answers (rank y) (passes page reach x2 y) (grid_rows page) o → offset_code y o < 1024
code_fits page reach x2 y None few h = omega arith
code_fits page reach x2 y (Some y2) few h = let near = leb-true _ _ (and_parts (edge_decides page x2 y2) (nat_le (gap y2 (2 * y)) reach) h.passes).1 in omega (arith, near, few)

answer_fits : (page : PageParts) (reach x2 y : ℕ) → reach ≤ 256 → column_answer page reach x2 y < 1024
unfolding column_answer
answer_fits page reach x2 y few = code_fits page reach x2 y (column_edge page reach x2 y) few (column_edge-is page reach x2 y)

pub value_fits : (page : PageParts) (phase y o : ℕ) → IsPage page → page_reach page ≤ 256 → phase < 3 → row_value page phase y o < 2 ^ bits_of phase
unfolding row_value
value_fits page zero y o valid few l = zone_fits page (record { x = o; y = y }) valid
value_fits page (suc zero) y o valid few l = two_bits (right_mark page y o) (lower_mark page y o)
value_fits page (suc (suc zero)) y o valid few l = answer_fits page (page_reach page) o y few
value_fits page (suc (suc (suc phase))) y o valid few l = absurd (omega (arith, l))
