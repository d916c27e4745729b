-- vertex_of: a vertex as seen from a corner.
use Rattle.std.proofs.Common.{◌≡◌, ◌∙◌, ◌<◌, ◌≤◌, ℕ, arith, rules}
use Rattle.std.proofs.lemmas.Int.{ints, to_z-of_z, to_z_pos}
use Rattle.page_model.specs.Limits.{most_coordinate}
use lib.IntN.{ℤ, pos, ◌-ℤ◌}
use mir.Syntax.{w64}
use mir.Val.{SFits, of_z, to_z}
use Rattle.std.specs.Prelude.{nat_abs}
use Rattle.sheet_geometry.proofs.corners.vertex_of.Goals as goal

moved : (v : ℤ) (n : ℕ) → nat_abs v ≤ most_coordinate → n < 1125899906842624
    → to_z w64 (of_z w64 (to_z w64 (of_z w64 v) -ℤ to_z w64 n)) ≡ v -ℤ pos n
moved v n near small =
    let whole : SFits w64 v = search (arith, ints) in
    let less : SFits w64 (v -ℤ pos n) = search (arith, ints) in
    (λ i. to_z w64 (of_z w64 (to_z-of_z w64 v whole i -ℤ to_z_pos w64 n (omega arith) i)))
    ∙ to_z-of_z w64 (v -ℤ pos n) less

pub returns : goal.returns
returns c = search (rules, moved)
