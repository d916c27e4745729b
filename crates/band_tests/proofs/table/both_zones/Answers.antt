-- both_zones: the words of both bands' zones, where the pass finds them done.
use Rattle.std.proofs.Common.{◌≡◌, ℕ, ◌+◌, inl, inr, arith, subst}
use Rattle.std.proofs.lemmas.Bool.{cases_eq}
use Rattle.band_core.specs.TableShapes.{Has}
use Rattle.band_claims.specs.TableKeys.{shape_of}
use Rattle.band_claims.specs.Views.{Knows}
use Rattle.band_claims.proofs.Looking.{knows_here, knows_more}
use Rattle.band_tests.proofs.OneZone.{cell_has}
use Rattle.band_tests.proofs.table.both_zones.Goals as goal

pub read_cells-requires-clause-known : goal.read_cells-requires-clause-known
read_cells-requires-clause-known c o l =
    let table_key = c.args.shared.now.table_key in
    let one = c.is_done.ensures.answer in let two = c.is_done-else-not-is_done.ensures.answer in
    let first : Knows c.is_done.new.pass.view 0 = rw one.1 (knows_here c.args.pass.now.view 0 one.0 (one.2.0 c.if-not-is_done.false)) in
    let both : Knows c.is_done-else-not-is_done.new.pass.view 0 = rw two.1 (knows_more c.is_done.new.pass.view 1 two.0 0 first) in
    let second : Knows c.is_done-else-not-is_done.new.pass.view 1 = rw two.1 (knows_here c.is_done.new.pass.view 1 two.0 (two.2.0 c.if-not-is_done-2.false)) in
    elim (cases_eq o 0) [
      | inl e ↦ (0, subst (λ (j : ℕ). Has (shape_of table_key) 0 j) (let z : 0 ≡ 0 + o = omega (arith, e) in z) (cell_has table_key c.requires.table_key 0 (omega arith)), both)
      | inr ne ↦ (1, subst (λ (j : ℕ). Has (shape_of table_key) 1 j) (let z : 1 ≡ 0 + o = omega (arith, ne, l) in z) (cell_has table_key c.requires.table_key 1 (omega arith)), second)
    ]
