-- Goals of fill that want a lemma by name.
use Rattle.std.proofs.lemmas.Grind.{common_steps}
use Rattle.std.proofs.Common.{arith, ◌+◌, ◌*◌, ◌++◌, ◌∙◌, ℕ, List, ap, add-one}
use Rattle.std.proofs.lemmas.Bool.{and_parts}
use Rattle.trap_c.specs.Planes.{row_in, rows_in}
use Rattle.trap_c.specs.Sources.{numbers}
use Rattle.trap_c.proofs.Above.{fit_more}
use Rattle.trap_c.proofs.source.Source.fill.Goals as goal

pub loop-y-preserved : goal.loop-y-preserved
loop-y-preserved c =
    let layout = c.args.layout in
    let samples = numbers c.args.self.now in
    let first = c.args.c * layout.height in
    let row = row_in layout samples (first + c.loop-y.y) in
    record {
      row = c.in_ok-is_fit.ensures.row;
      tints = rw (add-one c.loop-y.y) (c.in_ok-is_fit.ensures.tints ∙ ap (λ (xs : List ℕ). xs ++ row) c.loop-y.invariant.tints);
      fit = λ both.
          let parts = and_parts c.loop-y.are_fit c.in_ok-is_fit.is_fit both in
          rw (add-one c.loop-y.y) (fit_more layout.maxval (rows_in layout samples first c.loop-y.y) row (c.loop-y.invariant.fit parts.0) (c.in_ok-is_fit.ensures.fit parts.1));
    }

pub returns-clause-fit : goal.returns-clause-fit
returns-clause-fit c = grind (arith, common_steps)

pub add_row-requires-clause-inside : goal.add_row-requires-clause-inside
add_row-requires-clause-inside c = grind (arith, common_steps)

pub returns-clause-tints : goal.returns-clause-tints
returns-clause-tints c = grind (arith, common_steps)
