-- rows_down: goes down over the asked rows.
use Rattle.std.proofs.lemmas.Grind.{common_steps}
use Rattle.std.proofs.Common.{arith, ◌+◌, ◌∙◌, ◌≡◌, ap, refl, inl, inr}
use Rattle.std.proofs.lemmas.Bool.{cases_eq}
use Rattle.column_scan.specs.Sweep.{above_of}
use Rattle.column_scan.proofs.RowLemmas.{down_steps}
use Rattle.column_scan.proofs.sweeps.rows_down.Goals as goal

pub loop-k-init : goal.loop-k-init
loop-k-init g c = record {
  end = refl;
  len = c.first_row_of.ensures.written.len ∙ c.requires.out;
  above = λ k x2 le l. (let z : k ≡ 0 = omega arith in let first : c.args.first ≡ c.args.first + 0 = omega arith in rw z (c.first_row_of.ensures.written.done x2 l ∙ ap (above_of c.args.marks.now x2 c.args.reach2) first));
  steps = omega arith;
}

pub row_down-requires-clause-above : goal.row_down-requires-clause-above
row_down-requires-clause-above g c = λ x2 l. c.loop-k.invariant.above c.loop-k.k x2 (omega arith) l

pub loop-k-preserved : goal.loop-k-preserved
loop-k-preserved g c = record {
  end = refl;
  len = c.row_down.ensures.written.len ∙ c.loop-k.invariant.len;
  above = λ k x2 le l. elim (cases_eq k (c.loop-k.k + 1)) [
    | inl e ↦ (let next : c.args.first + c.loop-k.k + 1 ≡ c.args.first + (c.loop-k.k + 1) = omega arith in rw e (c.row_down.ensures.written.done x2 l ∙ ap (above_of c.args.marks.now x2 c.args.reach2) next))
    | inr ne ↦ c.row_down.ensures.written.kept k x2 l ne ∙ c.loop-k.invariant.above k x2 (omega (arith, le, ne)) l
  ];
  steps = omega (arith, c.row_down.ensures.steps, c.loop-k.invariant.steps);
}

pub returns-clause-above : goal.returns-clause-above
returns-clause-above g c = λ k x2 lk l. c.loop-k.invariant.above k x2 (omega arith) l

pub returns-clause-steps : goal.returns-clause-steps
returns-clause-steps g c = down_steps _ _ _ _ _ c.loop-k.k _ c.first_row_of.ensures.steps c.loop-k.invariant.steps (omega arith)

pub first_row_of-requires-clause-out : goal.first_row_of-requires-clause-out
first_row_of-requires-clause-out g c = grind (arith, common_steps)
