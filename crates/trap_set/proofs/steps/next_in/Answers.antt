-- next_in: what a whole line is.
use Rattle.std.proofs.lemmas.Grind.{common_steps}
use Rattle.std.proofs.Common.{arith, sym, ◌∙◌, subst, inl, inr}
use Rattle.std.proofs.lemmas.Bool.{both_ways}
use Rattle.trap_set.specs.Reading.{head_in, run_in}
use Rattle.trap_set.specs.Standing.{IsAfter}
use Rattle.trap_set.proofs.SetLines.{one_run}
use Rattle.trap_set.proofs.steps.next_in.Goals as goal

pub returns-else-is_after-clause-bad : goal.returns-else-is_after-clause-bad
returns-else-is_after-clause-bad c bad may =
    let head = head_in c.args.head in
    let mine = run_in c.read_run_line.new.numbers in
    let is_mine = c.read_run_line.ensures.range c.if-not-read_run_line.false in
    let line_mine = c.read_run_line.ensures.line c.if-not-read_run_line.false in
    elim may [
      | inl end ↦ both_ways _ c.if-is_end.false (c.is_end.ensures.1 end)
      | inr other ↦ both_ways _ c.if-is_after.false (c.is_after.ensures.1
          (subst (IsAfter c.args.place) (sym (one_run head mine other.0 c.requires.head is_mine other.1 (sym line_mine ∙ other.3))) other.2))
    ]

pub returns-else-is_after-clause-run : goal.returns-else-is_after-clause-run
returns-else-is_after-clause-run c = grind (arith, common_steps)
