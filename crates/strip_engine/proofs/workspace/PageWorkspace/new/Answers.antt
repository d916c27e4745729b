-- PageRoom::new: the room for pages of this page's shape.
use Rattle.std.proofs.lemmas.Grind.{common_steps}
use Rattle.std.proofs.Common.{rules, arith}
use Rattle.strip_engine.proofs.WorkspaceLemmas.{outcome_shape}
use Rattle.strip_engine.proofs.workspace.PageWorkspace.new.Goals as goal

pub returns-clause-workspace : goal.returns-clause-workspace
returns-clause-workspace c = record {
  wide = c.in_ok-new.ensures.wide;
  deep = c.in_ok-new.ensures.deep;
  codes = omega (arith, c.in_ok-vec_of.field-0.ok, c.in_ok-vec_of.ensures, c.width.ensures.value);
  buffers = c.in_ok-new_buffers.ensures;
  outcome = outcome_shape c.args.page.now 0 c.in_ok-new-2.field-0 c.in_ok-new-2.ensures;
}

pub returns-clause-rows : goal.returns-clause-rows
returns-clause-rows c = search rules

pub same-result : goal.same-result
same-result c = grind (arith, common_steps)
