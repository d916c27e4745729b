-- StripRoom::new: all memory that strips of this one's form and number of rows are trapped in, cut
-- into these columns.
use Rattle.std.proofs.Common.{◌∙◌, List, ap, sym, subst, arith}
use Rattle.std.specs.Prelude.{map}
use Rattle.std.specs.List.{All}
use Rattle.std.proofs.lemmas.Grind.{common_steps}
use Rattle.sheet_engine.specs.declared.workspace.WindowWorkspace.{WindowWorkspace}
use Rattle.sheet_engine.specs.Workspaces.{IsWindowWorkspace}
use Rattle.sheet_engine.proofs.WorkspaceLemmas.{all_more, mapped_more}
use Rattle.sheet_geometry.specs.Forms.{form_of}
use Rattle.sheet_engine.proofs.workspace.StripWorkspace.new.Goals as goal

pub loop-column-preserved : goal.loop-column-preserved
loop-column-preserved c = record {
  columns = ap (map (λ (w : WindowWorkspace). w.column)) c.in_ok-push.ensures ∙ mapped_more (λ (w : WindowWorkspace). w.column) c.loop-column.windows c.in_ok-window.window c.args.columns.now c.loop-column.column-index (record { from = 0; wide = 0; skip = 0; core = 0 }) c.loop-column-test.true c.loop-column.invariant.columns c.in_ok-window.ensures.column;
  each = subst (λ (ws : List WindowWorkspace). All (IsWindowWorkspace (form_of c.args.strip.now) c.args.row.now.wide) ws) (sym c.in_ok-push.ensures) (all_more (IsWindowWorkspace (form_of c.args.strip.now) c.args.row.now.wide) c.loop-column.windows c.in_ok-window.window c.loop-column.invariant.each c.in_ok-window.ensures.workspace);
}

pub loop-column-init : goal.loop-column-init
loop-column-init c = grind (arith, common_steps)

pub returns-clause-columns : goal.returns-clause-columns
returns-clause-columns c = grind (arith, common_steps)

pub returns-clause-workspace : goal.returns-clause-workspace
returns-clause-workspace c = grind (arith, common_steps)

pub window_workspace-requires-clause-column : goal.window_workspace-requires-clause-column
window_workspace-requires-clause-column c = grind (arith, common_steps)

pub window_workspace-requires-clause-row : goal.window_workspace-requires-clause-row
window_workspace-requires-clause-row c = grind (arith, common_steps)
