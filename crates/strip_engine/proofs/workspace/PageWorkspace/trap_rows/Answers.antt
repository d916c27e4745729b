-- PageRoom::trap_rows: traps all rows, and counts them if that is asked.
use Rattle.std.proofs.lemmas.Grind.{common_steps}
use Rattle.std.proofs.Common.{◌∙◌, ap, arith, length, List, ℕ}
use Rattle.std.proofs.lemmas.List.{with_items_is}
use Rattle.row_values.specs.Workspace.{Workspace}
use Rattle.page_tally.proofs.StandingLemmas.{trapped_whole}
use Rattle.strip_engine.proofs.WorkspaceLemmas.{buffers_shape}
use Rattle.strip_engine.proofs.workspace.PageWorkspace.trap_rows.Goals as goal

pub returns-clause-workspace : goal.returns-clause-workspace
returns-clause-workspace c =
    let page = c.args.page.now in
    let work = c.trap_strips.ensures.workspace ∙ c.fill_buffers.ensures.workspace in
    let codes = c.trap_strips.ensures.codes ∙ ap (λ (xs : List ℕ). length xs) c.deref_mut.ensures.value in
    record {
      wide = ap (λ (r : Workspace). r.wide) work ∙ c.requires.workspace.wide;
      deep = ap (λ (r : Workspace). r.deep) work ∙ c.requires.workspace.deep;
      codes = ap (λ (xs : List ℕ). length xs) (with_items_is c.args.self.now.codes c.trap_strips.new.codes (omega (arith, codes, c.args.self.now.codes.ok))) ∙ codes ∙ c.requires.workspace.codes;
      buffers = buffers_shape page c.trap_strips.new.buffers c.trap_strips.ensures.buffers;
      outcome = c.trap_strips.ensures.outcome.tints.shape;
    }

pub returns-clause-planes : goal.returns-clause-planes
returns-clause-planes c = trapped_whole c.args.page.now c.trap_strips.new.outcome.planes c.trap_strips.ensures.outcome.tints.planes

pub trap_strips-requires-clause-outcome : goal.trap_strips-requires-clause-outcome
trap_strips-requires-clause-outcome c = grind (arith, common_steps)

pub returns-clause-outcome : goal.returns-clause-outcome
returns-clause-outcome c = grind (arith, common_steps)
