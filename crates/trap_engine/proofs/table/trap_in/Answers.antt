-- trap_in: traps the page that the room was made for, by the workers that it has memory for.
use Rattle.std.proofs.lemmas.Grind.{common_steps}
use Rattle.std.proofs.Common.{◌≡◌, ◌∙◌, ap, arith, sym}
use Rattle.std.proofs.lemmas.List.{with_items_is}
use Rattle.band_claims.specs.declared.table_key.TableKey.{TableKey}
use Rattle.band_claims.proofs.ShareLemmas.{same_whole}
use Rattle.trap_engine.specs.Parts.{AreParts}
use Rattle.trap_engine.specs.Workspace.{WorkspaceView}
use Rattle.trap_engine.proofs.table.trap_in.Goals.{then-len-gt1, else-len-gt1}
use Rattle.trap_engine.proofs.table.trap_in.Goals as goal

pub take_rest-requires-clause-parts : goal.take_rest-requires-clause-parts
take_rest-requires-clause-parts g c =
    let page : c.args.page.now ≡ c.workspace.inside.shared.table_key.page.value = c.requires.page ∙ sym (ap (λ (r : WorkspaceView). r.page.value) c.workspace.view_is) in
    let parts : AreParts c.args.page.now c.workspace.inside.parts.items = rw page c.workspace.invariant.row_parts in
    rw c.deref_mut-2.ensures.value (elim c.if-len-gt1.branch [
      | then-len-gt1 w ↦ rw (w.parts-is, with_items_is c.workspace.inside.parts w.take_side_by_side-left.new.parts (omega (arith, w.take_side_by_side-left.auto.parts, c.workspace.inside.parts.ok))) w.take_side_by_side-left.ensures.parts
      | else-len-gt1 w ↦ rw w.parts-is parts
    ])

pub returns-clause-receipt : goal.returns-clause-receipt
returns-clause-receipt g c = record {
  finished = c.finish_table-closed.ensures.finished;
  low = ap (λ (s : TableKey). s.layout.bands.height) c.finish_table-closed.ensures.table_key ∙ ap (λ (r : WorkspaceView). r.layout.bands.height) c.workspace.view_is;
}

pub finish_table-closed-requires-clause-whole : goal.finish_table-closed-requires-clause-whole
finish_table-closed-requires-clause-whole g c = same_whole c.workspace.inside.pass.view.share c.work_many-pass.result.view.share c.work_many-pass.ensures.share c.workspace.invariant.whole

pub take_side_by_side-left-requires-clause-outcome : goal.take_side_by_side-left-requires-clause-outcome
take_side_by_side-left-requires-clause-outcome g c = grind (arith, common_steps)

pub take_side_by_side-left-requires-clause-parts : goal.take_side_by_side-left-requires-clause-parts
take_side_by_side-left-requires-clause-parts g c = grind (arith, common_steps)

pub into_trapped-requires : goal.into_trapped-requires
into_trapped-requires g c = grind (arith, common_steps)
