-- keep: the buffers stay what they are, and the planes have places for as many tints.
use Rattle.std.proofs.Common.{◌≡◌, ℕ, List, length, ap, ◌∙◌, arith}
use Rattle.std.proofs.lemmas.List.{with_items_is}
use Rattle.page_model.specs.declared.parts.Plane.{Plane}
use Rattle.page_model.specs.Page.{width}
use Rattle.page_model.specs.Planes.{plane_at}
use Rattle.keep_sheets.proofs.WorkspaceLemmas.{kept_count, kept_fits}
use Rattle.keep_sheets.proofs.workspace.KeepWorkspace.keep.Goals as goal

pub returns-clause-workspace : goal.returns-clause-workspace
returns-clause-workspace c =
    let page = c.args.page.now in
    let used = c.args.used.now in
    let row : length c.put_planes.new.row ≡ width page = omega (arith, ap (λ (xs : List ℕ). length xs) c.as_mut_slice.ensures.value, c.requires.workspace.row) in
    record {
      cover = c.find_cover.ensures.buffers;
      row = ap (λ (xs : List ℕ). length xs) (with_items_is c.args.self.now.row c.put_planes.new.row (omega (arith, row, c.requires.workspace.row))) ∙ row;
      count = ap (λ (planes : List Plane). length planes) c.put_planes.ensures ∙ kept_count page used;
      tints = λ j l. ap (λ (planes : List Plane). length (plane_at planes j).tints) c.put_planes.ensures ∙ kept_fits page used j l;
    }
