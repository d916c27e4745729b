-- The loops of edge_row: writes the marks of each sample of row y, from the left.
use Rattle.std.proofs.Common.{◌≡◌, ◌<◌, ◌≤◌, ◌-◌, ℕ, length}
use Rattle.std.specs.Prelude.{slice_index}
use Rattle.page_model.specs.Deciding.{mark}
use Rattle.page_model.specs.Page.{width}
use Rattle.edge_rule.proofs.row.edge_row.Given as goal

abbrev pub invariant-loop-x : goal.invariant-loop-x
invariant-loop-x l = record {
  inside : l.x ≤ width l.page;
  long : length l.out ≡ width l.page;
  done : (k : ℕ) → k < l.x → slice_index l.out k ≡ mark l.page l.y k;
}

abbrev pub decreases-loop-x : goal.decreases-loop-x
decreases-loop-x l = width l.page - l.x
