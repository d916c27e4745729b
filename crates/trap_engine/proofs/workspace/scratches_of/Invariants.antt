-- The loops of scratches_of: the memory of so many workers.
use Rattle.std.proofs.Common.{◌≡◌, ◌≤◌, ◌-◌, All}
use Rattle.std.specs.Prelude.{vec_len}
use Rattle.page_model.specs.Page.{plates, width}
use Rattle.band_pieces.specs.Workspace.{Memory}
use Rattle.trap_engine.proofs.workspace.scratches_of.Given as goal

abbrev pub invariant-loop-alloc : goal.invariant-loop-alloc
invariant-loop-alloc l = record {
  made : All (λ (scratch : Memory). scratch.layout ≡ record { bands = l.bands; width = width l.page; plates = plates l.page }) l.scratches.items;
  few : vec_len l.scratches ≤ l.count;
}

abbrev pub decreases-loop-alloc : goal.decreases-loop-alloc
decreases-loop-alloc l = l.count - vec_len l.scratches
