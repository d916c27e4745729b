-- The loops of works_of: what each plate is taken with.
use Rattle.std.proofs.Common.{◌≡◌, ℕ, ◌<◌, length}
use Rattle.std.specs.Prelude.{slice_index_or}
use Rattle.page_model.specs.Page.{plates}
use Rattle.trap_engine.specs.declared.plates.PlateWork.{PlateWork}
use Rattle.trap_engine.specs.Taking.{AreSeatedWorks, IsPlateWork}
use Rattle.trap_engine.proofs.workspace.works_of.Given as goal

abbrev pub invariant-loop : goal.invariant-loop
invariant-loop l = record {
  end : l.end ≡ plates l.page;
  pass : l.pass ≡ l.initial.pass;
  count : length l.works ≡ l.counter;
  works : (j : ℕ) (d : PlateWork) → j < l.counter → IsPlateWork l.page j (slice_index_or l.works j d);
  seats : AreSeatedWorks l.shared l.works;
}
