-- The loops of take_those_left: takes out of the closed table the plates that are not taken yet.
use Rattle.std.proofs.Common.{◌≡◌, ℕ, ◌<◌, ◌≤◌, length}
use Rattle.std.specs.Prelude.{slice_index_or}
use Rattle.page_model.specs.Page.{plates}
use Rattle.trap_engine.specs.declared.plates.PlateWork.{PlateWork}
use Rattle.trap_engine.specs.Memory.{KeepsWorks}
use Rattle.trap_engine.specs.Taking.{IsPlateWork, IsTakenPlate}
use Rattle.trap_engine.proofs.plates.take_those_left.Given as goal

abbrev pub invariant-loop-c : goal.invariant-loop-c
invariant-loop-c l = record {
  end : l.c-end ≡ plates l.page;
  count : length l.works ≡ plates l.page;
  workspace : KeepsWorks l.initial.works l.works;
  done : (j : ℕ) (d : PlateWork) → j < l.c → IsTakenPlate l.page j (slice_index_or l.works j d).tints.items (slice_index_or l.works j d).changed;
  rest : (j : ℕ) (d : PlateWork) → l.c ≤ j → j < plates l.page → IsPlateWork l.page j (slice_index_or l.works j d);
}
