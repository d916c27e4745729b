-- The loops of count_those_left: counts out of the closed table in the parts that are not done yet.
use Rattle.std.proofs.Common.{◌≡◌, ℕ, ◌<◌, ◌≤◌, length}
use Rattle.std.specs.Prelude.{slice_index_or}
use Rattle.trap_engine.specs.declared.parts.Part.{Part}
use Rattle.trap_engine.specs.Memory.{KeepsParts}
use Rattle.trap_engine.specs.Parts.{CoverPage, IsCounted, IsPart}
use Rattle.trap_engine.proofs.parts.count_those_left.Given as goal

abbrev pub invariant-loop-i : goal.invariant-loop-i
invariant-loop-i l = record {
  end : l.i-end ≡ length l.parts;
  cover : CoverPage l.page l.parts;
  workspace : KeepsParts l.initial.parts l.parts;
  done : (j : ℕ) (d : Part) → j < l.i → j < length l.parts → IsCounted l.page (slice_index_or l.parts j d);
  rest : (j : ℕ) (d : Part) → l.i ≤ j → j < length l.parts → IsPart l.page (slice_index_or l.parts j d);
}
