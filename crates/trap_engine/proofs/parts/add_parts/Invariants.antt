-- The loops of add_parts: adds what is counted in all parts of the page to the outcome.
use Rattle.std.proofs.Common.{◌≡◌, ◌<◌, length}
use Rattle.std.specs.Prelude.{slice_index_or}
use Rattle.page_model.specs.Page.{height}
use Rattle.page_tally.specs.Standing.{KeepsWorkspace}
use Rattle.page_tally.specs.Tallies.{HasPlates}
use Rattle.trap_engine.specs.declared.parts.Part.{Part}
use Rattle.trap_engine.proofs.parts.add_parts.Given as goal

abbrev pub invariant-loop-i : goal.invariant-loop-i
invariant-loop-i l = record {
  end : l.i-end ≡ length l.parts;
  workspace : KeepsWorkspace l.initial.outcome l.outcome;
  next : (d : Part) → l.i < length l.parts → HasPlates l.page (slice_index_or l.parts l.i d).rows.first l.outcome;
  whole : l.i ≡ length l.parts → HasPlates l.page (height l.page) l.outcome;
}
