-- Taking plates out of a table, and counting, take no memory: the lists for it keep their room.
use Rattle.std.specs.Prelude.{◌≡◌, ℕ, ◌<◌, List, length, slice_index_or, vec_capacity}
use Rattle.trap_engine.specs.declared.parts.Part.{Part}
use Rattle.trap_engine.specs.declared.plates.PlateWork.{PlateWork}
use Rattle.trap_engine.specs.declared.tally.Tally.{Tally}

-- the lists of a tally have the room that they had
pub record KeepsTally (before after : Tally) : Type 0 where
  pub zones : vec_capacity after.zones ≡ vec_capacity before.zones
  pub marks : vec_capacity after.marks ≡ vec_capacity before.marks
  pub changes : vec_capacity after.changes ≡ vec_capacity before.changes
  pub zone_samples : vec_capacity after.zone_samples ≡ vec_capacity before.zone_samples
  pub zone_changed : vec_capacity after.zone_changed ≡ vec_capacity before.zone_changed

-- so have those of each part
pub record KeepsParts (before after : List Part) : Type 0 where
  pub count : length after ≡ length before
  pub each : (i : ℕ) (d : Part) → i < length before
      → KeepsTally (slice_index_or before i d).tally (slice_index_or after i d).tally

-- so have the rows that plates are taken with
pub record KeepsWorks (before after : List PlateWork) : Type 0 where
  pub count : length after ≡ length before
  pub each : (c : ℕ) (d : PlateWork) → c < length before
      → vec_capacity (slice_index_or after c d).row ≡ vec_capacity (slice_index_or before c d).row
