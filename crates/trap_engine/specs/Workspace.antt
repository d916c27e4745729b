-- What a room for trapping is made of.
use Rattle.std.specs.Prelude.{◌≡◌, ℕ, ◌≤◌, All, List, None, length}
use Rattle.band_claims.specs.Seating.{OpenTable, Seating, Seats}
use Rattle.band_claims.specs.Shares.{IsWhole}
use Rattle.band_claims.specs.Views.{newcomer}
use Rattle.page_model.specs.declared.parts.PageParts.{PageParts}
use Rattle.band_core.specs.Layouts.{Layout}
use Rattle.band_pieces.specs.Workspace.{Memory}
use Rattle.page_tally.specs.declared.outcome.Outcome.{Outcome}
use Rattle.page_tally.specs.Tallies.{HasTallies}
use Rattle.trap_engine.specs.declared.parts.Part.{Part}
use Rattle.trap_engine.specs.declared.plates.PlateWork.{PlateWork}
use Rattle.trap_engine.specs.Parts.{AreParts, AreSeatedParts}
use Rattle.trap_engine.specs.Taking.{ArePlateWorks, AreSeatedWorks}

pub record PageOf : Type 0 where
  pub value : PageParts

-- what contracts see of a room: its page, the layout of its cells, how many workers it has memory
-- for, in how many parts the rows are counted, and how many marks its table has memory for
pub record WorkspaceView : Type 0 where
  pub page : PageOf
  pub layout : Layout
  pub workers : ℕ
  pub parts : ℕ
  pub marks : ℕ

-- a table with its first pass, which is new: nothing was claimed, found or told by it; the memory
-- of some workers and of the caller, made for the table; and for the table's page the works of its
-- plates and the parts of its rows, at most as many as workers, each with a seat of the table to
-- read by, and an outcome with nothing in it
pub record IsWorkspace (shared : OpenTable) (pass : Seating) (scratches : List Memory)
    (alone_scratch : Memory) (works : List PlateWork) (parts : List Part)
    (outcome : Outcome) : Type 0 where
  pub seat : Seats shared pass
  pub fresh : pass.view ≡ newcomer shared.table_key
  pub idle : pass.view.stored ≡ None
  pub whole : IsWhole pass.view.share
  pub served : All (λ (scratch : Memory). scratch.layout ≡ shared.table_key.layout) scratches
  pub some : 1 ≤ length scratches
  pub alone_scratch_served : alone_scratch.layout ≡ shared.table_key.layout
  pub work_seats : AreSeatedWorks shared works
  pub plate_works : ArePlateWorks shared.table_key.page.value works
  pub part_seats : AreSeatedParts shared parts
  pub row_parts : AreParts shared.table_key.page.value parts
  pub few_parts : length parts ≤ length scratches
  pub begun : HasTallies shared.table_key.page.value 0 outcome
