-- What stands in the slot of a line.
use Rattle.std.specs.Prelude.{◌≡◌, ℕ, List, Option, Some, None}
use Rattle.page_model.specs.declared.parts.PageParts.{PageParts}
use Rattle.trap_pool.specs.declared.stage.Stage.{Stage}
use Rattle.trap_pool.specs.declared.stage.Stage.TheVariants.{Empty, Made, Waits}
use Rattle.trap_pool.specs.Made.{IsTrapsOf}
use Rattle.trap_pool.specs.Replies.{ReplyParts}
use Rattle.trap_pool.specs.declared.traps.Traps.{Traps}
use Rattle.trap_pool.specs.Taking.{HasPage, TrapsLine, reply_at, waiting_of}

-- the number of a line, and what became of its page so far
pub record SlotParts : Type 0 where
  pub line : ℕ
  pub stage : Stage

abbrev pub slot_parts : ℕ → Stage → SlotParts
slot_parts line stage = record { line = line; stage = stage }

-- A page that waits is the line's own, and so are traps that were made. Where there is neither, no
-- page of the line was accepted.
abbrev pub IsStage : List ReplyParts → ℕ → Stage → Type 0
IsStage replies line Empty = waiting_of (reply_at replies line) ≡ None
IsStage replies line (Waits page) = HasPage replies line page
IsStage replies line (Made traps) = TrapsLine replies line traps

-- the traps that were made, if any
abbrev pub traps_of : Stage → Option Traps
traps_of Empty = None
traps_of (Waits page) = None
traps_of (Made traps) = Some traps

-- what may be made of a page: it waits on, or these are its traps
abbrev pub MadeOf : PageParts → Stage → Type 0
MadeOf page Empty = ⊥
MadeOf page (Waits other) = other ≡ page
MadeOf page (Made traps) = IsTrapsOf page traps
