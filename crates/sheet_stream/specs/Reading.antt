-- The rows of the next strip are read, after those that it has in common with the current strip.
use Rattle.std.specs.Prelude.{◌≡◌, ◌⊎◌, ℕ, ◌+◌, ◌-◌, ◌*◌, ◌<◌, List, length, Result}
use Rattle.outside.specs.Tray.{TrayState}
use Rattle.page_model.specs.declared.parts.PageParts.{PageParts}
use Rattle.page_model.specs.Page.{plates, width}
use Rattle.pgm_plates.specs.declared.rows.OpenPlate.{OpenPlate}
use Rattle.plate_rows.specs.declared.rereading.NextRows.{NextRows}
use Rattle.plate_rows.specs.declared.error.RereadError.{RereadError}
use Rattle.plate_rows.specs.Rereading.{HaveRead}
use Rattle.sheet_stream.specs.declared.rows.Progress.{Progress}
use Rattle.sheet_stream.specs.Going.{IsNextRow}
use Rattle.sheet_stream.specs.Strips.{CanStream, IsSomeStrip}
use Rattle.sheet_stream.specs.Holding.{HoldRowsFrom}
use Rattle.sheet_stream.specs.RowReading.{HaveHeader, ReadsStrip, tints_for}
use Rattle.sheet_stream.specs.StoredStrips.{TurnsTo}
use Rattle.sheet_geometry.specs.declared.spans.Span.{Span}
use Rattle.sheet_geometry.specs.Spans.{even_wide}
use Rattle.sheet_stream.specs.declared.parts.StripPlan.{StripPlan}

-- Of what was read of the plates since a second reading began, the last rows are held: as many as a
-- strip has, unless none was read.
pub record HoldsTo (inputs : List (List ℕ)) (outline : PageParts) (begun : List OpenPlate)
    (tall : ℕ) (progress : Progress) (start now : List TrayState) (strip : PageParts)
    : Type 0 where
  pub samples : ℕ → List ℕ
  pub read : HaveRead inputs begun (length begun) samples start now
  pub count : (k : ℕ) → k < plates outline → length (samples k) ≡ progress.read * width outline
  pub stored : (progress.read ≡ 0)
      ⊎ ((progress.read ≡ progress.from + tall)
      × HoldRowsFrom outline progress.from tall (tints_for outline samples) strip.planes)

-- what is read of each plate then
abbrev pub rows_then : PageParts → Progress → Span → NextRows
rows_then outline progress row = record {
  done = progress.read * width outline;
  kept = (progress.read - row.from) * width outline;
}

-- The next strip is turned to these rows, and they are read: it is as if the strip at hand had been
-- turned, with the rows that are held in it.
pub record ReadsRow (outline : PageParts) (begun : List OpenPlate) (progress : Progress) (row : Span)
    (old new : PageParts) (before after : List TrayState) (result : Result (Unit {0}) RereadError)
    : Type 0 where
  pub turned : PageParts
  pub turns : TurnsTo outline row old turned
  pub reads : ReadsStrip begun (rows_then outline progress row)
      ((row.from - progress.from) * width outline) turned new before after result

-- some rows were read, wherever that began
pub record IsReadThere (outline : PageParts) (begun : List OpenPlate) (tall : ℕ)
    (progress : Progress) (now : List TrayState) (strip : PageParts) : Type 0 where
  pub inputs : List (List ℕ)
  pub start : List TrayState
  pub holds : HoldsTo inputs outline begun tall progress start now strip

-- The rows of the next strip may be read: the strip at hand holds what was read last.
pub record CanReadRow (outline : PageParts) (plan : StripPlan) (begun : List OpenPlate)
    (progress : Progress) (row : Span) (trays : List TrayState) (strip ahead : PageParts)
    : Type 0 where
  pub can : CanStream outline plan
  pub headers : HaveHeader outline begun
  pub next : IsNextRow plan.down progress row
  pub at_hand : IsSomeStrip outline plan strip
  pub workspace : IsSomeStrip outline plan ahead
  pub there : IsReadThere outline begun (even_wide plan.down) progress trays strip
