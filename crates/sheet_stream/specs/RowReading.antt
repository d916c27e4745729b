-- The rows of a strip that are read from the plates' files, after those that are kept.
use Rattle.std.specs.Prelude.{◌≡◌, ℕ, ◌+◌, ◌-◌, ◌*◌, ◌<◌, ◌≤◌, List, [], ◌++◌, length, Result, Ok}
use Rattle.outside.specs.Tray.{TrayState}
use Rattle.page_model.specs.declared.parts.PageParts.{PageParts}
use Rattle.page_model.specs.declared.parts.Plane.{Plane}
use Rattle.page_model.specs.Page.{height, maxval, plates, width}
use Rattle.pgm_plates.specs.declared.rows.OpenPlate.{OpenPlate}
use Rattle.plate_rows.specs.declared.rereading.NextRows.{NextRows}
use Rattle.plate_rows.specs.declared.error.RereadError.{RereadError}
use Rattle.plate_rows.specs.Rereading.{HaveRead, ReadsNext, turned}
use Rattle.plate_rows.specs.Trays.{open_at}
use Rattle.sheet_stream.specs.Holding.{AreCopied, HaveWorkspaceFor, HoldRowsFrom}

-- Of each plane the tints that are kept, those after the first `by`, are copied to the beginning,
-- and the next rows of the plates are read after them; all else is as it was.
pub record ReadsStrip (plates : List OpenPlate) (next : NextRows) (by : ℕ) (old new : PageParts)
    (before after : List TrayState) (result : Result (Unit {0}) RereadError) : Type 0 where
  pub copied : List Plane
  pub common : AreCopied by next.kept old.planes copied
  pub read : ReadsNext plates next copied new.planes before after result
  pub count : length new.planes ≡ length old.planes
  pub resolution : new.resolution ≡ old.resolution
  pub inks : new.inks ≡ old.inks
  pub zones : new.zones ≡ old.zones

-- a strip with the rows of another one
abbrev pub with_rows : PageParts → PageParts → PageParts
with_rows rows strip = record {
  resolution = strip.resolution;
  planes = rows.planes;
  inks = strip.inks;
  zones = strip.zones;
}

-- the tints that samples stand for, of a sheet that is bare so
abbrev pub tints_for : PageParts → (ℕ → List ℕ) → ℕ → List ℕ
tints_for outline samples c = turned (maxval outline) (samples c)

-- all plates have the sheet's header
pub record HaveHeader (outline : PageParts) (open_plates : List OpenPlate) : Type 0 where
  pub count : length open_plates ≡ plates outline
  pub each : (k : ℕ) → k < length open_plates → (open_at open_plates k).header
      ≡ record { width = width outline; height = height outline; maxval = maxval outline }

-- Of what was read of the plates since a second reading began, `rows` rows are in memory, from row
-- `from` on.
pub record HoldsRead (inputs : List (List ℕ)) (outline : PageParts) (open_plates : List OpenPlate)
    (from rows : ℕ) (start now : List TrayState) (planes : List Plane) : Type 0 where
  pub samples : ℕ → List ℕ
  pub read : HaveRead inputs open_plates (length open_plates) samples start now
  pub stored : HoldRowsFrom outline from rows (tints_for outline samples) planes

-- what is read of each plate after the rows that are held, up to those of the next strip
abbrev pub rows_after : PageParts → ℕ → ℕ → ℕ → NextRows
rows_after outline from rows next = record {
  done = (from + rows) * width outline;
  kept = (from + rows - next) * width outline;
}

-- More samples of each plate, after those before.
abbrev pub GoOn : (ℕ → List ℕ) → (ℕ → List ℕ) → Type 0
GoOn before after = (k : ℕ) → (more : List ℕ) × (after k ≡ before k ++ more)

-- After the rows of a strip those of the next one are read.
abbrev pub NextIsRead : Type 0
NextIsRead = (inputs : List (List ℕ)) (outline : PageParts) (open_plates : List OpenPlate)
    (from next rows : ℕ) (start before after : List TrayState) (old new : PageParts)
    → HaveHeader outline open_plates
    → (stored : HoldsRead inputs outline open_plates from rows start before old.planes)
    → from ≤ next → next ≤ from + rows → next + rows ≤ height outline
    → ReadsStrip open_plates (rows_after outline from rows next) ((next - from) * width outline) old new
    before after (Ok tt)
    → (now : HoldsRead inputs outline open_plates next rows start after new.planes)
    × GoOn stored.samples now.samples

-- Of plates that are begun once more the rows of the first strip are read.
abbrev pub FirstIsRead : Type 0
FirstIsRead = (inputs : List (List ℕ)) (outline : PageParts) (open_plates : List OpenPlate)
    (rows : ℕ) (start before after : List TrayState) (old new : PageParts)
    → HaveHeader outline open_plates
    → HaveRead inputs open_plates (length open_plates) (λ k. []) start before
    → HaveWorkspaceFor outline rows old.planes → rows ≤ height outline
    → ReadsStrip open_plates (record { done = 0; kept = 0 }) 0 old new before after (Ok tt)
    → HoldsRead inputs outline open_plates 0 rows start after new.planes
