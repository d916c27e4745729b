-- How much is taken of the file that is in hand.
use Rattle.std.specs.Prelude.{◌≡◌, ◌⊎◌, ℕ, ◌<◌, ◌≤◌, List, length}
use Rattle.outside.specs.Tray.{TrayState}
use Rattle.page_files.specs.Inputs.{Sources, name_at}
use Rattle.page_files.specs.Looks.{Takes}
use Rattle.page_files.specs.Steps.{TakesJob}
use Rattle.pgm_plates.specs.Sequences.{AreFewOfPage}

-- Some bytes are taken off the start of the plate's file of which the image of a page is asked for,
-- no more than are owed.
abbrev pub TakesImage : ℕ → List ℕ → TrayState → TrayState → Type 0
TakesImage page = Takes (AreFewOfPage page)

-- A plate is in hand, of which the image of a page up to this one is asked for.
pub record PlateInHand (names : List (List ℕ)) (last : ℕ) (before after : TrayState) : Type 0 where
  pub plate : ℕ
  pub known : plate < length names
  pub page : ℕ
  pub within : page ≤ last
  pub takes : TakesImage page (name_at names plate) before after

-- No file was begun, or a plate is in hand.
abbrev pub MayHold : List (List ℕ) → ℕ → TrayState → TrayState → Type 0
MayHold names last before after = (after ≡ before) ⊎ PlateInHand names last before after

-- No more was taken of the file that is in hand than is owed, be it the job or a plate.
abbrev pub InHand : Sources → ℕ → TrayState → TrayState → Type 0
InHand source last before after =
    TakesJob source.job before after ⊎ MayHold source.inputs last before after
