-- What is to come of a command, by the bytes of its files. Nothing else is looked at.
use Rattle.std.specs.Prelude.{◌≡◌, ℕ, ◌+◌, ◌<◌, List, [], ◌∷◌, length, map, Option, Ok}
use Rattle.page_files.specs.Inputs.{AreRead, Holds, Makes, name_at, one_page}
use Rattle.page_model.specs.declared.parts.PageParts.{PageParts}
use Rattle.page_model.specs.declared.parts.Plane.{Plane}
use Rattle.page_model.specs.Tints.{trapped_planes}
use Rattle.page_files.specs.Files.{Written, plate_files}
use Rattle.pgm_plates.specs.declared.plate.Plate.{Plate as PlateRead}
use Rattle.pgm_plates.specs.declared.plate.PlateFault.{PlateFault}
use Rattle.pgm_plates.specs.Faults.{IsFault}
use Rattle.pgm_plates.specs.Planes.{plane_of}
use Rattle.trapset_cli.specs.declared.reason.TrapsetError.{TrapsetError}
use Rattle.trapset_cli.specs.declared.reason.TrapsetError.TheVariants.{Page, BadLine, Differs}
use Rattle.trapset_cli.specs.Commands.{inputs_of, sources_of}
use Rattle.trapset_cli.specs.Words.{TrapsWords, ApplyWords, Command, Traps, Apply, outputs_of}
use Rattle.common_errors.specs.declared.common.CommonError.TheVariants.{Plate}
use Rattle.trap_set.specs.Applied.{applied}
use Rattle.trap_set.specs.Applying.{Differ, Fits}
use Rattle.trap_set.specs.Lines.{IsBadLine}
use Rattle.trap_set.specs.Runs.{Run}
use Rattle.trap_set.specs.SetText.{SetHead, IsSetFile, set_text}
use Rattle.page_files.specs.Verdicts.{Targets, IsVerdict as IsPageVerdict, Refused as page_refused}

-- what is to come
pub data Verdict : Type 0 where
  -- the job, a plate, the page or the set is refused
  Refused : TrapsetError → Verdict
  -- these files are to be written, in this order
  Out : List Written → Verdict

-- the page is not judged for files of its own
abbrev pub no_files : Targets
no_files = record { outputs = []; report = [] }

-- the set of what trapping changes of a page
abbrev pub set_files : List ℕ → PageParts → List Written
set_files name page = record {
  name = name;
  bytes = set_text page.planes (trapped_planes page);
} ∷ []

-- The plates of these files are read, and have these planes.
pub record ArePlanes (files : List ℕ → Option (List ℕ)) (names : List (List ℕ))
    (planes : List Plane) : Type 0 where
  pub plates : List PlateRead
  pub read : AreRead one_page files names (length names) plates
  pub same : planes ≡ map plane_of plates

-- The plates before this one are read; it has this fault.
pub record PlateRefused (files : List ℕ → Option (List ℕ)) (names : List (List ℕ)) (plate : ℕ)
    (fault : PlateFault) : Type 0 where
  pub known : plate < length names
  pub plates : List PlateRead
  pub before : AreRead one_page files names plate plates
  pub broken : Holds files (name_at names plate) (λ bytes. IsFault bytes fault)

-- Line n of the text, counted from 1, is its first bad one, and it is not a set for other planes.
pub record HasBadLine (n : ℕ) (bytes : List ℕ) (planes : List Plane) : Type 0 where
  pub good : ℕ
  pub is : n ≡ good + 1
  pub bad : IsBadLine bytes good
  pub same : Differ bytes planes → ⊥

-- The text is a set for these planes, and with its runs they become the new ones.
pub record Gives (new : List Plane) (bytes : List ℕ) (planes : List Plane) : Type 0 where
  pub head : SetHead
  pub runs : List Run
  pub is_file : IsSetFile bytes head runs
  pub fits : Fits head planes
  pub planes_are : new ≡ applied runs planes

-- All plates are read, and the bytes of the set are such for their planes.
pub record OnPlanes (files : List ℕ → Option (List ℕ)) (words : ApplyWords)
    (Fact : List ℕ → List Plane → Type 0) : Type 0 where
  pub planes : List Plane
  pub read : ArePlanes files (inputs_of words) planes
  pub set : Holds files words.set (λ bytes. Fact bytes planes)

-- The job is judged first, then each plate in order, then what they make.
abbrev pub IsTraps : (List ℕ → Option (List ℕ)) → TrapsWords → Verdict → Type 0
IsTraps files words (Refused (Page error)) =
    IsPageVerdict one_page files (sources_of words) no_files (page_refused error)
IsTraps files words (Refused other) = ⊥
IsTraps files words (Out written) = (page : PageParts)
    × Makes one_page files (sources_of words) (Ok page) × (written ≡ set_files words.set page)

-- The plates are judged first, in order, and then the set.
abbrev pub IsApply : (List ℕ → Option (List ℕ)) → ApplyWords → Verdict → Type 0
IsApply files words (Refused (Page (Plate plate fault))) =
    PlateRefused files (inputs_of words) plate fault
IsApply files words (Refused (BadLine n)) = OnPlanes files words (HasBadLine n)
IsApply files words (Refused Differs) = OnPlanes files words Differ
IsApply files words (Refused other) = ⊥
IsApply files words (Out written) = (new : List Plane) × OnPlanes files words (Gives new)
    × (written ≡ plate_files (outputs_of words.plates) new)

-- Where a file that this comes to is not there, there is no verdict.
abbrev pub IsVerdict : (List ℕ → Option (List ℕ)) → Command → Verdict → Type 0
IsVerdict files (Traps words) verdict = IsTraps files words verdict
IsVerdict files (Apply words) verdict = IsApply files words verdict
