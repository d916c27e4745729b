-- Several trays, of which each reads the file of one plate, and the first one the job before it.
use Rattle.std.specs.Prelude.{ℕ, zero, suc, ◌<◌, IsTrue, List, [], ◌∷◌, ◌++◌}
use Rattle.outside.specs.Tray.{TrayState}
use Rattle.plate_rows.specs.Trays.{tray_at}
use Rattle.page_files.specs.Inputs.{Sources, name_at}

-- the files that tray k reads, in their order
abbrev pub tray_files : Sources → ℕ → List (List ℕ)
tray_files source zero = source.job ∷ name_at source.inputs zero ∷ []
tray_files source (suc k) = name_at source.inputs (suc k) ∷ []

-- the same, where its plate is read once more
abbrev pub files_twice : Sources → ℕ → List (List ℕ)
files_twice source k = tray_files source k ++ name_at source.inputs k ∷ []

-- the trays of `count` plates tell the bytes of their files
abbrev pub AllTell : ℕ → List TrayState → Type 0
AllTell count trays = (k : ℕ) → k < count → IsTrue (tray_at trays k).tells
