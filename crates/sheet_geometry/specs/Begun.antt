-- Sheets of which some tints are known: the first ones of each plane.
use Rattle.std.specs.Prelude.{◌≡◌, ℕ, ◌*◌, ◌<◌, ◌≤◌, All, List, ◌++◌, length}
use Rattle.page_model.specs.declared.parts.PageParts.{PageParts}
use Rattle.page_model.specs.Page.{height, maxval, plates, width}
use Rattle.page_model.specs.Planes.{tints_of}
use Rattle.sheet_geometry.specs.Outline.{outline_sheet}
use Rattle.sheet_geometry.specs.Sheets.{IsSheet}

-- a sheet that is bare so, and each of whose planes begins with these tints
pub record BeginsWith (outline : PageParts) (tints : ℕ → List ℕ) (sheet : PageParts) : Type 0 where
  pub valid : IsSheet sheet
  pub same : outline_sheet sheet ≡ outline
  pub each : (c : ℕ) → c < plates outline
      → (rest : List ℕ) × (tints_of sheet.planes c ≡ tints c ++ rest)

-- tints that may be the first of each plane of a sheet that is bare so
pub record MayBegin (outline : PageParts) (tints : ℕ → List ℕ) : Type 0 where
  pub few : (c : ℕ) → c < plates outline → length (tints c) ≤ width outline * height outline
  pub below : (c : ℕ) → c < plates outline → All (λ tint. tint ≤ maxval outline) (tints c)

-- A sheet that begins with some tints of each plane begins with the first of them.
abbrev pub BeginsEarlier : Type 0
BeginsEarlier = (outline sheet : PageParts) (tints more : ℕ → List ℕ)
    → BeginsWith outline (λ c. tints c ++ more c) sheet → BeginsWith outline tints sheet
