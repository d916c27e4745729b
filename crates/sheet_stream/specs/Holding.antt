-- The rows of each plate that are held while a sheet is read strip by strip.
use Rattle.std.specs.Prelude.{◌≡◌, ℕ, ◌+◌, ◌-◌, ◌*◌, ◌<◌, ◌≤◌, List, ◌++◌, drop, length, take}
use Rattle.sheet_geometry.specs.Begun.{BeginsWith}
use Rattle.page_model.specs.declared.parts.PageParts.{PageParts}
use Rattle.page_model.specs.declared.parts.Plane.{Plane}
use Rattle.page_model.specs.Page.{height, maxval, plates, width}
use Rattle.page_model.specs.Planes.{plane_at, tints_of}
use Rattle.sheet_geometry.specs.declared.spans.Span.{Span}
use Rattle.sheet_geometry.specs.Strips.{strip_parts}

-- the sides and the maxval of a plane, and how many tints it has, are as they were
pub record HasForm (old new : Plane) : Type 0 where
  pub width : new.width ≡ old.width
  pub height : new.height ≡ old.height
  pub maxval : new.maxval ≡ old.maxval
  pub full : length new.tints ≡ length old.tints

-- those of each plane
pub record AreAlike (old new : List Plane) : Type 0 where
  pub count : length new ≡ length old
  pub each : (c : ℕ) → c < length old → HasForm (plane_at old c) (plane_at new c)

-- `kept` tints of a plane, those after the first `by`, stand at the beginning of another one.
pub record IsCopied (by kept : ℕ) (old new : Plane) : Type 0 where
  pub form : HasForm old new
  pub first : take kept new.tints ≡ take kept (drop by old.tints)

-- those of each plane
pub record AreCopied (by kept : ℕ) (old new : List Plane) : Type 0 where
  pub count : length new ≡ length old
  pub each : (c : ℕ) → c < length old → IsCopied by kept (plane_at old c) (plane_at new c)

-- Of each plane the first `kept` tints are kept; all others may be new.
pub record AreKept (kept : ℕ) (old new : List Plane) : Type 0 where
  pub count : length new ≡ length old
  pub form : (c : ℕ) → c < length old → HasForm (plane_at old c) (plane_at new c)
  pub first : (c : ℕ) → c < length old → take kept (tints_of new c) ≡ take kept (tints_of old c)

-- Of each plate `rows` rows are in memory, from row `from` on: they are the last that were read,
-- where these are all tints that were.
pub record HoldRowsFrom (outline : PageParts) (from rows : ℕ) (tints : ℕ → List ℕ)
    (planes : List Plane) : Type 0 where
  pub count : length planes ≡ plates outline
  pub read : (c : ℕ) → c < plates outline → length (tints c) ≡ (from + rows) * width outline
  pub wide : (c : ℕ) → c < plates outline → (plane_at planes c).width ≡ width outline
  pub tall : (c : ℕ) → c < plates outline → (plane_at planes c).height ≡ rows
  pub deep : (c : ℕ) → c < plates outline → (plane_at planes c).maxval ≡ maxval outline
  pub stored : (c : ℕ) → c < plates outline → tints_of planes c ≡ drop (from * width outline) (tints c)

-- planes that hold `rows` rows
pub record HaveWorkspaceFor (outline : PageParts) (rows : ℕ) (planes : List Plane) : Type 0 where
  pub count : length planes ≡ plates outline
  pub wide : (c : ℕ) → c < plates outline → (plane_at planes c).width ≡ width outline
  pub tall : (c : ℕ) → c < plates outline → (plane_at planes c).height ≡ rows
  pub deep : (c : ℕ) → c < plates outline → (plane_at planes c).maxval ≡ maxval outline
  pub workspace : (c : ℕ) → c < plates outline → length (tints_of planes c) ≡ rows * width outline

-- The planes that hold the rows of a span are those of the strip, of each sheet that begins with
-- what was read.
abbrev pub HoldsStrip : Type 0
HoldsStrip = (outline sheet : PageParts) (row : Span) (tints : ℕ → List ℕ) (planes : List Plane)
    → HoldRowsFrom outline row.from row.wide tints planes → BeginsWith outline tints sheet
    → row.from + row.wide ≤ height sheet → planes ≡ (strip_parts sheet row).planes

-- the tints of plate c that stand after those that are kept
abbrev pub behind : ℕ → List Plane → ℕ → List ℕ
behind kept planes c = drop kept (tints_of planes c)

-- Where all rows of the first strip are read, they are held.
abbrev pub NoneAreStored : Type 0
NoneAreStored = (outline : PageParts) (rows : ℕ) (old new : List Plane) → HaveWorkspaceFor outline rows old
    → AreKept 0 old new → HoldRowsFrom outline 0 rows (behind 0 new) new

-- Where the rows that two strips have in common are copied to the beginning, and kept, and the
-- others are read after them, the rows of the next strip are in memory.
abbrev pub NextAreStored : Type 0
NextAreStored = (outline : PageParts) (from next rows : ℕ) (tints : ℕ → List ℕ)
    (old copied new : List Plane) → HoldRowsFrom outline from rows tints old
    → from ≤ next → next ≤ from + rows
    → AreCopied ((next - from) * width outline) ((from + rows - next) * width outline) old copied
    → AreKept ((from + rows - next) * width outline) copied new
    → HoldRowsFrom outline next rows
    (λ c. tints c ++ behind ((from + rows - next) * width outline) new c) new
