-- How far a sheet has streamed, and the rows that come next.
use Rattle.std.specs.Prelude.{◌≡◌, ℕ, ◌+◌, ◌-◌, ◌%◌, ◌<◌, ◌≤◌, if◌then◌else◌}
use Rattle.sheet_stream.specs.declared.rows.Progress.{Progress}
use Rattle.sheet_geometry.specs.declared.spans.Ruler.{Ruler}
use Rattle.sheet_geometry.specs.declared.spans.Span.{Span}
use Rattle.sheet_geometry.specs.Spans.{IsSpan, even_wide}

-- A window of as many rows as each, that begins there, is one of the ruler's for a core that begins
-- so far down.
pub record IsPlaced (down : Ruler) (from at : ℕ) : Type 0 where
  pub inside : from + even_wide down ≤ down.side
  pub halo : from + down.halo ≤ at
  pub exact : (if down.from_end then down.side - (from + even_wide down) else from) % down.step
      ≡ 0

-- The rows that are held begin where the last strip's window did, and all rows above the next core
-- are read.
pub record IsProgress (down : Ruler) (progress : Progress) : Type 0 where
  pub inside : progress.read ≤ down.side
  pub stored : progress.from ≤ progress.at
  pub known : progress.at ≤ progress.read
  pub placed : 0 < progress.from → IsPlaced down progress.from progress.at

-- the first row of a strip's core
abbrev pub core_top : Span → ℕ
core_top row = row.from + row.skip

-- These rows are the next strip's: they begin among those in memory, or right after them.
pub record IsNextRow (down : Ruler) (progress : Progress) (row : Span) : Type 0 where
  pub span : IsSpan down progress.at row
  pub wide : row.wide ≡ even_wide down
  pub below : progress.from ≤ row.from
  pub above : row.from ≤ progress.read

-- These rows are a strip's, whose core begins where it does.
pub record IsStripRow (down : Ruler) (row : Span) : Type 0 where
  pub span : IsSpan down (core_top row) row
  pub wide : row.wide ≡ even_wide down

-- once the strip of these rows is read, and its core is done with
abbrev pub gone_on : Span → Progress
gone_on row = record {
  at = core_top row + row.core;
  from = row.from;
  read = row.from + row.wide;
}

-- before the first strip
abbrev pub not_begun : Progress
not_begun = record { at = 0; from = 0; read = 0 }
