-- A strip is worked on as a sheet of its own: the rows of its core are rows of the sheet.
use Rattle.std.specs.Prelude.{◌≡◌, ℕ, ◌+◌, ◌*◌, ◌<◌, List, map}
use Rattle.lists.specs.Words.{list_below}
use Rattle.page_model.specs.declared.parts.PageParts.{PageParts}
use Rattle.page_model.specs.Page.{sample_at, width}
use Rattle.sheet_geometry.specs.PageRules.{PageRule}
use Rattle.sheet_geometry.specs.declared.spans.Ruler.{Ruler}
use Rattle.sheet_geometry.specs.declared.spans.Span.{Span}
use Rattle.sheet_geometry.specs.Plans.{AreRulers, AreSmall, tile_of}
use Rattle.sheet_geometry.specs.Spans.{AreSpans, IsRuler, IsSpan}
use Rattle.sheet_geometry.specs.Strips.{strip_parts}
use Rattle.sheet_geometry.specs.Tiles.{strip_row}

-- the rows of a strip, counted from its own first row
abbrev pub inner_row : Span → Span
inner_row row = record { from = 0; wide = row.wide; skip = row.skip; core = row.core }

-- and the ruler for them
abbrev pub inner_ruler : Ruler → Span → Ruler
inner_ruler down row = record {
  side = row.wide;
  halo = down.halo;
  step = down.step;
  most = down.most;
  from_end = down.from_end;
}

-- the new tints of `count` samples of plate c of a sheet, from sample `first` on
abbrev pub new_from : PageRule → PageParts → ℕ → ℕ → ℕ → List ℕ
new_from rule sheet c first count =
    list_below (λ i. rule.tint sheet (sample_at sheet (first + i)) c) count

-- The strip can be cut by the columns of the sheet, its windows are as small, and the rows of its
-- core, window after window, are those of the sheet.
pub record StripCoreLaw (near : ℕ) (rule : PageRule) (sheet : PageParts) (across down : Ruler)
    (at : ℕ) (row : Span) : Type 0 where
  pub rulers : AreRulers near (strip_parts sheet row) across (inner_ruler down row)
  pub small : AreSmall sheet across down
      → AreSmall (strip_parts sheet row) across (inner_ruler down row)
  pub rows : IsRuler down → IsRuler (inner_ruler down row)
  pub span : IsSpan (inner_ruler down row) row.skip (inner_row row)
  pub tints : (columns : List Span) (c k : ℕ) → AreSpans across 0 columns (width sheet)
      → k < row.core
      → strip_row rule c (strip_parts sheet row) k
      (map (λ column. tile_of column (inner_row row)) columns)
      ≡ new_from rule sheet c ((at + k) * width sheet) (width sheet)
