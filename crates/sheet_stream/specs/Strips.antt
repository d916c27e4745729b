-- A sheet that can be streamed, and its strips.
use Rattle.std.specs.Prelude.{◌≡◌, ◌<◌, ◌≤◌, ◌^◌, None}
use Rattle.sheet_geometry.specs.Areas.{traps}
use Rattle.sheet_geometry.specs.Outline.{IsOutlineSheet, outline_sheet}
use Rattle.page_model.specs.declared.parts.PageParts.{PageParts}
use Rattle.page_model.specs.Page.{height, maxval, width}
use Rattle.sheet_geometry.specs.CommonErrors.{cut_fault}
use Rattle.sheet_stream.specs.StoredStrips.{IsStripOf}
use Rattle.sheet_geometry.specs.declared.spans.Span.{Span}
use Rattle.sheet_geometry.specs.Plans.{AreRulersFor, AreSmall}
use Rattle.sheet_geometry.specs.Spans.{IsEvenRuler, even_wide}
use Rattle.sheet_stream.specs.declared.core_rows.StripCut.{StripCut}
use Rattle.sheet_stream.specs.declared.parts.StripPlan.{StripPlan}
use Rattle.sheet_engine.specs.Strips.{IsSomeSpan}

-- A sheet that can be cut, and rulers for it that give strips of one height.
pub record CanStream (outline : PageParts) (plan : StripPlan) : Type 0 where
  pub valid : IsOutlineSheet outline
  pub blank : outline_sheet outline ≡ outline
  pub cut : cut_fault outline ≡ None
  pub narrow : width outline < 2 ^ 30
  pub low : height outline < 2 ^ 30
  pub rulers : AreRulersFor traps outline plan.across plan.down
  pub small : AreSmall outline plan.across plan.down
  pub even : IsEvenRuler plan.down
  pub some_workers : 1 ≤ plan.workers
  pub deep : plan.header.maxval ≡ maxval outline

-- A strip of the sheet, or room for one, whatever rows it shows.
pub record IsSomeStrip (outline : PageParts) (plan : StripPlan) (strip : PageParts) : Type 0 where
  pub last : Span
  pub tall : last.wide ≡ even_wide plan.down
  pub is_strip : IsStripOf outline last strip

-- a strip that can be cut so, as a sheet of its own
pub record CanBeCut (strip : PageParts) (cut : StripCut) : Type 0 where
  pub rulers : AreRulersFor traps strip cut.across cut.down
  pub small : AreSmall strip cut.across cut.down
  pub row : IsSomeSpan cut.down cut.row
