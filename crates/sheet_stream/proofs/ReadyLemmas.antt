-- A strip that is ready may be trapped.
use Rattle.std.proofs.Common.{sym, subst, ℕ, arith}
use Rattle.sheet_geometry.specs.Areas.{traps}
use Rattle.sheet_geometry.specs.StripCores.{StripCoreLaw, inner_row, inner_ruler}
use Rattle.sheet_geometry.proofs.CoreLemmas.{core_law}
use Rattle.page_model.specs.declared.parts.PageParts.{PageParts}
use Rattle.sheet_geometry.specs.declared.spans.Span.{Span}
use Rattle.sheet_geometry.specs.Plans.{AreRulersFor, AreRulers}
use Rattle.sheet_geometry.specs.Spans.{IsSpan}
use Rattle.sheet_stream.specs.declared.parts.StripPlan.{StripPlan}
use Rattle.sheet_engine.specs.declared.workspace.StripWorkspace.{StripWorkspace}
use Rattle.sheet_stream.specs.Ready.{IsTrappable}
use Rattle.sheet_engine.specs.declared.counts.SheetCounts.{SheetCounts}
use Rattle.page_model.specs.Columns.{halo}
use Rattle.page_model.specs.Reach.{page_reach}
use Rattle.sheet_geometry.proofs.Tiles.{traps_local}
use Rattle.sheet_geometry.proofs.Windows.{reach-same}
use Rattle.sheet_geometry.specs.Strips.{strip_parts, strip_tile}

module _ (plan : StripPlan) (row : Span) (strip : PageParts) (workspace : StripWorkspace) (counts : SheetCounts) (is : IsTrappable plan row strip workspace counts) where
  core : StripCoreLaw (halo (page_reach is.sheet)) traps is.sheet plan.across plan.down is.at row
  core = core_law (halo (page_reach is.sheet)) is.sheet plan.across plan.down is.at row is.valid is.near is.rulers is.span traps traps_local (omega arith)

  pub strip_rulers : AreRulersFor traps strip plan.across (inner_ruler plan.down row)
  strip_rulers = subst (λ (s : PageParts). AreRulersFor traps s plan.across (inner_ruler plan.down row)) (sym is.same)
      (subst (λ (n : ℕ). AreRulers (halo n) (strip_parts is.sheet row) plan.across (inner_ruler plan.down row)) (sym (reach-same is.sheet (strip_tile is.sheet row).cut)) core.rulers)

  pub strip_span : IsSpan (inner_ruler plan.down row) row.skip (inner_row row)
  strip_span = core.span
