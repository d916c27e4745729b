-- What `workspace_of` has to show.
use Rattle.std.proofs.Common.{ℕ, List, sym, subst}
use Rattle.page_model.specs.declared.parts.PageParts.{PageParts}
use Rattle.page_model.specs.Page.{width}
use Rattle.sheet_stream.specs.Strips.{CanBeCut, IsSomeStrip}
use Rattle.sheet_stream.proofs.WorkspaceLemmas.{blank_cut, blank_cuttable, can_hold, none_counted, some_strip}
use Rattle.sheet_stream.specs.OnSheet.{strip_cut}
use Rattle.sheet_geometry.specs.declared.spans.Span.{Span}
use Rattle.sheet_geometry.specs.Spans.{AreSpans}
use Rattle.sheet_engine.specs.Workspaces.{IsStripWorkspace}
use Rattle.sheet_engine.specs.Works.{AreNone}
use Rattle.sheet_engine.proofs.Wholes.{all_some}
use Rattle.sheet_geometry.specs.Forms.{form_of}
use Rattle.sheet_stream.proofs.workspace.workspace_of.Goals as goal

pub of-sheet-requires : goal.of-sheet-requires
of-sheet-requires c = blank_cuttable c.args.outline.now c.args.plan.now c.args.row.now c.args.strip c.requires.can c.requires.row c.requires.strip

pub means_of-requires-clause-columns : goal.means_of-requires-clause-columns
means_of-requires-clause-columns c = all_some c.args.plan.now.across c.args.columns.now 0 (width c.args.outline.now) c.requires.columns

pub means_of-requires-clause-cut : goal.means_of-requires-clause-cut
means_of-requires-clause-cut c = subst (λ (s : PageParts). CanBeCut s (strip_cut c.args.plan.now.across c.args.plan.now.down c.args.row.now)) (sym c.of-sheet.ensures) (blank_cut c.args.outline.now c.args.plan.now c.args.row.now c.args.strip c.requires.can c.requires.row c.requires.strip)

pub returns-in-Ok-clause-workspace : goal.returns-in-Ok-clause-workspace
returns-in-Ok-clause-workspace c =
    let means = c.in-Ok.means in
    let made = c.in-Ok.ensures in
    let outline = c.args.outline.now in
    let plan = c.args.plan.now in
    let row = c.args.row.now in
    let strip = c.args.strip in
    let ask = c.requires in
    let cut = c.of-sheet.ensures in
    let across = plan.across in
    let wide : ℕ = width outline in
    record {
      strip = subst (IsSomeStrip outline plan) (sym cut) (some_strip outline plan row strip ask.can ask.row ask.strip);
      ahead = some_strip outline plan row c.args.ahead ask.can ask.row ask.ahead;
      one = can_hold outline plan row strip ask.can ask.row ask.strip means.windows
          (subst (λ (cs : List Span). AreSpans across 0 cs wide) (sym made.one.columns_are) ask.columns)
          (subst (λ (s : PageParts). IsStripWorkspace (form_of s) row.wide means.windows) cut made.one.windows);
      other = can_hold outline plan row strip ask.can ask.row ask.strip means.core.windows
          (subst (λ (cs : List Span). AreSpans across 0 cs wide) (sym made.other.columns_are) ask.columns)
          (subst (λ (s : PageParts). IsStripWorkspace (form_of s) row.wide means.core.windows) cut made.other.windows);
      line = made.line;
      bytes = made.bytes;
      pieces = made.pieces;
    }

pub returns-in-Ok-clause-counts : goal.returns-in-Ok-clause-counts
returns-in-Ok-clause-counts c = none_counted c.args.outline.now c.args.plan.now c.args.row.now c.args.strip c.requires.can c.requires.row c.requires.strip c.in-Ok.means.counts
    (subst (λ (s : PageParts). AreNone s c.in-Ok.means.counts) c.of-sheet.ensures c.in-Ok.ensures.counts)
