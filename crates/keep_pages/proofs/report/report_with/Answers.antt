-- report_with: the text is that of the page's own counts.
use Rattle.std.proofs.Common.{slice_index, ◌∙◌}
use Rattle.keep_pages.specs.KeptPages.{changed_count, covered_count}
use Rattle.keep_pages.proofs.PageLemmas.{text_same}
use Rattle.keep_pages.proofs.report.report_with.Goals as goal

pub returns : goal.returns
returns c = c.in_ok-text.ensures ∙ text_same c.args.page.now c.args.used.now c.args.covered (covered_count c.args.page.now c.args.used.now) (slice_index c.args.changed.now) (changed_count c.args.page.now c.args.used.now) c.requires.covered c.requires.changed
