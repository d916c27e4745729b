-- The loops of showpages_among: the statements that end pages.
use Rattle.std.proofs.Common.{◌≡◌, take}
use Rattle.std.specs.Prelude.{filter}
use Rattle.job_pages.specs.StatementSpans.{shows}
use Rattle.job_pages.proofs.run.showpages_among.Given as goal

abbrev pub invariant-loop-span : goal.invariant-loop-span
invariant-loop-span l = l.found ≡ filter shows (take l.span-index l.spans)
