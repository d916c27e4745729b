-- The loops of statement_spans: the statements of a job's objects, in their order.
use Rattle.std.proofs.Common.{◌≡◌, ◌≤◌, ◌++◌}
use Rattle.job_pages.specs.StatementSpans.{spans_of}
use Rattle.job_pages.proofs.Cuts.{spans_from}
use Rattle.job_pages.proofs.statement_spans.statement_spans.Given as goal

-- what is found, and what is left to be found
abbrev pub invariant-loop-place : goal.invariant-loop-place
invariant-loop-place l = record {
  same : l.found ++ spans_from l.objects l.from l.place ≡ spans_of l.objects;
  suffix : l.from ≤ l.place;
}
