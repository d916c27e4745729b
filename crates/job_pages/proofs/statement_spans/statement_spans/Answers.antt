-- statement_spans: the statements of a job's objects, in their order.
use Rattle.std.proofs.Common.{rules, ◌≡◌, ◌+◌, [], ◌∷◌, ◌++◌, Some, None, append-nil, sym, ap, ◌∙◌, arith}
use Rattle.std.specs.Prelude.{slice_get}
use Rattle.job_reader.specs.Calls.{call_of}
use Rattle.job_pages.specs.StatementSpans.{span_at}
use Rattle.job_pages.proofs.Cuts.{from_end, so_far_call, so_far_none}
use Rattle.job_pages.proofs.statement_spans.statement_spans.Goals as goal
use Rattle.job_pages.proofs.statement_spans.statement_spans.Goals.{in-Some+else-is_err, in-None}

pub loop-place-preserved : goal.loop-place-preserved
loop-place-preserved c =
    elim c.match-call_at.branch [
      | in-Some+else-is_err w ↦
          let at : call_of (slice_get c.args.objects.now c.loop-place.place) ≡ Some w.in-Some.call = rw c.as_slice-all.ensures at (sym w.in-Some.ensures) in
          let found : c.match-call_at.found ≡ c.loop-place.found ++ span_at c.args.objects.now c.loop-place.from c.loop-place.place w.in-Some.call ∷ [] = search rules in
          let from : c.match-call_at.from ≡ c.loop-place.place + 1 = search rules in
          let step = so_far_call c.args.objects.now c.loop-place.found c.loop-place.from c.loop-place.place w.in-Some.call (omega arith) at in
          record { same = rw (found, from) (sym step ∙ c.loop-place.invariant.same); suffix = omega (arith, from) }
      | in-None w ↦
          let at : call_of (slice_get c.args.objects.now c.loop-place.place) ≡ None = rw c.as_slice-all.ensures at (sym w.in-None.ensures) in
          let step = so_far_none c.args.objects.now c.loop-place.found c.loop-place.from c.loop-place.place (omega arith) at in
          record { same = rw (w.found-is, w.from-is) (sym step ∙ c.loop-place.invariant.same); suffix = omega arith }
    ]

pub returns : goal.returns
returns c =
    sym (append-nil c.loop-place.found)
    ∙ ap (λ ps. c.loop-place.found ++ ps) (sym (from_end c.args.objects.now c.loop-place.from c.loop-place.place (omega arith)))
    ∙ c.loop-place.invariant.same
