-- spans_of: the spans of a side, from its first sample to its last.
use Rattle.std.proofs.Common.{◌≡◌, ◌+◌, ◌∷◌, ◌++◌, [], Bool, ap, ◌∙◌, sym, subst, arith, List}
use Rattle.std.specs.Prelude.{if◌then◌else◌}
use Rattle.sheet_geometry.specs.declared.spans.Span.{Span}
use Rattle.sheet_geometry.specs.Spans.{AreSpans}
use Rattle.sheet_geometry.proofs.SpanLemmas.{push_span}
use Rattle.sheet_geometry.proofs.spans.spans_of.Goals as goal

pub loop-done-preserved : goal.loop-done-preserved
loop-done-preserved c =
    let span = c.span_at-span.result in
    let is = c.span_at-span.ensures in
    let ok = c.if-is_err.ensures.negation in
    let items : c.push.new.self.items ≡ c.loop-done.spans.items ++ span ∷ [] = c.push.ensures.items ∙ ap (λ (b : Bool). if b then c.loop-done.spans.items ++ span ∷ [] else c.loop-done.spans.items) ok in
    record {
      inside = (let a = is.begins in let b = is.core in let d = is.inside in omega (arith, a, b, d));
      spans = subst (λ (xs : List Span). AreSpans c.args.ruler.now 0 xs (c.loop-done.done + span.core)) (sym items) (push_span c.args.ruler.now c.loop-done.spans.items 0 c.loop-done.done span c.loop-done.invariant.spans is);
    }
