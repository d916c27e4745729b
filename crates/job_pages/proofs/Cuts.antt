-- The statements of objects, from a place on.
use Rattle.std.proofs.Common.{◌≡◌, ℕ, zero, suc, ◌+◌, ◌<◌, ◌≤◌, List, [], ◌∷◌, ◌++◌, length, drop, Option, Some, None, refl, sym, ap, ◌∙◌, arith}
use Rattle.std.specs.Prelude.{map, slice_get}
use Rattle.std.proofs.lemmas.List.{append_assoc, at_drop_all}
use Rattle.ps_tokens.specs.declared.object.Object.{Object}
use Rattle.job_reader.specs.declared.calls.Call.{Call}
use Rattle.job_reader.specs.Calls.{Statement, call_of, cut_at, statements_from}
use Rattle.job_pages.specs.declared.statement_spans.StatementSpan.{StatementSpan}
use Rattle.job_pages.specs.StatementSpans.{span_at, span_of}

-- the statements from a place on, of which the first has its operands from another
abbrev pub spans_from : List Object → ℕ → ℕ → List StatementSpan
spans_from objects from place = map (span_of objects) (statements_from from place (drop place objects))

statements_drop : (from place k : ℕ) (objects : List Object) → k < length objects
    → statements_from from place (drop k objects) ≡ cut_at from place (call_of (slice_get objects k)) (λ first. statements_from first (place + 1) (drop (suc k) objects))
unfolding statements_from
statements_drop from place k [] lt = absurd (omega arith)
statements_drop from place zero (o ∷ os) lt = refl
statements_drop from place (suc k) (o ∷ os) lt = statements_drop from place k os (omega arith)

-- no operator stands at a place
pub from_none : (objects : List Object) (from place : ℕ) → place < length objects → call_of (slice_get objects place) ≡ None
    → spans_from objects from place ≡ spans_from objects from (place + 1)
from_none objects from place lt none =
    let k : suc place ≡ place + 1 = omega arith in
    ap (λ (ss : List Statement). map (span_of objects) ss)
    (statements_drop from place place objects lt
    ∙ ap (λ (c : Option Call). cut_at from place c (λ first. statements_from first (place + 1) (drop (suc place) objects))) none
    ∙ ap (λ (n : ℕ). statements_from from (place + 1) (drop n objects)) k)

-- an operator stands there
pub from_call : (objects : List Object) (from place : ℕ) (call : Call) → place < length objects → call_of (slice_get objects place) ≡ Some call
    → spans_from objects from place ≡ span_at objects from place call ∷ spans_from objects (place + 1) (place + 1)
from_call objects from place call lt is =
    let k : suc place ≡ place + 1 = omega arith in
    ap (λ (ss : List Statement). map (span_of objects) ss)
    (statements_drop from place place objects lt
    ∙ ap (λ (c : Option Call). cut_at from place c (λ first. statements_from first (place + 1) (drop (suc place) objects))) is
    ∙ ap (λ (n : ℕ). cut_at from place (Some call) (λ first. statements_from first (place + 1) (drop n objects))) k)

-- no object is left
pub from_end : (objects : List Object) (from place : ℕ) → length objects ≤ place → spans_from objects from place ≡ []
unfolding statements_from
from_end objects from place end = at_drop_all (λ (os : List Object). map (span_of objects) (statements_from from place os)) objects place end

-- what was found so far, and what is left to be found
pub so_far_call : (objects : List Object) (found : List StatementSpan) (from place : ℕ) (call : Call) → place < length objects → call_of (slice_get objects place) ≡ Some call
    → found ++ spans_from objects from place ≡ (found ++ span_at objects from place call ∷ []) ++ spans_from objects (place + 1) (place + 1)
so_far_call objects found from place call lt is =
    ap (λ (ps : List StatementSpan). found ++ ps) (from_call objects from place call lt is) ∙ sym (append_assoc found (span_at objects from place call ∷ []) (spans_from objects (place + 1) (place + 1)))

pub so_far_none : (objects : List Object) (found : List StatementSpan) (from place : ℕ) → place < length objects → call_of (slice_get objects place) ≡ None
    → found ++ spans_from objects from place ≡ found ++ spans_from objects from (place + 1)
so_far_none objects found from place lt none = ap (λ (ps : List StatementSpan). found ++ ps) (from_none objects from place lt none)
