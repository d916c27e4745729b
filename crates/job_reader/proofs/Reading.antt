-- Statements, one object after the other.
use Rattle.std.proofs.Common.{◌≡◌, ℕ, zero, suc, ◌+◌, ◌<◌, ◌≤◌, true, false, cond, List, [], ◌∷◌, length, drop, Option, Some, None, Result, Ok, Err, refl, ap, ◌∙◌, arith}
use Rattle.std.specs.Prelude.{slice_get}
use Rattle.std.proofs.lemmas.List.{at_drop_all}
use Rattle.ps_tokens.specs.declared.faults.FaultKind.TheVariants.{UnknownOperator, NoShowpage}
use Rattle.ps_tokens.specs.declared.faults.JobFault.{JobFault}
use Rattle.ps_tokens.specs.declared.faults.JobError.{JobError}
use Rattle.ps_tokens.specs.declared.faults.JobError.TheVariants as errors
use Rattle.ps_tokens.specs.declared.object.Object.{Object}
use Rattle.ps_tokens.specs.Tokens.{Fails}
use Rattle.job_reader.specs.declared.calls.Call.{Call}
use Rattle.job_reader.specs.declared.job.Job.{Job}
use Rattle.job_reader.specs.declared.operators.Operator.{Operator}
use Rattle.job_reader.specs.declared.state.State.{State}
use Rattle.job_reader.specs.Calls.{call_of, cut_at, is_showpage, statements_from}
use Rattle.job_reader.specs.Jobs.{then_job, statement_then, read_from}
use Rattle.job_reader.specs.Statements.{fault, state_after, job_shown}

-- the statements from a place on, with what is in force there
abbrev pub read_on : List Object → ℕ → State → ℕ → ℕ → Result Job JobFault
read_on objects len now from place = read_from objects len now (statements_from from place (drop place objects))

statements-drop : (from place k : ℕ) (objects : List Object) → k < length objects
    → statements_from from place (drop k objects) ≡ cut_at from place (call_of (slice_get objects k)) (λ first. statements_from first (place + 1) (drop (suc k) objects))
unfolding statements_from
statements-drop from place k [] lt = absurd (omega arith)
statements-drop from place zero (o ∷ os) lt = refl
statements-drop from place (suc k) (o ∷ os) lt = statements-drop from place k os (omega arith)

-- no operator stands at a place
pub read_on-none : (objects : List Object) (len : ℕ) (now : State) (from place : ℕ) → place < length objects → call_of (slice_get objects place) ≡ None
    → read_on objects len now from place ≡ read_on objects len now from (place + 1)
read_on-none objects len now from place lt none =
    let k : suc place ≡ place + 1 = omega arith in
    ap (read_from objects len now)
    (statements-drop from place place objects lt
    ∙ ap (λ c. cut_at from place c (λ first. statements_from first (place + 1) (drop (suc place) objects))) none
    ∙ ap (λ n. statements_from from (place + 1) (drop n objects)) k)

-- an operator stands at a place
read_on-call : (objects : List Object) (len : ℕ) (now : State) (from place : ℕ) (call : Call) (o : Option Operator) → place < length objects → call_of (slice_get objects place) ≡ Some call → call.operator ≡ o
    → read_on objects len now from place ≡ statement_then objects (record { from = from; place = place; call = call }) o now (λ next. read_on objects len next (place + 1) (place + 1))
unfolding read_from
read_on-call objects len now from place call o lt is called =
    let k : suc place ≡ place + 1 = omega arith in
    ap (read_from objects len now)
    (statements-drop from place place objects lt
    ∙ ap (λ c. cut_at from place c (λ first. statements_from first (place + 1) (drop (suc place) objects))) is
    ∙ ap (λ n. cut_at from place (Some call) (λ first. statements_from first (place + 1) (drop n objects))) k)
    ∙ ap (λ p. statement_then objects (record { from = from; place = place; call = call }) p now (λ next. read_on objects len next (place + 1) (place + 1))) called

-- it is none that is known
pub read_on-unknown : (objects : List Object) (len : ℕ) (now : State) (from place : ℕ) (call : Call) → place < length objects → call_of (slice_get objects place) ≡ Some call → call.operator ≡ None
    → read_on objects len now from place ≡ fault UnknownOperator call.at
read_on-unknown objects len now from place call lt is called = read_on-call objects len now from place call None lt is called

-- it is `showpage`
pub read_on-job_shown : (objects : List Object) (len : ℕ) (now : State) (from place : ℕ) (call : Call) (operator : Operator) → place < length objects → call_of (slice_get objects place) ≡ Some call → call.operator ≡ Some operator → is_showpage operator ≡ true
    → read_on objects len now from place ≡ job_shown objects from place call.at now
read_on-job_shown objects len now from place call operator lt is called shows =
    read_on-call objects len now from place call (Some operator) lt is called
    ∙ ap (λ b. cond b (job_shown objects from place call.at now) (then_job (state_after objects from place call.at operator now) (λ next. read_on objects len next (place + 1) (place + 1)))) shows

-- it is another one
read_on-performed_by : (objects : List Object) (len : ℕ) (now : State) (from place : ℕ) (call : Call) (operator : Operator) (r : Result State JobFault) → place < length objects → call_of (slice_get objects place) ≡ Some call → call.operator ≡ Some operator → is_showpage operator ≡ false → state_after objects from place call.at operator now ≡ r
    → read_on objects len now from place ≡ then_job r (λ next. read_on objects len next (place + 1) (place + 1))
read_on-performed_by objects len now from place call operator r lt is called shows does =
    read_on-call objects len now from place call (Some operator) lt is called
    ∙ ap (λ b. cond b (job_shown objects from place call.at now) (then_job (state_after objects from place call.at operator now) (λ next. read_on objects len next (place + 1) (place + 1)))) shows
    ∙ ap (λ q. then_job q (λ next. read_on objects len next (place + 1) (place + 1))) does

pub read_on-state_after : (objects : List Object) (len : ℕ) (now next : State) (from place : ℕ) (call : Call) (operator : Operator) → place < length objects → call_of (slice_get objects place) ≡ Some call → call.operator ≡ Some operator → is_showpage operator ≡ false → state_after objects from place call.at operator now ≡ Ok next
    → read_on objects len now from place ≡ read_on objects len next (place + 1) (place + 1)
read_on-state_after objects len now next from place call operator lt is called shows does =
    read_on-performed_by objects len now from place call operator (Ok next) lt is called shows does

-- it is refused
pub read_on-refused : (objects : List Object) (len : ℕ) (now : State) (from place : ℕ) (call : Call) (operator : Operator) (common_error : JobError) → place < length objects → call_of (slice_get objects place) ≡ Some call → call.operator ≡ Some operator → is_showpage operator ≡ false → Fails common_error (state_after objects from place call.at operator now)
    → Fails common_error (read_on objects len now from place)
read_on-refused objects len now from place call operator (errors.Fault first) lt is called shows does =
    read_on-performed_by objects len now from place call operator (Err first) lt is called shows does
read_on-refused objects len now from place call operator errors.OutOfMemory lt is called shows does = tt

-- no object is left
pub read_on-end : (objects : List Object) (len : ℕ) (now : State) (from place : ℕ) → length objects ≤ place → read_on objects len now from place ≡ fault NoShowpage len
unfolding read_from statements_from
read_on-end objects len now from place end = at_drop_all (λ os. read_from objects len now (statements_from from place os)) objects place end
