-- Each job that bytes spell is in range.
use Rattle.std.proofs.Common.{◌≡◌, ℕ, ◌+◌, ◌==◌, Bool, true, false, cond, List, [], ◌∷◌, length, map, Option, Some, None, Result, Ok, Err, refl, sym, ap, ◌∙◌, subst, arith, All, suc}
use Rattle.std.specs.Prelude.{IfOk, nat_lt, ◌&&◌, ◌||◌, slice_get, sum_by}
use Rattle.std.proofs.lemmas.Bool.{true≢false}
use Rattle.std.proofs.lemmas.Bool.Decides.{nat_tests}
use Rattle.std.proofs.lemmas.List.{length-map}
use Rattle.std.proofs.lemmas.List.Elements.{All-nil, All-cons, All-map, All-weaker}
use Rattle.std.proofs.lemmas.List.Sums.{sum_by-cons}
use Rattle.page_model.specs.declared.parts.Zone.{Zone}
use Rattle.page_model.specs.Conditions.{IsVertex, IsZone}
use Rattle.ps_tokens.specs.declared.faults.FaultKind.TheVariants.{JobTooLong, NoPageDevice, WrongOperands}
use Rattle.ps_tokens.specs.declared.faults.JobFault.{JobFault}
use Rattle.ps_tokens.specs.declared.object.Object.{Object}
use Rattle.ps_tokens.specs.declared.token.Token.{Token}
use Rattle.ps_tokens.specs.declared.faults.JobError.{JobError}
use Rattle.ps_tokens.specs.Limits.{longest_job}
use Rattle.ps_tokens.proofs.Giving.{IfOk-given}
use Rattle.ps_tokens.specs.Tokens.{Gives, tokens_of}
use Rattle.ps_tokens.specs.Objects.{objects_of}
use Rattle.job_reader.specs.declared.job.Job.{Job}
use Rattle.job_reader.specs.declared.operators.Operator.{Operator}
use Rattle.job_reader.specs.declared.state.State.{State}
use Rattle.job_reader.specs.Calls.{Statement, is_showpage, statements_of}
use Rattle.job_reader.specs.InRange.{IsJob}
use Rattle.job_reader.specs.Jobs.{then_job, statement_then, read_from, job_of_objects, job_of_tokens, job_of}
use Rattle.job_reader.specs.Starts.{nothing_read}
use Rattle.job_reader.specs.Statements.{after_fault, fault, job_at, job_unless, state_after, job_shown, shown_fault, under_trapping, wants_device, zone_0}
use Rattle.job_parts.proofs.FieldLemmas.{switched-in_range}
use Rattle.job_reader.proofs.StateRanges.{IsState, nothing_read-state, state_after-leaves}

-- a job that is made, or a fault
abbrev Makes : Result Job JobFault → Type 0
Makes r = (job : Job) → r ≡ Ok job → IsJob job

-- a switched zone is a zone of the same path
under_trapping-zones : (trapping : Bool) (zones : List Zone) → All IsZone zones → All IsZone (map (under_trapping trapping) zones)
under_trapping-zones trapping zones are =
    All-map IsZone (under_trapping trapping) zones (All-weaker IsZone (λ (z : Zone). IsZone (under_trapping trapping z)) (λ (z : Zone) is. record { params = switched-in_range z.params (z.params.enabled && trapping) is.params; path = is.path; limits = is.limits }) zones are)

under_trapping-vertices : (trapping : Bool) (zones : List Zone) → sum_by (λ (z : Zone). length z.path) (map (under_trapping trapping) zones) ≡ sum_by (λ (z : Zone). length z.path) zones
under_trapping-vertices trapping [] = refl
under_trapping-vertices trapping (z ∷ zs) =
    sum_by-cons (λ (z : Zone). length z.path) (under_trapping trapping z) (map (under_trapping trapping) zs)
    ∙ ap (λ n. length z.path + n) (under_trapping-vertices trapping zs)
    ∙ sym (sum_by-cons (λ (z : Zone). length z.path) z zs)

zone_0-zone : (now : State) → IsState now → IsZone (zone_0 now)
zone_0-zone now here = record {
  params = switched-in_range now.params (now.params.enabled && now.trapping && (length now.zones == 0)) here.params;
  path = record { begun = refl; few = omega arith; near = All-nil IsVertex };
  limits = here.limits;
}

-- without a resolution nothing wants one
idle : (zones : List Zone) (enabled trapping : Bool) → (nat_lt 0 (length zones) || (enabled && trapping)) ≡ false → (length zones ≡ 0) × ((enabled && trapping && (length zones == 0)) ≡ false)
idle [] true true wants = absurd (cc)
idle [] true false wants = (refl, refl)
idle [] false true wants = (refl, refl)
idle [] false false wants = (refl, refl)
idle (z ∷ zs) enabled trapping wants = let some : nat_lt 0 (suc (length zs)) ≡ true = grind (arith, nat_tests) in let wanted : true ≡ false = ap (λ b. b || (enabled && trapping)) (sym some) ∙ wants in absurd (true≢false wanted)

not_both : (n : ℕ) (wants : Bool) → ((n == 0) && wants) ≡ false → n ≡ 0 → wants ≡ false
not_both n true neither none = let zero : (n == 0) ≡ true = ap (λ m. m == 0) none in absurd (cc)
not_both n false neither none = refl

job_at-job : (now : State) → IsState now → ((now.resolution == 0) && wants_device now) ≡ false → IsJob (job_at now)
job_at-job now here neither =
    let others : List Zone = map (under_trapping now.trapping) now.zones in
    let count : length others ≡ length now.zones = length-map now.zones (under_trapping now.trapping) in
    let vertices : sum_by (λ (z : Zone). length z.path) (zone_0 now ∷ others) ≡ 0 + sum_by (λ (z : Zone). length z.path) others = sum_by-cons (λ (z : Zone). length z.path) (zone_0 now) others in
    let same = under_trapping-vertices now.trapping now.zones in
    record {
      some_zones = omega arith;
      few_zones = omega (arith, here.few_zones);
      zones = All-cons IsZone (zone_0 now) others (zone_0-zone now here) (under_trapping-zones now.trapping now.zones here.zones);
      zone_0 = refl;
      few_vertices = omega (arith, vertices, same, here.counted, here.few_vertices);
      fine = here.fine;
      resolved = λ none.
          let rest = idle now.zones now.params.enabled now.trapping (not_both now.resolution (wants_device now) neither none) in
          let none_made : length now.zones ≡ 0 = rest.0 in
          (omega (arith, count), rest.1);
      details = here.details;
    }

made_if : (b : Bool) (at : ℕ) (o : Option Object) (now : State) → IsState now → ((now.resolution == 0) && wants_device now) ≡ b → Makes (job_unless (cond b (Some (record { kind = NoPageDevice; at = at })) (after_fault o)) (job_at now))
made_if true at o now here neither = λ job is. absurd (cc)
made_if false at None now here neither = λ job is. let same : job_at now ≡ job = cc in subst (λ (j : Job). IsJob j) same (job_at-job now here neither)
made_if false at (Some object) now here neither = λ job is. absurd (cc)

alone_if : (b : Bool) (objects : List Object) (place at : ℕ) (now : State) → IsState now
    → Makes (job_unless (cond b (cond ((now.resolution == 0) && wants_device now) (Some (record { kind = NoPageDevice; at = at })) (after_fault (slice_get objects (place + 1)))) (Some (record { kind = WrongOperands; at = at }))) (job_at now))
alone_if true objects place at now here = made_if ((now.resolution == 0) && wants_device now) at (slice_get objects (place + 1)) now here refl
alone_if false objects place at now here = λ job is. absurd (cc)

-- `showpage`
job_shown-makes : (objects : List Object) (from place at : ℕ) (now : State) → IsState now → Makes (job_shown objects from place at now)
unfolding shown_fault
job_shown-makes objects from place at now here = alone_if (from == place) objects place at now here

then_job-makes : (r : Result State JobFault) (rest : State → Result Job JobFault) → ((next : State) → r ≡ Ok next → IsState next) → ((next : State) → IsState next → Makes (rest next)) → Makes (then_job r rest)
then_job-makes (Ok next) rest leaves makes = makes next (leaves next refl)
then_job-makes (Err first) rest leaves makes = λ job is. absurd (cc)

shown_or : (b : Bool) (objects : List Object) (s : Statement) (operator : Operator) (now : State) (rest : State → Result Job JobFault) → IsState now → ((next : State) → IsState next → Makes (rest next))
    → Makes (cond b (job_shown objects s.from s.place s.call.at now) (then_job (state_after objects s.from s.place s.call.at operator now) rest))
shown_or true objects s operator now rest here makes = job_shown-makes objects s.from s.place s.call.at now here
shown_or false objects s operator now rest here makes = then_job-makes (state_after objects s.from s.place s.call.at operator now) rest (state_after-leaves objects s.from s.place s.call.at operator now here) makes

statement_then-makes : (objects : List Object) (s : Statement) (o : Option Operator) (now : State) (rest : State → Result Job JobFault) → IsState now → ((next : State) → IsState next → Makes (rest next)) → Makes (statement_then objects s o now rest)
statement_then-makes objects s None now rest here makes = λ job is. absurd (cc)
statement_then-makes objects s (Some operator) now rest here makes = shown_or (is_showpage operator) objects s operator now rest here makes

read_from-makes : (objects : List Object) (len : ℕ) (now : State) (ss : List Statement) → IsState now → Makes (read_from objects len now ss)
unfolding read_from
read_from-makes objects len now [] here = λ job is. absurd (cc)
read_from-makes objects len now (s ∷ ss) here = statement_then-makes objects s s.call.operator now (λ next. read_from objects len next ss) here (λ next there. read_from-makes objects len next ss there)

objects-make : (len : ℕ) (r : Result (List Object) JobFault) → Makes (job_of_objects len r)
objects-make len (Ok objects) = read_from-makes objects len nothing_read (statements_of objects) nothing_read-state
objects-make len (Err first) = λ job is. absurd (cc)

tokens-make : (bytes : List ℕ) (r : Result (List Token) JobFault) → Makes (job_of_tokens bytes r)
tokens-make bytes (Ok tokens) = objects-make (length bytes) (objects_of bytes tokens)
tokens-make bytes (Err first) = λ job is. absurd (cc)

short_if : (b : Bool) (bytes : List ℕ) → Makes (cond b (fault JobTooLong longest_job) (job_of_tokens bytes (tokens_of bytes)))
short_if true bytes = λ job is. absurd (cc)
short_if false bytes = tokens-make bytes (tokens_of bytes)

-- a job that bytes spell
pub job_of-in_range : (bytes : List ℕ) (job : Job) → job_of bytes ≡ Ok job → IsJob job
unfolding job_of
job_of-in_range bytes = short_if (nat_lt longest_job (length bytes)) bytes

-- a job that is given, of bytes that are not too many
pub tokens_given-in_range : (bytes : List ℕ) (r : Result Job JobError) → Gives r (job_of_tokens bytes (tokens_of bytes)) → IfOk r (λ job. IsJob job)
tokens_given-in_range bytes r given = IfOk-given (λ job. IsJob job) (job_of_tokens bytes (tokens_of bytes)) r given (tokens-make bytes (tokens_of bytes))
