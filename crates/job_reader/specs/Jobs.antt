-- The job that bytes spell, or its first fault.
use Rattle.std.specs.Prelude.{ℕ, List, [], ◌∷◌, length, Option, Some, None, Result, Ok, Err, nat_lt}
use Rattle.std.specs.Prelude.{if◌then◌else◌}
use Rattle.ps_tokens.specs.declared.faults.FaultKind.TheVariants.{JobTooLong, UnknownOperator}
use Rattle.ps_tokens.specs.declared.faults.FaultKind.TheVariants.{NoShowpage}
use Rattle.ps_tokens.specs.declared.faults.JobFault.{JobFault}
use Rattle.ps_tokens.specs.declared.object.Object.{Object}
use Rattle.ps_tokens.specs.declared.token.Token.{Token}
use Rattle.ps_tokens.specs.Limits.{longest_job}
use Rattle.ps_tokens.specs.Tokens.{tokens_of}
use Rattle.ps_tokens.specs.Objects.{objects_of}
use Rattle.job_reader.specs.declared.job.Job.{Job}
use Rattle.job_reader.specs.declared.operators.Operator.{Operator}
use Rattle.job_reader.specs.declared.state.State.{State}
use Rattle.job_reader.specs.Calls.{Statement, is_showpage, statements_of}
use Rattle.job_reader.specs.Starts.{nothing_read}
use Rattle.job_reader.specs.Statements.{fault, state_after, job_shown}

-- what follows a statement without a fault
abbrev pub then_job : Result State JobFault → (State → Result Job JobFault) → Result Job JobFault
then_job (Ok now) rest = rest now
then_job (Err first) rest = Err first

-- a statement and what follows it; `showpage` ends the job
abbrev pub statement_then : List Object → Statement → Option Operator → State
    → (State → Result Job JobFault) → Result Job JobFault
statement_then objects s None now rest = fault UnknownOperator s.call.at
statement_then objects s (Some operator) now rest =
    if is_showpage operator then job_shown objects s.from s.place s.call.at now
    else then_job (state_after objects s.from s.place s.call.at operator now) rest

-- statements, one after the other; the job, of `len` bytes, has to end with `showpage`
unfoldable pub read_from : List Object → ℕ → State → List Statement → Result Job JobFault
read_from objects len now [] = fault NoShowpage len
read_from objects len now (s ∷ ss) =
    statement_then objects s s.call.operator now (λ next. read_from objects len next ss)

-- the job of objects
abbrev pub job_of_objects : ℕ → Result (List Object) JobFault → Result Job JobFault
job_of_objects len (Ok objects) = read_from objects len nothing_read (statements_of objects)
job_of_objects len (Err first) = Err first

-- the job of tokens
abbrev pub job_of_tokens : List ℕ → Result (List Token) JobFault → Result Job JobFault
job_of_tokens bytes (Ok tokens) = job_of_objects (length bytes) (objects_of bytes tokens)
job_of_tokens bytes (Err first) = Err first

-- the job of bytes, of which there are at most 1,048,576; of several faults first those of
-- tokens, then those of objects
unfoldable pub job_of : List ℕ → Result Job JobFault
job_of bytes =
    if nat_lt longest_job (length bytes) then fault JobTooLong longest_job
    else job_of_tokens bytes (tokens_of bytes)
