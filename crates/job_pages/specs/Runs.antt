-- The pages of a job, or the first error.
use Rattle.std.specs.Prelude.{◌≡◌, ℕ, List, [], length, filter, Option, Some, None, Result, Ok, Err}
use Rattle.std.specs.Prelude.{slice_get, option_map, ◌+◌, ◌-◌, ◌<◌}
use Rattle.lists.specs.Words.{or_else}
use Rattle.ps_tokens.specs.declared.faults.FaultKind.TheVariants.{NoShowpage}
use Rattle.ps_tokens.specs.declared.faults.JobFault.{JobFault}
use Rattle.ps_tokens.specs.declared.object.Object.{Object}
use Rattle.ps_tokens.specs.declared.token.Token.{Token}
use Rattle.ps_tokens.specs.Objects.{objects_of}
use Rattle.ps_tokens.specs.Tokens.{tokens_of}
use Rattle.job_reader.specs.declared.job.Job.{Job}
use Rattle.job_reader.specs.Jobs.{job_of}
use Rattle.job_reader.specs.Statements.{after_fault}
use Rattle.job_pages.specs.declared.statement_spans.StatementSpan.{StatementSpan}
use Rattle.job_pages.specs.declared.run.Run.{Run}
use Rattle.job_pages.specs.declared.run.RunError.{RunError}
use Rattle.job_pages.specs.declared.run.RunError.TheVariants.{Fault, TooManyPages, OutOfMemory}
use Rattle.job_pages.specs.PageText.{text_in}
use Rattle.job_pages.specs.StatementSpans.{spans_of, shows}

-- how many pages a job may have
abbrev pub most_pages : ℕ
most_pages = 256

-- the objects of tokens
abbrev pub objects_by : List ℕ → Result (List Token) JobFault → Result (List Object) JobFault
objects_by bytes (Ok tokens) = objects_of bytes tokens
objects_by bytes (Err fault) = Err fault

-- the objects that bytes spell; of several faults first those of tokens, then those of objects
abbrev pub objects_in : List ℕ → Result (List Object) JobFault
objects_in bytes = objects_by bytes (tokens_of bytes)

-- the fault at the end of a job of `len` bytes: it has no page, or an object stands after the last
-- `showpage`
abbrev pub end_fault : ℕ → List Object → Option StatementSpan → Option JobFault
end_fault len objects None = Some (record { kind = NoShowpage; at = len })
end_fault len objects (Some p) = after_fault (slice_get objects (p.place + 1))

-- the last of these statements, if there is one
abbrev pub last_of : List StatementSpan → Option StatementSpan
last_of shown = slice_get shown (length shown - 1)

-- the 257th `showpage`, if there is one
abbrev pub excess : Option StatementSpan → Option RunError
excess None = None
excess (Some p) = Some (TooManyPages p.at)

-- the first error of a job of `len` bytes, where its objects have no fault, and these statements
-- end its pages
abbrev pub run_error : ℕ → List Object → List StatementSpan → Option RunError
run_error len objects shown =
    or_else (option_map Fault (end_fault len objects (last_of shown)))
    (excess (slice_get shown most_pages))

-- statements, unless there is an error
abbrev pub run_unless : Option RunError → List StatementSpan
    → Result (List StatementSpan) RunError
run_unless None spans = Ok spans
run_unless (Some error) spans = Err error

abbrev pub run_from : ℕ → Result (List Object) JobFault → Result (List StatementSpan) RunError
run_from len (Err fault) = Err (Fault fault)
run_from len (Ok objects) =
    run_unless (run_error len objects (filter shows (spans_of objects))) (spans_of objects)

-- The statements of a job of many pages. First of all the whole job's tokens and then its objects
-- are judged; then it has to have a `showpage`, no object may stand after the last one, and there
-- may be 256.
unfoldable pub run_of : List ℕ → Result (List StatementSpan) RunError
run_of bytes = run_from (length bytes) (objects_in bytes)

-- how many pages statements show
abbrev pub pages_in : List StatementSpan → ℕ
pages_in spans = length (filter shows spans)

abbrev pub count_from : Result (List StatementSpan) RunError → Result ℕ RunError
count_from (Ok spans) = Ok (pages_in spans)
count_from (Err error) = Err error

-- how many pages a job has
abbrev pub count_of : List ℕ → Result ℕ RunError
count_of bytes = count_from (run_of bytes)

-- the statements of a run, none where it is refused
abbrev pub statements_in : Result (List StatementSpan) RunError → List StatementSpan
statements_in (Ok spans) = spans
statements_in (Err error) = []

-- the text of page k
abbrev pub page_text : List ℕ → ℕ → List ℕ
page_text bytes k = text_in (statements_in (run_of bytes)) bytes k

-- the job of page k: that of its text
abbrev pub page_job_of : List ℕ → ℕ → Result Job JobFault
page_job_of bytes k = job_of (page_text bytes k)

-- A call gives what a definition does, unless memory runs out.
abbrev pub GivesRun : {X : Type 0} → Result X RunError → Result X RunError → Type 0
GivesRun (Ok x) meant = meant ≡ Ok x
GivesRun (Err OutOfMemory) meant = Unit {0}
GivesRun (Err (Fault fault)) meant = meant ≡ Err (Fault fault)
GivesRun (Err (TooManyPages at)) meant = meant ≡ Err (TooManyPages at)

-- A run is read, with the statements that end its pages beside the others.
abbrev pub IsRun : Result Run RunError → Result (List StatementSpan) RunError → Type 0
IsRun (Ok run) meant = (meant ≡ Ok run.spans) × (run.shown ≡ filter shows run.spans)
IsRun (Err OutOfMemory) meant = Unit {0}
IsRun (Err (Fault fault)) meant = meant ≡ Err (Fault fault)
IsRun (Err (TooManyPages at)) meant = meant ≡ Err (TooManyPages at)

-- The bytes are a job of many pages, with a page k.
abbrev pub HasPage : List ℕ → ℕ → Type 0
HasPage bytes k = (count : ℕ) × (count_of bytes ≡ Ok count) × (k < count)

-- A job of many pages is read, or its error is given.
abbrev pub IsManyPages : List ℕ → Result (List ℕ) RunError → Type 0
IsManyPages bytes (Ok read) = (read ≡ bytes) × ((count : ℕ) × (count_of bytes ≡ Ok count))
IsManyPages bytes (Err OutOfMemory) = Unit {0}
IsManyPages bytes (Err (Fault fault)) = run_of bytes ≡ Err (Fault fault)
IsManyPages bytes (Err (TooManyPages at)) = run_of bytes ≡ Err (TooManyPages at)
