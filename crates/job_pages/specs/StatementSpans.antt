-- The statements of a job among its bytes.
use Rattle.std.specs.Prelude.{ℕ, Bool, true, false, List, [], map, length, Option, Some, None}
use Rattle.std.specs.Prelude.{slice_get, ◌+◌}
use Rattle.ps_tokens.specs.declared.object.Body.{Body}
use Rattle.ps_tokens.specs.declared.object.Body.TheVariants as bodies
use Rattle.ps_tokens.specs.declared.object.Object.{Object}
use Rattle.job_reader.specs.declared.calls.Call.{Call}
use Rattle.job_reader.specs.declared.operators.Operator.{Operator}
use Rattle.job_reader.specs.declared.operators.Operator.TheVariants.{SetPageDevice, SetTrapParams}
use Rattle.job_reader.specs.declared.operators.Operator.TheVariants.{NewPath, ClosePath, MoveTo}
use Rattle.job_reader.specs.declared.operators.Operator.TheVariants.{LineTo, RelativeMoveTo}
use Rattle.job_reader.specs.declared.operators.Operator.TheVariants.{RelativeLineTo, SetTrapZone}
use Rattle.job_reader.specs.declared.operators.Operator.TheVariants.{ShowPage}
use Rattle.job_reader.specs.Calls.{Statement, statements_of}
use Rattle.job_pages.specs.declared.statement_spans.Scope.{Scope}
use Rattle.job_pages.specs.declared.statement_spans.Scope.TheVariants.{Persistent, Showpage}
use Rattle.job_pages.specs.declared.statement_spans.Scope.TheVariants.{PageLocal}
use Rattle.job_pages.specs.declared.statement_spans.StatementSpan.{StatementSpan}

-- Parameters, limits, resolution, Trapping and details stay in force from page to page; paths and
-- zones do not.
abbrev pub scope_by : Operator → Scope
scope_by SetPageDevice = Persistent
scope_by SetTrapParams = Persistent
scope_by NewPath = PageLocal
scope_by ClosePath = PageLocal
scope_by MoveTo = PageLocal
scope_by LineTo = PageLocal
scope_by RelativeMoveTo = PageLocal
scope_by RelativeLineTo = PageLocal
scope_by SetTrapZone = PageLocal
scope_by ShowPage = Showpage

-- the same of a word, which may be no operator
abbrev pub scope_of : Option Operator → Scope
scope_of None = PageLocal
scope_of (Some operator) = scope_by operator

-- the offset of an object
abbrev pub offset_of : Option Object → ℕ
offset_of None = 0
offset_of (Some object) = object.at

-- the word that an operator is written with
abbrev pub word_in : Body → List ℕ
word_in (bodies.Number n) = []
word_in (bodies.Truth b) = []
word_in bodies.Null = []
word_in bodies.Text = []
word_in (bodies.Literal name) = []
word_in (bodies.Operator name) = name
word_in bodies.Array = []
word_in bodies.Dict = []

abbrev pub word_of : Option Object → List ℕ
word_of None = []
word_of (Some object) = word_in object.body

-- a statement whose operands stand from one place up to another, where its operator stands
abbrev pub span_at : List Object → ℕ → ℕ → Call → StatementSpan
span_at objects from place call = record {
  from = offset_of (slice_get objects from);
  end = call.at + length (word_of (slice_get objects place));
  place = place;
  at = call.at;
  scope = scope_of call.operator;
}

abbrev pub span_of : List Object → Statement → StatementSpan
span_of objects s = span_at objects s.from s.place s.call

-- the statements of a job's objects, from the first byte of the first operand, or of the operator
-- where there is none, to the last byte of the operator
abbrev pub spans_of : List Object → List StatementSpan
spans_of objects = map (span_of objects) (statements_of objects)

-- whether what a statement sets stays in force on later pages
abbrev pub does_stay : Scope → Bool
does_stay Persistent = true
does_stay Showpage = false
does_stay PageLocal = false

abbrev pub stays : StatementSpan → Bool
stays p = does_stay p.scope

-- whether a statement ends a page
abbrev pub does_show : Scope → Bool
does_show Persistent = false
does_show Showpage = true
does_show PageLocal = false

abbrev pub shows : StatementSpan → Bool
shows p = does_show p.scope
