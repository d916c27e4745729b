-- A job that is not refused has no more pages than it may have.
use Rattle.std.proofs.Common.{◌≡◌, ℕ, ◌≤◌, List, length, Option, Some, None, Result, Ok, Err, refl, sym, ap, subst, inl, inr, ◌∙◌, arith}
use Rattle.std.specs.Prelude.{filter, slice_get, option_map}
use Rattle.std.proofs.lemmas.Option.{slice_get_cases}
use Rattle.lists.specs.Words.{or_else}
use Rattle.ps_tokens.specs.declared.faults.JobFault.{JobFault}
use Rattle.ps_tokens.specs.declared.object.Object.{Object}
use Rattle.job_pages.specs.declared.statement_spans.StatementSpan.{StatementSpan}
use Rattle.job_pages.specs.declared.run.RunError.{RunError}
use Rattle.job_pages.specs.declared.run.RunError.TheVariants.{Fault, TooManyPages}
use Rattle.job_pages.specs.StatementSpans.{spans_of, shows}
use Rattle.job_pages.specs.Runs.{end_fault, excess, last_of, objects_in, run_from, run_of, run_error, run_unless}

or_none : (first later : Option RunError) → or_else first later ≡ None → later ≡ None
or_none None later is = is
or_none (Some r) later is = absurd (let e : Some r ≡ None = is in cc)

excess_none : (p : Option StatementSpan) → excess p ≡ None → p ≡ None
excess_none None is = refl
excess_none (Some p) is = absurd (let e : Some (TooManyPages p.at) ≡ None = is in cc)

none_past : (shown : List StatementSpan) → slice_get shown 256 ≡ None → length shown ≤ 256
none_past shown is =
    elim (slice_get_cases shown 256).1 [
      | inl w ↦ absurd (let e : Some w.0 ≡ None = sym w.2 ∙ is in cc)
      | inr w ↦ w.0
    ]

unless_ok : (r : Option RunError) (spans found : List StatementSpan) → run_unless r spans ≡ Ok found → (r ≡ None) × (spans ≡ found)
unless_ok None spans found is = (refl, let e : Ok spans ≡ Ok found = is in cc)
unless_ok (Some r) spans found is = absurd (let e : Err r ≡ Ok found = is in cc)

from_few : (len : ℕ) (objects : Result (List Object) JobFault) (found : List StatementSpan) → run_from len objects ≡ Ok found → length (filter shows found) ≤ 256
from_few len (Err fault) found is = absurd (let e : Err (Fault fault) ≡ Ok found = is in cc)
from_few len (Ok objects) found is =
    let shown = filter shows (spans_of objects) in
    let both = unless_ok (run_error len objects shown) (spans_of objects) found is in
    let none = or_none (option_map Fault (end_fault len objects (last_of shown))) (excess (slice_get shown 256)) both.0 in
    subst (λ (ps : List StatementSpan). length (filter shows ps) ≤ 256) both.1 (none_past shown (excess_none (slice_get shown 256) none))

-- a job that is read
pub shown_few : (bytes : List ℕ) (spans shown : List StatementSpan) → run_of bytes ≡ Ok spans → shown ≡ filter shows spans → length shown ≤ 256
unfolding run_of
shown_few bytes spans shown is all = omega (arith, ap length all, from_few (length bytes) (objects_in bytes) spans is)
