-- What becomes of a page: its counts, and its files.
use Rattle.std.proofs.Common.{◌≡◌, ℕ, List, length, Result, Ok, Err, refl, sym, ap, ◌∙◌, subst, arith}
use Rattle.band_claims.specs.Receipt.{Receipt}
use Rattle.outside.specs.ErrorCases.{Asks}
use Rattle.outside.specs.Rack.{RackState}
use Rattle.outside.proofs.Names.{asks_none_of}
use Rattle.page_model.specs.declared.parts.PageParts.{PageParts}
use Rattle.page_model.specs.declared.parts.Plane.{Plane}
use Rattle.page_model.specs.Conditions.{IsPage}
use Rattle.page_model.specs.Counts.{page_counts}
use Rattle.page_model.specs.Tints.{trapped_planes}
use Rattle.page_files.specs.Files.{names_of}
use Rattle.page_files.specs.Writing.{WritesPage, AnswersWriting, FailsOnce, FinishesAll}
use Rattle.page_files.proofs.Steps.{page_names}
use Rattle.trap_engine.specs.Receipts.{IsWholeReceipt}
use Rattle.common_errors.specs.declared.common.CommonError.{CommonError}
use Rattle.common_errors.specs.declared.common.CommonError.TheVariants.{Usage, Job, NoDetails, Plate, Page, Read, Write, Memory}
use Rattle.trap_report.specs.Report.{report_of}
use Rattle.page_output.specs.Output.{AnswersPut, PutsOut}
use Rattle.page_files.specs.Verdicts.{Targets, outcome, written_names}

-- what the answer of the writing becomes, where the page's receipt is handed out
abbrev pub handed : Receipt → Result (Unit {0}) CommonError → Result Receipt CommonError
handed receipt (Ok x) = Ok receipt
handed receipt (Err error) = Err error

answer_put : (band : ℕ) (target : Targets) (page : PageParts) (receipt : Receipt) (a b : RackState) (result : Result (Unit {0}) CommonError) → IsWholeReceipt page band receipt → names_of (outcome target page) ≡ written_names target → AnswersWriting (length target.outputs) (outcome target page) a b result → AnswersPut band target page a b (handed receipt result)
answer_put band target page receipt a b (Ok x) whole named answer = (whole, answer, subst (λ (names : List (List ℕ)). Asks a.asked b.asked names) named answer.asked, subst (λ (names : List (List ℕ)). FinishesAll names a b) named answer.finished)
answer_put band target page receipt a b (Err (Write file)) whole named answer = answer
answer_put band target page receipt a b (Err Usage) whole named answer = absurd answer
answer_put band target page receipt a b (Err (Job fault)) whole named answer = absurd answer
answer_put band target page receipt a b (Err (NoDetails plate)) whole named answer = absurd answer
answer_put band target page receipt a b (Err (Plate plate fault)) whole named answer = absurd answer
answer_put band target page receipt a b (Err (Page fault)) whole named answer = absurd answer
answer_put band target page receipt a b (Err (Read file)) whole named answer = absurd answer
answer_put band target page receipt a b (Err Memory) whole named answer = absurd answer

handed_once : (a b : RackState) (receipt : Receipt) (result : Result (Unit {0}) CommonError) → FailsOnce a b result → FailsOnce a b (handed receipt result)
handed_once a b receipt (Ok x) once = tt
handed_once a b receipt (Err error) once = once

-- A page's planes and its report are written into the files of these names, and its receipt is handed out.
pub puts_out : (band : ℕ) (target : Targets) (page : PageParts) (outputs : List (List ℕ)) (planes : List Plane) (text : List ℕ) (receipt : Receipt) (a b : RackState) (result : Result (Unit {0}) CommonError) → IsPage page → IsWholeReceipt page band receipt → length planes ≡ length outputs → outputs ≡ target.outputs → planes ≡ trapped_planes page → text ≡ report_of page (page_counts page) → WritesPage outputs planes target.report text a b result → PutsOut band target page a b (handed receipt result)
puts_out band target page outputs planes text receipt a b result valid whole count named trapped reported wrote =
    let one = subst (λ (o : List (List ℕ)). WritesPage {T = Unit {0}} o planes target.report text a b result) named wrote in
    let two = subst (λ (p : List Plane). WritesPage {T = Unit {0}} target.outputs p target.report text a b result) trapped one in
    let all = subst (λ (t : List ℕ). WritesPage {T = Unit {0}} target.outputs (trapped_planes page) target.report t a b result) reported two in
    let many : length (trapped_planes page) ≡ length target.outputs = sym (ap (λ (p : List Plane). length p) trapped) ∙ count ∙ ap (λ (o : List (List ℕ)). length o) named in
    let names = page_names target.outputs (trapped_planes page) target.report (report_of page (page_counts page)) many in
    record { valid = valid; keeps = all.keeps; reported = all.reported; asked = all.asked; answer = answer_put band target page receipt a b result whole names all.answer; once = handed_once a b receipt result all.once }

-- Nothing is put out, since there was no memory.
pub not_put_out : (band : ℕ) (target : Targets) (page : PageParts) (a : RackState) → IsPage page → PutsOut band target page a a (Err Memory)
not_put_out band target page a valid = record {
  valid = valid;
  keeps = record { tells = refl; faults = omega arith };
  reported = λ tells. refl;
  asked = asks_none_of a.asked (written_names target);
  answer = refl;
  once = tt;
}
