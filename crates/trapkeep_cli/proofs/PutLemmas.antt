-- A page's planes and report, written into its files.
use Rattle.std.proofs.Common.{◌≡◌, ℕ, ◌<◌, ◌++◌, [], ◌∷◌, List, length, map, Result, Ok, Err, refl, sym, ap, ◌∙◌, subst, arith}
use Rattle.std.proofs.lemmas.List.{length-map}
use Rattle.keep_pages.specs.KeptPages.{keep_report, kept_planes}
use Rattle.keep_words.specs.Words.{KeepWords}
use Rattle.keep_pages.specs.declared.uses.KeepUse.{KeepUse}
use Rattle.outside.specs.Rack.{RackState}
use Rattle.page_model.specs.declared.parts.PageParts.{PageParts}
use Rattle.page_model.specs.declared.parts.Plane.{Plane}
use Rattle.page_model.specs.Conditions.{IsPage}
use Rattle.plain_words.specs.Parts.{parts_of}
use Rattle.plain_words.specs.Plates.{outputs_of}
use Rattle.page_files.specs.Files.{names_of}
use Rattle.page_files.specs.Writing.{AnswersWriting, FailsOnce, WritesPage}
use Rattle.page_files.proofs.Steps.{page_names}
use Rattle.common_errors.specs.declared.common.CommonError.{CommonError}
use Rattle.common_errors.specs.declared.common.CommonError.TheVariants as reasons
use Rattle.trapkeep_cli.specs.declared.reason.TrapkeepError.{TrapkeepError}
use Rattle.trapkeep_cli.specs.declared.reason.TrapkeepError.TheVariants as errors
use Rattle.trapkeep_cli.specs.Commands.{IsUsed, IsWide, written_names, written_plates}
use Rattle.trapkeep_cli.specs.Putting.{AnswersPut, IsKept, IsKeptPage, PutsPage}
use Rattle.trapkeep_cli.specs.Verdicts.{keep_files}

-- what becomes of the answer of the writing
abbrev pub handed : Result (Unit {0}) CommonError → Result (Unit {0}) TrapkeepError
handed (Ok x) = Ok x
handed (Err error) = Err (errors.Page error)

module _ (words : KeepWords) (page : PageParts) (used : KeepUse) (a b : RackState) (kept : IsKept words page used) where
  answer_put : (result : Result (Unit {0}) CommonError) → AnswersWriting (length (written_plates words)) (keep_files words page used) a b result → FailsOnce a b result → AnswersPut words page a b (handed result)
  answer_put (Ok x) answer once = (used, kept, answer)
  answer_put (Err (reasons.Write file)) answer once = (used, kept, answer, once)
  answer_put (Err reasons.Usage) answer once = absurd answer
  answer_put (Err (reasons.Job fault)) answer once = absurd answer
  answer_put (Err (reasons.NoDetails k)) answer once = absurd answer
  answer_put (Err (reasons.Plate k fault)) answer once = absurd answer
  answer_put (Err (reasons.Page fault)) answer once = absurd answer
  answer_put (Err (reasons.Read file)) answer once = absurd answer
  answer_put (Err reasons.Memory) answer once = absurd answer

-- each word of a plate has one file to write
pub as_many : {X : Type 0} (text : X → List ℕ) (plates : List X) → length (outputs_of (map parts_of (map text plates))) ≡ length plates
as_many text plates = length-map (map parts_of (map text plates)) (λ p. p.output) ∙ length-map (map text plates) parts_of ∙ length-map plates text

pub page_written : (words : KeepWords) (page : PageParts) (outputs : List (List ℕ)) (planes : List Plane) (report text : List ℕ) (a b : RackState) (result : Result (Unit {0}) CommonError) → IsPage page → (IsWide words page → ⊥) → IsKeptPage words page planes report → outputs ≡ written_plates words → length planes ≡ length (written_plates words) → text ≡ report → WritesPage outputs planes words.report text a b result → PutsPage words page a b (handed result)
page_written words page outputs planes report text a b result valid narrow kept named count reported wrote =
    let one = subst (λ (o : List (List ℕ)). WritesPage {T = Unit {0}} o planes words.report text a b result) named wrote in
    let two = subst (λ (p : List Plane). WritesPage {T = Unit {0}} (written_plates words) p words.report text a b result) kept.planes_are one in
    let all = subst (λ (t : List ℕ). WritesPage {T = Unit {0}} (written_plates words) (kept_planes page kept.used) words.report t a b result) (reported ∙ kept.report_is) two in
    let many : length (kept_planes page kept.used) ≡ length (written_plates words) = sym (ap (λ (p : List Plane). length p) kept.planes_are) ∙ count in
    let names = page_names (written_plates words) (kept_planes page kept.used) words.report (keep_report page kept.used) many in
    record {
      valid = valid;
      keeps = all.keeps;
      reported = all.reported;
      asked = all.asked;
      answer = answer_put words page kept.used a b (record { is = kept.is; narrow = narrow; named = names }) result all.answer all.once;
    }
