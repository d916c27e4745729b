-- A page that is put out, and one that is read and put out.
use Rattle.std.proofs.Common.{◌≡◌, ℕ, List, length, map, Result, Ok, Err, refl, sym, ap, ◌∙◌, subst, arith}
use Rattle.std.proofs.lemmas.List.{length-map}
use Rattle.band_claims.specs.Receipt.{Receipt}
use Rattle.outside.specs.Tray.{TrayState}
use Rattle.outside.specs.Rack.{RackState, KeepsRack}
use Rattle.outside.proofs.Names.{asks_all}
use Rattle.page_files.specs.Inputs.{Sources}
use Rattle.page_model.specs.declared.parts.PageParts.{PageParts}
use Rattle.page_model.specs.Conditions.{IsPage}
use Rattle.page_output.specs.Output.{AnswersPut, PutsOut, targets}
use Rattle.traprun_cli.specs.Paging.{AnswersPutPage, AnswersStep, PutsPage, StepsPage}
use Rattle.page_files.specs.Writing.{Breaks}
use Rattle.plain_words.specs.Parts.{PlateNames}
use Rattle.traprun_cli.specs.Opened.{order_in}
use Rattle.traprun_cli.specs.Words.{targets_of}
use Rattle.traprun_cli.specs.declared.words.TraprunArgs.{TraprunArgs}
use Rattle.traprun_cli.specs.Gathering.{GathersPage, IsPageMade, StopsPage}
use Rattle.traprun_cli.specs.declared.error.TraprunError.{TraprunError}
use Rattle.traprun_cli.specs.declared.error.TraprunError.TheVariants.{Whole}
use Rattle.traprun_cli.specs.Pages.{numbered, target_at}
use Rattle.traprun_cli.specs.Errors.{error_at}
use Rattle.common_errors.specs.declared.common.CommonError.{CommonError}
use Rattle.common_errors.specs.declared.common.CommonError.TheVariants.{Usage, Job, NoDetails, Plate, Page, Read, Write, Memory}
use Rattle.page_files.specs.Verdicts.{Targets, outcome}

unchanged : (a : RackState) → KeepsRack a a
unchanged a = record { tells = refl; faults = omega arith }

-- There was no memory for the names.
pub not_put : (target : Targets) (k : ℕ) (page : PageParts) (a : RackState) → IsPage page → PutsPage target k page a a (Err (Whole Memory))
not_put target k page a valid = record { valid = valid; keeps = unchanged a; reported = λ tells. refl; answer = AnswersPutPage.no_memory refl refl }

module _ (target : Targets) (k band : ℕ) (page : PageParts) (a b : RackState) where
  -- the page's files are written
  pub page_put : (receipt : Receipt) → PutsOut band (target_at target k) page a b (Ok receipt) → PutsPage target k page a b (Ok tt)
  page_put receipt put = record { valid = put.valid; keeps = put.keeps; reported = put.reported; answer = AnswersPutPage.written refl put.answer.1 put.answer.2 put.answer.3 }

  by_error : (common_error : CommonError) → PutsOut band (target_at target k) page a b (Err common_error) → AnswersPut band (target_at target k) page a b (Err common_error) → AnswersPutPage target k page a b (Err (error_at k common_error))
  by_error (Write file) put answer = AnswersPutPage.unwritten file refl (subst (λ (n : ℕ). Breaks n (outcome (target_at target k) page) file a b) (length-map target.outputs (numbered k)) answer) put.asked put.once
  by_error Memory put answer = AnswersPutPage.no_memory refl answer
  by_error Usage put answer = absurd answer
  by_error (Job fault) put answer = absurd answer
  by_error (NoDetails plate) put answer = absurd answer
  by_error (Plate plate fault) put answer = absurd answer
  by_error (Page fault) put answer = absurd answer
  by_error (Read file) put answer = absurd answer

  -- they are not all written
  pub page_not_put : (common_error : CommonError) (error : TraprunError) → error ≡ error_at k common_error → PutsOut band (target_at target k) page a b (Err common_error) → PutsPage target k page a b (Err error)
  page_not_put common_error error same put = record {
    valid = put.valid;
    keeps = put.keeps;
    reported = put.reported;
    answer = subst (λ (s : TraprunError). AnswersPutPage target k page a b (Err s)) (sym same) (by_error common_error put put.answer);
  }

module _ (source : Sources) (target : Targets) (bytes : List ℕ) (k : ℕ) (t t' : TrayState) where
  -- the page could not be made
  pub not_gathered : (r : RackState) (error : TraprunError) → GathersPage source bytes k t t' (Err error) → StepsPage source target bytes k t t' r r (Err error)
  not_gathered r error gathers = (
    gathers.keeps,
    λ known. record { rack_keeps = unchanged r; reported = λ tells. refl; in_hand = gathers.in_hand; answer = AnswersStep.stopped error refl refl (gathers.answer known) },
  )

  module _ (page : PageParts) (r r' : RackState) where
    step_by : (result : Result (Unit {0}) TraprunError) → IsPage page → IsPageMade source k t t' page → AnswersPutPage target k page r r' result → AnswersStep source target k t t' r r' result
    step_by result valid made (AnswersPutPage.written is wrote created finished) = AnswersStep.written page is valid made wrote created finished
    step_by result valid made (AnswersPutPage.unwritten file is breaks created once) = AnswersStep.unwritten page file is valid made breaks created once
    step_by result valid made (AnswersPutPage.no_memory is same) =
        AnswersStep.stopped (Whole Memory) is same (StopsPage.no_memory refl made.calm (asks_all t.asked t'.asked source.inputs made.asked))

    -- the page is made and put out
    pub gathered_and_put : (result : Result (Unit {0}) TraprunError) → GathersPage source bytes k t t' (Ok page) → PutsPage target k page r r' result → StepsPage source target bytes k t t' r r' result
    gathered_and_put result gathers put = (
      gathers.keeps,
      λ known. record { rack_keeps = put.keeps; reported = put.reported; in_hand = gathers.in_hand; answer = step_by result put.valid (gathers.answer known) put.answer },
    )

-- the names of a page's files are those that the words give, with its number
pub files_named : (target : Targets) (k : ℕ) (band : ℕ) (page : PageParts) (a b : RackState) (result : Result Receipt CommonError) (outputs : List (List ℕ)) (report : List ℕ) → outputs ≡ map (numbered k) target.outputs → report ≡ numbered k target.report → PutsOut band (targets outputs report) page a b result → PutsOut band (target_at target k) page a b result
files_named target k band page a b result outputs report named reported put =
    subst (λ (r : List ℕ). PutsOut band (targets (map (numbered k) target.outputs) r) page a b result) reported
    (subst (λ (o : List (List ℕ)). PutsOut band (targets o report) page a b result) named put)

-- there are as many files as plates
pub as_many_outputs : {X : Type 0} (text : X → List ℕ) (files : List X) (order : TraprunArgs) (k : ℕ) → map text files ≡ map (numbered k) (targets_of (order_in order)).outputs → length files ≡ length order.plates.now
as_many_outputs text files order k named = sym (length-map files text) ∙ ap (λ (l : List (List ℕ)). length l) named ∙ length-map (targets_of (order_in order)).outputs (numbered k) ∙ length-map (order_in order).plates (λ (p : PlateNames). p.output) ∙ length-map _ _ ∙ length-map _ _
