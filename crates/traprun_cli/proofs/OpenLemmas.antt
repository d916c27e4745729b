-- A run in hand.
use Rattle.std.proofs.Common.{◌≡◌, ℕ, List, length, Bor, Some, None, Result, Ok, Err, refl, sym, ap, ◌∙◌, subst}
use Rattle.std.proofs.lemmas.List.{length-map}
use Rattle.outside.specs.Tray.{TrayState}
use Rattle.plain_words.specs.Parts.{PlateNames}
use Rattle.traprun_cli.specs.Gathering.{OpensJob}
use Rattle.traprun_cli.specs.Opened.{IsOpenJob, order_in}
use Rattle.traprun_cli.specs.Reading.{AnswersRunJob, ReadsRunJob}
use Rattle.traprun_cli.specs.Reading.{AnswersRunJob as answers}
use Rattle.plain_words.specs.Plates.{inputs_of}
use Rattle.traprun_cli.specs.declared.gather.OpenJob.{OpenJob}
use Rattle.traprun_cli.specs.declared.error.TraprunError.{TraprunError}
use Rattle.traprun_cli.specs.declared.error.TraprunError.TheVariants.{Whole, TooManyPages}
use Rattle.traprun_cli.specs.Pages.{pages_of}
use Rattle.common_errors.specs.declared.common.CommonError.TheVariants.{Job, Read, Memory}

-- there are as many files as plates, and as many names
pub as_many_plates : (stored : OpenJob) → length (order_in stored.order.now).plates ≡ length stored.order.now.plates.now
as_many_plates stored = length-map _ _ ∙ length-map _ _

pub as_many_sources : (stored : OpenJob) → length (inputs_of (order_in stored.order.now).plates) ≡ length stored.order.now.plates.now
as_many_sources stored = length-map (order_in stored.order.now).plates (λ (p : PlateNames). p.input) ∙ as_many_plates stored

pub as_many_inputs : (stored : OpenJob) → IsOpenJob stored → length stored.inputs.items ≡ length stored.order.now.plates.now
as_many_inputs stored is = sym (length-map stored.inputs.items (λ (f : Bor (List ℕ)). f.now)) ∙ ap (λ (l : List (List ℕ)). length l) is.inputs ∙ length-map (order_in stored.order.now).plates (λ (p : PlateNames). p.input) ∙ as_many_plates stored

pub as_many_names : (stored : OpenJob) → IsOpenJob stored → length stored.names ≡ length (inputs_of (order_in stored.order.now).plates)
as_many_names stored is = ap (λ (l : List (List ℕ)). length l) is.names ∙ length-map (order_in stored.order.now).plates (λ (p : PlateNames). p.name) ∙ sym (length-map (order_in stored.order.now).plates (λ (p : PlateNames). p.input))

module _ (run : OpenJob) (a b : TrayState) (is : IsOpenJob run) where
  stored_by : ReadsRunJob run.order.now.job.now a b (Ok run.job) → AnswersRunJob run.order.now.job.now a b (Ok run.job) → OpensJob run.order.now a b (Ok run)
  stored_by reads (answers.read bytes count same has calm found) =
      let one : bytes ≡ run.job = (let e : ◌≡◌ {A = Result (List ℕ) TraprunError} (Ok run.job) (Ok bytes) = same in cc) in
      OpensJob.opened run refl is refl (record {
        count = count;
        has = subst (λ (x : List ℕ). pages_of x ≡ Ok count) one has;
        keeps = reads.keeps;
        calm = calm;
        asked = reads.asked;
        few = reads.few;
        known = λ tells. found tells ∙ ap (λ (x : List ℕ). Some x) one;
      })
  stored_by reads (answers.refused fault same calm stored) = absurd (let e : ◌≡◌ {A = Result (List ℕ) TraprunError} (Ok run.job) (Err (Whole (Job fault))) = same in cc)
  stored_by reads (answers.too_many at same calm stored) = absurd (let e : ◌≡◌ {A = Result (List ℕ) TraprunError} (Ok run.job) (Err (TooManyPages at)) = same in cc)
  stored_by reads (answers.unread same rose) = absurd (let e : ◌≡◌ {A = Result (List ℕ) TraprunError} (Ok run.job) (Err (Whole (Read None))) = same in cc)
  stored_by reads (answers.no_memory same calm) = absurd (let e : ◌≡◌ {A = Result (List ℕ) TraprunError} (Ok run.job) (Err (Whole Memory)) = same in cc)

  pub run_stored : ReadsRunJob run.order.now.job.now a b (Ok run.job) → OpensJob run.order.now a b (Ok run)
  run_stored reads = stored_by reads reads.answer
