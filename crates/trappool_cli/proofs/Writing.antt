-- The files of one line are written.
use Rattle.std.proofs.Common.{◌≡◌, ℕ, List, Option, Some, None, Result, Ok, Err, refl, subst, arith}
use Rattle.outside.specs.Rack.{RackState, KeepsRack}
use Rattle.outside.proofs.Names.{asks_none_of}
use Rattle.page_model.specs.declared.parts.PageParts.{PageParts}
use Rattle.page_model.specs.declared.parts.Plane.{Plane}
use Rattle.page_model.specs.Counts.{page_counts}
use Rattle.page_model.specs.Tints.{trapped_planes}
use Rattle.page_files.specs.Writing.{WritesPage}
use Rattle.job_list.specs.Lines.{LineParts}
use Rattle.page_tally.specs.declared.outcome.Trapped.{Trapped}
use Rattle.trap_pool.specs.declared.outcome.Outcome.TheVariants as outcomes
use Rattle.trap_pool.specs.Pools.{target_of}
use Rattle.trap_pool.specs.Replies.{IsReady, IsReply, IsReport, IsTrapOf, reply_parts}
use Rattle.common_errors.specs.declared.common.CommonError.{CommonError}
use Rattle.common_errors.specs.declared.common.CommonError.TheVariants as errors
use Rattle.trap_report.specs.Report.{report_of}
use Rattle.page_files.specs.Verdicts.{written_names}
use Rattle.trappool_cli.specs.Answers.{AnswersDone, AnswersSaid, WritesDone, WritesReply}
use Rattle.trappool_cli.specs.declared.answering.LineStatus.{LineStatus}
use Rattle.trappool_cli.specs.declared.answering.LineStatus.TheVariants as said

kept_same : (r : RackState) → KeepsRack r r
kept_same r = record { tells = refl; faults = omega arith }

refused_as : (line : LineParts) (page : Option PageParts) (error : CommonError) (r : RackState) → AnswersSaid (target_of line) page (outcomes.Refused error) r r (said.Refused error)
refused_as line None error r = (refl, refl)
refused_as line (Some page) error r = (refl, refl)

-- An error touches no file.
pub refused_kept : (line : LineParts) (k : ℕ) (page : Option PageParts) (error : CommonError) (r : RackState) → WritesReply line (reply_parts k page (outcomes.Refused error)) r r (said.Refused error)
refused_kept line k page error r = record {
  keeps = kept_same r;
  reported = λ tells. refl;
  asked = asks_none_of r.asked (written_names (target_of line));
  answer = refused_as line page error r;
}

large_as : (line : LineParts) (page : Option PageParts) (r : RackState) → AnswersSaid (target_of line) page outcomes.TooLarge r r said.TooLarge
large_as line None r = refl
large_as line (Some page) r = refl

pub large_kept : (line : LineParts) (k : ℕ) (page : Option PageParts) (r : RackState) → WritesReply line (reply_parts k page outcomes.TooLarge) r r said.TooLarge
large_kept line k page r = record {
  keeps = kept_same r;
  reported = λ tells. refl;
  asked = asks_none_of r.asked (written_names (target_of line));
  answer = large_as line page r;
}

-- What is done is of a page, and its report stands beside it.
pub ready_page : (page : Option PageParts) (trapped : Trapped) (text : List ℕ) → IsReply page (outcomes.Done trapped) → IsReady page (outcomes.Done trapped) (Some text) → (made : PageParts) × (page ≡ Some made) × IsTrapOf made trapped × IsReport made trapped.planes text
ready_page None trapped text kind ready = absurd kind
ready_page (Some made) trapped text kind ready = (made, refl, kind, ready)

-- what is said of the writing's answer
abbrev pub said_of : {T : Type 0} → Result T CommonError → LineStatus
said_of (Ok x) = said.Done
said_of (Err error) = said.Refused error

module _ {T : Type 0} (line : LineParts) (page : PageParts) (a b : RackState) where
  written_as : (result : Result T CommonError) → WritesPage line.outs (trapped_planes page) line.report (report_of page (page_counts page)) a b result → AnswersDone (target_of line) page a b (said_of result)
  written_as (Ok x) wrote = wrote.answer
  written_as (Err (errors.Write file)) wrote = (wrote.answer, wrote.once)
  written_as (Err errors.Usage) wrote = absurd wrote.answer
  written_as (Err (errors.Job fault)) wrote = absurd wrote.answer
  written_as (Err (errors.NoDetails k)) wrote = absurd wrote.answer
  written_as (Err (errors.Plate k fault)) wrote = absurd wrote.answer
  written_as (Err (errors.Page fault)) wrote = absurd wrote.answer
  written_as (Err (errors.Read file)) wrote = absurd wrote.answer
  written_as (Err errors.Memory) wrote = absurd wrote.answer

  pub page_written : (outs : List (List ℕ)) (planes : List Plane) (report text : List ℕ) (result : Result T CommonError) → outs ≡ line.outs → planes ≡ trapped_planes page → report ≡ line.report → text ≡ report_of page (page_counts page) → WritesPage outs planes report text a b result → WritesDone line page a b (said_of result)
  page_written outs planes report text result names tints name bytes wrote =
      let whole : WritesPage line.outs (trapped_planes page) line.report (report_of page (page_counts page)) a b result =
      subst (λ (t : List ℕ). WritesPage line.outs (trapped_planes page) line.report t a b result) bytes
      (subst (λ (r : List ℕ). WritesPage line.outs (trapped_planes page) r text a b result) name
      (subst (λ (p : List Plane). WritesPage line.outs p report text a b result) tints
      (subst (λ (o : List (List ℕ)). WritesPage o planes report text a b result) names wrote))) in
      record { keeps = whole.keeps; reported = whole.reported; asked = whole.asked; answer = written_as result whole }
