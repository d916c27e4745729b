-- How a command of a page ends, from how its page is read and put out.
use Rattle.std.proofs.Common.{◌≡◌, ℕ, Result, Ok, Err, inl, inr, refl, sym, subst, arith}
use Rattle.band_claims.specs.Receipt.{Receipt}
use Rattle.outside.specs.Tray.{TrayState}
use Rattle.outside.specs.Rack.{RackState, KeepsRack}
use Rattle.page_model.specs.declared.parts.PageParts.{PageParts}
use Rattle.page_model.specs.Conditions.{IsPage}
use Rattle.outside.proofs.Names.{asks_none_of}
use Rattle.page_files.specs.Gathering.{Gathers, AnswersPage, IsMade, ReadsPage}
use Rattle.page_files.specs.Inputs.{Sources, read_files}
use Rattle.page_files.specs.Steps.{PassesNoFault}
use Rattle.page_files.proofs.GatherLemmas.{refused_count}
use Rattle.page_files.specs.Writing.{FailsOnce}
use Rattle.common_errors.specs.declared.common.CommonError.{CommonError}
use Rattle.common_errors.specs.declared.common.CommonError.TheVariants.{Usage, Job, NoDetails, Plate, Page, Read, Write, Memory}
use Rattle.page_output.specs.Output.{AnswersPut, PutsOut}
use Rattle.trap_cli.specs.Endings.{AnswersCommand, CarriesOut}
use Rattle.page_files.specs.Verdicts.{Targets, written_names}

unchanged : (a : RackState) → KeepsRack a a
unchanged a = record { tells = refl; faults = omega arith }

answer_refused : (band : ℕ) (source : Sources) (target : Targets) (a b : TrayState) (r : RackState) (error : CommonError) → AnswersPage source a b (Err error) → AnswersCommand band source target a b r r (Err error)
answer_refused band source target a b r (Job fault) answer = (answer, refl)
answer_refused band source target a b r (NoDetails plate) answer = (answer, refl)
answer_refused band source target a b r (Plate plate fault) answer = (answer, refl)
answer_refused band source target a b r (Page fault) answer = (answer, refl)
answer_refused band source target a b r (Read file) answer = (answer, refl)
answer_refused band source target a b r Memory answer = (answer, refl)
answer_refused band source target a b r Usage answer = absurd answer
answer_refused band source target a b r (Write file) answer = absurd answer

once_refused : (source : Sources) (a b : TrayState) (r : RackState) (error : CommonError) → AnswersPage source a b (Err error) → FailsOnce {T = Receipt} r r (Err error)
once_refused source a b r (Job fault) answer = tt
once_refused source a b r (NoDetails plate) answer = tt
once_refused source a b r (Plate plate fault) answer = tt
once_refused source a b r (Page fault) answer = tt
once_refused source a b r (Read file) answer = tt
once_refused source a b r Memory answer = tt
once_refused source a b r Usage answer = tt
once_refused source a b r (Write file) answer = absurd answer

-- The page could not be read.
not_read : (band : ℕ) (source : Sources) (target : Targets) (a b : TrayState) (r : RackState) (error : CommonError) → Gathers source a b (Err error) → CarriesOut band source target a b r r (Err error)
not_read band source target a b r error reads = record {
  tray_keeps = reads.keeps;
  in_hand = inr reads.in_hand;
  count = refused_count PageParts Receipt a b error reads.count;
  asked = reads.asked;
  rack_keeps = unchanged r;
  reported = λ tells. refl;
  created = asks_none_of r.asked (written_names target);
  answer = answer_refused band source target a b r error reads.answer;
  once = once_refused source a b r error reads.answer;
}

-- There was no memory to begin with.
not_begun : (band : ℕ) (source : Sources) (target : Targets) (a : TrayState) (r : RackState) → CarriesOut band source target a a r r (Err Memory)
not_begun band source target a r = record {
  tray_keeps = record { tells = refl; file = refl; faults = omega arith };
  in_hand = inl refl;
  count = refl;
  asked = asks_none_of a.asked (read_files source);
  rack_keeps = unchanged r;
  reported = λ tells. refl;
  created = asks_none_of r.asked (written_names target);
  answer = (tt, refl);
  once = tt;
}

-- The page was not read, for one reason or the other.
pub refused_first : (band : ℕ) (source : Sources) (target : Targets) (a b : TrayState) (r : RackState) (error : CommonError) → ReadsPage source a b (Err error) → CarriesOut band source target a b r r (Err error)
refused_first band source target a b r error (inl none) =
    let same : error ≡ Memory = (let e : ◌≡◌ {A = Result PageParts CommonError} (Err error) (Err Memory) = none.1 in cc) in
    subst (λ (t : TrayState). CarriesOut band source target a t r r (Err error)) (sym none.0) (subst (λ (e : CommonError). CarriesOut band source target a a r r (Err e)) (sym same) (not_begun band source target a r))
refused_first band source target a b r error (inr reads) = not_read band source target a b r error reads

module _ (band : ℕ) (source : Sources) (target : Targets) (page : PageParts) (a b : TrayState) (r r' : RackState) (reads : Gathers source a b (Ok page)) where
  made : IsPage page → IsMade source a page
  made valid = (valid, reads.answer.2)

  answer_put : (result : Result Receipt CommonError) → IsPage page → AnswersPut band target page r r' result → AnswersCommand band source target a b r r' result
  answer_put (Ok receipt) valid answer = (page, made valid, answer.0, reads.answer.1, answer.1, answer.2, answer.3)
  answer_put (Err (Write file)) valid answer = (page, made valid, answer)
  answer_put (Err Memory) valid answer = (tt, answer)
  answer_put (Err Usage) valid answer = absurd answer
  answer_put (Err (Job fault)) valid answer = absurd answer
  answer_put (Err (NoDetails plate)) valid answer = absurd answer
  answer_put (Err (Plate plate fault)) valid answer = absurd answer
  answer_put (Err (Page fault)) valid answer = absurd answer
  answer_put (Err (Read file)) valid answer = absurd answer

  put_count : (result : Result Receipt CommonError) → AnswersPut band target page r r' result → PassesNoFault a b result
  put_count (Ok x) answer = reads.count
  put_count (Err (Write file)) answer = reads.count
  put_count (Err Memory) answer = reads.count
  put_count (Err Usage) answer = absurd answer
  put_count (Err (Job fault)) answer = absurd answer
  put_count (Err (NoDetails plate)) answer = absurd answer
  put_count (Err (Plate plate fault)) answer = absurd answer
  put_count (Err (Page fault)) answer = absurd answer
  put_count (Err (Read file)) answer = absurd answer

  -- A page that was read is put out.
  pub read_and_put : (result : Result Receipt CommonError) → PutsOut band target page r r' result → CarriesOut band source target a b r r' result
  read_and_put result put = record {
    tray_keeps = reads.keeps;
    in_hand = inr reads.in_hand;
    count = put_count result put.answer;
    asked = reads.asked;
    rack_keeps = put.keeps;
    reported = put.reported;
    created = put.asked;
    answer = answer_put result put.valid put.answer;
    once = put.once;
  }
