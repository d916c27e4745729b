-- How a check ends, from how its page is read.
use Rattle.std.proofs.Common.{◌≡◌, ℕ, List, Result, Ok, Err, MatchResult, inl, inr, refl, sym, subst}
use Rattle.outside.specs.Tray.{TrayState}
use Rattle.outside.proofs.Names.{asks_none_of}
use Rattle.page_model.specs.declared.parts.PageParts.{PageParts}
use Rattle.page_model.specs.Conditions.{IsPage}
use Rattle.page_files.specs.Gathering.{Gathers, ReadsPage}
use Rattle.page_files.specs.Inputs.{Sources, read_files}
use Rattle.page_files.specs.Steps.{PassesNoFault}
use Rattle.page_files.proofs.GatherLemmas.{gathered, refused_count}
use Rattle.presscheck_cli.specs.Endings.{AnswersText, ChecksPage}
use Rattle.presscheck_cli.specs.Text.{text_of}
use Rattle.common_errors.specs.declared.common.CommonError.{CommonError}
use Rattle.common_errors.specs.declared.common.CommonError.TheVariants.{Memory}

module _ (source : Sources) (radius : ℕ) (a b : TrayState) where
  -- The page could not be read.
  not_read : (error : CommonError) → Gathers source a b (Err error) → ChecksPage source radius a b (Err error)
  not_read error reads = record {
    in_hand = inr reads.in_hand;
    count = refused_count PageParts (List ℕ) a b error reads.count;
    asked = reads.asked;
    answer = reads.answer;
  }

  -- There was no memory to begin with.
  not_begun : ChecksPage source radius a a (Err Memory)
  not_begun = record {
    in_hand = inl refl;
    count = refl;
    asked = asks_none_of a.asked (read_files source);
    answer = tt;
  }

  -- The page was not read, for one reason or the other.
  pub refused_first : (error : CommonError) → ReadsPage source a b (Err error) → ChecksPage source radius a b (Err error)
  refused_first error (inl none) =
      let same : error ≡ Memory = (let e : ◌≡◌ {A = Result PageParts CommonError} (Err error) (Err Memory) = none.1 in cc) in
      subst (λ (t : TrayState). ChecksPage source radius a t (Err error)) (sym none.0) (subst (λ (e : CommonError). ChecksPage source radius a a (Err e)) (sym same) not_begun)
  refused_first error (inr reads) = not_read error reads

  made_text : (page : PageParts) (result : Result (List ℕ) CommonError) → Gathers source a b (Ok page) → IsPage page → MatchResult result (λ text. text ≡ text_of radius page) (λ error. error ≡ Memory) → AnswersText source radius a b result × PassesNoFault a b result
  made_text page (Ok text) reads valid is = ((page, (valid, reads.answer.2), reads.answer.1, is), reads.count)
  made_text page (Err error) reads valid is =
      subst (λ (r : CommonError). AnswersText source radius a b (Err r) × PassesNoFault {T = List ℕ} a b (Err r)) (sym is) (tt, reads.count)

  -- A page that was read has its text, but for lack of memory.
  pub read_and_made : (page : PageParts) (result : Result (List ℕ) CommonError) → ReadsPage source a b (Ok page) → IsPage page → MatchResult result (λ text. text ≡ text_of radius page) (λ error. error ≡ Memory) → ChecksPage source radius a b result
  read_and_made page result read valid is =
      let reads = gathered source a b page read in
      let made = made_text page result reads valid is in
      record { in_hand = inr reads.in_hand; count = made.1; asked = reads.asked; answer = made.0 }
