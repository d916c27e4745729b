-- How a command ends, from how its page is read and put out.
use Rattle.std.proofs.Common.{◌≡◌, ◌⊎◌, ℕ, ◌<◌, List, [], ◌∷◌, ◌++◌, length, map, Option, Some, None, Result, Ok, Err, inl, inr, refl, sym, ap, ◌∙◌, subst, arith}
use Rattle.std.proofs.lemmas.List.{length-append}
use Rattle.keep_pages.specs.KeptPages.{keep_report, kept_planes}
use Rattle.keep_words.specs.Words.{KeepWords}
use Rattle.keep_pages.specs.declared.uses.KeepUse.{KeepUse}
use Rattle.outside.specs.ErrorCases.{Asks}
use Rattle.outside.specs.Tray.{TrayState}
use Rattle.outside.specs.Rack.{RackState, KeepsRack}
use Rattle.outside.proofs.Names.{asks_none_of}
use Rattle.page_files.specs.Gathering.{AnswersPage, Gathers, ReadsPage}
use Rattle.page_files.specs.Inputs.{read_files}
use Rattle.page_files.specs.Steps.{PassesNoFault}
use Rattle.page_files.proofs.GatherLemmas.{gathered, refused_count}
use Rattle.page_model.specs.declared.parts.PageParts.{PageParts}
use Rattle.page_model.specs.declared.parts.Plane.{Plane}
use Rattle.page_model.specs.Conditions.{IsPage}
use Rattle.page_files.specs.Files.{plate_files}
use Rattle.page_files.specs.Writing.{FinishesAll}
use Rattle.common_errors.specs.declared.common.CommonError.{CommonError}
use Rattle.common_errors.specs.declared.common.CommonError.TheVariants as reasons
use Rattle.trapkeep_cli.specs.declared.reason.TrapkeepError.{TrapkeepError}
use Rattle.trapkeep_cli.specs.declared.reason.TrapkeepError.TheVariants as errors
use Rattle.trapkeep_cli.specs.Commands.{IsUsed, IsWide, sources_of, written_names, written_plates}
use Rattle.trapkeep_cli.specs.Endings.{Answers, CarriesOut, NotRead}
use Rattle.trapkeep_cli.specs.Putting.{AnswersPut, IsKept, IsKeptPage, PutsPage}
use Rattle.trapkeep_cli.specs.Verdicts.{keep_files}

unchanged : (a : RackState) → KeepsRack a a
unchanged a = record { tells = refl; faults = omega arith }

-- The page could not be read.
module _ (words : KeepWords) (a b : TrayState) (r : RackState) where
  refused_answer : (error : CommonError) → PassesNoFault {T = Unit {0}} a b (Err error) → AnswersPage (sources_of words) a b (Err error) → NotRead words a b (errors.Page error)
  refused_answer (reasons.Job fault) count answer = NotRead.refused (inl refl) count answer.0 (λ tells. answer.1 tells)
  refused_answer (reasons.NoDetails plate) count answer = NotRead.refused (inl refl) count answer.0 (λ tells. answer.1 tells)
  refused_answer (reasons.Plate plate fault) count answer = NotRead.refused (inr refl) count answer.0 (λ tells. answer.1 tells)
  refused_answer (reasons.Page fault) count answer = NotRead.refused (inr refl) count answer.0 (λ tells. answer.1 tells)
  refused_answer (reasons.Read None) count answer = NotRead.unread refl answer.0 answer.1 tt
  refused_answer (reasons.Read (Some plate)) count answer = NotRead.unread refl answer.0 answer.1 answer.2
  refused_answer reasons.Memory count answer = NotRead.no_memory refl count
  refused_answer reasons.Usage count answer = absurd answer
  refused_answer (reasons.Write file) count answer = absurd answer

  not_read : (error : CommonError) → Gathers (sources_of words) a b (Err error) → CarriesOut words a b r r (Err (errors.Page error))
  not_read error reads = record {
    asked = reads.asked;
    in_hand = inr reads.in_hand;
    rack_keeps = unchanged r;
    reported = λ tells. refl;
    created = asks_none_of r.asked (written_names words);
    answer = inl (refused_answer error (refused_count PageParts (Unit {0}) a b error reads.count) reads.answer, refl);
  }

-- There was no memory to begin with.
not_begun : (words : KeepWords) (a : TrayState) (r : RackState) → CarriesOut words a a r r (Err (errors.Page reasons.Memory))
not_begun words a r = record {
  asked = asks_none_of a.asked (read_files (sources_of words));
  in_hand = inl refl;
  rack_keeps = unchanged r;
  reported = λ tells. refl;
  created = asks_none_of r.asked (written_names words);
  answer = inl (NotRead.no_memory refl refl, refl);
}

pub page_unread : (words : KeepWords) (a b : TrayState) (r : RackState) (error : CommonError) → ReadsPage (sources_of words) a b (Err error) → CarriesOut words a b r r (Err (errors.Page error))
page_unread words a b r error (inl (same, is)) =
    let memory : error ≡ reasons.Memory = cc in
    subst (λ (t : TrayState). CarriesOut words a t r r (Err (errors.Page error))) (sym same)
    (subst (λ (e : CommonError). CarriesOut words a a r r (Err (errors.Page e))) (sym memory) (not_begun words a r))
page_unread words a b r error (inr reads) = not_read words a b r error reads

-- The page was read, and is put out.
module _ (words : KeepWords) (page : PageParts) (a b : TrayState) (r r' : RackState) (reads : Gathers (sources_of words) a b (Ok page)) (valid : IsPage page) where
  some_file : (used : KeepUse) → 0 < length (keep_files words page used)
  some_file used = omega (arith, length-append (plate_files (written_plates words) (kept_planes page used)) (record { name = words.report; bytes = keep_report page used } ∷ []))

  put_answer : (result : Result (Unit {0}) TrapkeepError) → AnswersPut words page r r' result → Answers words a b r r' result
  put_answer (Ok nothing) (used, kept, wrote) = record {
    calm = reads.count;
    begun = reads.answer.1;
    written = keep_files words page used;
    to_write = ((page, used, valid, kept.is, refl), λ tells. (page, used, reads.answer.2 tells, kept.narrow, kept.is, refl));
    some = some_file used;
    wrote = wrote;
    created = subst (λ (names : List (List ℕ)). Asks r.asked r'.asked names) kept.named wrote.asked;
    finished = subst (λ (names : List (List ℕ)). FinishesAll names r r') kept.named wrote.finished;
  }
  put_answer (Err (errors.Page (reasons.Write file))) (used, kept, breaks, once) = inr (
    record {
      calm = reads.count;
      begun = reads.answer.1;
      written = keep_files words page used;
      to_write = ((page, used, valid, kept.is, refl), λ tells. (page, used, reads.answer.2 tells, kept.narrow, kept.is, refl));
      file = file;
      is = refl;
      breaks = breaks;
    },
    once,
  )
  put_answer (Err errors.TooWide) answer = inl (NotRead.refused (inr refl) reads.count reads.answer.1 (λ tells. (page, reads.answer.2 tells, answer.0)), answer.1)
  put_answer (Err (errors.Page reasons.Memory)) answer = inl (NotRead.no_memory refl reads.count, answer)
  put_answer (Err (errors.Page reasons.Usage)) answer = absurd answer
  put_answer (Err (errors.Page (reasons.Job fault))) answer = absurd answer
  put_answer (Err (errors.Page (reasons.NoDetails k))) answer = absurd answer
  put_answer (Err (errors.Page (reasons.Plate k fault))) answer = absurd answer
  put_answer (Err (errors.Page (reasons.Page fault))) answer = absurd answer
  put_answer (Err (errors.Page (reasons.Read file))) answer = absurd answer
  put_answer (Err errors.NoCommand) answer = absurd answer

pub page_put : (words : KeepWords) (page : PageParts) (a b : TrayState) (r r' : RackState) (result : Result (Unit {0}) TrapkeepError) → ReadsPage (sources_of words) a b (Ok page) → PutsPage words page r r' result → CarriesOut words a b r r' result
page_put words page a b r r' result read puts =
    let reads = gathered (sources_of words) a b page read in
    record {
      asked = reads.asked;
      in_hand = inr reads.in_hand;
      rack_keeps = puts.keeps;
      reported = puts.reported;
      created = puts.asked;
      answer = put_answer words page a b r r' reads puts.valid result puts.answer;
    }

-- The page is not put out, and no file is touched.
pub not_put : (words : KeepWords) (page : PageParts) (a : RackState) (reason : TrapkeepError) → IsPage page → AnswersPut words page a a (Err reason) → PutsPage words page a a (Err reason)
not_put words page a reason valid answer = record {
  valid = valid;
  keeps = unchanged a;
  reported = λ tells. refl;
  asked = asks_none_of a.asked (written_names words);
  answer = answer;
}
