-- How the calls for an open job end.
use Rattle.std.proofs.Common.{◌≡◌, ℕ, List, [], Option, None, Some, Ok, Err, false, true, refl, sym, ap, ◌∙◌, subst}
use Rattle.std.specs.Prelude.{◌≢◌}
use mathlib.Core.Logic.{inl, inr}
use Rattle.job_reader.proofs.JobRanges.{job_of-in_range}
use Rattle.job_handles.specs.declared.open_job.OpenJob.{OpenJob}
use Rattle.trap_c.specs.declared.layout.Layout.{Layout}
use Rattle.trap_c.specs.declared.place.Place.{Place}
use Rattle.trap_c.specs.declared.error.CallError.{CallError}
use Rattle.trap_c.specs.declared.error.CallError.TheVariants.{Call}
use Rattle.trap_c.specs.declared.error.CallFault.TheVariants.{Size}
use Rattle.trap_c.specs.declared.error_record.ErrorRecord.{ErrorRecord}
use Rattle.trap_c.specs.declared.info.Info.{Info}
use Rattle.trap_c.specs.Infos.{IsInfoOf, info_size}
use Rattle.trap_c.specs.ErrorRecords.{is_sized, no_error, said_of}
use Rattle.common_errors.specs.Statuses.{done}
use Rattle.trap_c.specs.Errors.{status_of_error}
use Rattle.trap_c.specs.Opened.{InfoIs, MakesOpened, NotShared, OpenRefused, Opens, OpensJob, SharesJob, SharesOpened, SizeOr, TellsDone, TellsError, TellsInfo, TrapsOpened, WindowRefused, are_sized, handle_fault, info_fault}
use Rattle.trap_c.specs.Windows.{IsRead}
use Rattle.page_model.specs.declared.parts.Counts.{Counts}
use Rattle.trap_c.specs.declared.report_record.ReportRecord.{ReportRecord}
use Rattle.trap_c.specs.declared.work.Told.{Told}
use Rattle.trap_c.specs.Calls.{Tells}
use Rattle.trap_c.specs.ReportRecords.{AreFew, IsReport}

-- An open job is the one that its bytes spell, and so in range.
pub is_read : (stored : OpenJob) (bytes : List ℕ) → bytes ≡ stored.bytes.items → IsRead bytes stored.job
is_read stored bytes same = subst (λ (bs : List ℕ). IsRead bs stored.job) (sym same) (record {
  is = stored.read;
  range = job_of-in_range stored.bytes.items stored.job stored.read;
})

-- A job is opened; or it is not.
pub open_told : (bytes text text' : List ℕ) (len status : ℕ) (was now : Option OpenJob) (said said' : ErrorRecord) (u : Unit {0}) → is_sized said ≡ true → Opens bytes was now (Ok u) → TellsDone [] text text' len said' status → OpensJob bytes was now text text' len status said said'
open_told bytes text text' len status was now said said' u sized opens tells = record {
  success = λ _. (sized, opens.0, opens.1, tells);
  refused = λ ne. absurd (ne tells.status_is);
}

pub open_refused : (bytes text text' : List ℕ) (len status : ℕ) (was now : Option OpenJob) (said said' : ErrorRecord) (error : CallError) → now ≡ was → SizeOr (is_sized said) error (OpenRefused bytes was error) → TellsError error text text' len said said' status → OpensJob bytes was now text text' len status said said'
open_refused bytes text text' len status was now said said' error kept why tells = record {
  success = λ e. absurd (tells.refused e);
  refused = λ _. (kept, (error, why, tells));
}

-- The figures of the job of an open handle.
pub info_given : (was : Option OpenJob) (stored : OpenJob) (info info' : Info) → was ≡ Some stored → info.size ≡ info_size → IsInfoOf stored.job info' → (info_fault info.size was ≡ None) × InfoIs was info'
info_given was stored info info' some sized is = (
  ap (λ (n : ℕ). info_fault n was) sized ∙ ap handle_fault some,
  (stored, some, (stored.job, stored.read, is)),
)

-- The figures of a job are told; or they are not.
pub info_told : (was : Option OpenJob) (info info' : Info) (status : ℕ) (said said' : ErrorRecord) → is_sized said ≡ true → (info_fault info.size was ≡ None) × InfoIs was info' → status ≡ done → said' ≡ no_error → TellsInfo was info info' status said said'
info_told was info info' status said said' sized gives is says = record {
  success = λ _. (sized, gives.0, gives.1, says);
  refused = λ ne. absurd (ne is);
}

pub info_refused : (was : Option OpenJob) (info info' : Info) (status : ℕ) (said said' : ErrorRecord) (error : CallError) → info' ≡ info → SizeOr (is_sized said) error (info_fault info.size was ≡ Some error) → status ≡ status_of_error error → status ≢ done → said' ≡ said_of said error → TellsInfo was info info' status said said'
info_refused was info info' status said said' error kept why is ne says = record {
  success = λ e. absurd (ne e);
  refused = λ _. (kept, (error, why, is, says));
}

-- A window by a handle is made, and its report told.
pub opened_told : (most : ℕ) (was : Option OpenJob) (names : List ℕ) (layout : Layout) (place : Place) (before after text text' : List ℕ) (len status : ℕ) (report report' : ReportRecord) (said said' : ErrorRecord) (told : Told) → MakesOpened most was names layout place before after (Ok told) → are_sized report said ≡ true → IsReport told.counts report' → TellsDone told.report text text' len said' status → TrapsOpened most was names layout place before after text text' len status report report' said said'
opened_told most None names layout place before after text text' len status report report' said said' told makes sized counts tells = absurd makes
opened_told most (Some stored) names layout place before after text text' len status report report' said said' told makes sized counts tells = record {
  success = λ _. (
    sized,
    tells.said_is,
    (
      stored,
      refl,
      (
        makes.0,
        record { samples = makes.1; reported = subst (λ (t : List ℕ). Tells t text text' len) makes.2 tells.tells },
        subst (λ (k : Counts). IsReport k report') makes.3 counts,
      ),
    ),
  );
  refused = λ ne. absurd (ne tells.status_is);
}

-- A job has few enough zones and planes for a window by a handle.
pub opened_few : (most : ℕ) (was : Option OpenJob) (names : List ℕ) (layout : Layout) (place : Place) (before after : List ℕ) (told : Told) → MakesOpened most was names layout place before after (Ok told) → AreFew told.counts
opened_few most None names layout place before after told makes = absurd makes
opened_few most (Some stored) names layout place before after told makes = makes.4

-- A window by a handle is refused.
pub refused_opened : (most : ℕ) (was : Option OpenJob) (names : List ℕ) (layout : Layout) (place : Place) (before after : List ℕ) (error : CallError) → MakesOpened most was names layout place before after (Err error) → (after ≡ before) × WindowRefused most was names layout place before error
refused_opened most None names layout place before after error makes = makes
refused_opened most (Some stored) names layout place before after error makes = makes

pub opened_refused : (most : ℕ) (was : Option OpenJob) (names : List ℕ) (layout : Layout) (place : Place) (before after text text' : List ℕ) (len status : ℕ) (report : ReportRecord) (said said' : ErrorRecord) (error : CallError) → MakesOpened most was names layout place before after (Err error) → are_sized report said ≡ true → TellsError error text text' len said said' status → TrapsOpened most was names layout place before after text text' len status report report said said'
opened_refused most was names layout place before after text text' len status report said said' error makes sized tells =
    let why = refused_opened most was names layout place before after error makes in
    record {
      success = λ e. absurd (tells.refused e);
      refused = λ _. (why.0, refl, (error, inr (sized, why.1), tells));
    }

-- A struct of the caller has another size.
pub opened_unsized : (most : ℕ) (was : Option OpenJob) (names : List ℕ) (layout : Layout) (place : Place) (before text text' : List ℕ) (len status : ℕ) (report : ReportRecord) (said said' : ErrorRecord) → are_sized report said ≡ false → TellsError (Call Size) text text' len said said' status → TrapsOpened most was names layout place before before text text' len status report report said said'
opened_unsized most was names layout place before text text' len status report said said' other tells = record {
  success = λ e. absurd (tells.refused e);
  refused = λ _. (refl, refl, (Call Size, inl (other, refl), tells));
}

-- A job is opened once more; or it is not.
pub share_told : (first was now : Option OpenJob) (status : ℕ) (said said' : ErrorRecord) (u : Unit {0}) → is_sized said ≡ true → SharesOpened first was now (Ok u) → status ≡ done → said' ≡ no_error → SharesJob first was now status said said'
share_told None was now status said said' u sized shares is says = absurd shares
share_told (Some stored) was now status said said' u sized shares is says = record {
  success = λ _. (sized, shares.0, (stored, refl, shares.1), says);
  refused = λ ne. absurd (ne is);
}

not_shared : (first was now : Option OpenJob) (error : CallError) → SharesOpened first was now (Err error) → (now ≡ was) × NotShared first was error
not_shared None was now error shares = shares
not_shared (Some stored) was now error shares = shares

pub share_refused : (first was now : Option OpenJob) (status : ℕ) (said said' : ErrorRecord) (error : CallError) → is_sized said ≡ true → SharesOpened first was now (Err error) → status ≡ status_of_error error → status ≢ done → said' ≡ said_of said error → SharesJob first was now status said said'
share_refused first was now status said said' error sized shares is ne says =
    let why = not_shared first was now error shares in
    record {
      success = λ e. absurd (ne e);
      refused = λ _. (why.0, (error, inr (sized, why.1), is, says));
    }

pub share_unsized : (first was : Option OpenJob) (status : ℕ) (said said' : ErrorRecord) → is_sized said ≡ false → status ≡ status_of_error (Call Size) → status ≢ done → said' ≡ said_of said (Call Size) → SharesJob first was was status said said'
share_unsized first was status said said' other is ne says = record {
  success = λ e. absurd (ne e);
  refused = λ _. (refl, (Call Size, inl (other, refl), is, says));
}
