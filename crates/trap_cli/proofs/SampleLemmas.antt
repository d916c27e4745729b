-- The report and the receipt of a sample page.
use Rattle.std.proofs.Common.{◌≡◌, ℕ, ◌*◌, ◌<◌, List, ◌++◌, take, Some, None, Result, Ok, Err, MatchResult, inl, inr, refl, sym, ap, ◌∙◌, subst}
use Rattle.std.proofs.lemmas.Bool.{cases_lt}
use Rattle.band_claims.specs.Receipt.{Receipt}
use Rattle.outside.specs.declared.tray.DeviceError.{DeviceError}
use Rattle.outside.specs.Rack.{RackState, Tells}
use Rattle.page_model.specs.declared.parts.PageParts.{PageParts}
use Rattle.page_model.specs.Counts.{page_counts}
use Rattle.page_model.specs.Limits.{most_samples}
use Rattle.trap_engine.specs.Receipts.{IsWholeReceipt}
use Rattle.common_errors.specs.declared.common.CommonError.{CommonError}
use Rattle.common_errors.specs.declared.common.CommonError.TheVariants.{Memory}
use Rattle.trap_report.specs.Report.{report_of}
use Rattle.trap_cli.specs.Words.{SampleWords}
use Rattle.page_output.specs.declared.outcome.Outcome.{Outcome}
use Rattle.trap_cli.specs.Commands.{sample_band}
use Rattle.common_errors.specs.Statuses.{done, not_written}
use Rattle.trap_cli.specs.Endings.{EndsSample, IsSmall, MakesReport, sample_of, sample_report}
use Rattle.trap_cli.specs.Endings.AnswersSample.{reported, reported_in_part}

pub is_small : (words : SampleWords) → (most_samples < 4 * words.width * words.height → ⊥) → IsSmall words
is_small words not_large = elim (cases_lt most_samples (4 * words.width * words.height)) [ inl large ↦ absurd (not_large large) | inr small ↦ small ]

pub report_made : (words : SampleWords) (page : PageParts) (result : Result Outcome CommonError) → IsSmall words → page ≡ sample_of words → MatchResult result (λ made. (made.report ≡ report_of page (page_counts page)) × IsWholeReceipt page sample_band made.receipt) (λ error. error ≡ Memory) → MakesReport words result
report_made words page (Ok made) small is has = (small, has.0 ∙ ap (λ (p : PageParts). report_of p (page_counts p)) is, subst (λ (p : PageParts). IsWholeReceipt p sample_band made.receipt) is has.1)
report_made words page (Err error) small is memory = subst (λ (r : CommonError). MakesReport words (Err r)) (sym memory) small

-- The report was told in part, since a call failed.
pub reported_a_part : (words : SampleWords) (text : List ℕ) (a b : RackState) (failed : DeviceError) → IsSmall words → text ≡ sample_report words → Tells {T = Unit {0}} {E = DeviceError} text a b (Err failed) → EndsSample words a b not_written None
reported_a_part words text a b failed small is tells = record {
  files = record { keeps = tells.keeps; asked = tells.asked; finished = tells.finished; is_open = tells.is_open; files = tells.files };
  answer = reported_in_part small refl tells.reason tells.once (λ reported. (let prefix = tells.part reported in (prefix.0, prefix.1 ∙ ap (λ (t : List ℕ). a.reported ++ take prefix.0 t) is))) refl;
}

-- The report was told whole, and the table at which the page was trapped is handed on.
pub reported_whole : (words : SampleWords) (text : List ℕ) (a b : RackState) (receipt : Receipt) (x : Unit {0}) → IsSmall words → text ≡ sample_report words → IsWholeReceipt (sample_of words) sample_band receipt → Tells {T = Unit {0}} {E = DeviceError} text a b (Ok x) → EndsSample words a b done (Some receipt)
reported_whole words text a b receipt x small is whole tells = record {
  files = record { keeps = tells.keeps; asked = tells.asked; finished = tells.finished; is_open = tells.is_open; files = tells.files };
  answer = reported small refl tells.well (λ tell. tells.reported tell ∙ ap (λ (t : List ℕ). a.reported ++ t) is) (receipt, refl, whole);
}
