-- No two verdicts on a command stand at once.
use Rattle.std.proofs.Common.{◌≡◌, ℕ, ◌<◌, List, length, Option, Result, Ok, Err, refl, sym, ap, ◌∙◌, subst, arith}
use Rattle.std.proofs.lemmas.List.{same_lists, get_or_default}
use Rattle.std.proofs.lemmas.Option.{same_Some}
use Rattle.job_reader.specs.declared.job.Job.{Job as JobRead}
use Rattle.keep_words.specs.Words.{KeepWords}
use Rattle.page_files.specs.Assembly.{assembly}
use Rattle.page_files.specs.Inputs.{AreRead, Holds, Makes, name_at, no_plate, one_page, plate_at}
use Rattle.page_model.specs.declared.parts.PageParts.{PageParts}
use Rattle.page_files.specs.Files.{Written}
use Rattle.pgm_plates.specs.declared.plate.Plate.{Plate as PlateRead}
use Rattle.pgm_plates.specs.Plates.{IsPlateFile}
use Rattle.ps_tokens.specs.declared.faults.JobFault.{JobFault}
use Rattle.common_errors.specs.declared.common.CommonError.{CommonError}
use Rattle.trapkeep_cli.specs.declared.reason.TrapkeepError.{TrapkeepError}
use Rattle.trapkeep_cli.specs.declared.reason.TrapkeepError.TheVariants as errors
use Rattle.trapkeep_cli.specs.Commands.{IsWide, sources_of}
use Rattle.trapkeep_cli.specs.Verdicts.{IsVerdict, Refused, Out, no_files}
use Rattle.page_files.specs.Verdicts.{Verdict as PageVerdict, IsVerdict as IsPageVerdict, Refused as page_refused, Out as page_out, outcome}
use Rattle.page_files.proofs.VerdictLemmas.{PlateLaws, one_verdict}

-- a file has one list of bytes
stored_both : (files : List ℕ → Option (List ℕ)) (name : List ℕ) (F G : List ℕ → Type 0) → Holds files name F → Holds files name G → (bytes : List ℕ) × F bytes × G bytes
stored_both files name F G one two =
    let same : two.0 ≡ one.0 = same_Some two.0 one.0 (sym two.1 ∙ one.1) in
    (one.0, one.2, subst G same two.2)

module _ (laws : PlateLaws one_page) (files : List ℕ → Option (List ℕ)) where
  same_at : (names : List (List ℕ)) (n : ℕ) (p q : List PlateRead) → AreRead one_page files names n p → AreRead one_page files names n q → (k : ℕ) → k < n → plate_at p k ≡ plate_at q k
  same_at names n p q a b k within =
      let both = stored_both files (name_at names k) (λ bytes. IsPlateFile bytes (plate_at p k)) (λ bytes. IsPlateFile bytes (plate_at q k)) (a.each k within) (b.each k within) in
      laws.one_plate both.0 (plate_at p k) (plate_at q k) both.1 both.2

  one_list : (names : List (List ℕ)) (n : ℕ) (p q : List PlateRead) → AreRead one_page files names n p → AreRead one_page files names n q → p ≡ q
  one_list names n p q a b = same_lists p q (a.all ∙ sym b.all) (λ k d within.
      let below : k < n = omega (arith, a.all) in
      let there : k < length q = omega (arith, b.all) in
      get_or_default p k d no_plate within ∙ same_at names n p q a b k below ∙ sym (get_or_default q k d no_plate there))

  module _ (words : KeepWords) where
    one_job : (one two : JobRead) → Holds files words.job (λ bytes. one_page.job bytes ≡ Ok one) → Holds files words.job (λ bytes. one_page.job bytes ≡ Ok two) → one ≡ two
    one_job one two a b =
        let both = stored_both files words.job (λ bytes. one_page.job bytes ≡ Ok one) (λ bytes. one_page.job bytes ≡ Ok two) a b in
        let same : ◌≡◌ {A = Result JobRead JobFault} (Ok one) (Ok two) = sym both.1 ∙ both.2 in
        cc

    -- what the job and the plates make is one page
    one_making : (one two : PageParts) → Makes one_page files (sources_of words) (Ok one) → Makes one_page files (sources_of words) (Ok two) → one ≡ two
    one_making one two a b =
        let job : a.0 ≡ b.0 = one_job a.0 b.0 a.2.job_read b.2.job_read in
        let plates : a.1 ≡ b.1 = one_list (sources_of words).inputs (length (sources_of words).inputs) a.1 b.1 a.2.plates_read b.2.plates_read in
        let same : ◌≡◌ {A = Result PageParts CommonError} (Ok one) (Ok two) = sym a.3 ∙ ap (λ (j : JobRead). assembly j a.1 (sources_of words).names) job ∙ ap (λ (ps : List PlateRead). assembly b.0 ps (sources_of words).names) plates ∙ b.3 in
        cc

    made_or_refused : (page : PageParts) (error : CommonError) → Makes one_page files (sources_of words) (Ok page) → IsPageVerdict one_page files (sources_of words) no_files (page_refused error) → ⊥
    made_or_refused page error made is =
        let same : ◌≡◌ {A = PageVerdict} (page_out (outcome no_files page)) (page_refused error) = one_verdict one_page laws files (sources_of words) no_files (page_out (outcome no_files page)) (page_refused error) (page, made, refl) is in
        absurd cc

    same_page_error : (one two : CommonError) → IsPageVerdict one_page files (sources_of words) no_files (page_refused one) → IsPageVerdict one_page files (sources_of words) no_files (page_refused two) → ◌≡◌ {A = TrapkeepError} (errors.Page one) (errors.Page two)
    same_page_error one two a b =
        let same : ◌≡◌ {A = PageVerdict} (page_refused one) (page_refused two) = one_verdict one_page laws files (sources_of words) no_files (page_refused one) (page_refused two) a b in
        cc

    -- where files are to be written, the input is not refused
    pub out_or_refused : (written : List Written) (reason : TrapkeepError) → IsVerdict files words (Out written) → IsVerdict files words (Refused reason) → ⊥
    out_or_refused written (errors.Page error) out is = made_or_refused out.0 error out.2 is
    out_or_refused written errors.TooWide out is = out.3 (subst (λ (page : PageParts). IsWide words page) (one_making is.0 out.0 is.1 out.2) is.2)
    out_or_refused written errors.NoCommand out is = absurd is

    -- the input is refused for one cause
    pub one_error : (one two : TrapkeepError) → IsVerdict files words (Refused one) → IsVerdict files words (Refused two) → one ≡ two
    one_error (errors.Page one) (errors.Page two) a b = same_page_error one two a b
    one_error (errors.Page one) errors.TooWide a b = absurd (made_or_refused b.0 one b.1 a)
    one_error (errors.Page one) errors.NoCommand a b = absurd b
    one_error errors.TooWide (errors.Page two) a b = absurd (made_or_refused a.0 two a.1 b)
    one_error errors.TooWide errors.TooWide a b = refl
    one_error errors.TooWide errors.NoCommand a b = absurd b
    one_error errors.NoCommand two a b = absurd a
