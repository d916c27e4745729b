-- A sheet of a job and plates that are read, each plate by its own tray.
use Rattle.std.proofs.Common.{◌≡◌, ◌≢◌, ℕ, zero, suc, ◌+◌, ◌<◌, ◌≤◌, List, [], ◌∷◌, length, map, Option, Some, None, Result, Ok, Err, IsTrue, inl, inr, refl, sym, ap, ◌∙◌, subst, arith}
use Rattle.std.proofs.lemmas.Bool.{cases_lt}
use Rattle.std.proofs.lemmas.List.{length-map}
use Rattle.job_reader.specs.declared.job.Job.{Job}
use Rattle.job_reader.specs.Jobs.{job_of}
use Rattle.outside.specs.ErrorCases.{Rose, Asks, AsksPrefix}
use Rattle.outside.specs.Tray.{TrayState, KeepsTray}
use Rattle.outside.proofs.Names.{asks_all, asks_prefix, asks_none_of, asks_then}
use Rattle.outside.proofs.Steps.{kept_tray, rose_before}
use Rattle.page_files.specs.Assembly.{assembled, without_details}
use Rattle.page_files.specs.Inputs.{Sources, name_at}
use Rattle.page_files.specs.Looks.{IsLast}
use Rattle.page_files.specs.Steps.{AnswersJob, PassesNoFault, ReadsJob, TakesJob}
use Rattle.page_files.proofs.LookLemmas.{last_asked}
use Rattle.page_model.specs.declared.parts.PageParts.{PageParts}
use Rattle.page_model.specs.Page.{plates}
use Rattle.pgm_plates.specs.declared.plate.Plate.{Plate as PlateRead}
use Rattle.pgm_plates.specs.declared.plate.PlateFault.{PlateFault}
use Rattle.pgm_plates.specs.declared.plate.PlateError.TheVariants.{Fault}
use Rattle.pgm_plates.specs.declared.plate.PlateFault.TheVariants.{BadMagic, BadHeader, SideRange, TooManySamples, MaxvalRange, SampleAboveMaxval, Truncated, TrailingBytes}
use Rattle.pgm_plates.specs.Planes.{plane_of}
use Rattle.pgm_plates.specs.Reading.{KeepsCount}
use Rattle.common_errors.specs.declared.common.CommonError.{CommonError}
use Rattle.common_errors.specs.declared.common.CommonError.TheVariants.{Usage, Job as JobFails, NoDetails, Plate, Page, Read, Write, Memory}
use Rattle.sheet_geometry.specs.declared.budget.Budget.{Budget}
use Rattle.sheet_geometry.specs.declared.sheet_errors.SheetError.{SheetError}
use Rattle.sheet_geometry.specs.CommonErrors.{sheet_error}
use Rattle.sheet_geometry.specs.Sheets.{IsSheet}
use Rattle.sheet_files.specs.Inputs.{AreSpelled, MakesSheet, SheetInputs, Spells, detailed, stored_by, judged, plates_by, sheet_of}
use Rattle.sheet_files.specs.SheetFiles.{IsSheetFault}
use Rattle.sheet_files.specs.Steps.{IsFaultless, MayTakeFile, ReadsFirst, ReadsPlates, StopsAt, TakesFile, TakesFiles, common}
use Rattle.sheet_files.specs.Gathering.{AsksAll, InHand, IsMadeSheet, TakesTrays}
use Rattle.sheet_files.specs.Judging.{AnswersJudging, JudgesSheet}
use Rattle.plate_rows.specs.Trays.{IsCalm, tray_at}
use Rattle.sheet_files.specs.Trays.{AllTell, tray_files}
use Rattle.sheet_files.specs.declared.error.TrapsheetError.{TrapsheetError}
use Rattle.sheet_files.specs.declared.error.TrapsheetError.TheVariants.{Common, OfSheet}
use Rattle.sheet_files.proofs.TrayLemmas.{calm_is, keeps_is, takes_before}

-- a tray that is as it was was asked for no file
prefix_is : (a b : TrayState) (names : List (List ℕ)) → b ≡ a → AsksPrefix a.asked b.asked names
prefix_is a b names same = subst (λ (t : TrayState). AsksPrefix a.asked t.asked names) (sym same) (asks_none_of a.asked names)

-- The job was read by the first tray, and so many plates by their trays.
module _ (source : Sources) (count : ℕ) (a b c : List TrayState) (first : KeepsTray (tray_at a 0) (tray_at b 0)) (asked : Asks (tray_at a 0).asked (tray_at b 0).asked (source.job ∷ [])) (few : TakesJob source.job (tray_at a 0) (tray_at b 0)) (others : (k : ℕ) → k ≢ 0 → tray_at b k ≡ tray_at a k) (next : TakesFiles source.inputs count b c) (some : 1 ≤ length source.inputs) where
  -- the job left each tray of the same files
  job_keeps : (k : ℕ) → KeepsTray (tray_at a k) (tray_at b k)
  job_keeps zero = first
  job_keeps (suc k) = keeps_is (tray_at a (suc k)) (tray_at b (suc k)) (others (suc k) (omega arith))

  -- a tray after the job: its plate was taken, or it is as it was
  After : ℕ → Type 0
  After k = MayTakeFile (name_at source.inputs k) (tray_at b k) (tray_at c k)

  after : (k : ℕ) → After k
  unfolding After
  after k = elim (cases_lt k count) [
    | inl less ↦ inr (next.each k less)
    | inr more ↦ elim (cases_lt k (length source.inputs)) [
      | inl known ↦ next.later k (omega arith) known
      | inr past ↦ inl (next.others k (omega arith))
    ]
  ]

  plate_keeps : (k : ℕ) → After k → KeepsTray (tray_at b k) (tray_at c k)
  unfolding After
  plate_keeps k (inl same) = keeps_is (tray_at b k) (tray_at c k) same
  plate_keeps k (inr takes) = takes.keeps

  pub keeps : (k : ℕ) → KeepsTray (tray_at a k) (tray_at c k)
  keeps k = kept_tray (tray_at a k) (tray_at b k) (tray_at c k) (job_keeps k) (plate_keeps k (after k))

  asks_with : (k : ℕ) → TakesFile (name_at source.inputs k) (tray_at b k) (tray_at c k) → AsksAll source a c k
  asks_with zero takes = asks_then (tray_at a 0).asked (tray_at b 0).asked (tray_at c 0).asked (source.job ∷ []) (name_at source.inputs 0 ∷ []) asked takes.asked
  asks_with (suc k) takes = subst (λ (t : TrayState). Asks t.asked (tray_at c (suc k)).asked (name_at source.inputs (suc k) ∷ [])) (others (suc k) (omega arith)) takes.asked

  pub asks_of : (k : ℕ) → k < count → AsksAll source a c k
  asks_of k less = asks_with k (next.each k less)

  prefix_of : (k : ℕ) → After k → AsksPrefix (tray_at a k).asked (tray_at c k).asked (tray_files source k)
  unfolding After
  prefix_of k (inr takes) = asks_all (tray_at a k).asked (tray_at c k).asked (tray_files source k) (asks_with k takes)
  prefix_of zero (inl same) = subst (λ (t : TrayState). AsksPrefix (tray_at a 0).asked t.asked (tray_files source 0)) (sym same) (asks_prefix (tray_at a 0).asked (tray_at b 0).asked 1 (tray_files source 0) asked)
  prefix_of (suc k) (inl same) = prefix_is (tray_at a (suc k)) (tray_at c (suc k)) (tray_files source (suc k)) (same ∙ others (suc k) (omega arith))

  hand_of : (k : ℕ) → After k → InHand source k (tray_at a k) (tray_at c k)
  unfolding After
  hand_of zero (inr takes) = inr (inr (takes_before (name_at source.inputs 0) (tray_at a 0) (tray_at b 0) (tray_at c 0) first takes.few, last_asked (name_at source.inputs 0) (tray_at b 0).asked (tray_at c 0) takes.asked))
  hand_of zero (inl same) = inr (inl (subst (λ (t : TrayState). TakesJob source.job (tray_at a 0) t × IsLast source.job t) (sym same) (few, last_asked source.job (tray_at a 0).asked (tray_at b 0) asked)))
  hand_of (suc k) (inr takes) = inr (takes_before (name_at source.inputs (suc k)) (tray_at a (suc k)) (tray_at b (suc k)) (tray_at c (suc k)) (job_keeps (suc k)) takes.few, last_asked (name_at source.inputs (suc k)) (tray_at b (suc k)).asked (tray_at c (suc k)) takes.asked)
  hand_of (suc k) (inl same) = inl (same ∙ others (suc k) (omega arith))

  past : (k : ℕ) → length source.inputs ≤ k → tray_at c k ≡ tray_at a k
  past zero more = absurd (omega arith)
  past (suc k) more = next.others (suc k) more ∙ others (suc k) (omega arith)

  pub takes_trays : TakesTrays source a c
  takes_trays = record {
    keeps = keeps;
    asked = λ k. prefix_of k (after k);
    in_hand = λ k. hand_of k (after k);
    beyond = past;
  }

  -- the files of a tray, and whether they are told, are those of the beginning
  pub tells_on : (k : ℕ) → IsTrue (tray_at a k).tells → IsTrue (tray_at b k).tells
  tells_on k tells = (job_keeps k).tells ∙ tells

  pub all_tell_on : (n : ℕ) → AllTell n a → AllTell n b
  all_tell_on n tell k less = tells_on k (tell k less)

  pub stored_before : (k : ℕ) (name : List ℕ) (Fact : List ℕ → Type 0) → Spells ((tray_at b k).file name) Fact → Spells ((tray_at a k).file name) Fact
  stored_before k name Fact there = (there.0, ap (λ (files : List ℕ → Option (List ℕ)). files name) (sym (job_keeps k).file) ∙ there.1, there.2)

  pub spelled_before : (n : ℕ) (read : List PlateRead) → AreSpelled (plates_by b source.inputs) n read → AreSpelled (plates_by a source.inputs) n read
  spelled_before n read there = record {
    all = there.all;
    each = λ k less. (let h = there.each k less in (h.0, ap (λ (files : List ℕ → Option (List ℕ)). files (name_at source.inputs k)) (sym (job_keeps k).file) ∙ h.1, h.2));
  }

  pub faultless_before : (k : ℕ) → IsFaultless (name_at source.inputs k) (tray_at b k) (tray_at c k) → IsFaultless (name_at source.inputs k) (tray_at a k) (tray_at c k)
  faultless_before k here begun tells =
      let there = here begun (tells_on k tells) in
      (there.0, ap (λ (files : List ℕ → Option (List ℕ)). files (name_at source.inputs k)) (sym (job_keeps k).file) ∙ there.1, there.2)

-- The job was read, and the trays' counts of faults with it.
module _ (a b c : List TrayState) (others : (k : ℕ) → k ≢ 0 → tray_at b k ≡ tray_at a k) (calm : (tray_at b 0).faults ≡ (tray_at a 0).faults) where
  pub job_calm : (k : ℕ) → IsCalm a b k
  job_calm zero = calm
  job_calm (suc k) = calm_is (tray_at a (suc k)) (tray_at b (suc k)) (others (suc k) (omega arith))

  pub both_calm : (k : ℕ) → IsCalm b c k → IsCalm a c k
  both_calm k then = then ∙ job_calm k

  pub count_before : (k : ℕ) (fault : PlateFault) → KeepsCount {T = PlateRead} (tray_at b k) (tray_at c k) (Err (Fault fault)) → KeepsCount {T = PlateRead} (tray_at a k) (tray_at c k) (Err (Fault fault))
  count_before k (SampleAboveMaxval at) count = tt
  count_before k (BadMagic at) count = count ∙ job_calm k
  count_before k (BadHeader at) count = count ∙ job_calm k
  count_before k (SideRange at) count = count ∙ job_calm k
  count_before k (TooManySamples at) count = count ∙ job_calm k
  count_before k (MaxvalRange at) count = count ∙ job_calm k
  count_before k (Truncated at) count = count ∙ job_calm k
  count_before k (TrailingBytes at) count = count ∙ job_calm k

-- The job is refused.
module _ (source : Sources) (budget : Budget) (a b : List TrayState) (some : 1 ≤ length source.inputs) (others : (k : ℕ) → k ≢ 0 → tray_at b k ≡ tray_at a k) where
  none_taken : TakesFiles source.inputs 0 b b
  none_taken = record { each = λ k less. absurd (omega arith); later = λ k more less. inl refl; others = λ k more. refl }

  job_takes : KeepsTray (tray_at a 0) (tray_at b 0) → Asks (tray_at a 0).asked (tray_at b 0).asked (source.job ∷ []) → TakesJob source.job (tray_at a 0) (tray_at b 0) → TakesTrays source a b
  job_takes keeps asked few = takes_trays source 0 a b b keeps asked few others none_taken some

  answer_job : (common_error : CommonError) → ReadsJob source.job (tray_at a 0) (tray_at b 0) (Err common_error) → AnswersJob source.job (tray_at a 0) (tray_at b 0) (Err common_error) → PassesNoFault {T = Job} (tray_at a 0) (tray_at b 0) (Err common_error) → AnswersJudging source budget a b (Err (Common common_error))
  answer_job (JobFails fault) reads answer count = AnswersJudging.refused (Common (JobFails fault)) refl (record {
    of_input = tt;
    verdict = λ tells. answer (tells 0 (omega arith));
    begun = record { first = reads.asked; others = others };
    count = job_calm a b b others count;
  })
  answer_job (Read None) reads answer count = AnswersJudging.unread None refl (record {
    rose = answer;
    begun = record { first = reads.asked; others = others };
    count = λ k other. ap (λ (t : TrayState). t.faults) (others k other);
    breaks = tt;
  })
  answer_job Memory reads answer count = AnswersJudging.no_memory refl (job_calm a b b others count)
  answer_job Usage reads answer count = absurd answer
  answer_job (NoDetails plate) reads answer count = absurd answer
  answer_job (Plate plate fault) reads answer count = absurd answer
  answer_job (Page fault) reads answer count = absurd answer
  answer_job (Read (Some plate)) reads answer count = absurd answer
  answer_job (Write file) reads answer count = absurd answer

  by_error : (error : TrapsheetError) (read : Result Job CommonError) → ◌≡◌ {A = Result Job TrapsheetError} (Err error) (common read) → ReadsJob source.job (tray_at a 0) (tray_at b 0) read → JudgesSheet source budget a b (Err error)
  by_error error (Ok job) same reads = absurd (cc)
  by_error error (Err common_error) same reads =
      let is : error ≡ Common common_error = cc in
      subst (λ (s : TrapsheetError). JudgesSheet source budget a b (Err s)) (sym is) (record {
        takes = job_takes reads.keeps reads.asked reads.few;
        answer = answer_job common_error reads reads.answer reads.count;
      })

pub job_refused : (source : Sources) (budget : Budget) (a b : List TrayState) (error : TrapsheetError) → 1 ≤ length source.inputs → ReadsFirst source.job a b (Err error) → JudgesSheet source budget a b (Err error)
job_refused source budget a b error some first = by_error source budget a b some first.others error first.read first.same first.first

-- A sheet was made of the job and the plates.
pub record IsReady (source : Sources) (a c : List TrayState) (sheet : PageParts) : Type 0 where
  pub made : IsMadeSheet source a sheet
  pub asks : (k : ℕ) → k < length source.inputs → AsksAll source a c k
  pub calm : (k : ℕ) → IsCalm a c k
  pub takes : TakesTrays source a c

-- The job is read, and then the plates.
module _ (source : Sources) (budget : Budget) (a b c : List TrayState) (job : Job) (some : 1 ≤ length source.inputs) (named : length source.names ≡ length source.inputs) (others : (k : ℕ) → k ≢ 0 → tray_at b k ≡ tray_at a k) (first : ReadsJob source.job (tray_at a 0) (tray_at b 0) (Ok job)) where
  trays : (count : ℕ) → TakesFiles source.inputs count b c → TakesTrays source a c
  trays count next = takes_trays source count a b c first.keeps first.asked first.few others next some

  asks : (count : ℕ) → TakesFiles source.inputs count b c → (k : ℕ) → k < count → AsksAll source a c k
  asks count next = asks_of source count a b c first.keeps first.asked first.few others next some

  job_reported : IsTrue (tray_at a 0).tells → Spells ((tray_at a 0).file source.job) (λ bytes. job_of bytes ≡ Ok job)
  job_reported tells = first.answer.1 tells

  all_calm : ((k : ℕ) → IsCalm b c k) → (k : ℕ) → IsCalm a c k
  all_calm then k = both_calm a b c others first.count k (then k)

  plate_fails : (plate : ℕ) (fault : PlateFault) → StopsAt source.inputs plate b c → KeepsCount {T = PlateRead} (tray_at b plate) (tray_at c plate) (Err (Fault fault)) → (IsTrue (tray_at b plate).tells → Spells (plates_by b source.inputs plate) (λ bytes. IsSheetFault bytes fault)) → AnswersJudging source budget a c (Err (Common (Plate plate fault)))
  plate_fails plate fault stops count reported = AnswersJudging.refused (Common (Plate plate fault)) refl (record {
    of_input = tt;
    verdict = λ tells. record {
      job = job;
      plates = stops.plates;
      job_read = job_reported (tells 0 (omega arith));
      before = before plate stops (λ k less. tells k (let known = stops.known in omega arith));
      known = (let known = stops.known in omega arith);
      broken = stored_before source (plate + 1) a b c first.keeps first.asked first.few others stops.takes some plate (name_at source.inputs plate) (λ bytes. IsSheetFault bytes fault) (reported ((job_keeps_at plate).tells ∙ tells plate stops.known));
    };
    begun = λ k less. asks (plate + 1) stops.takes k (omega arith);
    count = (λ k less. both_calm a b c others first.count k (stops.calm k less), count_before a b c others first.count plate fault count);
  }) where
    job_keeps_at : (k : ℕ) → KeepsTray (tray_at a k) (tray_at b k)
    job_keeps_at zero = first.keeps
    job_keeps_at (suc k) = keeps_is (tray_at a (suc k)) (tray_at b (suc k)) (others (suc k) (omega arith))

    before : (plate : ℕ) (stops : StopsAt source.inputs plate b c) → AllTell plate a → AreSpelled (plates_by a source.inputs) plate stops.plates
    before plate stops tells = spelled_before source (plate + 1) a b c first.keeps first.asked first.few others stops.takes some plate stops.plates (stops.before_it (λ k less. (job_keeps_at k).tells ∙ tells k less))

  plate_breaks : (plate : ℕ) → StopsAt source.inputs plate b c → Rose (tray_at b plate).faults (tray_at c plate).faults → IsFaultless (name_at source.inputs plate) (tray_at b plate) (tray_at c plate) → AnswersJudging source budget a c (Err (Common (Read (Some plate))))
  plate_breaks plate stops rose faultless = AnswersJudging.unread (Some plate) refl (record {
    rose = rose_before (tray_at a plate).faults (tray_at b plate).faults (tray_at c plate).faults (job_keeps_at plate).faults rose;
    begun = λ k less. asks (plate + 1) stops.takes k (omega arith);
    count = λ k less. both_calm a b c others first.count k (stops.calm k less);
    breaks = record {
      known = stops.known;
      job = job;
      plates = stops.plates;
      job_read = job_reported;
      before_it = λ tells. spelled_before source (plate + 1) a b c first.keeps first.asked first.few others stops.takes some plate stops.plates (stops.before_it (λ k less. (job_keeps_at k).tells ∙ tells k less));
      taken = faultless_before source (plate + 1) a b c first.keeps first.asked first.few others stops.takes some plate faultless;
    };
  }) where
    job_keeps_at : (k : ℕ) → KeepsTray (tray_at a k) (tray_at b k)
    job_keeps_at zero = first.keeps
    job_keeps_at (suc k) = keeps_is (tray_at a (suc k)) (tray_at b (suc k)) (others (suc k) (omega arith))

  same_error : (one two : TrapsheetError) → ◌≡◌ {A = Result (List PlateRead) TrapsheetError} (Err one) (Err two) → two ≡ one
  same_error one two is = cc

  by_plates : (error : TrapsheetError) → ReadsPlates source.inputs b c (Err error) → JudgesSheet source budget a c (Err error)
  by_plates error (ReadsPlates.read plates is long ok takes calm reported) = absurd (cc)
  by_plates error (ReadsPlates.fails plate fault is stops count reported) =
      subst (λ (s : TrapsheetError). JudgesSheet source budget a c (Err s)) (same_error error (Common (Plate plate fault)) is) (record {
        takes = trays (plate + 1) stops.takes;
        answer = plate_fails plate fault stops count reported;
      })
  by_plates error (ReadsPlates.unread plate is stops rose faultless) =
      subst (λ (s : TrapsheetError). JudgesSheet source budget a c (Err s)) (same_error error (Common (Read (Some plate))) is) (record {
        takes = trays (plate + 1) stops.takes;
        answer = plate_breaks plate stops rose faultless;
      })

  -- All plates are read: what they make.
  module _ (read : List PlateRead) (long : length read ≡ length source.inputs) (next : TakesFiles source.inputs (length source.inputs) b c) (calm : (k : ℕ) → IsCalm b c k) (reported : AllTell (length source.inputs) b → AreSpelled (plates_by b source.inputs) (length source.inputs) read) where
    inputs_reported : AllTell (length source.inputs) a → SheetInputs (stored_by a source) (length source.names) job read
    inputs_reported tells = record {
      job_read = job_reported (tells 0 (omega arith));
      plates_read = subst (λ (n : ℕ). AreSpelled (plates_by a source.inputs) n read) (sym named)
          (spelled_before source (length source.inputs) a b c first.keeps first.asked first.few others next some (length source.inputs) read
          (reported (all_tell_on source (length source.inputs) a b c first.keeps first.asked first.few others next some (length source.inputs) tells)));
    }

    makes : (made : Result PageParts TrapsheetError) → sheet_of job read source.names ≡ made → AllTell (length source.inputs) a → MakesSheet (stored_by a source) source.names made
    makes made is tells = (job, read, inputs_reported tells, is)

    -- a sheet that is made has as many planes as there are plates
    judged_count : (o : Option SheetError) (parts sheet : PageParts) → judged o parts ≡ Ok sheet → plates sheet ≡ plates parts
    judged_count None parts sheet is = let same : parts ≡ sheet = cc in ap plates (sym same)
    judged_count (Some common_error) parts sheet is = absurd (cc)

    detailed_count : (o : Option ℕ) (parts sheet : PageParts) → detailed o parts ≡ Ok sheet → plates sheet ≡ plates parts
    detailed_count None parts sheet is = judged_count (sheet_error parts) parts sheet is
    detailed_count (Some plate) parts sheet is = absurd (cc)

    sheet_count : (sheet : PageParts) → sheet_of job read source.names ≡ Ok sheet → plates sheet ≡ length source.inputs
    sheet_count sheet is = detailed_count (without_details job source.names) (assembled job read source.names) sheet is ∙ length-map read plane_of ∙ long

    -- an error of what is made is of the details or of the sheet
    data OfMade (error : TrapsheetError) : Type 0 where
      of_details : (plate : ℕ) → error ≡ Common (NoDetails plate) → OfMade error
      of_sheet : (common_error : SheetError) → error ≡ OfSheet common_error → OfMade error

    of_judged : (o : Option SheetError) (parts : PageParts) (error : TrapsheetError) → judged o parts ≡ Err error → OfMade error
    of_judged None parts error is = absurd (cc)
    of_judged (Some common_error) parts error is = of_sheet common_error (let same : OfSheet common_error ≡ error = cc in sym same)

    of_made : (o : Option ℕ) (parts : PageParts) (error : TrapsheetError) → detailed o parts ≡ Err error → OfMade error
    of_made None parts error is = of_judged (sheet_error parts) parts error is
    of_made (Some plate) parts error is = of_details plate (let same : Common (NoDetails plate) ≡ error = cc in sym same)

    sheet_refused : (error : TrapsheetError) → sheet_of job read source.names ≡ Err error → OfMade error → AnswersJudging source budget a c (Err error)
    sheet_refused error is (of_details plate same) = subst (λ (s : TrapsheetError). AnswersJudging source budget a c (Err s)) (sym same) (AnswersJudging.refused (Common (NoDetails plate)) refl (record {
      of_input = tt;
      verdict = λ tells. makes (Err (Common (NoDetails plate))) (is ∙ ap (λ (s : TrapsheetError). Err s) same) tells;
      begun = asks (length source.inputs) next;
      count = all_calm calm;
    }))
    sheet_refused error is (of_sheet common_error same) = subst (λ (s : TrapsheetError). AnswersJudging source budget a c (Err s)) (sym same) (AnswersJudging.refused (OfSheet common_error) refl (record {
      of_input = tt;
      verdict = λ tells. makes (Err (OfSheet common_error)) (is ∙ ap (λ (s : TrapsheetError). Err s) same) tells;
      begun = asks (length source.inputs) next;
      count = all_calm calm;
    }))

    pub made_refused : (error : TrapsheetError) → sheet_of job read source.names ≡ Err error → JudgesSheet source budget a c (Err error)
    made_refused error is = record {
      takes = trays (length source.inputs) next;
      answer = sheet_refused error is (of_made (without_details job source.names) (assembled job read source.names) error is);
    }

    pub no_memory : JudgesSheet source budget a c (Err (Common Memory))
    no_memory = record {
      takes = trays (length source.inputs) next;
      answer = AnswersJudging.no_memory refl (all_calm calm);
    }

    -- what is so of a sheet that was made, whatever is done with it
    pub made_of : (sheet : PageParts) → sheet_of job read source.names ≡ Ok sheet → IsSheet sheet → sheet_error sheet ≡ None → IsReady source a c sheet
    made_of sheet made valid accepted = record {
      made = record { valid = valid; accepted = accepted; count = sheet_count sheet made; made = makes (Ok sheet) made };
      asks = asks (length source.inputs) next;
      calm = all_calm calm;
      takes = trays (length source.inputs) next;
    }

-- A job that was read is the one that was answered.
first_ok : (name : List ℕ) (a b : List TrayState) (job : Job) (read : Result Job CommonError) → ◌≡◌ {A = Result Job TrapsheetError} (Ok job) (common read) → ReadsJob name (tray_at a 0) (tray_at b 0) read → ReadsJob name (tray_at a 0) (tray_at b 0) (Ok job)
first_ok name a b job (Ok other) same reads = let is : other ≡ job = cc in subst (λ (j : Job). ReadsJob name (tray_at a 0) (tray_at b 0) (Ok j)) is reads
first_ok name a b job (Err common_error) same reads = absurd (cc)

pub plates_refused : (source : Sources) (budget : Budget) (a b c : List TrayState) (job : Job) (error : TrapsheetError) → 1 ≤ length source.inputs → length source.names ≡ length source.inputs → ReadsFirst source.job a b (Ok job) → ReadsPlates source.inputs b c (Err error) → JudgesSheet source budget a c (Err error)
plates_refused source budget a b c job error some named first next = by_plates source budget a b c job some named first.others (first_ok source.job a b job first.read first.same first.first) error next

-- A sheet that the job and the plates make is refused, or there is no memory for what is known of it.
module _ (source : Sources) (budget : Budget) (a b c : List TrayState) (job : Job) (read : List PlateRead) (some : 1 ≤ length source.inputs) (named : length source.names ≡ length source.inputs) (first : ReadsFirst source.job a b (Ok job)) (long : length read ≡ length source.inputs) (takes : TakesFiles source.inputs (length source.inputs) b c) (calm : (k : ℕ) → IsCalm b c k) (reported : AllTell (length source.inputs) b → AreSpelled (plates_by b source.inputs) (length source.inputs) read) where
  pub sheet_refused_as : (error : TrapsheetError) → sheet_of job read source.names ≡ Err error → JudgesSheet source budget a c (Err error)
  sheet_refused_as error is = made_refused source budget a b c job some named first.others (first_ok source.job a b job first.read first.same first.first) read long takes calm reported error is

  pub no_memory_left : JudgesSheet source budget a c (Err (Common Memory))
  no_memory_left = no_memory source budget a b c job some named first.others (first_ok source.job a b job first.read first.same first.first) read long takes calm reported

-- as many files as inputs that give their names
pub as_many : {X : Type 0} (text : X → List ℕ) (inputs : List X) → length (map text inputs) ≡ length inputs
as_many text inputs = length-map inputs text

pub sheet_ready : (source : Sources) (a b c : List TrayState) (job : Job) (read : List PlateRead) (sheet : PageParts) → 1 ≤ length source.inputs → length source.names ≡ length source.inputs → ReadsFirst source.job a b (Ok job) → length read ≡ length source.inputs → TakesFiles source.inputs (length source.inputs) b c → ((k : ℕ) → IsCalm b c k) → (AllTell (length source.inputs) b → AreSpelled (plates_by b source.inputs) (length source.inputs) read) → sheet_of job read source.names ≡ Ok sheet → IsSheet sheet → sheet_error sheet ≡ None → IsReady source a c sheet
sheet_ready source a b c job read sheet some named first long takes calm reported made valid accepted =
    made_of source (record { rows = 0; samples = 0 }) a b c job some named first.others (first_ok source.job a b job first.read first.same first.first) read long takes calm reported sheet made valid accepted
