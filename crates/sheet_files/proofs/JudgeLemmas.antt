-- A sheet of plates of which nothing is kept but the headers: the plates are there all the same.
use Rattle.std.proofs.Common.{◌≡◌, ℕ, zero, suc, ◌+◌, ◌<◌, ◌≤◌, List, length, take, get_or, Option, Some, None, Result, Ok, Err, IsTrue, inl, inr, refl, sym, ap, ◌∙◌, subst, arith}
use Rattle.std.specs.List.{All}
use Rattle.std.proofs.lemmas.List.{get_or-map, length-map}
use Rattle.job_reader.specs.declared.job.Job.{Job}
use Rattle.outside.specs.Tray.{KeepsTray, TrayState}
use Rattle.page_files.specs.Assembly.{assembled}
use Rattle.page_files.specs.Inputs.{Sources, name_at, no_plate, plate_at}
use Rattle.page_model.specs.declared.parts.PageParts.{PageParts}
use Rattle.page_model.specs.declared.parts.Plane.{Plane}
use Rattle.page_model.specs.Page.{height, maxval, width}
use Rattle.page_model.specs.Planes.{no_plane, plane_at}
use Rattle.pgm_plates.specs.declared.bounds.Bounds.TheVariants.{Sheet}
use Rattle.pgm_plates.specs.declared.header.Header.{Header}
use Rattle.pgm_plates.specs.declared.plate.Plate.{Plate as PlateRead}
use Rattle.pgm_plates.specs.declared.plate.PlateError.TheVariants.{Fault, ReadFault}
use Rattle.pgm_plates.specs.Laws.{FileFaultWithin}
use Rattle.pgm_plates.specs.Planes.{plane_of}
use Rattle.pgm_plates.specs.Rows.{IsWithin}
use Rattle.plate_rows.specs.Judged.{AreJudged, AreJudgedTo, ArePlates, JudgingStops}
use Rattle.plate_rows.specs.Judging.{JudgesPlates}
use Rattle.plate_rows.specs.Trays.{MayTakeFile as MayBeTaken, TakesFile as FileTaken, TakesFiles as FilesTaken, header_in as header_there}
use Rattle.common_errors.specs.declared.common.CommonError.{CommonError}
use Rattle.common_errors.specs.declared.common.CommonError.TheVariants.{Job as JobFails, Memory, NoDetails, Page, Plate, Read, Usage, Write}
use Rattle.sheet_geometry.specs.declared.budget.Budget.{Budget}
use Rattle.sheet_geometry.specs.CommonErrors.{sheet_error}
use Rattle.sheet_geometry.proofs.OutlineLemmas.{height_is, law_of, maxval_is, width_is}
use Rattle.sheet_files.specs.declared.planning.PlannedSheet.{PlannedSheet}
use Rattle.sheet_files.specs.declared.error.TrapsheetError.{TrapsheetError}
use Rattle.sheet_files.specs.declared.error.TrapsheetError.TheVariants.{Common}
use Rattle.sheet_files.specs.Inputs.{AreSpelled, Spells, plates_by}
use Rattle.sheet_files.specs.Judging.{AnswersJudging, JudgesSheet, header_in}
use Rattle.sheet_files.specs.Planning.{CanPlan, HaveHeaders, MakesWhole, PlansSheet, header_of}
use Rattle.sheet_files.specs.SheetFiles.{IsSheetFile, IsSheetPlate}
use Rattle.sheet_files.specs.Steps.{MayTakeFile, ReadsFirst, ReadsPlates, StopsAt, TakesFile, TakesFiles}
use Rattle.plate_rows.specs.Trays.{tray_at}
use Rattle.sheet_files.specs.Trays.{AllTell}
use Rattle.sheet_files.proofs.GatherLemmas.{IsReady, no_memory_left, plates_refused, sheet_ready, sheet_refused_as}
use Rattle.sheet_files.proofs.TrayLemmas.{keeps_is}

-- ---- how plates that were judged were read

taken_file : (name : List ℕ) (a b : TrayState) → FileTaken name a b → TakesFile name a b
taken_file name a b takes = record {
  keeps = takes.keeps;
  asked = takes.asked;
  few = record { bytes = takes.bytes; taken = takes.taken; few = takes.few };
}

may_take : (name : List ℕ) (a b : TrayState) → MayBeTaken name a b → MayTakeFile name a b
may_take name a b (inl same) = inl same
may_take name a b (inr takes) = inr (taken_file name a b takes)

-- where all are taken
taken_files : (names : List (List ℕ)) (a b : List TrayState) → FilesTaken names (length names) a b → TakesFiles names (length names) a b
taken_files names a b takes = record {
  each = λ k less. taken_file (name_at names k) (tray_at a k) (tray_at b k) (takes.each k less);
  later = λ k more less. absurd (omega arith);
  others = takes.others;
}

-- where one is the first that is refused
taken_to : (names : List (List ℕ)) (headers : List Header) (k : ℕ) (a b : List TrayState) → AreJudgedTo names headers k a b → TakesFiles names (k + 1) a b
taken_to names headers k a b to = record {
  each = λ j less. taken_file (name_at names j) (tray_at a j) (tray_at b j) (to.takes j (omega arith));
  later = λ j past less. may_take (name_at names j) (tray_at a j) (tray_at b j) (to.later j (omega arith) less);
  others = to.others;
}

spelled : (names : List (List ℕ)) (headers : List Header) (count : ℕ) (a : List TrayState) (read : List PlateRead) → ArePlates names headers count a read → AllTell count a → AreSpelled (plates_by a names) count read
spelled names headers count a read are tells = record { all = are.all; each = λ k less. are.reported k less (tells k less) }

stops : (names : List (List ℕ)) (headers : List Header) (k : ℕ) (a b : List TrayState) → AreJudgedTo names headers k a b → StopsAt names k a b
stops names headers k a b to = record {
  known = to.known;
  takes = taken_to names headers k a b to;
  calm = to.calm;
  plates = to.plates;
  before_it = spelled names headers k a to.plates to.are_plates;
}

-- a plate is refused
pub read_refused : JudgingStops → FileFaultWithin Sheet → (names : List (List ℕ)) (headers : List Header) (a b : List TrayState) (common_error : CommonError) → length names ≤ length headers → JudgesPlates names headers a b (Err common_error) → ReadsPlates names a b (Err (Common common_error))
read_refused law faults names headers a b (Plate k fault) long there =
    let reads = there.here in
    ReadsPlates.fails k fault refl (stops names headers k a b (law names headers k (Fault fault) a b long there)) reads.count (faults (name_at names k) (tray_at a k) (tray_at b k) fault reads)
read_refused law faults names headers a b (Read (Some k)) long there =
    let reads = there.here in
    ReadsPlates.unread k refl (stops names headers k a b (law names headers k ReadFault a b long there)) reads.answer.0 (λ begun tells. (reads.bytes, reads.taken begun tells, reads.answer.1))
read_refused law faults names headers a b (Read None) long there = absurd there
read_refused law faults names headers a b (JobFails fault) long there = absurd there
read_refused law faults names headers a b (NoDetails plate) long there = absurd there
read_refused law faults names headers a b (Page fault) long there = absurd there
read_refused law faults names headers a b (Write file) long there = absurd there
read_refused law faults names headers a b Memory long there = absurd there
read_refused law faults names headers a b Usage long there = absurd there

pub plate_refused : JudgingStops → FileFaultWithin Sheet → (source : Sources) (budget : Budget) (headers : List Header) (a b c : List TrayState) (job : Job) (common_error : CommonError) → 1 ≤ length source.inputs → length source.names ≡ length source.inputs → length source.inputs ≤ length headers → ReadsFirst source.job a b (Ok job) → JudgesPlates source.inputs headers b c (Err common_error) → JudgesSheet source budget a c (Err (Common common_error))
plate_refused law faults source budget headers a b c job common_error some named long first there =
    plates_refused source budget a b c job (Common common_error) some named first (read_refused law faults source.inputs headers b c common_error long there)

-- ---- all plates are judged

-- the headers of the plates can be planned
pub can_plan : (names inputs : List (List ℕ)) (headers : List Header) (a b : List TrayState) → AreJudged inputs headers a b → 1 ≤ length inputs → length inputs ≤ 16 → length names ≡ length inputs → CanPlan (take (length inputs) headers) names
can_plan names inputs headers a b judged some few named =
    let are = judged.are_plates in
    let count : length (take (length inputs) headers) ≡ length inputs = sym (ap length are.same) ∙ length-map judged.plates header_there ∙ are.all in
    record {
      some = omega (arith, some, count);
      few = omega (arith, few, count);
      named = named ∙ sym count;
      in_range = subst (All (IsWithin Sheet)) are.same (λ k d within.
          (let here : k < length judged.plates = omega (arith, within, length-map judged.plates header_there) in
          subst (IsWithin Sheet) (sym (get_or-map header_there judged.plates k no_plate d here)) (plate_header (get_or judged.plates k no_plate) (are.in_range k no_plate here))));
    } where
      plate_header : (plate : PlateRead) → IsSheetPlate plate → IsWithin Sheet (header_there plate)
      plate_header plate is = record { width = is.width; height = is.height; product = is.product; positive = is.positive; maxval = is.maxval }

module _ (source : Sources) (budget : Budget) (headers : List Header) (a b c : List TrayState) (job : Job) (some : 1 ≤ length source.inputs) (named : length source.names ≡ length source.inputs) (first : ReadsFirst source.job a b (Ok job)) (judged : AreJudged source.inputs headers b c) where
  abbrev read : List PlateRead
  read = judged.plates

  have : HaveHeaders read (take (length source.inputs) headers)
  have = record { in_range = judged.are_plates.in_range; same = judged.are_plates.same }

  takes : TakesFiles source.inputs (length source.inputs) b c
  takes = taken_files source.inputs b c judged.takes

  reported : AllTell (length source.inputs) b → AreSpelled (plates_by b source.inputs) (length source.inputs) read
  reported = spelled source.inputs headers (length source.inputs) b read judged.are_plates

  -- the job left each tray of the same files
  job_keeps : (k : ℕ) → KeepsTray (tray_at a k) (tray_at b k)
  job_keeps zero = first.first.keeps
  job_keeps (suc k) = keeps_is (tray_at a (suc k)) (tray_at b (suc k)) (first.others (suc k) (omega arith))

  plane_is : (k : ℕ) → k < length read → plane_at (assembled job read source.names).planes k ≡ plane_of (plate_at read k)
  plane_is k l = get_or-map plane_of read k no_plate no_plane l

  -- each plate has the sheet's header
  header_is : (outline : PageParts) (k : ℕ) → MakesWhole job read source.names outline → k < length read → header_of (plate_at read k) ≡ header_in outline
  header_is outline k whole l =
      let sheet = assembled job read source.names in
      let plane = plane_is k l in
      let agrees = whole.sheet.agree k (omega (arith, l, length-map read plane_of)) in
      let wide : (plate_at read k).width ≡ width outline = sym (ap (λ (p : Plane). p.width) plane) ∙ agrees.wide ∙ sym (width_is sheet) ∙ ap width whole.same in
      let tall : (plate_at read k).height ≡ height outline = sym (ap (λ (p : Plane). p.height) plane) ∙ agrees.tall ∙ sym (height_is sheet) ∙ ap height whole.same in
      let deep : (plate_at read k).maxval ≡ maxval outline = sym (ap (λ (p : Plane). p.maxval) plane) ∙ agrees.deep ∙ sym (maxval_is sheet) ∙ ap maxval whole.same in
      λ i. record { width = wide i; height = tall i; maxval = deep i }

  header_reported : (outline : PageParts) (k : ℕ) → MakesWhole job read source.names outline → k < length source.inputs → IsTrue (tray_at a k).tells → Spells (plates_by a source.inputs k) (λ bytes. (plate : PlateRead) × IsSheetFile bytes plate × (header_of plate ≡ header_in outline))
  header_reported outline k whole less tells =
      let there = judged.are_plates.reported k less ((job_keeps k).tells ∙ tells) in (
        there.0,
        ap (λ (files : List ℕ → Option (List ℕ)). files (name_at source.inputs k)) (sym (job_keeps k).file) ∙ there.1,
        (plate_at read k, there.2, header_is outline k whole (omega (arith, less, judged.are_plates.all))),
      )

  ready : (planned : PlannedSheet) → MakesWhole job read source.names planned.outline → sheet_error planned.outline ≡ None → IsReady source a c (assembled job read source.names)
  ready planned whole accepted = sheet_ready source a b c job read (assembled job read source.names) some named first judged.are_plates.all takes judged.calm reported whole.made whole.sheet
      (sym (law_of (assembled job read source.names)).same_error ∙ ap sheet_error whole.same ∙ accepted)

  pub sheet_judged : (result : Result PlannedSheet TrapsheetError) → PlansSheet budget job (take (length source.inputs) headers) source.names result → JudgesSheet source budget a c result
  sheet_judged result (PlansSheet.planned planned is valid blank accepted count plan makes) =
      let whole = makes read have in
      let here = ready planned whole accepted in
      record {
        takes = here.takes;
        answer = AnswersJudging.judged planned is (record {
          valid = valid;
          blank = blank;
          accepted = accepted;
          plan = plan;
          sheet = assembled job read source.names;
          made = here.made;
          same = whole.same;
          headers = λ k less tells. header_reported planned.outline k whole less tells;
        }) here.asks here.calm;
      }
  sheet_judged result (PlansSheet.refused error is refuses) =
      subst (λ (r : Result PlannedSheet TrapsheetError). JudgesSheet source budget a c r) (sym is)
      (sheet_refused_as source budget a b c job read some named first judged.are_plates.all takes judged.calm reported error (refuses read have))
  sheet_judged result (PlansSheet.no_memory is) =
      subst (λ (r : Result PlannedSheet TrapsheetError). JudgesSheet source budget a c r) (sym is)
      (no_memory_left source budget a b c job read some named first judged.are_plates.all takes judged.calm reported)
