-- How a command ends, from how its sheet was judged and put out.
use Rattle.std.proofs.Common.{◌≡◌, ◌⊎◌, ℕ, ◌<◌, ◌≤◌, List, Bor, length, map, Some, None, Result, Ok, Err, inl, inr, refl, sym, ap, ◌∙◌, subst, arith}
use Rattle.std.proofs.lemmas.Bool.{cases_lt}
use Rattle.std.proofs.lemmas.List.{length-map}
use Rattle.sheet_geometry.specs.Outline.{outline_sheet}
use Rattle.sheet_geometry.specs.Begun.{BeginsWith}
use Rattle.sheet_geometry.proofs.OutlineLemmas.{plates_is}
use Rattle.outside.specs.Rack.{RackState}
use Rattle.outside.specs.Tray.{TrayState}
use Rattle.page_files.specs.Inputs.{Sources, name_at}
use Rattle.page_model.specs.declared.parts.PageParts.{PageParts}
use Rattle.page_model.specs.Page.{plates}
use Rattle.page_model.specs.Tints.{trapped_planes}
use Rattle.pgm_plates.specs.declared.bounds.Bounds.TheVariants.{Sheet}
use Rattle.pgm_plates.specs.declared.rows.OpenPlate.{OpenPlate}
use Rattle.pgm_plates.specs.Reading.{ReadsPlateWithin}
use Rattle.pgm_plates.specs.Rows.{plate_with}
use Rattle.plain_words.specs.Parts.{PlateNames}
use Rattle.plate_rows.specs.Laws.{NoChange}
use Rattle.plate_rows.specs.Rereading.{HaveRead, StopsReading}
use Rattle.plate_rows.specs.Trays.{EachTray, TakesFiles}
use Rattle.plate_rows.specs.declared.error.RereadError.{RereadError}
use Rattle.plate_rows.specs.declared.error.RereadError.TheVariants.{Changed as ChangedAgain, Unread}
use Rattle.plate_rows.proofs.ErrorLemmas.{went_whole}
use Rattle.common_errors.specs.declared.common.CommonError.TheVariants.{Memory, Read, Write}
use Rattle.sheet_geometry.specs.declared.budget.Budget.{Budget}
use Rattle.sheet_files.specs.declared.planning.PlannedSheet.{PlannedSheet}
use Rattle.sheet_files.specs.declared.error.TrapsheetError.{TrapsheetError}
use Rattle.sheet_files.specs.declared.error.TrapsheetError.TheVariants.{Common}
use Rattle.sheet_files.specs.Gathering.{AsksAll, IsMadeSheet, TakesTrays, TakesTwice}
use Rattle.sheet_files.specs.Judging.{AnswersJudging, IsJudged, JudgesSheet}
use Rattle.sheet_files.specs.Rereading.{SheetIsReread, tints_read}
use Rattle.plate_rows.specs.Trays.{IsCalm, tray_at}
use Rattle.sheet_stream.specs.Courses.{Course}
use Rattle.sheet_stream.specs.Second.{IsDone, IsUnread, IsUnwritten, course_of, sheet_header}
use Rattle.sheet_stream.specs.RowReading.{HaveHeader}
use Rattle.sheet_engine.specs.Whole.{IsCounted}
use Rattle.sheet_engine.specs.declared.counts.SheetCounts.{SheetCounts}
use Rattle.page_files.specs.Verdicts.{Targets}
use Rattle.trapsheet_cli.specs.Endings.{AsksAllTwice, Carries, CarriesOut, PutsOut}
use Rattle.sheet_files.specs.Reporting.{sheet_report}
use Rattle.trapsheet_cli.specs.Planned.{PutsPlanned, PutsWhole}
use Rattle.plate_rows.specs.Racks.{rack_at}
use Rattle.sheet_files.specs.Racks.{HoldParts, KeepsRacks, WritesFirst}
use Rattle.sheet_files.specs.Streaming.{EndsReport, StreamsOut}
use Rattle.sheet_files.specs.Errors.{error_of}
use Rattle.trapsheet_cli.specs.Strips.{HasNoStrips}
use Rattle.trapsheet_cli.specs.Files.{sources_of, targets_of}
use Rattle.trapsheet_cli.specs.Words.{SheetWords}
use Rattle.trapsheet_cli.proofs.AgainLemmas.{fails_again, has_changed, takes_once, takes_to, takes_twice, twice}
use Rattle.trapsheet_cli.proofs.PartLemmas.{breaks_keep, hold_parts, parts_keep, plate_breaks, writes_first}
use Rattle.sheet_files.proofs.RackLemmas.{all_keeps, all_wrote, racks_same, report_broke}

-- The sheet was not judged.
module _ (order : SheetWords) (budget : Budget) (a b : List TrayState) (r : List RackState) where
  not_made : (error : TrapsheetError) → TakesTrays (sources_of order) a b → AnswersJudging (sources_of order) budget a b (Err error) → Carries (sources_of order) (targets_of order) a b r r (Err error)
  not_made error takes (AnswersJudging.judged sheet is judged asks calm) = absurd (cc)
  not_made error takes (AnswersJudging.refused other is refuses) = (let same : error ≡ other = cc in Carries.refused other (ap (λ (s : TrapsheetError). Err s) same) refuses takes refl)
  not_made error takes (AnswersJudging.unread file is fails) = (let same : error ≡ Common (Read file) = cc in Carries.unread file (ap (λ (s : TrapsheetError). Err s) same) fails takes refl)
  not_made error takes (AnswersJudging.no_memory is calm) = (let same : error ≡ Common Memory = cc in Carries.no_memory (ap (λ (s : TrapsheetError). Err s) same) calm (inl takes) refl)

  pub not_judged : (error : TrapsheetError) → JudgesSheet (sources_of order) budget a b (Err error) → CarriesOut order a b r r (Err error)
  not_judged error judges = record {
    takes = takes_once (sources_of order) a b judges.takes;
    keeps = racks_same (targets_of order) r;
    answer = not_made error judges.takes judges.answer;
  }

-- What is known of a sheet that was judged.
pub record Ready (source : Sources) (budget : Budget) (a b : List TrayState) (judged : PlannedSheet) : Type 0 where
  pub takes : TakesTrays source a b
  pub is : IsJudged source budget a judged
  pub asks : (k : ℕ) → k < length source.inputs → AsksAll source a b k
  pub calm : (k : ℕ) → IsCalm a b k

ready_by : (source : Sources) (budget : Budget) (a b : List TrayState) (judged : PlannedSheet) → TakesTrays source a b → AnswersJudging source budget a b (Ok judged) → Ready source budget a b judged
ready_by source budget a b judged takes (AnswersJudging.judged other same is asks calm) =
    let here : other ≡ judged = cc in
    record { takes = takes; is = subst (λ (j : PlannedSheet). IsJudged source budget a j) here is; asks = asks; calm = calm }
ready_by source budget a b judged takes (AnswersJudging.refused error is refuses) = absurd (cc)
ready_by source budget a b judged takes (AnswersJudging.unread file is fails) = absurd (cc)
ready_by source budget a b judged takes (AnswersJudging.no_memory is calm) = absurd (cc)

pub ready : (source : Sources) (budget : Budget) (a b : List TrayState) (judged : PlannedSheet) → JudgesSheet source budget a b (Ok judged) → Ready source budget a b judged
ready source budget a b judged judges = ready_by source budget a b judged judges.takes judges.answer

-- as many plates as files
pub inputs_count : (source : Sources) (budget : Budget) (a b : List TrayState) (judged : PlannedSheet) → Ready source budget a b judged → length source.inputs ≡ plates judged.outline
inputs_count source budget a b judged read = sym read.is.made.count ∙ sym (plates_is read.is.sheet) ∙ ap plates read.is.same

pub as_many_files : (source : Sources) (budget : Budget) (a b : List TrayState) (judged : PlannedSheet) → Ready source budget a b judged → (files : List (Bor (List ℕ))) → map (λ (f : Bor (List ℕ)). f.now) files ≡ source.inputs → length files ≡ plates judged.outline
as_many_files source budget a b judged read files named =
    sym (length-map files (λ (f : Bor (List ℕ)). f.now)) ∙ ap (λ (l : List (List ℕ)). length l) named ∙ inputs_count source budget a b judged read

-- Plates that were read whole once more.
module _ (inputs : List (List ℕ)) (count : ℕ) (outline : PageParts) (samples : ℕ → List ℕ) (b c : List TrayState) (whole : EachTray count (λ k before after. ReadsPlateWithin Sheet (name_at inputs k) before after (Ok (plate_with (sheet_header outline) (samples k)))) b c) where
  whole_takes : TakesFiles inputs count b c
  whole_takes = record {
    each = λ k less. (went_whole (name_at inputs k) (tray_at b k) (tray_at c k) (plate_with (sheet_header outline) (samples k)) (whole.each k less)).takes;
    others = whole.others;
  }

  whole_calm : (k : ℕ) → IsCalm b c k
  whole_calm k = elim (cases_lt k count) [
    | inl less ↦ (went_whole (name_at inputs k) (tray_at b k) (tray_at c k) (plate_with (sheet_header outline) (samples k)) (whole.each k less)).calm
    | inr more ↦ ap (λ (t : TrayState). t.faults) (whole.others k (omega arith))
  ]

-- A sheet that was judged is put out.
module _ (reread : SheetIsReread) (law : NoChange) (order : SheetWords) (budget : Budget) (a b : List TrayState) (r : List RackState) (judged : PlannedSheet) (read : Ready (sources_of order) budget a b judged) where
  abbrev source : Sources
  source = sources_of order

  abbrev target : Targets
  target = targets_of order

  abbrev outline : PageParts
  outline = judged.outline

  count : length source.inputs ≡ plates outline
  count = inputs_count source budget a b judged read

  many : length target.outputs ≡ plates outline
  many = length-map order.plates (λ (p : PlateNames). p.output) ∙ sym (length-map order.plates (λ (p : PlateNames). p.input)) ∙ count

  -- the sheet of which all that was read again is the beginning
  Made : (ℕ → List ℕ) → Type 0
  Made samples = (sheet : PageParts) × IsMadeSheet source a sheet × BeginsWith outline (tints_read outline samples) sheet

  made_of : (begun : List OpenPlate) (samples : ℕ → List ℕ) (between : List TrayState) → HaveHeader outline begun → HaveRead source.inputs begun (length begun) samples b between → Made samples
  unfolding Made
  made_of begun samples between headers have = reread source budget judged begun samples a b between read.takes read.is (record {
    count = headers.count ∙ sym count;
    headers = λ k less. headers.each k (let c = headers.count in let d = count in omega (arith, less, c, d));
    read = subst (λ (n : ℕ). HaveRead source.inputs begun n samples b between) (headers.count ∙ sym count) have;
  })

  module _ (c : List TrayState) where
    not_again : c ≡ b → TakesTrays source a c
    not_again same = subst (λ (t : List TrayState). TakesTrays source a t) (sym same) read.takes

    calm_still : c ≡ b → (k : ℕ) → IsCalm a c k
    calm_still same = subst (λ (t : List TrayState). (k : ℕ) → IsCalm a t k) (sym same) read.calm

    -- out of memory before the second reading
    no_workspace : (s : List RackState) (result : Result (Unit {0}) TrapsheetError) → result ≡ Err (Common Memory) → c ≡ b → s ≡ r → CarriesOut order a c r s result
    no_workspace s result is same stay = record {
      takes = takes_once source a c (not_again same);
      keeps = subst (λ (t : List RackState). KeepsRacks target r t) (sym stay) (racks_same target r);
      answer = Carries.no_memory is (calm_still same) (inl (not_again same)) stay;
    }

    -- The second reading stopped at a plate, and of each plate a prefix stands at most.
    module _ (s : List RackState) (sheet : PageParts) (made : IsMadeSheet source a sheet) (again : (s ≡ r) ⊎ AsksAllTwice source a c) (parts : HoldParts target (trapped_planes sheet) r s) (keeps : KeepsRacks target r s) (result : Result (Unit {0}) TrapsheetError) where
      stops_at : (error : RereadError) → result ≡ Err (error_of error) → StopsReading source.inputs (λ k. sheet_header outline) (length source.inputs) b c error → CarriesOut order a c r s result
      stops_at (ChangedAgain k) is stops = record {
        takes = takes_to source a b c read.takes read.asks read.calm k stops.0;
        keeps = keeps;
        answer = Carries.changed sheet k is made (has_changed source a b c read.takes read.asks read.calm k stops.0 law budget judged read.is stops.1) again parts;
      }
      stops_at (Unread k) is stops = record {
        takes = takes_to source a b c read.takes read.asks read.calm k stops.0;
        keeps = keeps;
        answer = Carries.unread_again sheet k is made (fails_again source a b c read.takes read.asks read.calm k stops.0 stops.1) again parts;
      }

      stops_in : (error : RereadError) → result ≡ Err (error_of error) → StopsReading source.inputs (λ k. sheet_header outline) (plates outline) b c error → CarriesOut order a c r s result
      stops_in error is stops = stops_at error is (subst (λ (n : ℕ). StopsReading source.inputs (λ k. sheet_header outline) n b c error) (sym count) stops)

    -- .. before a file was created
    stops_before : (s : List RackState) (result : Result (Unit {0}) TrapsheetError) (error : RereadError) → result ≡ Err (error_of error) → StopsReading source.inputs (λ k. sheet_header outline) (plates outline) b c error → s ≡ r → CarriesOut order a c r s result
    stops_before s result error is stops stay =
        stops_in s read.is.sheet read.is.made (inl stay) (λ k less. inl (ap (λ (t : List RackState). rack_at t k) stay))
        (subst (λ (t : List RackState). KeepsRacks target r t) (sym stay) (racks_same target r)) result error is stops

    -- All plates were opened again.
    opened_twice : TakesFiles source.inputs (plates outline) b c → AsksAllTwice source a c
    opened_twice takes k less = twice source a b c read.takes read.asks (plates outline) (let e = count in omega (arith, e)) takes k (let e = count in omega (arith, less, e))

    -- All plates were read once more.
    module _ (takes : TakesFiles source.inputs (plates outline) b c) (calm : (k : ℕ) → IsCalm b c k) where
      few : plates outline ≤ length source.inputs
      few = (let e = count in omega (arith, e))

      all_twice : AsksAllTwice source a c
      all_twice = opened_twice takes

      both_calm : (k : ℕ) → IsCalm a c k
      both_calm k = calm k ∙ read.calm k

      both_taken : TakesTwice source a c
      both_taken = takes_twice source a b c read.takes read.asks (plates outline) few takes

      -- a sheet that is held is put out
      puts_stored : (s : List RackState) (sheet : PageParts) (result : Result (Unit {0}) TrapsheetError) → IsMadeSheet source a sheet → HasNoStrips (outline_sheet sheet) → PutsOut target sheet r s result → CarriesOut order a c r s result
      puts_stored s sheet result made whole (PutsOut.wrote is wrote keeps) = record {
        takes = both_taken;
        keeps = keeps;
        answer = Carries.carried sheet is made all_twice both_calm wrote;
      }
      puts_stored s sheet result made whole (PutsOut.broke file is breaks keeps) = record {
        takes = both_taken;
        keeps = keeps;
        answer = Carries.unwritten sheet file is made all_twice both_calm breaks;
      }
      puts_stored s sheet result made whole (PutsOut.no_memory is stay) = record {
        takes = both_taken;
        keeps = subst (λ (t : List RackState). KeepsRacks target r t) (sym stay) (racks_same target r);
        answer = Carries.no_memory is both_calm (inr (record { sheet = sheet; made = made; whole = whole })) stay;
      }

      -- the report after plates that were written
      module _ (s between : List RackState) (sheet : PageParts) (made : IsMadeSheet source a sheet) (same : outline_sheet sheet ≡ outline) (counts : SheetCounts) (first : WritesFirst target.outputs (trapped_planes sheet) (length target.outputs) r between) (counted : IsCounted sheet counts) (some : 1 ≤ length target.outputs) where
        ends_report : (result : Result (Unit {0}) TrapsheetError) → EndsReport target.report outline counts between s result → CarriesOut order a c r s result
        ends_report result (EndsReport.wrote is wrote) = record {
          takes = both_taken;
          keeps = all_keeps target.outputs target.report (trapped_planes sheet) (sheet_report sheet) r between s some first wrote.others (Ok tt) (wrote.here sheet same counted);
          answer = Carries.carried sheet is made all_twice both_calm (all_wrote target.outputs target.report (trapped_planes sheet) (sheet_report sheet) r between s some first wrote.others tt (wrote.here sheet same counted));
        }
        ends_report result (EndsReport.broke failed is wrote) = record {
          takes = both_taken;
          keeps = all_keeps target.outputs target.report (trapped_planes sheet) (sheet_report sheet) r between s some first wrote.others (Err failed) (wrote.here sheet same counted);
          answer = Carries.unwritten sheet None is made all_twice both_calm (report_broke target.outputs target.report (trapped_planes sheet) (sheet_report sheet) r between s some first wrote.others failed (wrote.here sheet same counted));
        }

    abbrev course : Course
    course = course_of source.inputs target.outputs b r

    -- all plates are written, and then the report
    streams_done : (s : List RackState) (result : Result (Unit {0}) TrapsheetError) (counts : SheetCounts) (between : List RackState) → IsDone course outline (sheet_header outline) counts c between → EndsReport target.report outline counts between s result → CarriesOut order a c r s result
    unfolding Made
    streams_done s result counts between done ends =
        let was = done.was in
        let made = made_of was.begun was.samples was.between was.headers was.read in
        let begins = made.2 in
        let some = read.is.valid.parts.some_plates in
        let e = many in
        ends_report (whole_takes source.inputs (plates outline) outline was.samples b c done.whole) (whole_calm source.inputs (plates outline) outline was.samples b c done.whole)
        s between made.0 made.1 begins.same counts
        (writes_first source.inputs target.outputs target.report b r outline made.0 (sheet_header outline) refl begins.same many between (done.written made.0 begins))
        (done.counted made.0 begins) (omega (arith, some, e)) result ends

    streams_unread : (s : List RackState) (result : Result (Unit {0}) TrapsheetError) (error : RereadError) → result ≡ Err (error_of error) → IsUnread course outline (sheet_header outline) c s error → CarriesOut order a c r s result
    unfolding Made
    streams_unread s result error is un =
        let was = un.was in
        let made = made_of was.begun was.samples was.between was.headers was.read in
        let begins = made.2 in
        let stand = un.written made.0 begins in
        stops_in s made.0 made.1 (inr (opened_twice un.takes))
        (hold_parts source.inputs target.outputs target.report b r outline made.0 (sheet_header outline) refl begins.same many s stand)
        (parts_keep source.inputs target.outputs target.report b r outline made.0 (sheet_header outline) refl begins.same many s stand)
        result error is un.stops

    streams_unwritten : (s : List RackState) (result : Result (Unit {0}) TrapsheetError) (k : ℕ) → result ≡ Err (Common (Write (Some k))) → IsUnwritten course outline (sheet_header outline) c s k → CarriesOut order a c r s result
    unfolding Made
    streams_unwritten s result k is un =
        let was = un.was in
        let made = made_of was.begun was.samples was.between was.headers was.read in
        let begins = made.2 in
        let breaks = un.written made.0 begins in
        record {
          takes = both_taken un.takes un.calm;
          keeps = breaks_keep source.inputs target.outputs target.report b r outline made.0 (sheet_header outline) refl begins.same many s k breaks;
          answer = Carries.unwritten made.0 (Some k) is made.1 (all_twice un.takes un.calm) (both_calm un.takes un.calm)
              (plate_breaks source.inputs target.outputs target.report b r outline made.0 (sheet_header outline) refl begins.same many s k breaks);
        }

    streams : (s : List RackState) (result : Result (Unit {0}) TrapsheetError) → StreamsOut course target.report outline c s result → CarriesOut order a c r s result
    streams s result (StreamsOut.done counts between done ends) = streams_done s result counts between done ends
    streams s result (StreamsOut.not_begun error is stops stay) = stops_before s result error is stops stay
    streams s result (StreamsOut.unread error is un) = streams_unread s result error is un
    streams s result (StreamsOut.unwritten k is un) = streams_unwritten s result k is un
    streams s result (StreamsOut.no_memory is same stay) = no_workspace s result is same stay

    -- a sheet that is held is the one that the files make
    puts_whole : (s : List RackState) (result : Result (Unit {0}) TrapsheetError) → HasNoStrips outline → PutsWhole target source.inputs outline b c r s result → CarriesOut order a c r s result
    unfolding Made
    puts_whole s result none (PutsWhole.stored sheet stored out) =
        let made = made_of stored.begun stored.samples stored.between stored.headers stored.read in
        let begins = made.2 in
        puts_stored (whole_takes source.inputs (plates outline) outline stored.samples b c stored.whole) (whole_calm source.inputs (plates outline) outline stored.samples b c stored.whole)
        s made.0 result made.1 (subst HasNoStrips (sym begins.same) none)
        (subst (λ (p : PageParts). PutsOut target p r s result) (stored.same made.0 begins) out)
    puts_whole s result none (PutsWhole.stopped error is stops stay) = stops_before s result error is stops stay
    puts_whole s result none (PutsWhole.no_memory is same stay) = no_workspace s result is same stay

    pub carries_on : (s : List RackState) (result : Result (Unit {0}) TrapsheetError) → PutsPlanned target source.inputs outline b c r s result → CarriesOut order a c r s result
    carries_on s result (PutsPlanned.streamed out) = streams s result out
    carries_on s result (PutsPlanned.whole none out) = puts_whole s result none out
