-- The pages of a run, one after another.
use Rattle.std.proofs.Common.{◌≡◌, ℕ, suc, ◌<◌, ◌+◌, List, [], ◌∷◌, ◌++◌, length, take, All, Option, Some, None, Result, Ok, Err, IsTrue, ◌≤◌, inl, inr, refl, sym, ap, ◌∙◌, subst, arith}
use Rattle.std.proofs.Math.Seq.{take-append-add}
use Rattle.std.proofs.lemmas.List.{append_assoc, length-append, map-append}
use Rattle.std.proofs.lemmas.Option.{same_Some}
use Rattle.std.proofs.lemmas.List.Elements.{All-cons}
use Rattle.outside.specs.ErrorCases.{Asks, AsksPrefix}
use Rattle.outside.specs.Tray.{TrayState, KeepsTray}
use Rattle.outside.specs.Rack.{RackState, KeepsRack, put}
use Rattle.outside.proofs.Names.{asks_none, asks_then}
use Rattle.outside.proofs.Steps.{kept_then, kept_tray, once_before, rose_before}
use Rattle.page_files.specs.Inputs.{Sources, AreRead, Makes, name_at}
use Rattle.page_files.specs.Steps.{TakesJob}
use Rattle.page_files.proofs.GatherLemmas.{count_then}
use Rattle.page_model.specs.declared.parts.PageParts.{PageParts}
use Rattle.page_model.specs.Conditions.{IsPage}
use Rattle.page_model.specs.Counts.{page_counts}
use Rattle.page_model.specs.Tints.{trapped_planes}
use Rattle.traprun_cli.specs.Endings.{AnswersRun, PagesDone, Runs, Written}
use Rattle.traprun_cli.specs.Paging.{AnswersStep, Steps, StepsPage}
use Rattle.page_files.specs.Files.{Written as File, names_of, plate_files, put_all}
use Rattle.page_files.specs.Writing.{FinishesAll, WritesAll}
use Rattle.page_files.proofs.Steps.{wrote_none}
use Rattle.traprun_cli.specs.Gathering.{IsJobOf, IsPageMade, StopsPage}
use Rattle.traprun_cli.specs.InHand.{InHand, MayHold}
use Rattle.traprun_cli.specs.Reading.{AreUnbroken}
use Rattle.page_files.proofs.LookLemmas.{stored_before, taken_before}
use Rattle.traprun_cli.specs.declared.error.TraprunError.{TraprunError}
use Rattle.traprun_cli.specs.declared.error.TraprunError.TheVariants.{AtPage, Ends}
use Rattle.traprun_cli.specs.Images.{page_decoder}
use Rattle.traprun_cli.specs.Pages.{AreMade, pages_of, run_files, run_names, run_reads, target_at}
use Rattle.traprun_cli.specs.RunVerdicts.{ComesTo, PlateEnds}
use Rattle.common_errors.specs.declared.common.CommonError.TheVariants.{Read, Write}
use Rattle.trap_report.specs.Report.{report_of}
use Rattle.page_files.specs.Verdicts.{Targets, IsVerdict, Refused, outcome, written_names}

put_both : (files more : List File) (stored : List ℕ → Option (List ℕ)) → put_all (files ++ more) stored ≡ put_all more (put_all files stored)
put_both [] more stored = refl
put_both (f ∷ fs) more stored = put_both fs more (put f.name f.bytes stored)

-- names that were handed out, and then a prefix of others
pub prefix_more : (a m b : Option (List (List ℕ))) (xs ys : List (List ℕ)) → Asks a m xs → AsksPrefix m b ys → AsksPrefix a b (xs ++ ys)
prefix_more a m None xs ys one two = tt
prefix_more a None (Some every) xs ys one two = absurd (let e : None ≡ Some two.0 = two.2 in cc)
prefix_more a (Some mid) (Some every) xs ys one two =
    let same : mid ≡ two.0 = same_Some mid two.0 two.2 in
    (one.0, length xs + two.1, one.1, two.3 ∙ ap (λ (l : List (List ℕ)). l ++ take two.1 ys) (sym same ∙ one.2) ∙ append_assoc one.0 xs (take two.1 ys) ∙ ap (λ (l : List (List ℕ)). one.0 ++ l) (sym (take-append-add xs ys two.1)))

-- files that are finished, and then others
finished_both : (names more : List (List ℕ)) (a b c : RackState) → KeepsRack a b → FinishesAll names a b → FinishesAll more b c → FinishesAll (names ++ more) a c
finished_both names more a b c keeps one two tells = asks_then a.finished b.finished c.finished names more (one tells) (two (keeps.tells ∙ tells))

-- some files and then others
wrote_both : (files more : List File) (a b c : RackState) → KeepsRack a b → 0 < length more → WritesAll files a b → WritesAll more b c → WritesAll (files ++ more) a c
wrote_both files more a b c keeps some first then = record {
  asked = subst (λ (names : List (List ℕ)). Asks a.asked c.asked names) (sym (map-append (λ (f : File). f.name) files more)) (asks_then a.asked b.asked c.asked (names_of files) (names_of more) first.asked then.asked);
  finished = subst (λ (names : List (List ℕ)). FinishesAll names a c) (sym (map-append (λ (f : File). f.name) files more)) (finished_both (names_of files) (names_of more) a b c keeps first.finished then.finished);
  whole = λ tells. then.whole (keeps.tells ∙ tells) ∙ ap (put_all more) (first.whole tells) ∙ sym (put_both files more a.file);
  shut = λ any. then.shut some;
  well = then.well ∙ first.well;
}

-- there is a file at least: the report
some_files : (target : Targets) (page : PageParts) → 0 < length (outcome target page)
some_files target page = let long = length-append (plate_files target.outputs (trapped_planes page)) (record { name = target.report; bytes = report_of page (page_counts page) } ∷ []) in omega (arith, long)

-- and in a run of some pages
pub some_run_files : (target : Targets) (pages : List PageParts) → 0 < length pages → 0 < length (run_files target pages)
some_run_files target [] some = absurd (omega arith)
some_run_files target (page ∷ earlier) some = let long = length-append (run_files target earlier) (outcome (target_at target (length earlier)) page) in let last = some_files (target_at target (length earlier)) page in omega (arith, long, last)

-- no page yet
pub no_page_done : (source : Sources) (target : Targets) (t b : TrayState) (r : RackState) → KeepsTray t b → b.faults ≡ t.faults → Asks t.asked b.asked (run_reads source 0) → TakesJob source.job t b → PagesDone source target t b r r []
no_page_done source target t b r keeps calm asked few = record {
  tray_keeps = keeps;
  rack_keeps = record { tells = refl; faults = omega arith };
  reported = λ tells. refl;
  in_hand = inl few;
  written = record {
    valid = λ k d within. absurd (omega arith);
    made = λ tells. tt;
    calm = calm;
    asked = asked;
    created = asks_none r.asked;
    finished = λ tells. asks_none r.finished;
    wrote = wrote_none [] r refl;
  };
}

stored_up : (source : Sources) (n k : ℕ) (t b : TrayState) → n ≤ k → InHand source n t b → InHand source k t b
stored_up source n k t b le (inl job) = inl job
stored_up source n k t b le (inr (inl same)) = inr (inl same)
stored_up source n k t b le (inr (inr stored)) = inr (inr (record { plate = stored.plate; known = stored.known; page = stored.page; within = omega (arith, stored.within); takes = stored.takes }))

-- what is in hand, seen from the tray as it was at first
may_from : (source : Sources) (n k : ℕ) (t b c : TrayState) → n ≤ k → KeepsTray t b → InHand source n t b → MayHold source.inputs k b c → InHand source k t c
may_from source n k t b c le keeps before (inl same) = subst (λ (x : TrayState). InHand source k t x) (sym same) (stored_up source n k t b le before)
may_from source n k t b c le keeps before (inr stored) = inr (inr (record {
  plate = stored.plate;
  known = stored.known;
  page = stored.page;
  within = stored.within;
  takes = record { bytes = stored.takes.bytes; taken = λ begun tells. ap (λ (files : List ℕ → Option (List ℕ)). files (name_at source.inputs stored.plate)) (sym keeps.file) ∙ stored.takes.taken begun (keeps.tells ∙ tells); few = stored.takes.few };
}))

-- a fact of the files, seen from the tray as it was at first
from_first : (t b : TrayState) (Fact : (List ℕ → Option (List ℕ)) → Type 0) → KeepsTray t b → (IsTrue b.tells → Fact b.file) → IsTrue t.tells → Fact t.file
from_first t b Fact keeps there tells = subst Fact keeps.file (there (keeps.tells ∙ tells))

module _ (source : Sources) (target : Targets) (t b c : TrayState) (r r1 r2 : RackState) (pages : List PageParts) (done : PagesDone source target t b r r1 pages) (keeps : KeepsTray b c) where
  made_more : (page : PageParts) → IsPageMade source (length pages) b c page → IsTrue t.tells → AreMade t.file source (page ∷ pages)
  made_more page made tells = (
    done.written.made tells,
    from_first t b (λ files. Makes (page_decoder (length pages)) files source (Ok page)) done.tray_keeps made.makes tells,
  )

  valid_more : (page : PageParts) → IsPage page → All IsPage (page ∷ pages)
  valid_more page valid = All-cons IsPage page pages valid done.written.valid

  asked_more : (names : List (List ℕ)) → Asks b.asked c.asked names → Asks t.asked c.asked (run_reads source (length pages) ++ names)
  asked_more names asked = asks_then t.asked b.asked c.asked (run_reads source (length pages)) names done.written.asked asked

  pub hold_more : MayHold source.inputs (length pages) b c → InHand source (length pages) t c
  hold_more stored = may_from source (length pages) (length pages) t b c (omega arith) done.tray_keeps done.in_hand stored

  pub record More : Type 0 where
    pub page : PageParts
    pub more : PagesDone source target t c r r2 (page ∷ pages)

  written_by : Steps source target (length pages) b c r1 r2 (Ok tt) → AnswersStep source target (length pages) b c r1 r2 (Ok tt) → More
  written_by steps (AnswersStep.written page is valid made wrote created finished) = record {
    page = page;
    more = record {
      tray_keeps = kept_tray t b c done.tray_keeps keeps;
      rack_keeps = kept_then r r1 r2 done.rack_keeps steps.rack_keeps;
      reported = λ tells. steps.reported (done.rack_keeps.tells ∙ tells) ∙ done.reported tells;
      in_hand = stored_up source (length pages) (suc (length pages)) t c (omega arith) (hold_more steps.in_hand);
      written = record {
        valid = valid_more page valid;
        made = made_more page made;
        calm = made.calm ∙ done.written.calm;
        asked = asked_more source.inputs made.asked;
        created = asks_then r.asked r1.asked r2.asked (run_names target (length pages)) (written_names (target_at target (length pages))) done.written.created created;
        finished = finished_both (run_names target (length pages)) (written_names (target_at target (length pages))) r r1 r2 done.rack_keeps done.written.finished finished;
        wrote = wrote_both (run_files target pages) (outcome (target_at target (length pages)) page) r r1 r2 done.rack_keeps (some_files (target_at target (length pages)) page) done.written.wrote wrote;
      };
    };
  }
  written_by steps (AnswersStep.stopped error is same stops) = absurd (let e : ◌≡◌ {A = Result (Unit {0}) TraprunError} (Ok tt) (Err error) = is in cc)
  written_by steps (AnswersStep.unwritten page file is valid made breaks created once) = absurd (let e : ◌≡◌ {A = Result (Unit {0}) TraprunError} (Ok tt) (Err (AtPage (length pages) (Write file))) = is in cc)

  -- one page more
  pub one_more : Steps source target (length pages) b c r1 r2 (Ok tt) → More
  one_more steps = written_by steps steps.answer

  module _ (bytes : List ℕ) (count : ℕ) (known : IsJobOf source bytes t) (has : pages_of bytes ≡ Ok count) (within : length pages < count) where
    comes_to : IsTrue t.tells → ComesTo t.file source (length pages)
    comes_to tells = record { count = count; has = (bytes, known tells, has); within = within; pages = pages; number = refl; made = done.written.made tells }

    stopped_by : (error : TraprunError) → r2 ≡ r1 → InHand source (length pages) t c → StopsPage source (length pages) b c error → AnswersRun source target t c r r2 (Err error)
    stopped_by error same in_hand (StopsPage.refused common_error is which passes asked verdict) =
        subst (λ (s : TraprunError). AnswersRun source target t c r r2 (Err s)) (sym is)
        (AnswersRun.refused pages b (AtPage (length pages) common_error) refl which (subst (λ (x : RackState). Written source target t b r x pages) (sym same) done.written)
        refl
        (count_then (Unit {0}) (Unit {0}) t b c common_error done.written.calm passes)
        (asked_more _ asked)
        (λ tells. (comes_to tells, from_first t b (λ files. IsVerdict (page_decoder (length pages)) files source (target_at target (length pages)) (Refused common_error)) done.tray_keeps (λ there. verdict there (target_at target (length pages))) tells)) in_hand)
    stopped_by error same in_hand (StopsPage.ends plate is calm asked ends) =
        subst (λ (s : TraprunError). AnswersRun source target t c r r2 (Err s)) (sym is)
        (AnswersRun.refused pages b (Ends (length pages) plate) refl (inr refl) (subst (λ (x : RackState). Written source target t b r x pages) (sym same) done.written)
        refl
        (calm ∙ done.written.calm)
        (asked_more _ asked)
        (λ tells. (comes_to tells, from_first t b (λ files. PlateEnds files source (length pages) plate) done.tray_keeps ends tells)) in_hand)
    stopped_by error same in_hand (StopsPage.unread plate is rose asked breaks) =
        subst (λ (s : TraprunError). AnswersRun source target t c r r2 (Err s)) (sym is)
        (AnswersRun.unread pages b (AtPage (length pages) (Read (Some plate))) refl refl (subst (λ (x : RackState). Written source target t b r x pages) (sym same) done.written)
        (rose_before t.faults b.faults c.faults done.tray_keeps.faults rose)
        (asked_more _ asked) (
          refl,
          (λ tells. (count, (bytes, known tells, has))),
          record {
            job = breaks.job;
            plates = breaks.plates;
            job_read = λ tells. stored_before t b source.job (λ all. (page_decoder (length pages)).job all ≡ Ok breaks.job) done.tray_keeps breaks.job_read tells;
            before_it = from_first t b (λ files. AreRead (page_decoder (length pages)) files source.inputs plate breaks.plates) done.tray_keeps breaks.before_it;
            in_hand = taken_before (AreUnbroken (length pages)) t b c (name_at source.inputs plate) done.tray_keeps breaks.in_hand;
          },
        ) in_hand)
    stopped_by error same in_hand (StopsPage.no_memory is calm asked) =
        subst (λ (s : TraprunError). AnswersRun source target t c r r2 (Err s)) (sym is)
        (AnswersRun.no_memory pages b refl (subst (λ (x : RackState). Written source target t b r x pages) (sym same) done.written) (calm ∙ done.written.calm) (prefix_more t.asked b.asked c.asked (run_reads source (length pages)) source.inputs done.written.asked asked) in_hand)

    step_stopped : (error : TraprunError) → KeepsRack r1 r2 → InHand source (length pages) t c → AnswersStep source target (length pages) b c r1 r2 (Err error) → AnswersRun source target t c r r2 (Err error)
    step_stopped error wrote_keeps in_hand (AnswersStep.written page is valid made wrote created finished) = absurd (let e : ◌≡◌ {A = Result (Unit {0}) TraprunError} (Err error) (Ok tt) = is in cc)
    step_stopped error wrote_keeps in_hand (AnswersStep.stopped other is same stops) =
        let one : other ≡ error = (let e : ◌≡◌ {A = Result (Unit {0}) TraprunError} (Err error) (Err other) = is in cc) in
        stopped_by error same in_hand (subst (λ (s : TraprunError). StopsPage source (length pages) b c s) one stops)
    step_stopped error wrote_keeps in_hand (AnswersStep.unwritten page file is valid made breaks created once) =
        AnswersRun.unwritten pages b r1 page file is done.written done.rack_keeps wrote_keeps (made.calm ∙ done.written.calm) (asked_more source.inputs made.asked) valid (made_more page made) breaks created (once_before r.faults r1.faults r2.faults done.written.wrote.well once) in_hand

    -- the run stops at this page
    pub run_stopped : (error : TraprunError) → Steps source target (length pages) b c r1 r2 (Err error) → Runs source target t c r r2 (Err error)
    run_stopped error steps = record {
      tray_keeps = kept_tray t b c done.tray_keeps keeps;
      rack_keeps = kept_then r r1 r2 done.rack_keeps steps.rack_keeps;
      reported = λ tells. steps.reported (done.rack_keeps.tells ∙ tells) ∙ done.reported tells;
      answer = step_stopped error steps.rack_keeps (hold_more steps.in_hand) steps.answer;
    }

-- the job's bytes are those of a later tray too
pub known_then : (source : Sources) (bytes : List ℕ) (t b : TrayState) → KeepsTray t b → IsJobOf source bytes t → IsJobOf source bytes b
known_then source bytes t b keeps known tells = ap (λ (files : List ℕ → Option (List ℕ)). files source.job) keeps.file ∙ known (sym keeps.tells ∙ tells)

module _ (source : Sources) (target : Targets) (bytes : List ℕ) (k : ℕ) (t b c : TrayState) (r r1 r2 : RackState) (pages : List PageParts) (number : length pages ≡ k) (done : PagesDone source target t b r r1 pages) (known : IsJobOf source bytes t) where
  pub pages_more : StepsPage source target bytes k b c r1 r2 (Ok tt) → (more : List PageParts) × (length more ≡ k + 1) × PagesDone source target t c r r2 more
  pages_more steps =
      let here : Steps source target (length pages) b c r1 r2 (Ok tt) = subst (λ (n : ℕ). Steps source target n b c r1 r2 (Ok tt)) (sym number) (steps.1 (known_then source bytes t b done.tray_keeps known)) in
      let more = one_more source target t b c r r1 r2 pages done steps.0 here in
      (more.page ∷ pages, (let e : suc (length pages) ≡ k + 1 = omega arith in e), more.more)

  pub pages_stopped : (count : ℕ) (error : TraprunError) → pages_of bytes ≡ Ok count → k < count → StepsPage source target bytes k b c r1 r2 (Err error) → Runs source target t c r r2 (Err error)
  pages_stopped count error has within steps =
      let here : Steps source target (length pages) b c r1 r2 (Err error) = subst (λ (n : ℕ). Steps source target n b c r1 r2 (Err error)) (sym number) (steps.1 (known_then source bytes t b done.tray_keeps known)) in
      let below : length pages < count = omega arith in
      run_stopped source target t b c r r1 r2 pages done steps.0 bytes count known has below error here
