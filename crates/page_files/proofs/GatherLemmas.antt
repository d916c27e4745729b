-- The page of a job and plates that are read.
use Rattle.std.proofs.Common.{◌≡◌, ◌⊎◌, ℕ, ◌<◌, ◌≤◌, ◌+◌, List, [], ◌∷◌, ◌++◌, length, map, take, Option, Some, None, Result, Ok, Err, IsTrue, inl, inr, refl, sym, ap, ◌∙◌, subst, arith, suc}
use Rattle.std.specs.Result.{MatchResult}
use Rattle.outside.specs.ErrorCases.{Asks, AsksPrefix}
use Rattle.outside.specs.Tray.{TrayState, KeepsTray}
use Rattle.outside.proofs.Names.{asks_then, asks_all, asks_prefix, asks_first}
use Rattle.outside.proofs.Steps.{kept_tray, rose_before}
use Rattle.job_reader.specs.declared.job.Job.{Job}
use Rattle.page_model.specs.declared.parts.PageParts.{PageParts}
use Rattle.page_model.specs.declared.parts.Plane.{Plane}
use Rattle.page_model.specs.declared.page.PageFault.{PageFault}
use Rattle.pgm_plates.specs.declared.plate.Plate.{Plate as PlateRead}
use Rattle.pgm_plates.specs.declared.plate.PlateFault.TheVariants.{BadMagic, BadHeader, SideRange, TooManySamples, MaxvalRange, SampleAboveMaxval, Truncated, TrailingBytes}
use Rattle.pgm_plates.specs.Faults.{IsFault}
use Rattle.pgm_plates.specs.Reading.{AreFew}
use Rattle.page_files.specs.Assembly.{CanAssemblePlanes, assembly, assembled, assembly_of_planes, detailed, faulted, without_details}
use Rattle.page_model.specs.Faults.{page_fault}
use Rattle.page_model.specs.Page.{plates}
use Rattle.pgm_plates.specs.Laws.{PlaneTurnsBack}
use Rattle.pgm_plates.specs.Planes.{plane_of, plate_of}
use Rattle.pgm_plates.specs.Plates.{IsPlateFile}
use Rattle.std.proofs.lemmas.List.{length-map}
use Rattle.common_errors.specs.declared.common.CommonError.{CommonError}
use Rattle.common_errors.specs.declared.common.CommonError.TheVariants.{Usage, Job as JobError, NoDetails, Plate, Page, Read, Write, Memory}
use Rattle.page_files.specs.Inputs.{Sources, AreFound, AreRead, Inputs, Makes, one_page, read_files, name_at}
use Rattle.page_files.specs.Steps.{ReadsJob, AnswersJob, ReadsPlates, PassesNoFault, HaveNoFault, plates_sought}
use Rattle.page_files.specs.Gathering.{Gathers, AnswersPage, ReadsPage}
use Rattle.page_files.specs.Looks.{Refuses, StopsAt}
use Rattle.page_files.proofs.LookLemmas.{stored_before, in_hand_before, last_asked, refused_prefix, refuses_before, some_in_hand, taken_before}
use Rattle.page_files.proofs.PlaneLemmas.{planes_back, plates_found}
use Rattle.page_files.proofs.PlateLemmas.{error_passes}

-- the count of faults where what came before kept it
pub count_then : (T U : Type 0) (a b c : TrayState) (error : CommonError) → b.faults ≡ a.faults → PassesNoFault {T = T} b c (Err error) → PassesNoFault {T = U} a c (Err error)
count_then T U a b c (Read file) calm count = tt
count_then T U a b c (Plate k (SampleAboveMaxval at)) calm count = tt
count_then T U a b c (Plate k (BadMagic at)) calm count = count ∙ calm
count_then T U a b c (Plate k (BadHeader at)) calm count = count ∙ calm
count_then T U a b c (Plate k (SideRange at)) calm count = count ∙ calm
count_then T U a b c (Plate k (TooManySamples at)) calm count = count ∙ calm
count_then T U a b c (Plate k (MaxvalRange at)) calm count = count ∙ calm
count_then T U a b c (Plate k (Truncated at)) calm count = count ∙ calm
count_then T U a b c (Plate k (TrailingBytes at)) calm count = count ∙ calm
count_then T U a b c Usage calm count = count ∙ calm
count_then T U a b c (JobError fault) calm count = count ∙ calm
count_then T U a b c (NoDetails at) calm count = count ∙ calm
count_then T U a b c (Page fault) calm count = count ∙ calm
count_then T U a b c (Write file) calm count = count ∙ calm
count_then T U a b c Memory calm count = count ∙ calm

-- an error's count of faults, told of another result
pub refused_count : (T U : Type 0) (a b : TrayState) (error : CommonError) → PassesNoFault {T = T} a b (Err error) → PassesNoFault {T = U} a b (Err error)
refused_count T U a b error count = count_then T U a a b error refl count

-- the job is refused
answer_job : (source : Sources) (a b : TrayState) (error : CommonError) → Asks a.asked b.asked (source.job ∷ []) → AnswersJob source.job a b (Err error) → AnswersPage source a b (Err error)
answer_job source a b (JobError fault) asked answer = (asked, answer)
answer_job source a b (Read None) asked answer = (answer, asked)
answer_job source a b Memory asked answer = tt
answer_job source a b Usage asked answer = absurd answer
answer_job source a b (NoDetails plate) asked answer = absurd answer
answer_job source a b (Plate plate fault) asked answer = absurd answer
answer_job source a b (Page fault) asked answer = absurd answer
answer_job source a b (Read (Some plate)) asked answer = absurd answer
answer_job source a b (Write file) asked answer = absurd answer

one_of : (a b : Option (List (List ℕ))) (x : List ℕ) (rest : List (List ℕ)) → Asks a b (x ∷ []) → AsksPrefix a b (x ∷ rest)
one_of a b x rest one = asks_prefix a b 1 (x ∷ rest) one

pub job_refused : (source : Sources) (a b : TrayState) (error : CommonError) → ReadsJob source.job a b (Err error) → Gathers source a b (Err error)
job_refused source a b error reads = record {
  keeps = reads.keeps;
  asked = one_of a.asked b.asked source.job source.inputs reads.asked;
  in_hand = inl (reads.few, last_asked source.job a.asked b reads.asked);
  count = refused_count Job PageParts a b error reads.count;
  answer = answer_job source a b error reads.asked reads.answer;
}

take_two : (x : List ℕ) (n : ℕ) (names : List (List ℕ)) → take (n + 2) (x ∷ names) ≡ x ∷ take (n + 1) names
take_two x n names = let same : n + 2 ≡ suc (n + 1) = omega arith in ap (λ (m : ℕ). take m (x ∷ names)) same

-- An error of making a page is a plate without details or a fault of the page.
abbrev pub NoneOther : Result PageParts CommonError → Type 0
NoneOther (Ok page) = Unit {0}
NoneOther (Err (NoDetails plate)) = Unit {0}
NoneOther (Err (Page fault)) = Unit {0}
NoneOther other = ⊥

fault_alone : (parts : PageParts) (o : Option PageFault) (error : CommonError) → faulted parts o ≡ Err error → NoneOther (Err error)
fault_alone parts None error is = absurd (cc)
fault_alone parts (Some fault) error is = let same : Page fault ≡ error = cc in subst (λ (r : CommonError). NoneOther (Err r)) same tt

pub none_other : (o : Option ℕ) (parts : PageParts) (error : CommonError) → detailed o parts ≡ Err error → NoneOther (Err error)
none_other None parts error is = fault_alone parts (page_fault parts) error is
none_other (Some plate) parts error is = let same : NoDetails plate ≡ error = cc in subst (λ (r : CommonError). NoneOther (Err r)) same tt

-- a prefix of the plates' files after the job
asked_to : (source : Sources) (a b c : TrayState) (plate : ℕ) → Asks a.asked b.asked (source.job ∷ []) → Asks b.asked c.asked (take (plate + 1) source.inputs) → Asks a.asked c.asked (take (plate + 2) (read_files source))
asked_to source a b c plate one two =
    let same : (source.job ∷ []) ++ take (plate + 1) source.inputs ≡ take (plate + 2) (read_files source) = sym (take_two source.job plate source.inputs) in
    subst (λ (l : List (List ℕ)). Asks a.asked c.asked l) same (asks_then a.asked b.asked c.asked (source.job ∷ []) (take (plate + 1) source.inputs) one two)

-- planes that were read after the job, of the same tray, are those of its plates
read_before : (a b : TrayState) (names : List (List ℕ)) (count : ℕ) (planes : List Plane) → KeepsTray a b → AreFound plates_sought.gives plates_sought.none b.file names count planes → AreRead one_page a.file names count (map plate_of planes)
read_before a b names count planes keeps read = subst (λ (files : List ℕ → Option (List ℕ)). AreRead one_page files names count (map plate_of planes)) keeps.file (plates_found IsPlateFile b.file names count planes read)

-- one of the plates is refused
module _ (source : Sources) (a b c : TrayState) (job : Job) (first : ReadsJob source.job a b (Ok job)) where
  plate_answer : (k : ℕ) (error : CommonError) → StopsAt plates_sought source.inputs k b c → Refuses plates_sought k (name_at source.inputs k) b c error → AnswersPage source a c (Err error)
  plate_answer k error at (Refuses.refused fault is count stored) = subst (λ (r : CommonError). AnswersPage source a c (Err r)) (sym is) (
    asked_to source a b c k first.asked at.asked,
    λ tells. record {
      job = job;
      plates = map plate_of at.found;
      job_read = first.answer.1 tells;
      before = read_before a b source.inputs k at.found first.keeps (at.before_it (first.keeps.tells ∙ tells));
      known = at.known;
      broken = stored_before a b (name_at source.inputs k) (λ bytes. IsFault bytes fault) first.keeps stored tells;
    },
  )
  plate_answer k error at (Refuses.unread is rose taken) = subst (λ (r : CommonError). AnswersPage source a c (Err r)) (sym is) (
    rose_before a.faults b.faults c.faults first.keeps.faults rose,
    asked_to source a b c k first.asked at.asked,
    record {
      known = at.known;
      job = job;
      plates = map plate_of at.found;
      job_read = first.answer.1;
      before_it = λ tells. read_before a b source.inputs k at.found first.keeps (at.before_it (first.keeps.tells ∙ tells));
      in_hand = taken_before HaveNoFault a b c (name_at source.inputs k) first.keeps taken;
    },
  )
  plate_answer k error at (Refuses.no_memory is calm) = subst (λ (r : CommonError). AnswersPage source a c (Err r)) (sym is) tt

  plate_count_kept : (k : ℕ) (error : CommonError) → Refuses plates_sought k (name_at source.inputs k) b c error → PassesNoFault {T = PageParts} a c (Err error)
  plate_count_kept k error why = error_passes PageParts k error (name_at source.inputs k) a c (refuses_before plates_sought k (name_at source.inputs k) a b c error first.keeps first.count why)

  pub plates_refused : (error : CommonError) → 0 < length source.inputs → ReadsPlates source.inputs b c (Err error) → Gathers source a c (Err error)
  plates_refused error some next = record {
    keeps = kept_tray a b c first.keeps next.keeps;
    asked = asks_first a.asked b.asked c.asked source.job source.inputs first.asked (refused_prefix plates_sought source.inputs b c error next.answer);
    in_hand = inr (in_hand_before AreFew source.inputs a b c first.keeps (some_in_hand AreFew source.inputs (length source.inputs) b c some next.in_hand));
    count = plate_count_kept next.answer.0 error next.answer.2;
    answer = plate_answer next.answer.0 error next.answer.1 next.answer.2;
  }

-- all names were handed out
asked_all : (source : Sources) (a b c : TrayState) → Asks a.asked b.asked (source.job ∷ []) → Asks b.asked c.asked source.inputs → Asks a.asked c.asked (read_files source)
asked_all source a b c one two = asks_then a.asked b.asked c.asked (source.job ∷ []) source.inputs one two

-- a page has as many plates as were put together
as_many : (parts page : PageParts) (o : Option PageFault) → faulted parts o ≡ Ok page → plates page ≡ plates parts
as_many parts page None is = let same : parts ≡ page = cc in ap plates (sym same)
as_many parts page (Some fault) is = absurd (cc)

pub plates_made : (o : Option ℕ) (parts page : PageParts) → detailed o parts ≡ Ok page → plates page ≡ plates parts
plates_made None parts page is = as_many parts page (page_fault parts) is
plates_made (Some plate) parts page is = absurd (cc)

answer_made : (source : Sources) (a c : TrayState) (error : CommonError) → Asks a.asked c.asked (read_files source) → (IsTrue a.tells → Makes one_page a.file source (Err error)) → NoneOther (Err error) → AnswersPage source a c (Err error)
answer_made source a c (NoDetails plate) asked makes other = (asked, makes)
answer_made source a c (Page fault) asked makes other = (asked, makes)
answer_made source a c Memory asked makes other = absurd other
answer_made source a c Usage asked makes other = absurd other
answer_made source a c (JobError fault) asked makes other = absurd other
answer_made source a c (Plate plate fault) asked makes other = absurd other
answer_made source a c (Read file) asked makes other = absurd other
answer_made source a c (Write file) asked makes other = absurd other

answer_met : (source : Sources) (a c : TrayState) (result : Result PageParts CommonError) (job : Job) (read : List PlateRead) → length read ≡ length source.inputs → Asks a.asked c.asked (read_files source) → (IsTrue a.tells → Inputs one_page a.file source job read) → MatchResult result (λ page. assembly job read source.names ≡ Ok page) (λ error. (error ≡ Memory) ⊎ (assembly job read source.names ≡ Err error)) → AnswersPage source a c result
answer_met source a c (Ok page) job read count asked inputs met =
    (plates_made (without_details job source.names) (assembled job read source.names) page met ∙ length-map read plane_of ∙ count, asked, λ tells. (job, read, inputs tells, met))
answer_met source a c (Err error) job read count asked inputs (inl memory) = subst (λ (r : CommonError). AnswersPage source a c (Err r)) (sym memory) tt
answer_met source a c (Err error) job read count asked inputs (inr met) = answer_made source a c error asked (λ tells. (job, read, inputs tells, met)) (none_other (without_details job source.names) (assembled job read source.names) error met)

-- no fault is passed over where the page is made
error_count : (a c : TrayState) (error : CommonError) → c.faults ≡ a.faults → NoneOther (Err error) → PassesNoFault {T = PageParts} a c (Err error)
error_count a c (NoDetails plate) calm other = calm
error_count a c (Page fault) calm other = calm
error_count a c Memory calm other = calm
error_count a c Usage calm other = absurd other
error_count a c (JobError fault) calm other = absurd other
error_count a c (Plate plate fault) calm other = absurd other
error_count a c (Read file) calm other = absurd other
error_count a c (Write file) calm other = absurd other

made_count : (source : Sources) (a c : TrayState) (result : Result PageParts CommonError) (job : Job) (read : List PlateRead) → c.faults ≡ a.faults → MatchResult result (λ page. assembly job read source.names ≡ Ok page) (λ error. (error ≡ Memory) ⊎ (assembly job read source.names ≡ Err error)) → PassesNoFault a c result
made_count source a c (Ok page) job read calm met = calm
made_count source a c (Err error) job read calm (inl memory) = subst (λ (r : CommonError). PassesNoFault {T = PageParts} a c (Err r)) (sym memory) calm
made_count source a c (Err error) job read calm (inr met) = error_count a c error calm (none_other (without_details job source.names) (assembled job read source.names) error met)

pub page_made : PlaneTurnsBack → (source : Sources) (a b c : TrayState) (job : Job) (planes : List Plane) (result : Result PageParts CommonError) → 0 < length source.inputs → ReadsJob source.job a b (Ok job) → ReadsPlates source.inputs b c (Ok planes) → MatchResult result (λ page. assembly_of_planes job planes source.names ≡ Ok page) (λ error. (error ≡ Memory) ⊎ (assembly_of_planes job planes source.names ≡ Err error)) → Gathers source a c result
page_made law source a b c job planes result some first next made =
    let asked : Asks a.asked c.asked (read_files source) = asked_all source a b c first.asked next.answer.0 in
    let plates : List PlateRead = map plate_of planes in
    let back = planes_back law planes (λ k d within. (next.answer.2 k d within).0) in
    let met = subst (λ (ps : List Plane). MatchResult result (λ page. assembly_of_planes job ps source.names ≡ Ok page) (λ error. (error ≡ Memory) ⊎ (assembly_of_planes job ps source.names ≡ Err error))) (sym back) made in
    record {
      keeps = kept_tray a b c first.keeps next.keeps;
      asked = asks_all a.asked c.asked (read_files source) asked;
      in_hand = inr (in_hand_before AreFew source.inputs a b c first.keeps (some_in_hand AreFew source.inputs (length source.inputs) b c some next.in_hand));
      count = made_count source a c result job plates (next.answer.3 ∙ first.count) met;
      answer = answer_met source a c result job plates (length-map planes plate_of ∙ next.answer.1) asked
          (λ tells. record {
            job_read = first.answer.1 tells;
            plates_read = read_before a b source.inputs (length source.inputs) planes first.keeps (next.answer.4 (first.keeps.tells ∙ tells));
          })
          met;
    }

-- planes that are read can be assembled
pub can_assemble : {X : Type 0} (text : X → List ℕ) (inputs : List X) (a b : TrayState) (names : List (List ℕ)) (planes : List Plane) → 1 ≤ length inputs → length inputs ≤ 16 → length names ≡ length inputs → ReadsPlates (map text inputs) a b (Ok planes) → CanAssemblePlanes planes names
can_assemble text inputs a b names planes some few named reads =
    let count : length planes ≡ length inputs = reads.answer.1 ∙ length-map inputs text in
    record {
      some = omega (arith, count, some);
      few = omega (arith, count, few);
      named = named ∙ sym count;
      in_range = λ k d within. (reads.answer.2 k d within).0;
    }

-- as many files as inputs that give their names
pub some_inputs : {X : Type 0} (text : X → List ℕ) (inputs : List X) → 1 ≤ length inputs → 0 < length (map text inputs)
some_inputs text inputs some = omega (arith, length-map inputs text, some)

-- A page that was read was gathered.
pub gathered : (source : Sources) (a b : TrayState) (page : PageParts) → ReadsPage source a b (Ok page) → Gathers source a b (Ok page)
gathered source a b page (inl none) = absurd (let e : ◌≡◌ {A = Result PageParts CommonError} (Ok page) (Err Memory) = none.1 in cc)
gathered source a b page (inr reads) = reads
