-- How `apply` ends, from how its plates and its set are read and its plates written.
use Rattle.std.proofs.Common.{◌≡◌, ◌⊎◌, ℕ, ◌<◌, ◌≤◌, Bool, true, false, min, List, [], ◌∷◌, ◌++◌, length, map, take, Option, Some, None, Result, Ok, Err, IsTrue, inl, inr, refl, sym, ap, ◌∙◌, subst, arith}
use Rattle.std.proofs.lemmas.List.{length-map, take-append-le, take_min}
use Rattle.outside.specs.ErrorCases.{Asks, AsksPrefix}
use Rattle.outside.specs.Tray.{TrayState}
use Rattle.outside.specs.Rack.{RackState, KeepsRack}
use Rattle.outside.proofs.Names.{asks_all, asks_then}
use Rattle.outside.proofs.Steps.{rose_before}
use Rattle.page_files.specs.Inputs.{name_at}
use Rattle.page_files.specs.Looks.{Refuses, StopsAt}
use Rattle.page_files.specs.Steps.{ReadsPlates, plates_sought}
use Rattle.page_files.proofs.LookLemmas.{refused_prefix, some_in_hand}
use Rattle.page_files.proofs.PlaneLemmas.{planes_back, plates_found}
use Rattle.page_files.proofs.PlateLemmas.{plate_count}
use Rattle.page_model.specs.declared.parts.Plane.{Plane}
use Rattle.page_files.specs.Files.{plate_files}
use Rattle.page_files.specs.Writing.{FinishesAll}
use Rattle.page_files.proofs.Steps.{plates_length, plates_names}
use Rattle.pgm_plates.specs.Laws.{PlaneTurnsBack}
use Rattle.pgm_plates.specs.Planes.{plate_of}
use Rattle.pgm_plates.specs.Plates.{IsPlateFile}
use Rattle.pgm_plates.specs.Reading.{AreFew}
use Rattle.plain_words.specs.Parts.{CopyNames, copy_of}
use Rattle.trapset_cli.specs.declared.reason.TrapsetError.{TrapsetError}
use Rattle.trapset_cli.specs.declared.reason.TrapsetError.TheVariants as errors
use Rattle.trapset_cli.specs.Commands.{inputs_of, read_names}
use Rattle.trapset_cli.specs.Endings.{Answers, CarriesOut, NotRead, SetInHand}
use Rattle.trapset_cli.specs.Putting.{AnswersPatch, AreInRange, Patches, PatchesPlanes, PutsPlates}
use Rattle.trapset_cli.proofs.PlanesInRange.{kept_in_range, read_in_range}
use Rattle.trapset_cli.specs.Verdicts.{ArePlanes}
use Rattle.trapset_cli.specs.Words.{ApplyWords, Apply, outputs_of}
use Rattle.common_errors.specs.declared.common.CommonError.{CommonError}
use Rattle.common_errors.specs.declared.common.CommonError.TheVariants as reasons
use Rattle.trap_set.specs.Applying.{AppliesSet, EndsWith}
use Rattle.trap_set.specs.declared.apply.SetError.{SetError}
use Rattle.trap_set.specs.declared.apply.SetError.TheVariants as set_errors

-- the names up to the plate that was refused are a prefix of all that are read
prefix_on : (a b : Option (List (List ℕ))) (names more : List (List ℕ)) → AsksPrefix a b names → AsksPrefix a b (names ++ more)
prefix_on a None names more f = tt
prefix_on a (Some all) names more f =
    let n = min f.1 (length names) in
    let same : take f.1 names ≡ take n (names ++ more) = sym (take-append-le n names more (omega arith) ∙ take_min f.1 names) in
    (f.0, n, f.2, f.3 ∙ ap (λ (l : List (List ℕ)). f.0 ++ l) same)

-- a plate is refused
module _ (words : ApplyWords) (a b : TrayState) where
  plate_not_patched : (error : CommonError) (k : ℕ) → StopsAt plates_sought (inputs_of words) k a b → Refuses plates_sought k (name_at (inputs_of words) k) a b error → NotRead (Apply words) a b (errors.Page error)
  plate_not_patched error k at (Refuses.refused fault is count stored) = subst (λ (r : CommonError). NotRead (Apply words) a b (errors.Page r)) (sym is) (NotRead.refused (inl refl) (plate_count (Unit {0}) k a b fault count) at.asked (λ tells. record {
    known = at.known;
    plates = map plate_of at.found;
    before = plates_found IsPlateFile a.file (inputs_of words) k at.found (at.before_it tells);
    broken = stored tells;
  }))
  plate_not_patched error k at (Refuses.unread is rose taken) = subst (λ (r : CommonError). NotRead (Apply words) a b (errors.Page r)) (sym is) (NotRead.unread refl rose at.asked (record {
    known = at.known;
    plates = map plate_of at.found;
    before_it = λ tells. plates_found IsPlateFile a.file (inputs_of words) k at.found (at.before_it tells);
    in_hand = taken;
  }))
  plate_not_patched error k at (Refuses.no_memory is calm) = NotRead.no_memory (ap errors.Page is) calm

  plate_refused : (error : CommonError) → 0 < length (inputs_of words) → ReadsPlates (inputs_of words) a b (Err error) → PatchesPlanes words a b (Err (errors.Page error))
  plate_refused error some reads = record {
    asked = prefix_on a.asked b.asked (inputs_of words) (words.set ∷ []) (refused_prefix plates_sought (inputs_of words) a b error reads.answer);
    in_hand = inr (inl (some_in_hand AreFew (inputs_of words) (length (inputs_of words)) a b some reads.in_hand));
    answer = plate_not_patched error reads.answer.0 reads.answer.1 reads.answer.2;
  }

-- there are as many words as plates
pub some_plates : {X : Type 0} (text : X → List ℕ) (words : List X) → 1 ≤ length words → 0 < length (map copy_of (map text words))
some_plates text words some = omega (arith, some, length-map (map text words) copy_of, length-map words text)

pub plates_unread : (words : ApplyWords) (a b : TrayState) (names : List (List ℕ)) (error : CommonError) → names ≡ inputs_of words → 0 < length words.plates → ReadsPlates names a b (Err error) → PatchesPlanes words a b (Err (errors.Page error))
plates_unread words a b names error named some reads = plate_refused words a b error (omega (arith, some, length-map words.plates (λ (p : CopyNames). p.input))) (subst (λ (ns : List (List ℕ)). ReadsPlates ns a b (Err error)) named reads)

-- a file was begun, unless a read failed
begun_or : (b : Bool) → (b ≡ true) ⊎ (b ≡ false)
begun_or true = inl refl
begun_or false = inr refl

was_begun : {T : Type 0} (name : List ℕ) (b c : TrayState) (old new : List Plane) (result : Result T SetError) → AppliesSet name b c old new result → (result ≡ Err set_errors.ReadFault → ⊥) → IsTrue c.begun
was_begun name b c old new result app other = elim (begun_or c.begun) [ inl begun ↦ begun | inr none ↦ absurd (other (app.not_begun none).1) ]

-- the set after the plates
module _ (law : PlaneTurnsBack) (words : ApplyWords) (a b c : TrayState) (old : List Plane) (reads : ReadsPlates (inputs_of words) a b (Ok old)) where
  in_range : AreInRange old (length (inputs_of words))
  in_range = read_in_range old (length (inputs_of words)) reads.answer.2 reads.answer.1

  are_planes : IsTrue a.tells → ArePlanes a.file (inputs_of words) old
  are_planes tells = record {
    plates = map plate_of old;
    read = plates_found IsPlateFile a.file (inputs_of words) (length (inputs_of words)) old (reads.answer.4 tells);
    same = sym (planes_back law old in_range.planes_ok);
  }

  all_asked : Asks b.asked c.asked (words.set ∷ []) → Asks a.asked c.asked (read_names (Apply words))
  all_asked set = asks_then a.asked b.asked c.asked (inputs_of words) (words.set ∷ []) reads.answer.0 set

  same_file : (bytes : List ℕ) → b.file words.set ≡ Some bytes → a.file words.set ≡ Some bytes
  same_file bytes is = ap (λ (files : List ℕ → Option (List ℕ)). files words.set) (sym reads.keeps.file) ∙ is

  patch_answer : (result : Result (List Plane) TrapsetError) → Patches words.set old b c result → AnswersPatch words a c result
  patch_answer (Ok new) app =
      let begun = was_begun words.set b c old new (Ok tt) app (λ (e : ◌≡◌ {A = Result (Unit {0}) SetError} (Ok tt) (Err set_errors.ReadFault)). absurd cc) in (
        app.count ∙ reads.answer.3,
        all_asked app.asked,
        kept_in_range old new (length (inputs_of words)) app.planes in_range,
        λ tells.
            (let says = app.says begun (reads.keeps.tells ∙ tells) in
            record { planes = old; read = are_planes tells; set = (says.0, same_file says.0 says.1, record { head = says.2.head; runs = says.2.runs; is_file = says.2.is_file; fits = says.2.fits; planes_are = says.2.planes }) }),
      )
  patch_answer (Err (errors.BadLine n)) (new, app) =
      let begun = was_begun words.set b c old new (Err (set_errors.BadLine n)) app (λ (e : ◌≡◌ {A = Result (Unit {0}) SetError} (Err (set_errors.BadLine n)) (Err set_errors.ReadFault)). absurd cc) in
      NotRead.refused (inr refl) (app.count ∙ reads.answer.3) (all_asked app.asked) (λ tells.
      (let says = app.says begun (reads.keeps.tells ∙ tells) in
      record { planes = old; read = are_planes tells; set = (says.0, same_file says.0 says.1, record { good = says.2.good; is = says.2.is; bad = says.2.bad; same = says.2.same }) }))
  patch_answer (Err errors.Differs) (new, app) =
      let begun = was_begun words.set b c old new (Err set_errors.Differs) app (λ (e : ◌≡◌ {A = Result (Unit {0}) SetError} (Err set_errors.Differs) (Err set_errors.ReadFault)). absurd cc) in
      NotRead.refused (inr refl) (app.count ∙ reads.answer.3) (all_asked app.asked) (λ tells.
      (let says = app.says begun (reads.keeps.tells ∙ tells) in
      record { planes = old; read = are_planes tells; set = (says.0, same_file says.0 says.1, says.2.0) }))
  patch_answer (Err errors.SetUnread) (new, app) = NotRead.unread refl (rose_before a.faults b.faults c.faults reads.keeps.faults app.count) (all_asked app.asked) (record {
    planes = old;
    before_it = are_planes;
    in_hand = λ begun tells.
        (let says = app.says begun (reads.keeps.tells ∙ tells) in
        (says.0, new, same_file says.0 says.1, says.2));
  })
  patch_answer (Err errors.NoCommand) app = absurd app
  patch_answer (Err (errors.Page error)) app = absurd app
  patch_answer (Err errors.SetUnwritten) app = absurd app

  -- what was taken of the set, whatever its answer
  abbrev SetTaken : Type 0
  SetTaken = Asks b.asked c.asked (words.set ∷ []) × (IsTrue c.begun → IsTrue b.tells → (bytes : List ℕ) × (b.file words.set ≡ Some bytes) × EndsWith bytes c.left)

  set_taken : (result : Result (List Plane) TrapsetError) → Patches words.set old b c result → SetTaken
  set_taken (Ok new) app = (app.asked, app.taken)
  set_taken (Err (errors.BadLine n)) (new, app) = (app.asked, app.taken)
  set_taken (Err errors.Differs) (new, app) = (app.asked, app.taken)
  set_taken (Err errors.SetUnread) (new, app) = (app.asked, app.taken)
  set_taken (Err errors.NoCommand) app = absurd app
  set_taken (Err (errors.Page error)) app = absurd app
  set_taken (Err errors.SetUnwritten) app = absurd app

  set_in_hand : SetTaken → SetInHand words a c
  set_in_hand set = record {
    asked = all_asked set.0;
    planes = old;
    read = are_planes;
    taken = λ begun tells.
        let here = set.1 begun (reads.keeps.tells ∙ tells) in
        (here.0, same_file here.0 here.1, here.2);
  }

  set_put_on : (result : Result (List Plane) TrapsetError) → Patches words.set old b c result → PatchesPlanes words a c result
  set_put_on result app =
      let set = set_taken result app in
      record { asked = asks_all a.asked c.asked (read_names (Apply words)) (all_asked set.0); in_hand = inr (inr (set_in_hand set)); answer = patch_answer result app }

pub plates_patched : PlaneTurnsBack → (words : ApplyWords) (a b c : TrayState) (names : List (List ℕ)) (old : List Plane) (result : Result (List Plane) TrapsetError) → names ≡ inputs_of words → ReadsPlates names a b (Ok old) → Patches words.set old b c result → PatchesPlanes words a c result
plates_patched law words a b c names old result named reads app = set_put_on law words a b c old (subst (λ (ns : List (List ℕ)). ReadsPlates ns a b (Ok old)) named reads) result app

-- the plates that are written

-- as many files are written as plates are read
pub as_many : (words : ApplyWords) → length (inputs_of words) ≡ length (outputs_of words.plates)
as_many words = length-map words.plates (λ (p : CopyNames). p.input) ∙ sym (length-map words.plates (λ (p : CopyNames). p.output))

module _ (words : ApplyWords) (planes : List Plane) (a b : TrayState) (r r' : RackState) (patches : PatchesPlanes words a b (Ok planes)) where
  in_all : length planes ≡ length (outputs_of words.plates)
  in_all = patches.answer.2.as_many ∙ as_many words

  in_words : length planes ≡ length words.plates
  in_words = patches.answer.2.as_many ∙ length-map words.plates (λ (p : CopyNames). p.input)

  wrote_answer : (result : Result (Unit {0}) TrapsetError) → 0 < length words.plates → PutsPlates (outputs_of words.plates) planes r r' result → Answers (Apply words) a b r r' result
  wrote_answer (Ok nothing) some puts = record {
    calm = patches.answer.0;
    begun = patches.answer.1;
    written = plate_files (outputs_of words.plates) planes;
    to_write = ((planes, patches.answer.2.planes_ok, in_words, refl), λ tells. (planes, patches.answer.3 tells, refl));
    some = omega (arith, plates_length (outputs_of words.plates) planes (omega (arith, in_all)), in_words, some);
    wrote = puts.answer;
    created = subst (λ (names : List (List ℕ)). Asks r.asked r'.asked names) (plates_names (outputs_of words.plates) planes in_all) puts.answer.asked;
    finished = subst (λ (names : List (List ℕ)). FinishesAll names r r') (plates_names (outputs_of words.plates) planes in_all) puts.answer.finished;
  }
  wrote_answer (Err (errors.Page (reasons.Write (Some k)))) some puts = inr (
    record {
      calm = patches.answer.0;
      begun = patches.answer.1;
      written = plate_files (outputs_of words.plates) planes;
      to_write = ((planes, patches.answer.2.planes_ok, in_words, refl), λ tells. (planes, patches.answer.3 tells, refl));
      place = k;
      is = refl;
      breaks = puts.answer.1;
    },
    puts.once,
  )
  wrote_answer (Err (errors.Page (reasons.Write None))) some puts = absurd puts.answer
  wrote_answer (Err (errors.Page reasons.Usage)) some puts = absurd puts.answer
  wrote_answer (Err (errors.Page (reasons.Job fault))) some puts = absurd puts.answer
  wrote_answer (Err (errors.Page (reasons.NoDetails k))) some puts = absurd puts.answer
  wrote_answer (Err (errors.Page (reasons.Plate k fault))) some puts = absurd puts.answer
  wrote_answer (Err (errors.Page (reasons.Page fault))) some puts = absurd puts.answer
  wrote_answer (Err (errors.Page (reasons.Read file))) some puts = absurd puts.answer
  wrote_answer (Err (errors.Page reasons.Memory)) some puts = absurd puts.answer
  wrote_answer (Err errors.NoCommand) some puts = absurd puts
  wrote_answer (Err errors.SetUnread) some puts = absurd puts
  wrote_answer (Err errors.SetUnwritten) some puts = absurd puts
  wrote_answer (Err (errors.BadLine n)) some puts = absurd puts
  wrote_answer (Err errors.Differs) some puts = absurd puts

  -- what holds of the writing, whatever its answer
  abbrev Wrote : Type 0
  Wrote = KeepsRack r r' × (IsTrue r.tells → r'.reported ≡ r.reported) × AsksPrefix r.asked r'.asked (outputs_of words.plates)

  wrote_some : (result : Result (Unit {0}) TrapsetError) → PutsPlates (outputs_of words.plates) planes r r' result → Wrote
  wrote_some (Ok nothing) puts = (puts.keeps, puts.reported, puts.asked)
  wrote_some (Err (errors.Page error)) puts = (puts.keeps, puts.reported, puts.asked)
  wrote_some (Err errors.NoCommand) puts = absurd puts
  wrote_some (Err errors.SetUnread) puts = absurd puts
  wrote_some (Err errors.SetUnwritten) puts = absurd puts
  wrote_some (Err (errors.BadLine n)) puts = absurd puts
  wrote_some (Err errors.Differs) puts = absurd puts

  wrote_out : (result : Result (Unit {0}) TrapsetError) → 0 < length words.plates → PutsPlates (outputs_of words.plates) planes r r' result → CarriesOut (Apply words) a b r r' result
  wrote_out result some puts =
      let wrote = wrote_some result puts in
      record { asked = patches.asked; in_hand = patches.in_hand; rack_keeps = wrote.0; reported = wrote.1; created = wrote.2; answer = wrote_answer result some puts }

pub patched_out : (words : ApplyWords) (planes : List Plane) (a b : TrayState) (r r' : RackState) (outputs : List (List ℕ)) (result : Result (Unit {0}) TrapsetError) → outputs ≡ outputs_of words.plates → 0 < length words.plates → PatchesPlanes words a b (Ok planes) → PutsPlates outputs planes r r' result → CarriesOut (Apply words) a b r r' result
patched_out words planes a b r r' outputs result named some patches puts = wrote_out words planes a b r r' patches result some (subst (λ (os : List (List ℕ)). PutsPlates os planes r r' result) named puts)
