-- No two verdicts on a sheet stand at once.
use Rattle.std.proofs.Common.{◌≡◌, ℕ, ◌<◌, List, length, Option, Result, Ok, Err, inl, inr, refl, sym, ap, ◌∙◌, subst, arith}
use Rattle.std.proofs.lemmas.List.{same_lists, get_or_default}
use Rattle.std.proofs.lemmas.Bool.{cases_lt}
use Rattle.std.proofs.lemmas.Option.{same_Some}
use Rattle.job_reader.specs.declared.job.Job.{Job as JobRead}
use Rattle.job_reader.specs.Jobs.{job_of}
use Rattle.ps_tokens.specs.declared.faults.JobFault.{JobFault}
use Rattle.page_files.specs.Inputs.{plate_at, no_plate}
use Rattle.page_model.specs.declared.parts.PageParts.{PageParts}
use Rattle.pgm_plates.specs.declared.bounds.Bounds.TheVariants.{Sheet}
use Rattle.pgm_plates.specs.declared.plate.Plate.{Plate as PlateRead}
use Rattle.pgm_plates.specs.declared.plate.PlateFault.{PlateFault}
use Rattle.pgm_plates.specs.Laws.{NotBothWithin, OneFaultWithin, OnePlateWithin}
use Rattle.common_errors.specs.declared.common.CommonError.TheVariants.{Usage, Job, NoDetails, Plate, Page, Read, Write, Memory}
use Rattle.sheet_files.specs.Inputs.{AreSpelled, StoredBytes, MakesSheet, PlateFails, Spells, sheet_of}
use Rattle.sheet_files.specs.SheetFiles.{IsSheetFault, IsSheetFile}
use Rattle.sheet_files.specs.Verdicts.{SheetVerdict, IsSheetVerdict, OneSheetVerdict}
use Rattle.sheet_files.specs.Verdicts.SheetVerdict.{Accepted, Refused}
use Rattle.sheet_files.specs.declared.error.TrapsheetError.{TrapsheetError}
use Rattle.sheet_files.specs.declared.error.TrapsheetError.TheVariants.{Changed, Common, OfSheet}

-- A file has one list of bytes.
stored_both : (stored : Option (List ℕ)) (F G : List ℕ → Type 0) → Spells stored F → Spells stored G → (bytes : List ℕ) × F bytes × G bytes
stored_both stored F G one two =
    let same : two.0 ≡ one.0 = same_Some two.0 one.0 (sym two.1 ∙ one.1) in
    (one.0, one.2, subst G same two.2)

module _ (not_both : NotBothWithin Sheet) (one_plate : OnePlateWithin Sheet) (one_fault : OneFaultWithin Sheet) (stored : StoredBytes) (names : List (List ℕ)) where
  -- the job is read, or it has a fault, one of them
  abbrev JobIs : JobRead → Type 0
  JobIs job = Spells stored.job (λ bytes. job_of bytes ≡ Ok job)

  abbrev HasJobFault : JobFault → Type 0
  HasJobFault fault = Spells stored.job (λ bytes. job_of bytes ≡ Err fault)

  one_job : (one two : JobRead) → JobIs one → JobIs two → one ≡ two
  one_job one two a b =
      let both = stored_both stored.job (λ bytes. job_of bytes ≡ Ok one) (λ bytes. job_of bytes ≡ Ok two) a b in
      let same : ◌≡◌ {A = Result JobRead JobFault} (Ok one) (Ok two) = sym both.1 ∙ both.2 in
      cc

  one_job_fault : (one two : JobFault) → HasJobFault one → HasJobFault two → one ≡ two
  one_job_fault one two a b =
      let both = stored_both stored.job (λ bytes. job_of bytes ≡ Err one) (λ bytes. job_of bytes ≡ Err two) a b in
      let same : ◌≡◌ {A = Result JobRead JobFault} (Err one) (Err two) = sym both.1 ∙ both.2 in
      cc

  job_or_fault : (job : JobRead) (fault : JobFault) → JobIs job → HasJobFault fault → ⊥
  job_or_fault job fault a b =
      let both = stored_both stored.job (λ bytes. job_of bytes ≡ Ok job) (λ bytes. job_of bytes ≡ Err fault) a b in
      let same : ◌≡◌ {A = Result JobRead JobFault} (Ok job) (Err fault) = sym both.1 ∙ both.2 in
      absurd cc

  -- a plate that was read has no fault
  read_or_fault : (k n : ℕ) (plates : List PlateRead) (fault : PlateFault) → k < n → AreSpelled stored.plate n plates → Spells (stored.plate k) (λ bytes. IsSheetFault bytes fault) → ⊥
  read_or_fault k n plates fault within read broken =
      let both = stored_both (stored.plate k) (λ bytes. IsSheetFile bytes (plate_at plates k)) (λ bytes. IsSheetFault bytes fault) (read.each k within) broken in
      not_both both.0 (plate_at plates k) fault both.1 both.2

  same_at : (n : ℕ) (p q : List PlateRead) → AreSpelled stored.plate n p → AreSpelled stored.plate n q → (k : ℕ) → k < n → plate_at p k ≡ plate_at q k
  same_at n p q a b k within =
      let both = stored_both (stored.plate k) (λ bytes. IsSheetFile bytes (plate_at p k)) (λ bytes. IsSheetFile bytes (plate_at q k)) (a.each k within) (b.each k within) in
      one_plate both.0 (plate_at p k) (plate_at q k) both.1 both.2

  one_list : (n : ℕ) (p q : List PlateRead) → AreSpelled stored.plate n p → AreSpelled stored.plate n q → p ≡ q
  one_list n p q a b = same_lists p q (a.all ∙ sym b.all) (λ k d within.
      let below : k < n = omega (arith, a.all) in
      let there : k < length q = omega (arith, b.all) in
      get_or_default p k d no_plate within ∙ same_at n p q a b k below ∙ sym (get_or_default q k d no_plate there))

  -- what the job and the plates make is one thing
  one_making : (one two : Result PageParts TrapsheetError) → MakesSheet stored names one → MakesSheet stored names two → one ≡ two
  one_making one two a b =
      let job : a.0 ≡ b.0 = one_job a.0 b.0 a.2.job_read b.2.job_read in
      let plates : a.1 ≡ b.1 = one_list (length names) a.1 b.1 a.2.plates_read b.2.plates_read in
      sym a.3 ∙ ap (λ (j : JobRead). sheet_of j a.1 names) job ∙ ap (λ (ps : List PlateRead). sheet_of b.0 ps names) plates ∙ b.3

  -- of two plates that are the first with a fault
  one_place : (j k : ℕ) (f g : PlateFault) → PlateFails stored (length names) j f → PlateFails stored (length names) k g → j < k → ⊥
  one_place j k f g a b less = read_or_fault j k b.plates f less b.before a.broken

  same_place : (j k : ℕ) (f g : PlateFault) → PlateFails stored (length names) j f → PlateFails stored (length names) k g → j ≡ k
  same_place j k f g a b = elim (cases_lt j k) [
    | inl less ↦ absurd (one_place j k f g a b less)
    | inr more ↦ elim (cases_lt k j) [ inl less ↦ absurd (one_place k j g f b a less) | inr other ↦ omega arith ]
  ]

  one_plate_fault : (j k : ℕ) (f g : PlateFault) → PlateFails stored (length names) j f → PlateFails stored (length names) k g → ◌≡◌ {A = TrapsheetError} (Common (Plate j f)) (Common (Plate k g))
  one_plate_fault j k f g a b =
      let place : j ≡ k = same_place j k f g a b in
      let there = subst (λ (n : ℕ). Spells (stored.plate n) (λ bytes. IsSheetFault bytes f)) place a.broken in
      let both = stored_both (stored.plate k) (λ bytes. IsSheetFault bytes f) (λ bytes. IsSheetFault bytes g) there b.broken in
      let fault : f ≡ g = one_fault both.0 f g both.1 both.2 in
      ap (λ (n : ℕ). Common (Plate n f)) place ∙ ap (λ (h : PlateFault). Common (Plate k h)) fault

  made_or_fault : (made : Result PageParts TrapsheetError) (k : ℕ) (fault : PlateFault) → MakesSheet stored names made → PlateFails stored (length names) k fault → ⊥
  made_or_fault made k fault a b = read_or_fault k (length names) a.1 fault b.known a.2.plates_read b.broken

  made_or_job : (made : Result PageParts TrapsheetError) (fault : JobFault) → MakesSheet stored names made → HasJobFault fault → ⊥
  made_or_job made fault a b = job_or_fault a.0 fault a.2.job_read b

  abbrev verdict_on : Result PageParts TrapsheetError → SheetVerdict
  verdict_on (Ok sheet) = Accepted sheet
  verdict_on (Err error) = Refused error

  -- A verdict is a fault of the job, of a plate, or what is made.
  data View (v : SheetVerdict) : Type 0 where
    of_job : (fault : JobFault) → v ≡ Refused (Common (Job fault)) → HasJobFault fault → View v
    of_plate : (k : ℕ) (fault : PlateFault) → v ≡ Refused (Common (Plate k fault)) → PlateFails stored (length names) k fault → View v
    of_made : (made : Result PageParts TrapsheetError) → v ≡ verdict_on made → MakesSheet stored names made → View v

  view : (v : SheetVerdict) → IsSheetVerdict stored names v → View v
  view (Refused (Common (Job fault))) is = of_job fault refl is
  view (Refused (Common (Plate k fault))) is = of_plate k fault refl is
  view (Refused (Common (NoDetails k))) is = of_made (Err (Common (NoDetails k))) refl is
  view (Refused (Common (Page fault))) is = absurd is
  view (Refused (Common Usage)) is = absurd is
  view (Refused (Common (Read file))) is = absurd is
  view (Refused (Common (Write file))) is = absurd is
  view (Refused (Common Memory)) is = absurd is
  view (Refused (OfSheet common_error)) is = of_made (Err (OfSheet common_error)) refl is
  view (Refused (Changed plate)) is = absurd is
  view (Accepted sheet) is = of_made (Ok sheet) refl is

  same : (v w : SheetVerdict) → View v → View w → v ≡ w
  same v w (of_job f is a) (of_job g also b) = is ∙ ap (λ (h : JobFault). Refused (Common (Job h))) (one_job_fault f g a b) ∙ sym also
  same v w (of_job f is a) (of_plate k g also b) = absurd (job_or_fault b.job f b.job_read a)
  same v w (of_job f is a) (of_made made also b) = absurd (made_or_job made f b a)
  same v w (of_plate j f is a) (of_job g also b) = absurd (job_or_fault a.job g a.job_read b)
  same v w (of_plate j f is a) (of_plate k g also b) = is ∙ ap (λ (s : TrapsheetError). Refused s) (one_plate_fault j k f g a b) ∙ sym also
  same v w (of_plate j f is a) (of_made made also b) = absurd (made_or_fault made j f b a)
  same v w (of_made made is a) (of_job g also b) = absurd (made_or_job made g a b)
  same v w (of_made made is a) (of_plate k g also b) = absurd (made_or_fault made k g a b)
  same v w (of_made made is a) (of_made other also b) = is ∙ ap verdict_on (one_making made other a b) ∙ sym also

-- The bytes have one verdict.
pub one_verdict : NotBothWithin Sheet → OnePlateWithin Sheet → OneFaultWithin Sheet → OneSheetVerdict
one_verdict not_both one_plate one_fault stored names v w is also = same not_both one_plate one_fault stored names v w (view not_both one_plate one_fault stored names v is) (view not_both one_plate one_fault stored names w also)
