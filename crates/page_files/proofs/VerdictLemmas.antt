-- No two verdicts stand at once.
use Rattle.std.proofs.Common.{◌≡◌, ℕ, ◌<◌, List, length, Option, Result, Ok, Err, inl, inr, refl, sym, ap, ◌∙◌, subst, arith}
use Rattle.std.proofs.lemmas.List.{same_lists, get_or_default}
use Rattle.std.proofs.lemmas.Bool.{cases_lt}
use Rattle.std.proofs.lemmas.Option.{same_Some}
use Rattle.job_reader.specs.declared.job.Job.{Job as JobRead}
use Rattle.ps_tokens.specs.declared.faults.JobFault.{JobFault}
use Rattle.page_model.specs.declared.parts.PageParts.{PageParts}
use Rattle.page_model.specs.declared.page.PageFault.{PageFault}
use Rattle.pgm_plates.specs.declared.plate.Plate.{Plate as PlateRead}
use Rattle.pgm_plates.specs.declared.plate.PlateFault.{PlateFault}
use Rattle.page_files.specs.Assembly.{assembly}
use Rattle.page_files.specs.Inputs.{Sources, Decoder, Holds, AreRead, PlateFails, Makes, name_at, plate_at, no_plate}
use Rattle.page_files.specs.Files.{Written}
use Rattle.common_errors.specs.declared.common.CommonError.{CommonError}
use Rattle.common_errors.specs.declared.common.CommonError.TheVariants.{Usage, Job, NoDetails, Plate, Page, Read, Write, Memory}
use Rattle.page_files.specs.Verdicts.{Verdict, Targets, IsVerdict, OneVerdict, outcome}
use Rattle.page_files.specs.Verdicts.Verdict.{Refused, Out}

-- What has to be known of the plates' files: bytes that hold a plate have no fault, and hold one plate; others have one fault.
pub record PlateLaws (decoder : Decoder) : Type 0 where
  pub not_both : (bytes : List ℕ) (plate : PlateRead) (fault : PlateFault) → decoder.plate bytes plate → decoder.fault bytes fault → ⊥
  pub one_plate : (bytes : List ℕ) (one two : PlateRead) → decoder.plate bytes one → decoder.plate bytes two → one ≡ two
  pub one_fault : (bytes : List ℕ) (one two : PlateFault) → decoder.fault bytes one → decoder.fault bytes two → one ≡ two

-- A file has one list of bytes.
stored_both : (files : List ℕ → Option (List ℕ)) (name : List ℕ) (F G : List ℕ → Type 0) → Holds files name F → Holds files name G → (bytes : List ℕ) × F bytes × G bytes
stored_both files name F G one two =
    let same : two.0 ≡ one.0 = same_Some two.0 one.0 (sym two.1 ∙ one.1) in
    (one.0, one.2, subst G same two.2)

module _ (decoder : Decoder) (laws : PlateLaws decoder) (files : List ℕ → Option (List ℕ)) (source : Sources) (target : Targets) where
  -- the job is read, or it has a fault, one of them
  abbrev JobIs : JobRead → Type 0
  JobIs job = Holds files source.job (λ bytes. decoder.job bytes ≡ Ok job)

  abbrev JobFails : JobFault → Type 0
  JobFails fault = Holds files source.job (λ bytes. decoder.job bytes ≡ Err fault)

  one_job : (one two : JobRead) → JobIs one → JobIs two → one ≡ two
  one_job one two a b =
      let both = stored_both files source.job (λ bytes. decoder.job bytes ≡ Ok one) (λ bytes. decoder.job bytes ≡ Ok two) a b in
      let same : ◌≡◌ {A = Result JobRead JobFault} (Ok one) (Ok two) = sym both.1 ∙ both.2 in
      cc

  one_job_fault : (one two : JobFault) → JobFails one → JobFails two → one ≡ two
  one_job_fault one two a b =
      let both = stored_both files source.job (λ bytes. decoder.job bytes ≡ Err one) (λ bytes. decoder.job bytes ≡ Err two) a b in
      let same : ◌≡◌ {A = Result JobRead JobFault} (Err one) (Err two) = sym both.1 ∙ both.2 in
      cc

  job_or_fault : (job : JobRead) (fault : JobFault) → JobIs job → JobFails fault → ⊥
  job_or_fault job fault a b =
      let both = stored_both files source.job (λ bytes. decoder.job bytes ≡ Ok job) (λ bytes. decoder.job bytes ≡ Err fault) a b in
      let same : ◌≡◌ {A = Result JobRead JobFault} (Ok job) (Err fault) = sym both.1 ∙ both.2 in
      absurd cc

  -- a plate that was read has no fault
  read_or_fault : (k n : ℕ) (plates : List PlateRead) (fault : PlateFault) → k < n → AreRead decoder files source.inputs n plates → Holds files (name_at source.inputs k) (λ bytes. decoder.fault bytes fault) → ⊥
  read_or_fault k n plates fault within read broken =
      let both = stored_both files (name_at source.inputs k) (λ bytes. decoder.plate bytes (plate_at plates k)) (λ bytes. decoder.fault bytes fault) (read.each k within) broken in
      laws.not_both both.0 (plate_at plates k) fault both.1 both.2

  same_at : (n : ℕ) (p q : List PlateRead) → AreRead decoder files source.inputs n p → AreRead decoder files source.inputs n q → (k : ℕ) → k < n → plate_at p k ≡ plate_at q k
  same_at n p q a b k within =
      let both = stored_both files (name_at source.inputs k) (λ bytes. decoder.plate bytes (plate_at p k)) (λ bytes. decoder.plate bytes (plate_at q k)) (a.each k within) (b.each k within) in
      laws.one_plate both.0 (plate_at p k) (plate_at q k) both.1 both.2

  one_list : (n : ℕ) (p q : List PlateRead) → AreRead decoder files source.inputs n p → AreRead decoder files source.inputs n q → p ≡ q
  one_list n p q a b = same_lists p q (a.all ∙ sym b.all) (λ k d within.
      let below : k < n = omega (arith, a.all) in
      let there : k < length q = omega (arith, b.all) in
      get_or_default p k d no_plate within ∙ same_at n p q a b k below ∙ sym (get_or_default q k d no_plate there))

  -- what the job and the plates make is one thing
  one_making : (one two : Result PageParts CommonError) → Makes decoder files source one → Makes decoder files source two → one ≡ two
  one_making one two a b =
      let job : a.0 ≡ b.0 = one_job a.0 b.0 a.2.job_read b.2.job_read in
      let plates : a.1 ≡ b.1 = one_list (length source.inputs) a.1 b.1 a.2.plates_read b.2.plates_read in
      sym a.3 ∙ ap (λ (j : JobRead). assembly j a.1 source.names) job ∙ ap (λ (ps : List PlateRead). assembly b.0 ps source.names) plates ∙ b.3

  -- of two plates that are the first with a fault
  one_place : (j k : ℕ) (f g : PlateFault) → PlateFails decoder files source j f → PlateFails decoder files source k g → j < k → ⊥
  one_place j k f g a b less = read_or_fault j k b.plates f less b.before a.broken

  same_place : (j k : ℕ) (f g : PlateFault) → PlateFails decoder files source j f → PlateFails decoder files source k g → j ≡ k
  same_place j k f g a b = elim (cases_lt j k) [
    | inl less ↦ absurd (one_place j k f g a b less)
    | inr more ↦ elim (cases_lt k j) [ inl less ↦ absurd (one_place k j g f b a less) | inr other ↦ omega arith ]
  ]

  one_plate_fault : (j k : ℕ) (f g : PlateFault) → PlateFails decoder files source j f → PlateFails decoder files source k g → ◌≡◌ {A = CommonError} (Plate j f) (Plate k g)
  one_plate_fault j k f g a b =
      let place : j ≡ k = same_place j k f g a b in
      let there = subst (λ (n : ℕ). Holds files (name_at source.inputs n) (λ bytes. decoder.fault bytes f)) place a.broken in
      let both = stored_both files (name_at source.inputs k) (λ bytes. decoder.fault bytes f) (λ bytes. decoder.fault bytes g) there b.broken in
      let fault : f ≡ g = laws.one_fault both.0 f g both.1 both.2 in
      ap (λ (n : ℕ). Plate n f) place ∙ ap (λ (h : PlateFault). Plate k h) fault

  made_or_fault : (made : Result PageParts CommonError) (k : ℕ) (fault : PlateFault) → Makes decoder files source made → PlateFails decoder files source k fault → ⊥
  made_or_fault made k fault a b = read_or_fault k (length source.inputs) a.1 fault b.known a.2.plates_read b.broken

  made_or_job : (made : Result PageParts CommonError) (fault : JobFault) → Makes decoder files source made → JobFails fault → ⊥
  made_or_job made fault a b = job_or_fault a.0 fault a.2.job_read b

  -- A verdict is a fault of the job, of a plate, or what is made.
  data View (v : Verdict) : Type 0 where
    of_job : (fault : JobFault) → v ≡ Refused (Job fault) → JobFails fault → View v
    of_plate : (k : ℕ) (fault : PlateFault) → v ≡ Refused (Plate k fault) → PlateFails decoder files source k fault → View v
    of_details : (k : ℕ) → v ≡ Refused (NoDetails k) → Makes decoder files source (Err (NoDetails k)) → View v
    of_page : (fault : PageFault) → v ≡ Refused (Page fault) → Makes decoder files source (Err (Page fault)) → View v
    of_out : (page : PageParts) → v ≡ Out (outcome target page) → Makes decoder files source (Ok page) → View v

  view : (v : Verdict) → IsVerdict decoder files source target v → View v
  view (Refused (Job fault)) is = of_job fault refl is
  view (Refused (Plate k fault)) is = of_plate k fault refl is
  view (Refused (NoDetails k)) is = of_details k refl is
  view (Refused (Page fault)) is = of_page fault refl is
  view (Refused Usage) is = absurd is
  view (Refused (Read file)) is = absurd is
  view (Refused (Write file)) is = absurd is
  view (Refused Memory) is = absurd is
  view (Out written) is = of_out is.0 (ap (λ (w : List Written). Out w) is.2) is.1

  made_same : (one two : Result PageParts CommonError) (v w : Verdict) (verdict : Result PageParts CommonError → Verdict) → v ≡ verdict one → w ≡ verdict two → Makes decoder files source one → Makes decoder files source two → v ≡ w
  made_same one two v w verdict is also a b = is ∙ ap verdict (one_making one two a b) ∙ sym also

  abbrev verdict_on : Result PageParts CommonError → Verdict
  verdict_on (Ok page) = Out (outcome target page)
  verdict_on (Err error) = Refused error

  same : (v w : Verdict) → View v → View w → v ≡ w
  same v w (of_job f is a) (of_job g also b) = is ∙ ap (λ (h : JobFault). Refused (Job h)) (one_job_fault f g a b) ∙ sym also
  same v w (of_job f is a) (of_plate k g also b) = absurd (job_or_fault b.job f b.job_read a)
  same v w (of_job f is a) (of_details k also b) = absurd (made_or_job (Err (NoDetails k)) f b a)
  same v w (of_job f is a) (of_page g also b) = absurd (made_or_job (Err (Page g)) f b a)
  same v w (of_job f is a) (of_out page also b) = absurd (made_or_job (Ok page) f b a)
  same v w (of_plate j f is a) (of_job g also b) = absurd (job_or_fault a.job g a.job_read b)
  same v w (of_plate j f is a) (of_plate k g also b) = is ∙ ap (λ (r : CommonError). Refused r) (one_plate_fault j k f g a b) ∙ sym also
  same v w (of_plate j f is a) (of_details k also b) = absurd (made_or_fault (Err (NoDetails k)) j f b a)
  same v w (of_plate j f is a) (of_page g also b) = absurd (made_or_fault (Err (Page g)) j f b a)
  same v w (of_plate j f is a) (of_out page also b) = absurd (made_or_fault (Ok page) j f b a)
  same v w (of_details j is a) (of_job g also b) = absurd (made_or_job (Err (NoDetails j)) g a b)
  same v w (of_details j is a) (of_plate k g also b) = absurd (made_or_fault (Err (NoDetails j)) k g a b)
  same v w (of_details j is a) (of_details k also b) = made_same (Err (NoDetails j)) (Err (NoDetails k)) v w verdict_on is also a b
  same v w (of_details j is a) (of_page g also b) = made_same (Err (NoDetails j)) (Err (Page g)) v w verdict_on is also a b
  same v w (of_details j is a) (of_out page also b) = made_same (Err (NoDetails j)) (Ok page) v w verdict_on is also a b
  same v w (of_page f is a) (of_job g also b) = absurd (made_or_job (Err (Page f)) g a b)
  same v w (of_page f is a) (of_plate k g also b) = absurd (made_or_fault (Err (Page f)) k g a b)
  same v w (of_page f is a) (of_details k also b) = made_same (Err (Page f)) (Err (NoDetails k)) v w verdict_on is also a b
  same v w (of_page f is a) (of_page g also b) = made_same (Err (Page f)) (Err (Page g)) v w verdict_on is also a b
  same v w (of_page f is a) (of_out page also b) = made_same (Err (Page f)) (Ok page) v w verdict_on is also a b
  same v w (of_out page is a) (of_job g also b) = absurd (made_or_job (Ok page) g a b)
  same v w (of_out page is a) (of_plate k g also b) = absurd (made_or_fault (Ok page) k g a b)
  same v w (of_out page is a) (of_details k also b) = made_same (Ok page) (Err (NoDetails k)) v w verdict_on is also a b
  same v w (of_out page is a) (of_page g also b) = made_same (Ok page) (Err (Page g)) v w verdict_on is also a b
  same v w (of_out page is a) (of_out other also b) = made_same (Ok page) (Ok other) v w verdict_on is also a b

-- The files have one verdict.
pub one_verdict : (decoder : Decoder) → PlateLaws decoder → OneVerdict decoder
one_verdict decoder laws files source target v w is also = same decoder laws files source target v w (view decoder laws files source target v is) (view decoder laws files source target w also)
