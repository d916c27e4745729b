-- No two verdicts on a run stand at once.
use Rattle.std.proofs.Common.{◌≡◌, ℕ, ◌<◌, List, [], ◌∷◌, ◌++◌, length, Option, Result, Ok, Err, inl, inr, refl, sym, ap, ◌∙◌, subst, arith}
use Rattle.std.proofs.lemmas.Bool.{cases_lt}
use Rattle.std.proofs.lemmas.Option.{same_Some}
use Rattle.page_files.specs.Inputs.{Sources, Holds, AreRead, Makes, PlateFails, name_at, plate_at}
use Rattle.job_pages.specs.declared.run.RunError.{RunError}
use Rattle.job_pages.specs.declared.run.RunError.TheVariants.{Fault, TooManyPages as HasTooMany, OutOfMemory}
use Rattle.page_model.specs.declared.parts.PageParts.{PageParts}
use Rattle.page_files.specs.Files.{Written}
use Rattle.pgm_plates.specs.declared.plate.Plate.{Plate as PlateRead}
use Rattle.pgm_plates.specs.declared.plate.PlateFault.{PlateFault}
use Rattle.job_reader.specs.declared.job.Job.{Job as JobRead}
use Rattle.ps_tokens.specs.declared.faults.JobFault.{JobFault}
use Rattle.traprun_cli.specs.declared.error.TraprunError.{TraprunError}
use Rattle.traprun_cli.specs.declared.error.TraprunError.TheVariants.{Whole, TooManyPages, AtPage, Ends, Extra}
use Rattle.traprun_cli.specs.Images.{HasImage, HasImageFault, HasNoImage, page_decoder}
use Rattle.traprun_cli.specs.Pages.{AreMade, pages_of, run_files, target_at}
use Rattle.traprun_cli.specs.RunVerdicts.{RunVerdict, HasPages, ComesTo, PlateEnds, AllMade, AllEnd, LooksLast, IsRunVerdict, OneRunVerdict}
use Rattle.traprun_cli.specs.RunVerdicts.RunVerdict.{Stopped, Out}
use Rattle.traprun_cli.proofs.ImageVerdictLemmas.{page_laws, image_or_end, image_or_fault, fault_or_end, fault_one}
use Rattle.common_errors.specs.declared.common.CommonError.{CommonError}
use Rattle.common_errors.specs.declared.common.CommonError.TheVariants.{Usage, Job, NoDetails, Plate, Page, Read, Write, Memory}
use Rattle.page_files.specs.Verdicts.{Verdict, Targets, IsVerdict, outcome}
use Rattle.page_files.specs.Verdicts.Verdict.{Refused, Out as PageOut}
use Rattle.page_files.proofs.VerdictLemmas.{one_verdict}

-- A file has one list of bytes.
stored_both : (files : List ℕ → Option (List ℕ)) (name : List ℕ) (F G : List ℕ → Type 0) → Holds files name F → Holds files name G → (bytes : List ℕ) × F bytes × G bytes
stored_both files name F G one two =
    let same : two.0 ≡ one.0 = same_Some two.0 one.0 (sym two.1 ∙ one.1) in
    (one.0, one.2, subst G same two.2)

-- of two numbers one is less, or they are one
data Order (j k : ℕ) : Type 0 where
  less : j < k → Order j k
  same : j ≡ k → Order j k
  more : k < j → Order j k

order : (j k : ℕ) → Order j k
order j k = elim (cases_lt j k) [
  | inl is ↦ less is
  | inr not_less ↦ elim (cases_lt k j) [ inl is ↦ more is | inr other ↦ same (omega arith) ]
]

-- the stop that a whole job's error is
abbrev pub error_of : RunError → TraprunError
error_of (Fault fault) = Whole (Job fault)
error_of (HasTooMany at) = TooManyPages at
error_of OutOfMemory = Whole Memory

module _ (files : List ℕ → Option (List ℕ)) (source : Sources) (target : Targets) where
  abbrev Says : Result ℕ RunError → Type 0
  Says said = Holds files source.job (λ bytes. pages_of bytes ≡ said)

  one_saying : (r s : Result ℕ RunError) → Says r → Says s → r ≡ s
  one_saying r s a b = let both = stored_both files source.job (λ bytes. pages_of bytes ≡ r) (λ bytes. pages_of bytes ≡ s) a b in sym both.1 ∙ both.2

  one_count : (m n : ℕ) → HasPages files source m → HasPages files source n → m ≡ n
  one_count m n a b = let same : ◌≡◌ {A = Result ℕ RunError} (Ok m) (Ok n) = one_saying (Ok m) (Ok n) a b in cc

  pages_or_error : (m : ℕ) (r : RunError) → HasPages files source m → Says (Err r) → ⊥
  pages_or_error m r a b = let same : ◌≡◌ {A = Result ℕ RunError} (Ok m) (Err r) = one_saying (Ok m) (Err r) a b in absurd cc

  one_reason : (r s : RunError) → Says (Err r) → Says (Err s) → r ≡ s
  one_reason r s a b = let same : ◌≡◌ {A = Result ℕ RunError} (Err r) (Err s) = one_saying (Err r) (Err s) a b in cc

  -- a page that is made
  abbrev Made : ℕ → Type 0
  Made k = (page : PageParts) × Makes (page_decoder k) files source (Ok page)

  -- each page below the number of pages that are made is made
  made_at : (pages : List PageParts) (j : ℕ) → AreMade files source pages → j < length pages → Made j
  made_at [] j made within = absurd (omega arith)
  made_at (page ∷ earlier) j made within = elim (cases_lt j (length earlier)) [
    | inl before ↦ made_at earlier j made.0 before
    | inr last ↦
        let here : length earlier ≡ j = omega arith in
        subst Made here (page, made.1)
  ]

  abbrev PageSays : ℕ → Verdict → Type 0
  PageSays k verdict = IsVerdict (page_decoder k) files source (target_at target k) verdict

  one_page_verdict : (k : ℕ) (v w : Verdict) → PageSays k v → PageSays k w → v ≡ w
  one_page_verdict k v w = one_verdict (page_decoder k) (page_laws k) files source (target_at target k) v w

  one_outcome : (k : ℕ) (p q : PageParts) → Makes (page_decoder k) files source (Ok p) → Makes (page_decoder k) files source (Ok q) → outcome (target_at target k) p ≡ outcome (target_at target k) q
  one_outcome k p q a b =
      let same : PageOut (outcome (target_at target k) p) ≡ PageOut (outcome (target_at target k) q) = one_page_verdict k (PageOut (outcome (target_at target k) p)) (PageOut (outcome (target_at target k) q)) (p, a, refl) (q, b, refl) in
      cc

  made_or_refused : (k : ℕ) (common_error : CommonError) → Made k → PageSays k (Refused common_error) → ⊥
  made_or_refused k common_error made is =
      let same : PageOut (outcome (target_at target k) made.0) ≡ Refused common_error = one_page_verdict k (PageOut (outcome (target_at target k) made.0)) (Refused common_error) (made.0, made.1, refl) is in
      absurd cc

  -- a plate that was read does not end
  read_or_end : (k n plate : ℕ) (plates : List PlateRead) → plate < n → AreRead (page_decoder k) files source.inputs n plates → Holds files (name_at source.inputs plate) (HasNoImage k) → ⊥
  read_or_end k n plate plates within read ended =
      let both = stored_both files (name_at source.inputs plate) (λ bytes. HasImage k bytes (plate_at plates plate)) (HasNoImage k) (read.each plate within) ended in
      image_or_end k both.0 (plate_at plates plate) both.1 both.2

  makes_or_ends : (k plate : ℕ) (made : Result PageParts CommonError) → Makes (page_decoder k) files source made → PlateEnds files source k plate → ⊥
  makes_or_ends k plate made makes ends = read_or_end k (length source.inputs) plate makes.1 ends.known makes.2.plates_read ends.ended

  fails_or_ends : (k p plate : ℕ) (fault : PlateFault) → PlateFails (page_decoder k) files source p fault → PlateEnds files source k plate → ⊥
  fails_or_ends k p plate fault fails ends = elim (order p plate) [
    | less before ↦
        let both = stored_both files (name_at source.inputs p) (λ bytes. HasImage k bytes (plate_at ends.plates p)) (λ bytes. HasImageFault k bytes fault) (ends.before.each p before) fails.broken in
        image_or_fault k both.0 (plate_at ends.plates p) fault both.1 both.2
    | same one ↦
        let there = subst (λ (n : ℕ). Holds files (name_at source.inputs n) (λ bytes. HasImageFault k bytes fault)) one fails.broken in
        let both = stored_both files (name_at source.inputs plate) (λ bytes. HasImageFault k bytes fault) (HasNoImage k) there ends.ended in
        fault_or_end k both.0 fault both.1 both.2
    | more suffix ↦ read_or_end k p plate fails.plates suffix fails.before ends.ended
  ]

  job_or_ends : (k plate : ℕ) (fault : JobFault) → Holds files source.job (λ bytes. (page_decoder k).job bytes ≡ Err fault) → PlateEnds files source k plate → ⊥
  job_or_ends k plate fault fails ends =
      let both = stored_both files source.job (λ bytes. (page_decoder k).job bytes ≡ Ok ends.job) (λ bytes. (page_decoder k).job bytes ≡ Err fault) ends.job_read fails in
      let same : ◌≡◌ {A = Result JobRead JobFault} (Ok ends.job) (Err fault) = sym both.1 ∙ both.2 in
      absurd cc

  refused_or_ends : (k plate : ℕ) (common_error : CommonError) → PageSays k (Refused common_error) → PlateEnds files source k plate → ⊥
  refused_or_ends k plate (Job fault) is ends = job_or_ends k plate fault is ends
  refused_or_ends k plate (Plate p fault) is ends = fails_or_ends k p plate fault is ends
  refused_or_ends k plate (NoDetails p) is ends = makes_or_ends k plate (Err (NoDetails p)) is ends
  refused_or_ends k plate (Page fault) is ends = makes_or_ends k plate (Err (Page fault)) is ends
  refused_or_ends k plate Usage is ends = is
  refused_or_ends k plate (Read file) is ends = is
  refused_or_ends k plate (Write file) is ends = is
  refused_or_ends k plate Memory is ends = is

  one_end : (k p q : ℕ) → PlateEnds files source k p → PlateEnds files source k q → p ≡ q
  one_end k p q a b = elim (order p q) [
    | less before ↦ absurd (read_or_end k q p b.plates before b.before a.ended)
    | same one ↦ one
    | more suffix ↦ absurd (read_or_end k p q a.plates suffix a.before b.ended)
  ]

  -- what stops a run at a page
  data Errors (k : ℕ) (error : TraprunError) : Type 0 where
    refused : (common_error : CommonError) → error ≡ AtPage k common_error → PageSays k (Refused common_error) → Errors k error
    ends : (plate : ℕ) → error ≡ Ends k plate → PlateEnds files source k plate → Errors k error

  made_or_stops : (k : ℕ) (error : TraprunError) → Made k → Errors k error → ⊥
  made_or_stops k error made (refused common_error is says) = made_or_refused k common_error made says
  made_or_stops k error made (ends plate is ended) = makes_or_ends k plate (Ok made.0) made.1 ended

  same_error : (k : ℕ) (s t : TraprunError) → Errors k s → Errors k t → s ≡ t
  same_error k s t (refused r is a) (refused q also b) =
      let same : Refused r ≡ Refused q = one_page_verdict k (Refused r) (Refused q) a b in
      let one : r ≡ q = cc in
      is ∙ ap (λ (x : CommonError). AtPage k x) one ∙ sym also
  same_error k s t (refused r is a) (ends p also b) = absurd (refused_or_ends k p r a b)
  same_error k s t (ends p is a) (refused r also b) = absurd (refused_or_ends k p r b a)
  same_error k s t (ends p is a) (ends q also b) = is ∙ ap (λ (n : ℕ). Ends k n) (one_end k p q a b) ∙ sym also

  -- a page before one that the run comes to does not stop it
  stops_later : (j k : ℕ) (error : TraprunError) → ComesTo files source k → Errors j error → j < k → ⊥
  stops_later j k error comes stops before = made_or_stops j error (made_at comes.pages j comes.made (omega (arith, comes.number))) stops

  one_error : (j k : ℕ) (s t : TraprunError) → ComesTo files source j → ComesTo files source k → Errors j s → Errors k t → s ≡ t
  one_error j k s t first second a b = elim (order j k) [
    | less before ↦ absurd (stops_later j k s second a before)
    | same one ↦ same_error k s t (subst (λ (n : ℕ). Errors n s) one a) b
    | more suffix ↦ absurd (stops_later k j t first b suffix)
  ]

  stops_or_all : (k : ℕ) (error : TraprunError) → ComesTo files source k → Errors k error → AllMade files source → ⊥
  stops_or_all k error comes stops all =
      let count : comes.count ≡ length all.pages = one_count comes.count (length all.pages) comes.has all.has in
      made_or_stops k error (made_at all.pages k all.made (omega (arith, comes.within))) stops

  same_files : (ps qs : List PageParts) → AreMade files source ps → AreMade files source qs → length ps ≡ length qs → run_files target ps ≡ run_files target qs
  same_files [] [] a b count = refl
  same_files [] (q ∷ qs) a b count = absurd (omega arith)
  same_files (p ∷ ps) [] a b count = absurd (omega arith)
  same_files (p ∷ ps) (q ∷ qs) a b count =
      let less : length ps ≡ length qs = omega arith in
      let here : Makes (page_decoder (length qs)) files source (Ok p) = subst (λ (n : ℕ). Makes (page_decoder n) files source (Ok p)) less a.1 in
      ap (λ (ws : List Written). ws ++ outcome (target_at target (length ps)) p) (same_files ps qs a.0 b.0 less)
      ∙ ap (λ (n : ℕ). run_files target qs ++ outcome (target_at target n) p) less
      ∙ ap (λ (ws : List Written). run_files target qs ++ ws) (one_outcome (length qs) p q here b.1)

  all_same : (a b : AllMade files source) → length a.pages ≡ length b.pages
  all_same a b = one_count (length a.pages) (length b.pages) a.has b.has

  -- what stops a run after its last page
  data Last (error : TraprunError) : Type 0 where
    fails : (plate : ℕ) (fault : PlateFault) → error ≡ Whole (Plate plate fault) → LooksLast files source plate (λ count bytes. HasImageFault count bytes fault) → Last error
    extra : (plate : ℕ) → error ≡ Extra plate → LooksLast files source plate (λ count bytes. (another : PlateRead) × HasImage count bytes another) → Last error

  all_of : (error : TraprunError) → Last error → AllMade files source
  all_of error (fails plate fault is looks) = looks.all
  all_of error (extra plate is looks) = looks.all

  -- a plate whose file ends is not the one that is refused
  fails_or_ended : (count plate : ℕ) (fault : PlateFault) → Holds files (name_at source.inputs plate) (λ bytes. HasImageFault count bytes fault) → Holds files (name_at source.inputs plate) (HasNoImage count) → ⊥
  fails_or_ended count plate fault a b =
      let both = stored_both files (name_at source.inputs plate) (λ bytes. HasImageFault count bytes fault) (HasNoImage count) a b in
      fault_or_end count both.0 fault both.1 both.2

  extra_or_ended : (count plate : ℕ) → Holds files (name_at source.inputs plate) (λ bytes. (another : PlateRead) × HasImage count bytes another) → Holds files (name_at source.inputs plate) (HasNoImage count) → ⊥
  extra_or_ended count plate a b =
      let both = stored_both files (name_at source.inputs plate) (λ bytes. (another : PlateRead) × HasImage count bytes another) (HasNoImage count) a b in
      image_or_end count both.0 both.1.0 both.1.1 both.2

  extra_or_fails : (count plate : ℕ) (fault : PlateFault) → Holds files (name_at source.inputs plate) (λ bytes. (another : PlateRead) × HasImage count bytes another) → Holds files (name_at source.inputs plate) (λ bytes. HasImageFault count bytes fault) → ⊥
  extra_or_fails count plate fault a b =
      let both = stored_both files (name_at source.inputs plate) (λ bytes. (another : PlateRead) × HasImage count bytes another) (λ bytes. HasImageFault count bytes fault) a b in
      image_or_fault count both.0 both.1.0 fault both.1.1 both.2

  same_fault : (count plate : ℕ) (f g : PlateFault) → Holds files (name_at source.inputs plate) (λ bytes. HasImageFault count bytes f) → Holds files (name_at source.inputs plate) (λ bytes. HasImageFault count bytes g) → f ≡ g
  same_fault count plate f g a b =
      let both = stored_both files (name_at source.inputs plate) (λ bytes. HasImageFault count bytes f) (λ bytes. HasImageFault count bytes g) a b in
      fault_one count both.0 f g both.1 both.2

  abbrev At : ℕ → ℕ → (ℕ → List ℕ → Type 0) → Type 0
  At count plate Fact = Holds files (name_at source.inputs plate) (Fact count)

  -- the plate that is refused is one, whatever is wrong with it
  one_plate_last : (p q : ℕ) (F G : ℕ → List ℕ → Type 0) → ((count plate : ℕ) → At count plate F → At count plate HasNoImage → ⊥) → ((count plate : ℕ) → At count plate G → At count plate HasNoImage → ⊥) → LooksLast files source p F → LooksLast files source q G → p ≡ q
  one_plate_last p q F G not_f not_g a b =
      let count : length a.all.pages ≡ length b.all.pages = all_same a.all b.all in
      elim (order p q) [
        | less before ↦ absurd (not_f (length b.all.pages) p (subst (λ (n : ℕ). At n p F) count a.here) (b.before p before))
        | same one ↦ one
        | more suffix ↦ absurd (not_g (length a.all.pages) q (subst (λ (n : ℕ). At n q G) (sym count) b.here) (a.before q suffix))
      ]

  -- both facts hold of that plate
  both_last : (p q : ℕ) (F G : ℕ → List ℕ → Type 0) → p ≡ q → LooksLast files source p F → (b : LooksLast files source q G) → At (length b.all.pages) q F
  both_last p q F G one a b =
      let count : length a.all.pages ≡ length b.all.pages = all_same a.all b.all in
      subst (λ (n : ℕ). At (length b.all.pages) n F) one (subst (λ (n : ℕ). At n p F) count a.here)

  abbrev Faulty : PlateFault → ℕ → List ℕ → Type 0
  Faulty fault count bytes = HasImageFault count bytes fault

  abbrev More : ℕ → List ℕ → Type 0
  More count bytes = (another : PlateRead) × HasImage count bytes another

  one_last : (s t : TraprunError) → Last s → Last t → s ≡ t
  one_last s t (fails p f is a) (fails q g also b) =
      let one : p ≡ q = one_plate_last p q (Faulty f) (Faulty g) (λ count plate. fails_or_ended count plate f) (λ count plate. fails_or_ended count plate g) a b in
      let fault : f ≡ g = same_fault (length b.all.pages) q f g (both_last p q (Faulty f) (Faulty g) one a b) b.here in
      is ∙ ap (λ (n : ℕ). Whole (Plate n f)) one ∙ ap (λ (h : PlateFault). Whole (Plate q h)) fault ∙ sym also
  one_last s t (fails p f is a) (extra q also b) =
      let one : p ≡ q = one_plate_last p q (Faulty f) More (λ count plate. fails_or_ended count plate f) extra_or_ended a b in
      absurd (extra_or_fails (length b.all.pages) q f b.here (both_last p q (Faulty f) More one a b))
  one_last s t (extra p is a) (fails q g also b) =
      let one : p ≡ q = one_plate_last p q More (Faulty g) extra_or_ended (λ count plate. fails_or_ended count plate g) a b in
      absurd (extra_or_fails (length b.all.pages) q g (both_last p q More (Faulty g) one a b) b.here)
  one_last s t (extra p is a) (extra q also b) =
      let one : p ≡ q = one_plate_last p q More More extra_or_ended extra_or_ended a b in
      is ∙ ap (λ (n : ℕ). Extra n) one ∙ sym also

  ended_or_last : (error : TraprunError) (all : AllMade files source) → AllEnd files source (length all.pages) (length source.inputs) → Last error → ⊥
  ended_or_last error all ended (fails p f is a) = fails_or_ended (length a.all.pages) p f a.here (subst (λ (n : ℕ). Holds files (name_at source.inputs p) (HasNoImage n)) (all_same all a.all) (ended p a.known))
  ended_or_last error all ended (extra p is a) = extra_or_ended (length a.all.pages) p a.here (subst (λ (n : ℕ). Holds files (name_at source.inputs p) (HasNoImage n)) (all_same all a.all) (ended p a.known))

  -- A verdict is that of the whole job, of a page, of the last look, or what is written.
  data View (v : RunVerdict) : Type 0 where
    of_job : (r : RunError) → v ≡ Stopped (error_of r) → Says (Err r) → View v
    of_page : (k : ℕ) (error : TraprunError) → v ≡ Stopped error → ComesTo files source k → Errors k error → View v
    of_last : (error : TraprunError) → v ≡ Stopped error → Last error → View v
    of_out : (all : AllMade files source) → AllEnd files source (length all.pages) (length source.inputs) → v ≡ Out (run_files target all.pages) → View v

  view : (v : RunVerdict) → IsRunVerdict files source target v → View v
  view (Stopped (Whole (Job fault))) is = of_job (Fault fault) refl is
  view (Stopped (Whole (Plate plate fault))) is = of_last (Whole (Plate plate fault)) refl (fails plate fault refl is)
  view (Stopped (Whole (NoDetails plate))) is = absurd is
  view (Stopped (Whole (Page fault))) is = absurd is
  view (Stopped (Whole Usage)) is = absurd is
  view (Stopped (Whole (Read file))) is = absurd is
  view (Stopped (Whole (Write file))) is = absurd is
  view (Stopped (Whole Memory)) is = absurd is
  view (Stopped (TooManyPages at)) is = of_job (HasTooMany at) refl is
  view (Stopped (AtPage k common_error)) is = of_page k (AtPage k common_error) refl is.0 (refused common_error refl is.1)
  view (Stopped (Ends k plate)) is = of_page k (Ends k plate) refl is.0 (ends plate refl is.1)
  view (Stopped (Extra plate)) is = of_last (Extra plate) refl (extra plate refl is)
  view (Out written) is = of_out is.0 is.1 (ap (λ (w : List Written). Out w) is.2)

  same_verdict : (v w : RunVerdict) → View v → View w → v ≡ w
  same_verdict v w (of_job r is a) (of_job s also b) = is ∙ ap (λ (x : RunError). Stopped (error_of x)) (one_reason r s a b) ∙ sym also
  same_verdict v w (of_job r is a) (of_page k error also comes b) = absurd (pages_or_error comes.count r comes.has a)
  same_verdict v w (of_job r is a) (of_last error also b) = absurd (pages_or_error (length (all_of error b).pages) r (all_of error b).has a)
  same_verdict v w (of_job r is a) (of_out all ended also) = absurd (pages_or_error (length all.pages) r all.has a)
  same_verdict v w (of_page k error is comes a) (of_job s also b) = absurd (pages_or_error comes.count s comes.has b)
  same_verdict v w (of_page k error is comes a) (of_page j other also reaches b) = is ∙ ap (λ (x : TraprunError). Stopped x) (one_error k j error other comes reaches a b) ∙ sym also
  same_verdict v w (of_page k error is comes a) (of_last other also b) = absurd (stops_or_all k error comes a (all_of other b))
  same_verdict v w (of_page k error is comes a) (of_out all ended also) = absurd (stops_or_all k error comes a all)
  same_verdict v w (of_last error is a) (of_job s also b) = absurd (pages_or_error (length (all_of error a).pages) s (all_of error a).has b)
  same_verdict v w (of_last error is a) (of_page j other also reaches b) = absurd (stops_or_all j other reaches b (all_of error a))
  same_verdict v w (of_last error is a) (of_last other also b) = is ∙ ap (λ (x : TraprunError). Stopped x) (one_last error other a b) ∙ sym also
  same_verdict v w (of_last error is a) (of_out all ended also) = absurd (ended_or_last error all ended a)
  same_verdict v w (of_out all ended is) (of_job s also b) = absurd (pages_or_error (length all.pages) s all.has b)
  same_verdict v w (of_out all ended is) (of_page j other also reaches b) = absurd (stops_or_all j other reaches b all)
  same_verdict v w (of_out all ended is) (of_last other also b) = absurd (ended_or_last other all ended b)
  same_verdict v w (of_out all ended is) (of_out every closed also) = is ∙ ap (λ (ws : List Written). Out ws) (same_files all.pages every.pages all.made every.made (all_same all every)) ∙ sym also

-- The files of a run have one verdict.
pub one_run_verdict : OneRunVerdict
one_run_verdict files source target v w is also = same_verdict files source target v w (view files source target v is) (view files source target w also)
