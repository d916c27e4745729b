-- No two verdicts on a command stand at once.
use Rattle.std.proofs.Common.{◌≡◌, ℕ, zero, suc, ◌+◌, ◌<◌, ◌≤◌, List, [], ◌∷◌, length, map, take, get_or, Option, Ok, inl, inr, refl, sym, ap, ◌∙◌, subst, arith}
use Rattle.std.proofs.lemmas.Bool.{cases_lt}
use Rattle.std.proofs.lemmas.List.{same_lists, get_or_default}
use Rattle.std.proofs.lemmas.Option.{same_Some}
use Rattle.page_files.specs.Inputs.{AreRead, Holds, Makes, name_at, no_plate, one_page, plate_at}
use Rattle.page_model.specs.declared.parts.PageParts.{PageParts}
use Rattle.page_model.specs.declared.parts.Plane.{Plane}
use Rattle.page_files.specs.Files.{Written}
use Rattle.pgm_plates.specs.declared.plate.Plate.{Plate as PlateRead}
use Rattle.pgm_plates.specs.declared.plate.PlateFault.{PlateFault}
use Rattle.pgm_plates.specs.Faults.{IsFault}
use Rattle.pgm_plates.specs.Planes.{plane_of}
use Rattle.pgm_plates.specs.Plates.{IsPlateFile}
use Rattle.trapset_cli.specs.declared.reason.TrapsetError.{TrapsetError}
use Rattle.trapset_cli.specs.declared.reason.TrapsetError.TheVariants as errors
use Rattle.trapset_cli.specs.Commands.{inputs_of, sources_of}
use Rattle.trapset_cli.specs.Verdicts.{ArePlanes, Gives, HasBadLine, IsApply, IsTraps, IsVerdict, OnPlanes, PlateRefused, Refused, Out, no_files}
use Rattle.trapset_cli.specs.Words.{TrapsWords, ApplyWords, Command, Traps, Apply}
use Rattle.common_errors.specs.declared.common.CommonError.{CommonError}
use Rattle.common_errors.specs.declared.common.CommonError.TheVariants as reasons
use Rattle.trap_set.specs.Applying.{Differ, Fits}
use Rattle.trap_set.specs.Lines.{BeginsSome, IsBadLine, lines_of}
use Rattle.trap_set.specs.Runs.{Run}
use Rattle.trap_set.specs.SetText.{SetHead, IsSetFile, page_line, set_lines, title_line}
use Rattle.trap_set.proofs.SetLines.{lines_whole, one_head}
use Rattle.page_files.specs.Verdicts.{Verdict as PageVerdict, IsVerdict as IsPageVerdict, Refused as page_refused, Out as page_out, outcome}
use Rattle.page_files.proofs.VerdictLemmas.{PlateLaws, one_verdict}

-- the text of a set

take_less : {X : Type 0} (i k : ℕ) (xs : List X) → i ≤ k → take i (take k xs) ≡ take i xs
take_less zero k xs l = refl
take_less (suc i) zero xs l = absurd (omega (arith, l))
take_less (suc i) (suc k) [] l = refl
take_less {X} (suc i) (suc k) (x ∷ xs) l = ap (λ (ys : List X). x ∷ ys) (take_less i k xs (omega (arith, l)))

-- where the first lines begin a set, fewer of them do
begin_less : (bytes : List ℕ) (i k : ℕ) → i ≤ k → BeginsSome bytes k → BeginsSome bytes i
begin_less bytes i k l (head, runs, b) = (
  head,
  runs,
  record {
    is_set = b.is_set;
    there = omega (arith, l, b.there);
    same = sym (take_less i k (lines_of bytes) l) ∙ ap (take i) b.same ∙ take_less i k (set_lines head runs) l;
  },
)

one_bad_line : (bytes : List ℕ) (i k : ℕ) → IsBadLine bytes i → IsBadLine bytes k → i ≡ k
one_bad_line bytes i k a b = elim (cases_lt i k) [
  | inl less ↦ absurd (a.bad (begin_less bytes (i + 1) k (omega arith) b.before))
  | inr more ↦ elim (cases_lt k i) [ inl less ↦ absurd (b.bad (begin_less bytes (k + 1) i (omega arith) a.before)) | inr other ↦ omega arith ]
]

fits_or_differs : (bytes : List ℕ) (head : SetHead) (runs : List Run) (planes : List Plane) → IsSetFile bytes head runs → Fits head planes → Differ bytes planes → ⊥
fits_or_differs bytes head runs planes file fits d =
    let both : title_line ∷ page_line head ∷ [] ≡ title_line ∷ page_line d.head ∷ [] = sym (ap (take 2) (lines_whole bytes head runs file)) ∙ d.begins.same in
    let same = one_head head d.head file.is_set.in_range d.begins.is_set.in_range (ap (λ (xs : List (List ℕ)). get_or xs 1 []) both) in
    d.others (subst (λ (o : SetHead). Fits o planes) same fits)

-- a file has one list of bytes
stored_both : (files : List ℕ → Option (List ℕ)) (name : List ℕ) (F G : List ℕ → Type 0) → Holds files name F → Holds files name G → (bytes : List ℕ) × F bytes × G bytes
stored_both files name F G one two =
    let same : two.0 ≡ one.0 = same_Some two.0 one.0 (sym two.1 ∙ one.1) in
    (one.0, one.2, subst G same two.2)

module _ (laws : PlateLaws one_page) (files : List ℕ → Option (List ℕ)) where
  -- plates that were read have no fault, and are one list
  read_or_fault : (names : List (List ℕ)) (k n : ℕ) (plates : List PlateRead) (fault : PlateFault) → k < n → AreRead one_page files names n plates → Holds files (name_at names k) (λ bytes. IsFault bytes fault) → ⊥
  read_or_fault names k n plates fault within read broken =
      let both = stored_both files (name_at names k) (λ bytes. IsPlateFile bytes (plate_at plates k)) (λ bytes. IsFault bytes fault) (read.each k within) broken in
      laws.not_both both.0 (plate_at plates k) fault both.1 both.2

  same_at : (names : List (List ℕ)) (n : ℕ) (p q : List PlateRead) → AreRead one_page files names n p → AreRead one_page files names n q → (k : ℕ) → k < n → plate_at p k ≡ plate_at q k
  same_at names n p q a b k within =
      let both = stored_both files (name_at names k) (λ bytes. IsPlateFile bytes (plate_at p k)) (λ bytes. IsPlateFile bytes (plate_at q k)) (a.each k within) (b.each k within) in
      laws.one_plate both.0 (plate_at p k) (plate_at q k) both.1 both.2

  one_list : (names : List (List ℕ)) (n : ℕ) (p q : List PlateRead) → AreRead one_page files names n p → AreRead one_page files names n q → p ≡ q
  one_list names n p q a b = same_lists p q (a.all ∙ sym b.all) (λ k d within.
      let below : k < n = omega (arith, a.all) in
      let there : k < length q = omega (arith, b.all) in
      get_or_default p k d no_plate within ∙ same_at names n p q a b k below ∙ sym (get_or_default q k d no_plate there))

  one_planes : (names : List (List ℕ)) (p q : List Plane) → ArePlanes files names p → ArePlanes files names q → p ≡ q
  one_planes names p q a b = a.same ∙ ap (λ (ps : List PlateRead). map plane_of ps) (one_list names (length names) a.plates b.plates a.read b.read) ∙ sym b.same

  -- of two plates that are the first with a fault
  same_place : (names : List (List ℕ)) (j k : ℕ) (f g : PlateFault) → PlateRefused files names j f → PlateRefused files names k g → j ≡ k
  same_place names j k f g a b = elim (cases_lt j k) [
    | inl less ↦ absurd (read_or_fault names j k b.plates f less b.before a.broken)
    | inr more ↦ elim (cases_lt k j) [ inl less ↦ absurd (read_or_fault names k j a.plates g less a.before b.broken) | inr other ↦ omega arith ]
  ]

  one_plate_fault : (names : List (List ℕ)) (j k : ℕ) (f g : PlateFault) → PlateRefused files names j f → PlateRefused files names k g → ◌≡◌ {A = TrapsetError} (errors.Page (reasons.Plate j f)) (errors.Page (reasons.Plate k g))
  one_plate_fault names j k f g a b =
      let place : j ≡ k = same_place names j k f g a b in
      let there = subst (λ (n : ℕ). Holds files (name_at names n) (λ bytes. IsFault bytes f)) place a.broken in
      let both = stored_both files (name_at names k) (λ bytes. IsFault bytes f) (λ bytes. IsFault bytes g) there b.broken in
      let fault : f ≡ g = laws.one_fault both.0 f g both.1 both.2 in
      ap (λ (n : ℕ). errors.Page (reasons.Plate n f)) place ∙ ap (λ (h : PlateFault). errors.Page (reasons.Plate k h)) fault

  module _ (words : ApplyWords) where
    -- both facts, of the same bytes and planes
    both_on : (F G : List ℕ → List Plane → Type 0) → OnPlanes files words F → OnPlanes files words G → (bytes : List ℕ) × (planes : List Plane) × F bytes planes × G bytes planes
    both_on F G one two =
        let same : two.planes ≡ one.planes = one_planes (inputs_of words) two.planes one.planes two.read one.read in
        let both = stored_both files words.set (λ bytes. F bytes one.planes) (λ bytes. G bytes one.planes) one.set (subst (λ (ps : List Plane). Holds files words.set (λ bytes. G bytes ps)) same two.set) in
        (both.0, one.planes, both.1, both.2)

    read_or_refused : (F : List ℕ → List Plane → Type 0) (k : ℕ) (fault : PlateFault) → OnPlanes files words F → PlateRefused files (inputs_of words) k fault → ⊥
    read_or_refused F k fault on refused = read_or_fault (inputs_of words) k (length (inputs_of words)) on.read.plates fault refused.known on.read.read refused.broken

    -- a cause is a plate's fault, a bad line, or a set for other planes
    data View (reason : TrapsetError) : Type 0 where
      of_plate : (k : ℕ) (fault : PlateFault) → reason ≡ errors.Page (reasons.Plate k fault) → PlateRefused files (inputs_of words) k fault → View reason
      of_line : (n : ℕ) → reason ≡ errors.BadLine n → OnPlanes files words (HasBadLine n) → View reason
      of_others : reason ≡ errors.Differs → OnPlanes files words Differ → View reason

    view : (reason : TrapsetError) → IsApply files words (Refused reason) → View reason
    view (errors.Page (reasons.Plate k fault)) is = of_plate k fault refl is
    view (errors.BadLine n) is = of_line n refl is
    view errors.Differs is = of_others refl is
    view (errors.Page reasons.Usage) is = absurd is
    view (errors.Page (reasons.Job fault)) is = absurd is
    view (errors.Page (reasons.NoDetails k)) is = absurd is
    view (errors.Page (reasons.Page fault)) is = absurd is
    view (errors.Page (reasons.Read file)) is = absurd is
    view (errors.Page (reasons.Write file)) is = absurd is
    view (errors.Page reasons.Memory) is = absurd is
    view errors.NoCommand is = absurd is
    view errors.SetUnread is = absurd is
    view errors.SetUnwritten is = absurd is

    one_line : (m n : ℕ) → OnPlanes files words (HasBadLine m) → OnPlanes files words (HasBadLine n) → m ≡ n
    one_line m n a b =
        let both = both_on (HasBadLine m) (HasBadLine n) a b in
        let one = both.2 in
        let two = both.3 in
        let same = one_bad_line both.0 one.good two.good one.bad two.bad in
        omega (arith, one.is, two.is, same)

    line_or_others : (n : ℕ) → OnPlanes files words (HasBadLine n) → OnPlanes files words Differ → ⊥
    line_or_others n a b = (let both = both_on (HasBadLine n) Differ a b in both.2.same both.3)

    same_error : (one two : TrapsetError) → View one → View two → one ≡ two
    same_error one two (of_plate j f is a) (of_plate k g also b) = is ∙ one_plate_fault (inputs_of words) j k f g a b ∙ sym also
    same_error one two (of_plate j f is a) (of_line n also b) = absurd (read_or_refused (HasBadLine n) j f b a)
    same_error one two (of_plate j f is a) (of_others also b) = absurd (read_or_refused Differ j f b a)
    same_error one two (of_line m is a) (of_plate k g also b) = absurd (read_or_refused (HasBadLine m) k g a b)
    same_error one two (of_line m is a) (of_line n also b) = is ∙ ap (λ (k : ℕ). errors.BadLine k) (one_line m n a b) ∙ sym also
    same_error one two (of_line m is a) (of_others also b) = absurd (line_or_others m a b)
    same_error one two (of_others is a) (of_plate k g also b) = absurd (read_or_refused Differ k g a b)
    same_error one two (of_others is a) (of_line n also b) = absurd (line_or_others n b a)
    same_error one two (of_others is a) (of_others also b) = is ∙ sym also

    given_or_refused : (new : List Plane) (reason : TrapsetError) → OnPlanes files words (Gives new) → View reason → ⊥
    given_or_refused new reason on (of_plate k fault is a) = read_or_refused (Gives new) k fault on a
    given_or_refused new reason on (of_line n is a) = (let both = both_on (Gives new) (HasBadLine n) on a in both.3.bad.no_set both.2.head both.2.runs both.2.is_file)
    given_or_refused new reason on (of_others is a) = (let both = both_on (Gives new) Differ on a in fits_or_differs both.0 both.2.head both.2.runs both.1 both.2.is_file both.2.fits both.3)

  module _ (words : TrapsWords) where
    -- a cause is an error of the page
    page_of : (reason : TrapsetError) → IsTraps files words (Refused reason) → (error : CommonError) × (reason ≡ errors.Page error) × IsPageVerdict one_page files (sources_of words) no_files (page_refused error)
    page_of (errors.Page error) is = (error, refl, is)
    page_of errors.NoCommand is = absurd is
    page_of errors.SetUnread is = absurd is
    page_of errors.SetUnwritten is = absurd is
    page_of (errors.BadLine n) is = absurd is
    page_of errors.Differs is = absurd is

    same_page_error : (one two : TrapsetError) → IsTraps files words (Refused one) → IsTraps files words (Refused two) → one ≡ two
    same_page_error one two a b =
        let x = page_of one a in
        let y = page_of two b in
        let same : ◌≡◌ {A = PageVerdict} (page_refused x.0) (page_refused y.0) = one_verdict one_page laws files (sources_of words) no_files (page_refused x.0) (page_refused y.0) x.2 y.2 in
        let errors_same : x.0 ≡ y.0 = cc in
        x.1 ∙ ap (λ (r : CommonError). errors.Page r) errors_same ∙ sym y.1

    made_or_refused : (page : PageParts) (reason : TrapsetError) → Makes one_page files (sources_of words) (Ok page) → IsTraps files words (Refused reason) → ⊥
    made_or_refused page reason made is =
        let x = page_of reason is in
        let same : ◌≡◌ {A = PageVerdict} (page_out (outcome no_files page)) (page_refused x.0) = one_verdict one_page laws files (sources_of words) no_files (page_out (outcome no_files page)) (page_refused x.0) (page, made, refl) x.2 in
        absurd cc

  -- where files are to be written, the input is not refused
  pub out_or_refused : (command : Command) (written : List Written) (reason : TrapsetError) → IsVerdict files command (Out written) → IsVerdict files command (Refused reason) → ⊥
  out_or_refused (Traps words) written reason out is = made_or_refused words out.0 reason out.1 is
  out_or_refused (Apply words) written reason out is = given_or_refused words out.0 reason out.1 (view words reason is)

  -- the input is refused for one cause
  pub one_error : (command : Command) (one two : TrapsetError) → IsVerdict files command (Refused one) → IsVerdict files command (Refused two) → one ≡ two
  one_error (Traps words) one two a b = same_page_error words one two a b
  one_error (Apply words) one two a b = same_error words one two (view words one a) (view words two b)
