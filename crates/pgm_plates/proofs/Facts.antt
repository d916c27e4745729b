-- What holds of plate files and of faults, whoever reads them.
use Rattle.std.proofs.Common.{◌≡◌, ◌⊎◌, ℕ, ◌≤◌, ◌+◌, ◌-◌, ◌*◌, List, [], ◌∷◌, ◌++◌, length, map, take, Option, Some, refl, sym, ap, ◌∙◌, subst, inl, inr, arith}
use Rattle.std.proofs.lemmas.Bool.{cases_lt}
use Rattle.std.proofs.lemmas.List.{append_assoc, append-nil, take-append-le, length-append}
use Rattle.std.proofs.lemmas.List.Elements.{All-head, All-tail}
use Rattle.std.specs.List.{All}
use Rattle.page_model.specs.declared.parts.Plane.{Plane}
use Rattle.pgm_plates.specs.declared.bounds.Bounds.{Bounds}
use Rattle.pgm_plates.specs.declared.bounds.Bounds.TheVariants.{Page}
use Rattle.pgm_plates.specs.declared.plate.Plate.{Plate}
use Rattle.pgm_plates.specs.declared.plate.PlateFault.{PlateFault}
use Rattle.pgm_plates.specs.declared.plate.PlateFault.TheVariants.{BadMagic, BadHeader, SideRange, TooManySamples, MaxvalRange, SampleAboveMaxval, Truncated, TrailingBytes}
use Rattle.pgm_plates.specs.Plates.{IsPlateWithin, IsPlateFileWithin, sample_size, raster}
use Rattle.pgm_plates.specs.Faults.{DecidesWithin, FaultAtWithin}
use Rattle.pgm_plates.specs.Reading.{IsTruncated}
use Rattle.pgm_plates.specs.Laws.{NotBothWithin, OnePlateWithin, OneFaultWithin, NoPrefixWithin, FaultStaysWithin, TurnsBackWithin, PlaneTurnsBack, FilePlateWithin, FileFaultWithin, PageInSheet}
use Rattle.pgm_plates.specs.Scanning.{IsClean}
use Rattle.pgm_plates.proofs.Shapes.{one_header}
use Rattle.pgm_plates.proofs.Moments.{stands_now_within, only_truncated}
use Rattle.pgm_plates.proofs.Decisions.{one_sample, some_size, raster_size, clean_raster}
use Rattle.pgm_plates.proofs.Prefixes.{clean_header}
use Rattle.pgm_plates.proofs.ErrorCases.{one_decided_within}

raster_same : (m : ℕ) (xs ys : List ℕ) → length xs ≡ length ys → raster m xs ≡ raster m ys → xs ≡ ys
raster_same m [] [] count e = refl
raster_same m [] (y ∷ ys) count e = absurd (omega arith)
raster_same m (x ∷ xs) [] count e = absurd (omega arith)
raster_same m (x ∷ xs) (y ∷ ys) count e =
    let same = one_sample m x y (raster m xs) (raster m ys) e in
    let rest : xs ≡ ys = raster_same m xs ys (omega arith) same.rest in
    ap (λ (z : ℕ). z ∷ xs) same.sample ∙ ap (λ (z : List ℕ). y ∷ z) rest

same_plate : (w h m : ℕ) (xs : List ℕ) (w' h' m' : ℕ) (ys : List ℕ) → w ≡ w' → h ≡ h' → m ≡ m' → xs ≡ ys → ◌≡◌ {A = Plate} (record { width = w; height = h; maxval = m; samples = xs }) (record { width = w'; height = h'; maxval = m'; samples = ys })
same_plate w h m xs w' h' m' ys a b c d = cc

nothing : (xs : List ℕ) → length xs ≡ 0 → xs ≡ []
nothing [] none = refl
nothing (x ∷ xs) none = absurd (omega arith)

pub turned_back : (m : ℕ) (xs : List ℕ) → All (λ (s : ℕ). s ≤ m) xs → map (λ (t : ℕ). m - t) (map (λ (s : ℕ). m - s) xs) ≡ xs
turned_back m [] fit = refl
turned_back m (x ∷ xs) fit =
    let le = All-head (λ (s : ℕ). s ≤ m) x xs fit in
    let e : m - (m - x) ≡ x = omega arith in
    ap (λ (z : ℕ). z ∷ map (λ (t : ℕ). m - t) (map (λ (s : ℕ). m - s) xs)) e ∙ ap (λ (z : List ℕ). x ∷ z) (turned_back m xs (All-tail (λ (s : ℕ). s ≤ m) x xs fit))

same_plane : (w h m : ℕ) (xs ys : List ℕ) → xs ≡ ys → ◌≡◌ {A = Plane} (record { width = w; height = h; maxval = m; tints = xs }) (record { width = w; height = h; maxval = m; tints = ys })
same_plane w h m xs ys is = cc

pub plane_turns_back : PlaneTurnsBack
plane_turns_back plane ok = same_plane plane.width plane.height plane.maxval (map (λ (s : ℕ). plane.maxval - s) (map (λ (t : ℕ). plane.maxval - t) plane.tints)) plane.tints (turned_back plane.maxval plane.tints ok.below)

pub cut_or_not : (fault : PlateFault) → IsTruncated fault ⊎ (IsTruncated fault → ⊥)
cut_or_not (Truncated at) = inl tt
cut_or_not (BadMagic at) = inr (λ cut. cut)
cut_or_not (BadHeader at) = inr (λ cut. cut)
cut_or_not (SideRange at) = inr (λ cut. cut)
cut_or_not (TooManySamples at) = inr (λ cut. cut)
cut_or_not (MaxvalRange at) = inr (λ cut. cut)
cut_or_not (SampleAboveMaxval at) = inr (λ cut. cut)
cut_or_not (TrailingBytes at) = inr (λ cut. cut)

all_taken : (file : Option (List ℕ)) (bytes left : List ℕ) → file ≡ Some (bytes ++ left) → left ≡ [] → file ≡ Some bytes
all_taken file bytes left is none = is ∙ ap (λ (x : List ℕ). Some (bytes ++ x)) none ∙ ap (λ (x : List ℕ). Some x) (append-nil bytes)

module _ (bounds : Bounds) where
  -- a moment within the bytes, or after them
  abbrev pub Moment : List ℕ → ℕ → PlateFault → Type 0
  Moment bytes m fault = ((m ≤ length bytes) × DecidesWithin bounds (take m bytes) fault) ⊎ ((m ≡ length bytes + 1) × (fault ≡ Truncated (length bytes)))

  pub moment_of_within : (bytes : List ℕ) (m : ℕ) (fault : PlateFault) → FaultAtWithin bounds bytes m fault → Moment bytes m fault
  moment_of_within bytes m (Truncated at) stands = inr (stands.late, ap (λ (n : ℕ). Truncated n) stands.place)
  moment_of_within bytes m (BadMagic at) stands = inl stands
  moment_of_within bytes m (BadHeader at) stands = inl stands
  moment_of_within bytes m (SideRange at) stands = inl stands
  moment_of_within bytes m (TooManySamples at) stands = inl stands
  moment_of_within bytes m (MaxvalRange at) stands = inl stands
  moment_of_within bytes m (SampleAboveMaxval at) stands = inl stands
  moment_of_within bytes m (TrailingBytes at) stands = inl stands

  longer_first : (bytes more : List ℕ) (m : ℕ) → m ≤ length bytes → ((k : ℕ) (other : PlateFault) → FaultAtWithin bounds bytes k other → m ≤ k) → (k : ℕ) (other : PlateFault) → FaultAtWithin bounds (bytes ++ more) k other → m ≤ k
  longer_first bytes more m le first k other stands =
      elim (moment_of_within (bytes ++ more) k other stands) [
        | inr end ↦ omega (arith, end.0, length-append bytes more)
        | inl d ↦ elim (cases_lt k (length bytes + 1)) [
          | inr past ↦ omega arith
          | inl within ↦
              let inside : k ≤ length bytes = omega arith in
              first k other (stands_now_within bounds bytes k other inside (subst (λ (x : List ℕ). DecidesWithin bounds x other) (take-append-le k bytes more inside) d.1))
        ]
      ]

  pub fault_stays_within : FaultStaysWithin bounds
  fault_stays_within bytes more fault whole is =
      elim (moment_of_within bytes is.moment fault is.stands) [
        | inr end ↦ absurd (whole (subst IsTruncated (sym end.1) tt))
        | inl d ↦ record {
          moment = is.moment;
          stands = stands_now_within bounds (bytes ++ more) is.moment fault (omega (arith, d.0, length-append bytes more)) (subst (λ (x : List ℕ). DecidesWithin bounds x fault) (sym (take-append-le is.moment bytes more d.0)) d.1);
          first = longer_first bytes more is.moment d.0 is.first;
        }
      ]

  counted : (plate : Plate) (w h : ℕ) → IsPlateWithin bounds plate → w ≡ plate.width → h ≡ plate.height → length plate.samples ≡ w * h
  counted plate w h ok a b = ok.count ∙ ap (λ (n : ℕ). n * plate.height) (sym a) ∙ ap (λ (n : ℕ). w * n) (sym b)

  pub one_plate_within : OnePlateWithin bounds
  one_plate_within bytes one two first second =
      let same = one_header first.header (raster one.maxval one.samples) second.header (raster two.maxval two.samples) one.width one.height one.maxval two.width two.height two.maxval first.is_header second.is_header (sym first.whole ∙ second.whole) in
      let count : length one.samples ≡ length two.samples = first.plate_ok.count ∙ sym (counted two one.width one.height second.plate_ok same.width same.height) in
      let rest : raster one.maxval one.samples ≡ raster one.maxval two.samples = same.rest ∙ ap (λ (n : ℕ). raster n two.samples) (sym same.maxval) in
      same_plate one.width one.height one.maxval one.samples two.width two.height two.maxval two.samples same.width same.height same.maxval (raster_same one.maxval one.samples two.samples count rest)

  pub no_prefix_within : NoPrefixWithin bounds
  no_prefix_within bytes more one two first second =
      let back = raster one.maxval one.samples ++ more in
      let same = one_header first.header back second.header (raster two.maxval two.samples) one.width one.height one.maxval two.width two.height two.maxval first.is_header second.is_header
      (sym (append_assoc first.header (raster one.maxval one.samples) more) ∙ ap (λ (x : List ℕ). x ++ more) (sym first.whole) ∙ second.whole) in
      let size : length (raster one.maxval one.samples) ≡ one.width * one.height * sample_size one.maxval = raster_size one.maxval one.samples ∙ ap (λ (n : ℕ). n * sample_size one.maxval) first.plate_ok.count in
      let other : length (raster two.maxval two.samples) ≡ one.width * one.height * sample_size one.maxval =
      raster_size two.maxval two.samples ∙ ap (λ (n : ℕ). length two.samples * sample_size n) (sym same.maxval) ∙ ap (λ (n : ℕ). n * sample_size one.maxval) (counted two one.width one.height second.plate_ok same.width same.height) in
      let both : length (raster one.maxval one.samples) + length more ≡ length (raster two.maxval two.samples) = sym (length-append (raster one.maxval one.samples) more) ∙ ap length same.rest in
      nothing more (omega arith)

  pub turns_back : TurnsBackWithin bounds
  turns_back plate ok = same_plate plate.width plate.height plate.maxval (map (λ (t : ℕ). plate.maxval - t) (map (λ (s : ℕ). plate.maxval - s) plate.samples)) plate.width plate.height plate.maxval plate.samples refl refl refl (turned_back plate.maxval plate.samples ok.samples)

  pub one_fault_within : OneFaultWithin bounds
  one_fault_within bytes f g one two =
      let m = one.moment in
      let n = two.moment in
      let same : m ≡ n = let a = one.first n g two.stands in let b = two.first m f one.stands in omega arith in
      elim (moment_of_within bytes m f one.stands) [
        | inl d ↦ elim (moment_of_within bytes n g two.stands) [
          | inl e ↦ one_decided_within bounds (take m bytes) f g d.1 (subst (λ (k : ℕ). DecidesWithin bounds (take k bytes) g) (sym same) e.1)
          | inr end ↦ absurd (omega (arith, d.0, end.0))
        ]
        | inr end ↦ elim (moment_of_within bytes n g two.stands) [
          | inl e ↦ absurd (omega (arith, e.0, end.0))
          | inr other ↦ end.1 ∙ sym other.1
        ]
      ]

  plate_clean : (bytes : List ℕ) (plate : Plate) (file : IsPlateFileWithin bounds bytes plate) → IsClean bounds bytes (length bytes + 1)
  plate_clean bytes plate file =
      let ok = file.plate_ok in
      let size = some_size plate.maxval in
      clean_raster bounds bytes file.header plate.width plate.height plate.maxval plate.samples []
      (clean_header bounds file.header plate.width plate.height plate.maxval file.is_header ok.width ok.height ok.product ok.positive ok.maxval file.short)
      (record {
        is_header = file.is_header;
        whole = file.whole ∙ ap (λ (x : List ℕ). file.header ++ x) (sym (append-nil (raster plate.maxval plate.samples)));
        fit = ok.samples;
        short = omega (arith, size.0);
        few = omega (arith, ok.count);
      })

  no_early : (bytes : List ℕ) (plate : Plate) (m : ℕ) (fault : PlateFault) → IsPlateFileWithin bounds bytes plate → FaultAtWithin bounds bytes m fault → IsTruncated fault → ⊥
  no_early bytes plate m (Truncated at) file stands cut = stands.no_plate plate file
  no_early bytes plate m (BadMagic at) file stands cut = cut
  no_early bytes plate m (BadHeader at) file stands cut = cut
  no_early bytes plate m (SideRange at) file stands cut = cut
  no_early bytes plate m (TooManySamples at) file stands cut = cut
  no_early bytes plate m (MaxvalRange at) file stands cut = cut
  no_early bytes plate m (SampleAboveMaxval at) file stands cut = cut
  no_early bytes plate m (TrailingBytes at) file stands cut = cut

  pub not_both_within : NotBothWithin bounds
  not_both_within bytes plate fault file is = no_early bytes plate is.moment fault file is.stands (only_truncated bounds bytes (plate_clean bytes plate file) fault is)

  pub file_plate : FilePlateWithin bounds
  file_plate name before after plate reads tells =
      (reads.bytes, all_taken (before.file name) reads.bytes after.left (reads.taken reads.answer.0 tells) (reads.answer.2 tells), reads.answer.1)

  pub file_fault : FileFaultWithin bounds
  file_fault name before after fault reads tells =
      elim (cut_or_not fault) [
        | inl cut ↦ (reads.bytes, all_taken (before.file name) reads.bytes after.left (reads.taken reads.answer.0 tells) (reads.answer.2 cut tells), reads.answer.1)
        | inr whole ↦ (reads.bytes ++ after.left, reads.taken reads.answer.0 tells, fault_stays_within reads.bytes after.left fault whole reads.answer.1)
      ]

-- The same of a page's plates.
pub moment_of : (bytes : List ℕ) (m : ℕ) (fault : PlateFault) → FaultAtWithin Page bytes m fault → Moment Page bytes m fault
moment_of = moment_of_within Page

pub fault_stays : FaultStaysWithin Page
fault_stays = fault_stays_within Page

pub one_plate : OnePlateWithin Page
one_plate = one_plate_within Page

pub no_prefix : NoPrefixWithin Page
no_prefix = no_prefix_within Page

pub one_fault : OneFaultWithin Page
one_fault = one_fault_within Page

pub not_both : NotBothWithin Page
not_both = not_both_within Page

pub page_in_sheet : PageInSheet
page_in_sheet bytes plate file =
    let ok = file.plate_ok in
    let wide = ok.width.1 in
    let tall = ok.height.1 in
    let few = ok.product in
    record {
      header = file.header;
      is_header = file.is_header;
      short = file.short;
      plate_ok = record {
        width = (ok.width.0, omega (arith, wide));
        height = (ok.height.0, omega (arith, tall));
        product = omega (arith, few);
        positive = ok.positive;
        maxval = ok.maxval;
        count = ok.count;
        samples = ok.samples;
      };
      whole = file.whole;
    }
