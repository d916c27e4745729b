-- How the reader of a header comes on, and what it answers.
use Rattle.std.proofs.Common.{◌≡◌, ◌≢◌, ℕ, ◌<◌, ◌≤◌, ◌+◌, ◌*◌, List, [], ◌∷◌, ◌++◌, length, take, get_or, Option, Some, None, Ok, Err, IsTrue, refl, sym, ap, ◌∙◌, subst, inl, inr, arith}
use Rattle.std.proofs.lemmas.Bool.{cases_lt}
use Rattle.std.proofs.lemmas.List.{append-nil, take-append-le, take_all, length-append, length_push}
use Rattle.outside.specs.declared.tray.DeviceError.{DeviceError}
use Rattle.outside.specs.ErrorCases.{Rose}
use Rattle.outside.specs.Tray.{TrayState, Reads}
use Rattle.outside.specs.Reading.{Takes}
use Rattle.outside.proofs.Steps.{takes_then, takes_as, takes_read, rose_before}
use Rattle.pgm_plates.specs.declared.bounds.Bounds.{Bounds}
use Rattle.pgm_plates.specs.declared.bounds.Bounds.TheVariants.{Page}
use Rattle.pgm_plates.specs.declared.header_state.HeaderState.{HeaderState}
use Rattle.pgm_plates.specs.declared.header_state.HeaderState.TheVariants.{Start, Ended}
use Rattle.pgm_plates.specs.declared.header.Sides.TheVariants.{Neither, Both}
use Rattle.pgm_plates.specs.declared.header.Sides.{Sides}
use Rattle.pgm_plates.specs.declared.header.Scan.{Scan}
use Rattle.pgm_plates.specs.declared.header.Header.{Header}
use Rattle.pgm_plates.specs.declared.plate.Plate.{Plate}
use Rattle.pgm_plates.specs.declared.plate.PlateFault.{PlateFault}
use Rattle.pgm_plates.specs.declared.plate.PlateFault.TheVariants.{BadMagic, BadHeader, SideRange, TooManySamples, MaxvalRange, SampleAboveMaxval, Truncated, TrailingBytes}
use Rattle.pgm_plates.specs.declared.plate.PlateError.TheVariants.{Fault, ReadFault}
use Rattle.pgm_plates.specs.Header.{IsHeader, IsShape}
use Rattle.pgm_plates.specs.Limits.{samples_within}
use Rattle.pgm_plates.specs.Plates.{IsSideWithin, IsPlateFileWithin, raster}
use Rattle.pgm_plates.specs.Faults.{DecidesWithin, HoldsNoHeader, IsFaultWithin}
use Rattle.pgm_plates.specs.Reading.{AreFew, AtEnd, IsTruncated}
use Rattle.pgm_plates.specs.Runs.{Reached, run}
use Rattle.pgm_plates.specs.Scanning.{ScannedWithin, Fits, InRange, header_of, scan_step_within, IsClean}
use Rattle.pgm_plates.specs.Readers.{Answers, HeaderRead}
use Rattle.pgm_plates.proofs.HeaderSound.{no_step}
use Rattle.pgm_plates.proofs.HeaderRun.{reached, runs_begun, unended, header_run, ended_header}
use Rattle.pgm_plates.proofs.Shapes.{holds_header}
use Rattle.pgm_plates.proofs.Moments.{clean_none, clean_push, decided, truncated, only_truncated}
use Rattle.pgm_plates.proofs.Numbers.{Ends}
use Rattle.pgm_plates.proofs.Scans.{still_clean, scan_more_within, scan_faults_within, not_numbered}

no_end : (bytes : List ℕ) → length bytes ≡ 0 → Ends bytes → ⊥
no_end bytes none e = omega (arith, ap length e.ends.whole, length-append (e.ends.prefix ++ e.ends.gap ++ e.ends.digits) (e.ends.next ∷ []))

abbrev pub fresh : Scan
fresh = record { stand = Start; sides = Neither; number = 0; first = 0 }

pub takes_none : (a : TrayState) → IsTrue a.begun → Takes [] a a
takes_none a begun = record { keeps = record { tells = refl; file = refl; faults = omega arith }; asked = refl; begun = begun; taken = λ tells. refl }

-- the one byte of a read that gave some
one_byte : (buf : List ℕ) (n b : ℕ) → length buf ≡ 1 → n ≤ length buf → n ≢ 0 → b ≡ get_or buf 0 b → take n buf ≡ b ∷ []
one_byte [] n b len within some read = absurd (omega arith)
one_byte (x ∷ []) n b len within some read = take_all n (x ∷ []) (omega arith) ∙ ap (λ (y : ℕ). y ∷ []) (sym read)
one_byte (x ∷ y ∷ rest) n b len within some read = absurd (omega arith)

pub takes_one : (b c : TrayState) (buf : List ℕ) (n byte : ℕ) → Reads {E = DeviceError} b c (Ok n) buf → length buf ≡ 1 → n ≢ 0 → byte ≡ get_or buf 0 byte → Takes (byte ∷ []) b c
takes_one b c buf n byte read len some is = takes_as (take n buf) (byte ∷ []) b c (one_byte buf n byte len read.within some is) (takes_read b c n buf read)

pub takes_end : (b c : TrayState) (buf : List ℕ) (n : ℕ) → Reads {E = DeviceError} b c (Ok n) buf → n ≡ 0 → length buf ≡ 1 → Takes [] b c × AtEnd b c
takes_end b c buf n read none len =
    let nothing : take n buf ≡ [] = ap (λ (k : ℕ). take k buf) none in (
      takes_as (take n buf) [] b c nothing (takes_read b c n buf read),
      λ tells. ap (λ (x : List ℕ). x ++ c.left) (sym nothing) ∙ sym (read.taken tells) ∙ read.at_end tells none (omega (arith, len)),
    )

pub takes_failed : {E : Type 0} (b c : TrayState) (buf : List ℕ) (e : E) → Reads b c (Err e) buf → Takes [] b c
takes_failed b c buf e read = record { keeps = read.keeps; asked = read.asked; begun = read.begun; taken = λ tells. sym (read.kept tells) }

pub takes_nil : (p : List ℕ) (a b c : TrayState) → Takes p a b → Takes [] b c → Takes p a c
takes_nil p a b c one two = takes_as (p ++ []) p a c (append-nil p) (takes_then p [] a b c one two)

pub reported_on : (p : List ℕ) (a b : TrayState) → Takes p a b → IsTrue a.tells → IsTrue b.tells
reported_on p a b takes tells = takes.keeps.tells ∙ tells

-- a prefix of bytes with one byte more
no_header : (bytes : List ℕ) (b : ℕ) → HoldsNoHeader bytes → (IsShape (bytes ++ b ∷ []) → ⊥) → HoldsNoHeader (bytes ++ b ∷ [])
no_header bytes b none not_all k shape =
    elim (cases_lt (length bytes) k) [
      | inl past ↦ not_all (subst IsShape (take_all k (bytes ++ b ∷ []) (omega (arith, length_push bytes b))) shape)
      | inr le ↦ none k (subst IsShape (take-append-le k bytes (b ∷ []) le) shape)
    ]

few_run : (bytes : List ℕ) (b : ℕ) (stand : HeaderState) (ns : List ℕ) → HoldsNoHeader bytes → length bytes < 65536 → run Start [] (bytes ++ b ∷ []) ≡ Some (reached stand ns) → AreFew (bytes ++ b ∷ [])
few_run bytes b Ended ns none short is =
    let all = bytes ++ b ∷ [] in
    let header = ended_header ns all is in
    inr (record {
      count = length all;
      short = omega (arith, length_push bytes b);
      width = header.0;
      height = header.1;
      maxval = header.2;
      is_header = subst (λ (x : List ℕ). IsHeader x header.0 header.1 header.2) (sym (take_all (length all) all (omega arith))) header.4;
      few = omega arith;
    })
few_run bytes b stand ns none short is = inl ((let le : length (bytes ++ b ∷ []) ≤ 65536 = omega (arith, length_push bytes b) in le), unended stand ns (bytes ++ b ∷ []) is (λ e. let f : stand ≡ Ended = e in cc))

-- no more bytes than are owed, where a header may have ended
few_more : (bytes : List ℕ) (b : ℕ) → HoldsNoHeader bytes → length bytes < 65536 → AreFew (bytes ++ b ∷ [])
few_more bytes b none short =
    let all = bytes ++ b ∷ [] in
    let size : length all ≡ length bytes + 1 = length_push bytes b in
    let by_run : (o : Option Reached) → run Start [] all ≡ o → AreFew all =
    λ o. elim o as (λ o. run Start [] all ≡ o → AreFew all) [
      | None ↦ λ is. inl ((let le : length all ≤ 65536 = omega arith in le), no_header bytes b none (λ (shape : IsShape all). no_step (reached Ended (shape.2 ∷ shape.1 ∷ shape.0 ∷ [])) (sym is ∙ header_run all shape.0 shape.1 shape.2 shape.3)))
      | Some r ↦ λ is. few_run bytes b r.stand r.numbers none short is
    ] in
    by_run (run Start [] all) refl

some_header : (x y : Header) → Some x ≡ Some y → x ≡ y
some_header x y e = cc

none_header : (x : Header) → None ≡ Some x → ⊥
none_header x e = cc

both_numbers : (n m w h w' h' : ℕ) → n ≡ m → Both w h ≡ Both w' h' → n ∷ h ∷ w ∷ [] ≡ m ∷ h' ∷ w' ∷ []
both_numbers n m w h w' h' same sides =
    let e : w ≡ w' = cc in
    let f : h ≡ h' = cc in
    cc

header_as : (bytes : List ℕ) (w h m w' h' m' : ℕ) → m' ∷ h' ∷ w' ∷ [] ≡ m ∷ h ∷ w ∷ [] → IsHeader bytes w h m → IsHeader bytes w' h' m'
header_as bytes w h m w' h' m' same header =
    let a : w ≡ w' = cc in
    let b : h ≡ h' = cc in
    let c : m ≡ m' = cc in
    subst (λ (x : ℕ). IsHeader bytes x h' m') a (subst (λ (x : ℕ). IsHeader bytes w x m') b (subst (λ (x : ℕ). IsHeader bytes w h x) c header))

header_sides : (stand : HeaderState) (sides : Sides) (maxval : ℕ) (header : Header) → header_of stand sides maxval ≡ Some header → (stand ≡ Ended) × (sides ≡ Both header.width header.height) × (maxval ≡ header.maxval)
header_sides Ended (Both w h) maxval header e =
    let is : record { width = w; height = h; maxval = maxval } ≡ header = some_header _ header e in
    (refl, ap (λ (x : Header). Both x.width x.height) is, ap (λ (x : Header). x.maxval) is)
header_sides stand sides maxval header e = absurd (none_header header e)

module _ (bounds : Bounds) where
  -- So many bytes were taken, and this is their scan, which has not ended.
  pub record Came (before now : TrayState) (scan : Scan) (count : ℕ) : Type 0 where
    pub bytes : List ℕ
    pub takes : Takes bytes before now
    pub scanned : ScannedWithin bounds bytes scan
    pub going : scan.stand ≡ Ended → ⊥
    pub size : length bytes ≡ count

  pub scanned_none_within : ScannedWithin bounds [] fresh
  scanned_none_within = record {
    ns = [];
    ran = refl;
    fits = refl;
    ranges = tt;
    early = clean_none bounds;
    numbered = not_numbered bounds [] (no_end [] refl);
  }

  pub came_none : (a : TrayState) (scan : Scan) → scan ≡ fresh → IsTrue a.begun → Came a a scan 0
  came_none a scan is begun = record {
    bytes = [];
    takes = takes_none a begun;
    scanned = subst (ScannedWithin bounds []) (sym is) scanned_none_within;
    going = λ e. let f : Start ≡ Ended = sym (ap (λ (s : Scan). s.stand) is) ∙ e in cc;
    size = refl;
  }

  pub no_plate : (bytes : List ℕ) → HoldsNoHeader bytes → (plate : Plate) → IsPlateFileWithin bounds bytes plate → ⊥
  no_plate bytes none plate file =
      holds_header file.header (raster plate.maxval plate.samples) plate.width plate.height plate.maxval file.is_header (subst HoldsNoHeader file.whole none)

  not_cut : (bytes : List ℕ) (fault : PlateFault) → DecidesWithin bounds bytes fault → IsTruncated fault → ⊥
  not_cut bytes (Truncated at) d cut = d
  not_cut bytes (BadMagic at) d cut = cut
  not_cut bytes (BadHeader at) d cut = cut
  not_cut bytes (SideRange at) d cut = cut
  not_cut bytes (TooManySamples at) d cut = cut
  not_cut bytes (MaxvalRange at) d cut = cut
  not_cut bytes (SampleAboveMaxval at) d cut = cut
  not_cut bytes (TrailingBytes at) d cut = cut

  came_unended : (a b : TrayState) (scan : Scan) (count : ℕ) (came : Came a b scan count) → HoldsNoHeader came.bytes
  came_unended a b scan count came = unended scan.stand came.scanned.ns came.bytes came.scanned.ran came.going

  pub came_more : (a b c : TrayState) (scan next : Scan) (count byte : ℕ) → Came a b scan count → Takes (byte ∷ []) b c → count < 65536 → scan_step_within bounds scan byte count ≡ Ok next → (bytes : List ℕ) × Takes bytes a c × ScannedWithin bounds bytes next × (length bytes ≡ count + 1)
  came_more a b c scan next count byte came took short step =
      let bytes = came.bytes in (
        bytes ++ byte ∷ [],
        takes_then bytes (byte ∷ []) a b c came.takes took,
        scan_more_within bounds bytes byte scan next came.scanned (omega (arith, came.size)) (ap (scan_step_within bounds scan byte) came.size ∙ step),
        length_push bytes byte ∙ ap (λ (n : ℕ). n + 1) came.size,
      )

  -- what a scan that has ended tells
  pub record WholeHeaderWithin (bytes : List ℕ) (header : Header) : Type 0 where
    pub is_header : IsHeader bytes header.width header.height header.maxval
    pub clean : IsClean bounds bytes (length bytes + 1)
    pub width : IsSideWithin bounds header.width
    pub height : IsSideWithin bounds header.height
    pub product : header.width * header.height ≤ samples_within bounds
    pub positive : 0 < header.maxval
    pub maxval : header.maxval ≤ 65535

  pub whole_header_within : (bytes : List ℕ) (next : Scan) (header : Header) → ScannedWithin bounds bytes next → header_of next.stand next.sides next.number ≡ Some header → WholeHeaderWithin bytes header
  whole_header_within bytes next header scanned e =
      let is = header_sides next.stand next.sides next.number header e in
      let fits : Fits Ended next scanned.ns bytes = subst (λ (s : HeaderState). Fits s next scanned.ns bytes) is.0 scanned.fits in
      let ranges : InRange bounds (Both header.width header.height) = subst (InRange bounds) is.1 scanned.ranges in
      let numbers : scanned.ns ≡ header.maxval ∷ header.height ∷ header.width ∷ [] = fits.3 ∙ both_numbers next.number header.maxval fits.0 fits.1 header.width header.height is.2 (sym fits.2 ∙ is.1) in
      let standing = ended_header (header.maxval ∷ header.height ∷ header.width ∷ []) bytes
      (scanned.ran ∙ ap (λ (s : HeaderState). Some (reached s scanned.ns)) is.0 ∙ ap (λ (x : List ℕ). Some (reached Ended x)) numbers) in
      let same : header.maxval ∷ header.height ∷ header.width ∷ [] ≡ standing.2 ∷ standing.1 ∷ standing.0 ∷ [] = standing.3 in
      record {
        is_header = header_as bytes standing.0 standing.1 standing.2 header.width header.height header.maxval same standing.4;
        clean = still_clean bounds bytes next scanned (inl is.0);
        width = ranges.0;
        height = ranges.1;
        product = ranges.2;
        positive = subst (λ (n : ℕ). 0 < n) is.2 fits.4;
        maxval = subst (λ (n : ℕ). n ≤ 65535) is.2 fits.5;
      }

  pub header_ends : (a b c : TrayState) (scan next : Scan) (count byte : ℕ) (header : Header) → Came a b scan count → Takes (byte ∷ []) b c → count < 65536 → scan_step_within bounds scan byte count ≡ Ok next → header_of next.stand next.sides next.number ≡ Some header → HeaderRead bounds a c header (count + 1)
  header_ends a b c scan next count byte header came took short step e =
      let on = came_more a b c scan next count byte came took short step in
      let whole = whole_header_within on.0 next header on.2 e in
      record {
        bytes = on.0;
        takes = on.1;
        is_header = whole.is_header;
        clean = whole.clean;
        size = on.3;
        short = omega arith;
        width = whole.width;
        height = whole.height;
        product = whole.product;
        positive = whole.positive;
        maxval = whole.maxval;
      }

  pub header_going_within : (bytes : List ℕ) (next : Scan) → ScannedWithin bounds bytes next → header_of next.stand next.sides next.number ≡ None → next.stand ≡ Ended → ⊥
  header_going_within bytes next scanned none ended =
      let fits : Fits Ended next scanned.ns bytes = subst (λ (s : HeaderState). Fits s next scanned.ns bytes) ended scanned.fits in
      none_header (record { width = fits.0; height = fits.1; maxval = next.number })
      (sym none ∙ ap (λ (s : HeaderState). header_of s next.sides next.number) ended ∙ ap (λ (s : Sides). header_of Ended s next.number) fits.2)

  pub came_on : (a b c : TrayState) (scan next : Scan) (count byte : ℕ) → Came a b scan count → Takes (byte ∷ []) b c → count < 65536 → scan_step_within bounds scan byte count ≡ Ok next → header_of next.stand next.sides next.number ≡ None → Came a c next (count + 1)
  came_on a b c scan next count byte came took short step none =
      let on = came_more a b c scan next count byte came took short step in
      record { bytes = on.0; takes = on.1; scanned = on.2; going = header_going_within on.0 next on.2 none; size = on.3 }

  pub header_faults : (a b c : TrayState) (scan : Scan) (count byte : ℕ) (fault : PlateFault) → Came a b scan count → Takes (byte ∷ []) b c → count < 65536 → scan_step_within bounds scan byte count ≡ Err fault → Answers bounds a c (Err (Fault fault))
  header_faults a b c scan count byte fault came took short step =
      let bytes = came.bytes in
      let all = bytes ++ byte ∷ [] in
      let less : length bytes < 65536 = omega (arith, came.size) in
      let d : DecidesWithin bounds all fault = scan_faults_within bounds bytes byte scan fault came.scanned came.going (ap (scan_step_within bounds scan byte) came.size ∙ step) in
      record {
        bytes = all;
        takes = takes_then bytes (byte ∷ []) a b c came.takes took;
        few = few_more bytes byte (came_unended a b scan count came) less;
        answer = (
          took.begun,
          subst (λ (x : List ℕ). IsFaultWithin bounds x fault) (append-nil all) (decided bounds all [] fault (clean_push bounds bytes byte (still_clean bounds bytes scan came.scanned (inr less))) d),
          λ cut. absurd (not_cut all fault d cut),
        );
      }

  pub header_stops : (a b c : TrayState) (scan : Scan) (count : ℕ) → Came a b scan count → Takes [] b c × AtEnd b c → count < 65536 → Answers bounds a c (Err (Fault (Truncated count)))
  header_stops a b c scan count came took short =
      let bytes = came.bytes in
      let none = came_unended a b scan count came in
      record {
        bytes = bytes;
        takes = takes_nil bytes a b c came.takes took.0;
        few = inl ((let le : length bytes ≤ 65536 = omega (arith, came.size) in le), none);
        answer = (
          took.0.begun,
          subst (λ (n : ℕ). IsFaultWithin bounds bytes (Truncated n)) came.size (truncated bounds bytes (still_clean bounds bytes scan came.scanned (inr (omega (arith, came.size)))) (no_plate bytes none)),
          λ cut tells. took.1 (reported_on bytes a b came.takes tells),
        );
      }

  pub header_fails : (a b c : TrayState) (scan : Scan) (count : ℕ) → Came a b scan count → Takes [] b c → Rose b.faults c.faults → count < 65536 → Answers bounds a c (Err ReadFault)
  header_fails a b c scan count came took rose short =
      let bytes = came.bytes in
      record {
        bytes = bytes;
        takes = takes_nil bytes a b c came.takes took;
        few = inl ((let le : length bytes ≤ 65536 = omega (arith, came.size) in le), came_unended a b scan count came);
        answer = (
          rose_before a.faults b.faults c.faults came.takes.keeps.faults rose,
          only_truncated bounds bytes (still_clean bounds bytes scan came.scanned (inr (omega (arith, came.size)))),
        );
      }

  pub header_long : (a b : TrayState) (scan : Scan) (count : ℕ) → count ≡ 65536 → Came a b scan count → Answers bounds a b (Err (Fault (BadHeader 65536)))
  header_long a b scan count is came =
      let bytes = came.bytes in
      let none = came_unended a b scan count came in
      let d : DecidesWithin bounds bytes (BadHeader 65536) = inr (
        refl,
        record {
          long = came.size ∙ is;
          begun = runs_begun scan.stand came.scanned.ns bytes came.scanned.ran;
          unended = none;
          no_number = came.scanned.numbered;
        },
      ) in
      record {
        bytes = bytes;
        takes = came.takes;
        few = inl ((let le : length bytes ≤ 65536 = omega (arith, came.size, is) in le), none);
        answer = (
          came.takes.begun,
          subst (λ (x : List ℕ). IsFaultWithin bounds x (BadHeader 65536)) (append-nil bytes) (decided bounds bytes [] (BadHeader 65536) came.scanned.early d),
          λ cut. absurd cut,
        );
      }

-- The same of a page's plates.
pub scanned_none : ScannedWithin Page [] fresh
scanned_none = scanned_none_within Page

abbrev pub WholeHeader : List ℕ → Header → Type 0
WholeHeader = WholeHeaderWithin Page

pub whole_header : (bytes : List ℕ) (next : Scan) (header : Header) → ScannedWithin Page bytes next → header_of next.stand next.sides next.number ≡ Some header → WholeHeader bytes header
whole_header = whole_header_within Page

pub header_going : (bytes : List ℕ) (next : Scan) → ScannedWithin Page bytes next → header_of next.stand next.sides next.number ≡ None → next.stand ≡ Ended → ⊥
header_going = header_going_within Page
