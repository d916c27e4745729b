-- Where bytes have the fault that something stands after a plate file, they do begin with a plate file.
use Rattle.std.proofs.Common.{◌≡◌, ℕ, suc, ◌<◌, ◌≤◌, ◌+◌, ◌*◌, List, [], ◌∷◌, ◌++◌, length, take, drop, get_or, Option, Some, None, Result, Ok, Err, inl, inr, refl, sym, ap, ◌∙◌, subst, arith}
use Rattle.std.proofs.Math.Seq.{split_at, take-append_seam}
use Rattle.std.proofs.lemmas.Bool.{cases_lt}
use Rattle.std.proofs.lemmas.List.{append-nil, append_assoc, length-append, length_push, length-take-le, take-append-drop}
use Rattle.pgm_plates.specs.declared.header.Header.{Header}
use Rattle.pgm_plates.specs.declared.header.Scan.{Scan}
use Rattle.pgm_plates.specs.declared.plate.PlateFault.{PlateFault}
use Rattle.pgm_plates.specs.declared.plate.PlateFault.TheVariants.{BadHeader, SampleAboveMaxval, TrailingBytes}
use Rattle.pgm_plates.specs.declared.header_state.HeaderState.TheVariants.{Start, Ended}
use Rattle.pgm_plates.specs.Faults.{Decides, IsFault}
use Rattle.pgm_plates.specs.Header.{IsHeader}
use Rattle.pgm_plates.specs.Plates.{IsPlateFile, IsSide, raster, sample_bytes}
use Rattle.pgm_plates.specs.Runs.{Reached, run}
use Rattle.pgm_plates.specs.Scanning.{Scanned, header_of, scan_step}
use Rattle.pgm_plates.proofs.Decisions.{raster_both}
use Rattle.pgm_plates.proofs.HeaderRun.{header_run, reached, runs_begun, unended}
use Rattle.pgm_plates.proofs.Headers.{WholeHeader, fresh, header_going, scanned_none, whole_header}
use Rattle.pgm_plates.proofs.Moments.{stands_now}
use Rattle.pgm_plates.proofs.Scans.{scan_faults, scan_more}
use Rattle.pgm_plates.proofs.Shapes.{one_header, through}
use Rattle.traprun_cli.proofs.PrefixLemmas.{Begins}

-- No prefix of these bytes decides a fault.
abbrev Quiet : List ℕ → Type 0
Quiet bytes = (prefix back : List ℕ) (fault : PlateFault) → prefix ++ back ≡ bytes → Decides prefix fault → ⊥

-- The bytes are a header in range.
abbrev InRange : List ℕ → Type 0
InRange bytes = (header : Header) × WholeHeader bytes header × (length bytes ≤ 65536)

-- a header whose last byte is this one
header_ends : (prefix bs ns : List ℕ) (header : Header) → WholeHeader prefix header → length prefix ≤ 65536 → run Start [] (prefix ++ bs) ≡ Some (reached Ended ns) → InRange (prefix ++ bs)
header_ends prefix bs ns header whole le ran =
    let none : bs ≡ [] = through prefix bs (header.maxval ∷ header.height ∷ header.width ∷ []) (reached Ended ns) (header_run prefix header.width header.height header.maxval whole.is_header) ran in
    subst InRange (sym (append-nil prefix) ∙ ap (λ (x : List ℕ). prefix ++ x) (sym none)) (header, whole, le)

-- A header of which no prefix decides a fault is in range.
header_in_range : (bytes rest ns : List ℕ) (scan : Scan) → Scanned bytes scan → (scan.stand ≡ Ended → ⊥) → length bytes ≤ 65536 → run Start [] (bytes ++ rest) ≡ Some (reached Ended ns) → Quiet (bytes ++ rest) → InRange (bytes ++ rest)
header_in_range bytes [] ns scan scanned going le ran quiet =
    let same : Some (reached scan.stand scanned.ns) ≡ Some (reached Ended ns) = sym scanned.ran ∙ ap (run Start []) (sym (append-nil bytes)) ∙ ran in
    let ends : reached scan.stand scanned.ns ≡ reached Ended ns = cc in
    absurd (going (ap (λ (r : Reached). r.stand) ends))
header_in_range bytes (b ∷ bs) ns scan scanned going le ran quiet =
    elim (cases_lt (length bytes) 65536) [
      | inr long ↦ absurd (quiet bytes (b ∷ bs) (BadHeader 65536) refl (inr (
        refl,
        record {
          long = omega (arith, le, long);
          begun = runs_begun scan.stand scanned.ns bytes scanned.ran;
          unended = unended scan.stand scanned.ns bytes scanned.ran going;
          no_number = scanned.numbered;
        },
      )))
      | inl less ↦
          let all : (bytes ++ b ∷ []) ++ bs ≡ bytes ++ b ∷ bs = append_assoc bytes (b ∷ []) bs in
          let size : length (bytes ++ b ∷ []) ≤ 65536 = omega (arith, length_push bytes b) in
          let on : run Start [] ((bytes ++ b ∷ []) ++ bs) ≡ Some (reached Ended ns) = ap (run Start []) all ∙ ran in
          let by_step : (o : Result Scan PlateFault) → scan_step scan b (length bytes) ≡ o → InRange (bytes ++ b ∷ bs) =
          λ o. elim o as (λ o. scan_step scan b (length bytes) ≡ o → InRange (bytes ++ b ∷ bs)) [
            | Err fault ↦ λ is. absurd (quiet (bytes ++ b ∷ []) bs fault all (scan_faults bytes b scan fault scanned going is))
            | Ok next ↦ λ is.
                let more = scan_more bytes b scan next scanned less is in
                let by_header : (h : Option Header) → header_of next.stand next.sides next.number ≡ h → InRange (bytes ++ b ∷ bs) =
                λ h. elim h as (λ h. header_of next.stand next.sides next.number ≡ h → InRange (bytes ++ b ∷ bs)) [
                  | Some header ↦ λ has. subst InRange all (header_ends (bytes ++ b ∷ []) bs ns header (whole_header (bytes ++ b ∷ []) next header more has) size on)
                  | None ↦ λ none. subst InRange all (header_in_range (bytes ++ b ∷ []) bs ns next more (header_going (bytes ++ b ∷ []) next more none) size on (subst Quiet (sym all) quiet))
                ] in
                by_header (header_of next.stand next.sides next.number) refl
          ] in
          by_step (scan_step scan b (length bytes)) refl
    ]

-- A header and as many samples as it says, of which no prefix decides a fault, are a plate file.
module _ (header : List ℕ) (w h m : ℕ) (samples : List ℕ) (is_header : IsHeader header w h m) (all : length samples ≡ w * h) (quiet : Quiet (header ++ raster m samples)) where
  quiet_header : Quiet header
  quiet_header prefix back fault whole decides =
      quiet prefix (back ++ raster m samples) fault (sym (append_assoc prefix back (raster m samples)) ∙ ap (λ (x : List ℕ). x ++ raster m samples) whole) decides

  in_range : InRange header
  in_range = header_in_range [] header (m ∷ h ∷ w ∷ []) fresh scanned_none (λ e. let f : Start ≡ Ended = e in cc) (omega arith) (header_run header w h m is_header) quiet_header

  -- no sample is above the maxval
  fits : (k d : ℕ) → k < length samples → get_or samples k d ≤ m
  fits k d within =
      let s = get_or samples k d in
      let xs = take k samples in
      let ys = drop (suc k) samples in
      let few : length xs ≡ k = length-take-le k samples (omega (arith, within)) in
      let split : raster m samples ≡ raster m xs ++ (sample_bytes m s ++ raster m ys) = ap (raster m) (split_at samples k d within) ∙ raster_both m xs (s ∷ ys) in
      let prefix = header ++ raster m xs in
      let whole : (prefix ++ sample_bytes m s) ++ raster m ys ≡ header ++ raster m samples =
      append_assoc prefix (sample_bytes m s) (raster m ys) ∙ append_assoc header (raster m xs) (sample_bytes m s ++ raster m ys) ∙ ap (λ (x : List ℕ). header ++ x) (sym split) in
      elim (cases_lt m s) [
        | inr le ↦ omega (arith, le)
        | inl over ↦ absurd (quiet (prefix ++ sample_bytes m s) (raster m ys) (SampleAboveMaxval (length prefix)) whole (record {
          header = header;
          width = w;
          height = h;
          maxval = m;
          samples = xs;
          sample = s;
          is_header = is_header;
          within = omega (arith, few, within, all);
          whole = refl;
          place = refl;
          above = over;
        }))
      ]

  plate_file : IsPlateFile (header ++ raster m samples) (record { width = w; height = h; maxval = m; samples = samples })
  plate_file =
      let found = in_range.0 in
      let whole = in_range.1 in
      let same = one_header header [] header [] found.width found.height found.maxval w h m whole.is_header is_header refl in
      let product : found.width * found.height ≡ w * h = ap (λ (x : ℕ). x * found.height) same.width ∙ ap (λ (x : ℕ). w * x) same.height in
      record {
        header = header;
        is_header = is_header;
        short = in_range.2;
        plate_ok = record {
          width = subst IsSide same.width whole.width;
          height = subst IsSide same.height whole.height;
          product = subst (λ (n : ℕ). n ≤ 160000000) product whole.product;
          positive = subst (λ (n : ℕ). 0 < n) same.maxval whole.positive;
          maxval = subst (λ (n : ℕ). n ≤ 65535) same.maxval whole.maxval;
          count = all;
          samples = fits;
        };
        whole = refl;
      }

-- Where something stands after a plate file, the bytes begin with one.
pub trailing_begins : (bytes : List ℕ) (at : ℕ) → IsFault bytes (TrailingBytes at) → Begins bytes
trailing_begins bytes at is =
    let d = is.stands.1 in
    let file = d.header ++ raster d.maxval d.samples in
    let later = d.last ∷ drop is.moment bytes in
    let whole : bytes ≡ file ++ later = sym (take-append-drop is.moment bytes) ∙ ap (λ (x : List ℕ). x ++ drop is.moment bytes) d.whole ∙ append_assoc file (d.last ∷ []) (drop is.moment bytes) in
    let moment : is.moment ≡ length file + 1 = sym (length-take-le is.moment bytes is.stands.0) ∙ ap length d.whole ∙ length_push file d.last in
    let quiet : Quiet file =
    λ prefix back fault within decides.
    let longer : bytes ≡ prefix ++ (back ++ later) = whole ∙ ap (λ (x : List ℕ). x ++ later) (sym within) ∙ append_assoc prefix back later in
    let here : take (length prefix) bytes ≡ prefix = ap (take (length prefix)) longer ∙ take-append_seam prefix (back ++ later) in
    let few : length prefix ≤ length file = omega (arith, ap length within, length-append prefix back) in
    let first : is.moment ≤ length prefix = is.first (length prefix) fault (stands_now bytes (length prefix) fault (omega (arith, few, moment, is.stands.0)) (subst (λ (x : List ℕ). Decides x fault) (sym here) decides)) in
    omega (arith, first, few, moment) in
    record {
      file = file;
      plate = record { width = d.width; height = d.height; maxval = d.maxval; samples = d.samples };
      later = later;
      whole = whole;
      is_file = plate_file d.header d.width d.height d.maxval d.samples d.is_header d.all quiet;
    }
