-- Bytes are a plate file or have a fault.
use Rattle.std.proofs.Common.{◌≡◌, ◌⊎◌, ℕ, ◌<◌, ◌≤◌, ◌+◌, ◌*◌, ◌/◌, ◌%◌, ltb, List, [], ◌∷◌, ◌++◌, length, Option, Some, None, Result, Ok, Err, refl, sym, ap, ◌∙◌, subst, inl, inr, arith}
use Rattle.std.proofs.lemmas.Bool.{cases_lt, cond-true, cond-false, lt-ltb, le-ltb}
use Rattle.std.proofs.lemmas.List.{append_assoc, append-nil, length-append, length_push}
use Rattle.std.proofs.lemmas.List.Elements.{All-head, All-tail, All-push}
use Rattle.std.proofs.Math.Nat.{add-mul, mul-le-mul_right}
use Rattle.std.specs.List.{All}
use Rattle.pgm_plates.specs.declared.bounds.Bounds.{Bounds}
use Rattle.pgm_plates.specs.declared.bounds.Bounds.TheVariants.{Page}
use Rattle.pgm_plates.specs.declared.header_state.HeaderState.TheVariants.{Start, Ended}
use Rattle.pgm_plates.specs.declared.header.Scan.{Scan}
use Rattle.pgm_plates.specs.declared.header.Header.{Header}
use Rattle.pgm_plates.specs.declared.plate.Plate.{Plate}
use Rattle.pgm_plates.specs.declared.plate.PlateFault.{PlateFault}
use Rattle.pgm_plates.specs.declared.plate.PlateFault.TheVariants.{BadHeader, SampleAboveMaxval, Truncated, TrailingBytes}
use Rattle.pgm_plates.specs.Plates.{IsPlateFileWithin, sample_bytes, sample_size, raster}
use Rattle.pgm_plates.specs.Faults.{DecidesWithin, IsFaultWithin}
use Rattle.pgm_plates.specs.Laws.{PlateOrFaultWithin}
use Rattle.pgm_plates.specs.Scanning.{ScannedWithin, scan_step_within, header_of, IsClean}
use Rattle.pgm_plates.specs.Readers.{Fit}
use Rattle.pgm_plates.proofs.HeaderRun.{runs_begun, unended}
use Rattle.pgm_plates.proofs.Moments.{clean_push, decided, truncated}
use Rattle.pgm_plates.proofs.Scans.{still_clean, scan_more_within, scan_faults_within}
use Rattle.pgm_plates.proofs.Headers.{WholeHeaderWithin, whole_header_within, header_going_within, scanned_none_within, fresh, no_plate}
use Rattle.pgm_plates.proofs.Decisions.{some_size, raster_size, raster_both, clean_raster}
use Rattle.pgm_plates.proofs.Wholes.{not_whole, rastered_all, clean_sample}

abbrev Byte : ℕ → Type 0
Byte b = b < 256

abbrev prefix_of : List ℕ → Header → List ℕ → List ℕ
prefix_of bytes header xs = bytes ++ raster header.maxval xs

fewer_bytes : (k n size : ℕ) → k < n → k * size + size ≤ n * size
fewer_bytes k n size less =
    let e : (k + 1) * size ≡ k * size + size = add-mul k 1 size ∙ ap (λ (x : ℕ). k * size + x) (let f : 1 * size ≡ size = omega arith in f) in
    subst (λ (x : ℕ). x ≤ n * size) e (mul-le-mul_right size (let le : k + 1 ≤ n = omega arith in le))

-- one sample more
push_sample : (bytes : List ℕ) (header : Header) (xs : List ℕ) (s : ℕ) (bs : List ℕ) → prefix_of bytes header (xs ++ s ∷ []) ++ bs ≡ prefix_of bytes header xs ++ (sample_bytes header.maxval s ++ bs)
push_sample bytes header xs s bs =
    let m = header.maxval in
    ap (λ (x : List ℕ). bytes ++ x ++ bs) (raster_both m xs (s ∷ []) ∙ ap (λ (x : List ℕ). raster m xs ++ x) (append-nil (sample_bytes m s)))
    ∙ ap (λ (x : List ℕ). x ++ bs) (sym (append_assoc bytes (raster m xs) (sample_bytes m s)))
    ∙ append_assoc (prefix_of bytes header xs) (sample_bytes m s) bs

pushed : (header : Header) (xs : List ℕ) (s : ℕ) → Fit header.maxval xs → s ≤ header.maxval → Fit header.maxval (xs ++ s ∷ [])
pushed header xs s fit le = All-push (λ (x : ℕ). x ≤ header.maxval) xs s fit le

module _ (bounds : Bounds) where
  abbrev pub Judged : List ℕ → Type 0
  Judged bytes = ((plate : Plate) × IsPlateFileWithin bounds bytes plate) ⊎ ((fault : PlateFault) × IsFaultWithin bounds bytes fault)

  -- where all samples are there
  full : (bytes : List ℕ) (header : Header) (xs rest : List ℕ) → WholeHeaderWithin bounds bytes header → length bytes ≤ 65536 → Fit header.maxval xs → length xs ≡ header.width * header.height → Judged (prefix_of bytes header xs ++ rest)
  full bytes header xs [] whole short fit all =
      inl (
        record { width = header.width; height = header.height; maxval = header.maxval; samples = xs },
        record {
          header = bytes;
          is_header = whole.is_header;
          short = short;
          plate_ok = record { width = whole.width; height = whole.height; product = whole.product; positive = whole.positive; maxval = whole.maxval; count = all; samples = fit };
          whole = append-nil (prefix_of bytes header xs);
        },
      )
  full bytes header xs (b ∷ bs) whole short fit all =
      let prefix = prefix_of bytes header xs in
      let at = length prefix in
      let clean : IsClean bounds prefix (length prefix + 1) = clean_raster bounds prefix bytes header.width header.height header.maxval xs [] whole.clean (rastered_all bytes header.width header.height header.maxval xs whole.is_header fit (omega (arith, all))) in
      let d : DecidesWithin bounds (prefix ++ b ∷ []) (TrailingBytes at) = record {
        header = bytes;
        width = header.width;
        height = header.height;
        maxval = header.maxval;
        samples = xs;
        last = b;
        is_header = whole.is_header;
        all = all;
        whole = refl;
        place = refl;
      } in
      inr (TrailingBytes at, subst (λ (x : List ℕ). IsFaultWithin bounds x (TrailingBytes at)) (append_assoc prefix (b ∷ []) bs) (decided bounds (prefix ++ b ∷ []) bs (TrailingBytes at) (clean_push bounds prefix b clean) d))

  -- where the bytes end before all samples are there
  cut : (bytes : List ℕ) (header : Header) (xs half : List ℕ) → WholeHeaderWithin bounds bytes header → Fit header.maxval xs → length xs < header.width * header.height → length half < sample_size header.maxval → Judged (prefix_of bytes header xs ++ half)
  cut bytes header xs half whole fit few short =
      let m = header.maxval in
      let all = prefix_of bytes header xs ++ half in
      let is : all ≡ bytes ++ (raster m xs ++ half) = append_assoc bytes (raster m xs) half in
      let size = some_size m in
      let clean : IsClean bounds all (length all + 1) = clean_raster bounds all bytes header.width header.height m xs half whole.clean (record { is_header = whole.is_header; whole = is; fit = fit; short = short; few = omega (arith, size.1) }) in
      let times = fewer_bytes (length xs) (header.width * header.height) (sample_size m) few in
      let less : length (raster m xs ++ half) < header.width * header.height * sample_size m = omega (arith, length-append (raster m xs) half, raster_size m xs) in
      inr (Truncated (length all), truncated bounds all clean (subst (λ (x : List ℕ). (plate : Plate) → IsPlateFileWithin bounds x plate → ⊥) (sym is) (not_whole bounds bytes (raster m xs ++ half) header.width header.height m whole.is_header less)))

  -- where a sample is above the maxval
  above : (bytes : List ℕ) (header : Header) (xs : List ℕ) (s : ℕ) (bs : List ℕ) → WholeHeaderWithin bounds bytes header → Fit header.maxval xs → length xs < header.width * header.height → header.maxval < s → Judged (prefix_of bytes header xs ++ (sample_bytes header.maxval s ++ bs))
  above bytes header xs s bs whole fit few over =
      let m = header.maxval in
      let prefix = prefix_of bytes header xs in
      let at = length prefix in
      let d : DecidesWithin bounds (prefix ++ sample_bytes m s) (SampleAboveMaxval at) = record {
        header = bytes;
        width = header.width;
        height = header.height;
        maxval = m;
        samples = xs;
        sample = s;
        is_header = whole.is_header;
        within = few;
        whole = refl;
        place = refl;
        above = over;
      } in
      inr (SampleAboveMaxval at, subst (λ (x : List ℕ). IsFaultWithin bounds x (SampleAboveMaxval at)) (append_assoc prefix (sample_bytes m s) bs) (decided bounds (prefix ++ sample_bytes m s) bs (SampleAboveMaxval at) (clean_sample bounds bytes header.width header.height m xs s whole.is_header whole.clean fit few) d))

  narrow_is : (m s : ℕ) → m < 256 → sample_bytes m s ≡ s ∷ []
  narrow_is m s narrow = cond-true (ltb m 256) (s ∷ []) (s / 256 ∷ s % 256 ∷ []) (lt-ltb m 256 narrow)

  wide_is : (m a b : ℕ) → 256 ≤ m → b < 256 → sample_bytes m (a * 256 + b) ≡ a ∷ b ∷ []
  wide_is m a b wide byte =
      let high : (a * 256 + b) / 256 ≡ a = omega arith in
      let low : (a * 256 + b) % 256 ≡ b = omega arith in
      cond-false (ltb m 256) ((a * 256 + b) ∷ []) ((a * 256 + b) / 256 ∷ (a * 256 + b) % 256 ∷ []) (le-ltb m 256 wide) ∙ ap (λ (x : ℕ). x ∷ (a * 256 + b) % 256 ∷ []) high ∙ ap (λ (x : ℕ). a ∷ x ∷ []) low

  one_byte : (m : ℕ) → m < 256 → sample_size m ≡ 1
  one_byte m narrow = cond-true (ltb m 256) 1 2 (lt-ltb m 256 narrow)

  two_bytes : (m : ℕ) → 256 ≤ m → sample_size m ≡ 2
  two_bytes m wide = cond-false (ltb m 256) 1 2 (le-ltb m 256 wide)

  narrow : (bytes : List ℕ) (header : Header) (xs rest : List ℕ) → WholeHeaderWithin bounds bytes header → length bytes ≤ 65536 → header.maxval < 256 → Fit header.maxval xs → length xs ≤ header.width * header.height → Judged (prefix_of bytes header xs ++ rest)
  narrow bytes header xs [] whole short less fit le =
      elim (cases_lt (length xs) (header.width * header.height)) [
        | inl few ↦ cut bytes header xs [] whole fit few (omega (arith, one_byte header.maxval less))
        | inr all ↦ full bytes header xs [] whole short fit (omega arith)
      ]
  narrow bytes header xs (b ∷ bs) whole short less fit le =
      elim (cases_lt (length xs) (header.width * header.height)) [
        | inr all ↦ full bytes header xs (b ∷ bs) whole short fit (omega arith)
        | inl few ↦ elim (cases_lt header.maxval b) [
          | inl over ↦ subst (λ (x : List ℕ). Judged (prefix_of bytes header xs ++ (x ++ bs))) (narrow_is header.maxval b less) (above bytes header xs b bs whole fit few over)
          | inr fits ↦ subst Judged (push_sample bytes header xs b bs ∙ ap (λ (x : List ℕ). prefix_of bytes header xs ++ (x ++ bs)) (narrow_is header.maxval b less))
              (narrow bytes header (xs ++ b ∷ []) bs whole short less (pushed header xs b fit fits) (omega (arith, length_push xs b)))
        ]
      ]

  wide : (bytes : List ℕ) (header : Header) (xs rest : List ℕ) → WholeHeaderWithin bounds bytes header → length bytes ≤ 65536 → 256 ≤ header.maxval → All Byte rest → Fit header.maxval xs → length xs ≤ header.width * header.height → Judged (prefix_of bytes header xs ++ rest)
  wide bytes header xs [] whole short more byte fit le =
      elim (cases_lt (length xs) (header.width * header.height)) [
        | inl few ↦ cut bytes header xs [] whole fit few (omega (arith, two_bytes header.maxval more))
        | inr all ↦ full bytes header xs [] whole short fit (omega arith)
      ]
  wide bytes header xs (a ∷ []) whole short more byte fit le =
      elim (cases_lt (length xs) (header.width * header.height)) [
        | inl few ↦ cut bytes header xs (a ∷ []) whole fit few (omega (arith, two_bytes header.maxval more))
        | inr all ↦ full bytes header xs (a ∷ []) whole short fit (omega arith)
      ]
  wide bytes header xs (a ∷ b ∷ bs) whole short more byte fit le =
      let rest = All-tail Byte a (b ∷ bs) byte in
      let s = a * 256 + b in
      let is : sample_bytes header.maxval s ≡ a ∷ b ∷ [] = wide_is header.maxval a b more (All-head Byte b bs rest) in
      elim (cases_lt (length xs) (header.width * header.height)) [
        | inr all ↦ full bytes header xs (a ∷ b ∷ bs) whole short fit (omega arith)
        | inl few ↦ elim (cases_lt header.maxval s) [
          | inl over ↦ subst (λ (x : List ℕ). Judged (prefix_of bytes header xs ++ (x ++ bs))) is (above bytes header xs s bs whole fit few over)
          | inr fits ↦ subst Judged (push_sample bytes header xs s bs ∙ ap (λ (x : List ℕ). prefix_of bytes header xs ++ (x ++ bs)) is)
              (wide bytes header (xs ++ s ∷ []) bs whole short more (All-tail Byte b bs rest) (pushed header xs s fit fits) (omega (arith, length_push xs s)))
        ]
      ]

  suffix : (bytes : List ℕ) (header : Header) (rest : List ℕ) → WholeHeaderWithin bounds bytes header → length bytes ≤ 65536 → All Byte rest → Judged (bytes ++ rest)
  suffix bytes header rest whole short byte =
      let start : prefix_of bytes header [] ++ rest ≡ bytes ++ rest = ap (λ (x : List ℕ). x ++ rest) (append-nil bytes) in
      let none : Fit header.maxval [] = λ k d less. absurd (omega arith) in
      elim (cases_lt header.maxval 256) [
        | inl less ↦ subst Judged start (narrow bytes header [] rest whole short less none (omega arith))
        | inr more ↦ subst Judged start (wide bytes header [] rest whole short more byte none (omega arith))
      ]

  -- where no header ends within its limit
  too_long : (bytes rest : List ℕ) (scan : Scan) → ScannedWithin bounds bytes scan → (scan.stand ≡ Ended → ⊥) → length bytes ≡ 65536 → Judged (bytes ++ rest)
  too_long bytes rest scan scanned going size =
      let d : DecidesWithin bounds bytes (BadHeader 65536) = inr (
        refl,
        record {
          long = size;
          begun = runs_begun scan.stand scanned.ns bytes scanned.ran;
          unended = unended scan.stand scanned.ns bytes scanned.ran going;
          no_number = scanned.numbered;
        },
      ) in
      inr (BadHeader 65536, decided bounds bytes rest (BadHeader 65536) scanned.early d)

  header_judged : (bytes rest : List ℕ) (scan : Scan) → ScannedWithin bounds bytes scan → (scan.stand ≡ Ended → ⊥) → length bytes ≤ 65536 → All Byte rest → Judged (bytes ++ rest)
  header_judged bytes [] scan scanned going le byte =
      elim (cases_lt (length bytes) 65536) [
        | inl less ↦ subst Judged (sym (append-nil bytes)) (inr (Truncated (length bytes), truncated bounds bytes (still_clean bounds bytes scan scanned (inr less)) (no_plate bounds bytes (unended scan.stand scanned.ns bytes scanned.ran going))))
        | inr long ↦ too_long bytes [] scan scanned going (omega arith)
      ]
  header_judged bytes (b ∷ bs) scan scanned going le byte =
      elim (cases_lt (length bytes) 65536) [
        | inr long ↦ too_long bytes (b ∷ bs) scan scanned going (omega arith)
        | inl less ↦
            let all : (bytes ++ b ∷ []) ++ bs ≡ bytes ++ b ∷ bs = append_assoc bytes (b ∷ []) bs in
            let size : length (bytes ++ b ∷ []) ≤ 65536 = omega (arith, length_push bytes b) in
            let rest = All-tail Byte b bs byte in
            let by_step : (o : Result Scan PlateFault) → scan_step_within bounds scan b (length bytes) ≡ o → Judged (bytes ++ b ∷ bs) =
            λ o. elim o as (λ o. scan_step_within bounds scan b (length bytes) ≡ o → Judged (bytes ++ b ∷ bs)) [
              | Err fault ↦ λ is. inr (fault, subst (λ (x : List ℕ). IsFaultWithin bounds x fault) all (decided bounds (bytes ++ b ∷ []) bs fault (clean_push bounds bytes b (still_clean bounds bytes scan scanned (inr less))) (scan_faults_within bounds bytes b scan fault scanned going is)))
              | Ok next ↦ λ is.
                  let more = scan_more_within bounds bytes b scan next scanned less is in
                  let by_header : (h : Option Header) → header_of next.stand next.sides next.number ≡ h → Judged (bytes ++ b ∷ bs) =
                  λ h. elim h as (λ h. header_of next.stand next.sides next.number ≡ h → Judged (bytes ++ b ∷ bs)) [
                    | Some header ↦ λ has. subst Judged all (suffix (bytes ++ b ∷ []) header bs (whole_header_within bounds (bytes ++ b ∷ []) next header more has) size rest)
                    | None ↦ λ none. subst Judged all (header_judged (bytes ++ b ∷ []) bs next more (header_going_within bounds (bytes ++ b ∷ []) next more none) size rest)
                  ] in
                  by_header (header_of next.stand next.sides next.number) refl
            ] in
            by_step (scan_step_within bounds scan b (length bytes)) refl
      ]

  pub plate_or_fault_within : PlateOrFaultWithin bounds
  plate_or_fault_within bytes byte = header_judged [] bytes fresh (scanned_none_within bounds) (λ e. let f : Start ≡ Ended = e in cc) (omega arith) byte

-- The same of a page's plates.
pub plate_or_fault : PlateOrFaultWithin Page
plate_or_fault = plate_or_fault_within Page
