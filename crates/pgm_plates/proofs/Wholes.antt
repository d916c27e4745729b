-- The whole reader: what the parts come to.
use Rattle.std.proofs.Common.{◌≡◌, ℕ, ◌<◌, ◌≤◌, ◌+◌, ◌*◌, ◌/◌, ◌%◌, true, false, cond, ltb, List, [], ◌∷◌, ◌++◌, length, Some, Result, Ok, Err, refl, sym, ap, ◌∙◌, subst, inl, inr, arith}
use Rattle.std.proofs.lemmas.List.{append_assoc, append-nil, length-append, length_push}
use Rattle.std.proofs.Math.Nat.{mul-le-mul_right}
use Rattle.std.proofs.Math.Seq.{take-append_seam}
use Rattle.outside.specs.declared.tray.DeviceError.{DeviceError}
use Rattle.outside.specs.ErrorCases.{Asks}
use Rattle.outside.specs.Tray.{TrayState, KeepsTray, Begins}
use Rattle.outside.specs.Reading.{Takes}
use Rattle.outside.proofs.Steps.{kept_tray, takes_then, rose_before}
use Rattle.pgm_plates.specs.declared.bounds.Bounds.{Bounds}
use Rattle.pgm_plates.specs.declared.header_state.HeaderState.TheVariants.{Start, Ended}
use Rattle.pgm_plates.specs.declared.plate.Plate.{Plate}
use Rattle.pgm_plates.specs.declared.plate.PlateFault.TheVariants.{BadMagic, BadHeader, SideRange, TooManySamples, MaxvalRange, SampleAboveMaxval, Truncated, TrailingBytes}
use Rattle.pgm_plates.specs.declared.plate.PlateError.{PlateError}
use Rattle.pgm_plates.specs.declared.plate.PlateError.TheVariants.{Fault, ReadFault, OutOfMemory}
use Rattle.pgm_plates.specs.declared.header.Header.{Header}
use Rattle.pgm_plates.specs.Header.{IsHeader}
use Rattle.pgm_plates.specs.Plates.{IsPlateFileWithin, sample_bytes, sample_size, raster}
use Rattle.pgm_plates.specs.Faults.{DecidesWithin, IsFaultWithin, HoldsNoHeader}
use Rattle.pgm_plates.specs.Limits.{most_header}
use Rattle.pgm_plates.specs.Reading.{AreFew, AnswersPlate, AtEnd, KeepsCount, ReadsPlateWithin}
use Rattle.pgm_plates.specs.Scanning.{IsClean}
use Rattle.pgm_plates.specs.Readers.{Answers, HeaderRead, Fit, IsPart, RasterRefused, RasterTaken, EndsFile}
use Rattle.pgm_plates.proofs.Shapes.{one_header}
use Rattle.pgm_plates.proofs.Moments.{clean_none, clean_all, clean_push, decided, truncated, only_truncated}
use Rattle.pgm_plates.proofs.Headers.{takes_nil, reported_on, scanned_none_within, fresh}
use Rattle.pgm_plates.proofs.HeaderRun.{unended}
use Rattle.pgm_plates.proofs.Scans.{quiet}
use Rattle.pgm_plates.proofs.Decisions.{Rastered, some_size, raster_size, clean_raster}

-- a header and no more after it than its raster and a byte
pub few_after : (header back : List ℕ) (w h m : ℕ) → IsHeader header w h m → length header ≤ most_header → length back ≤ w * h * sample_size m + 1 → AreFew (header ++ back)
few_after header back w h m is short le = inr (record {
  count = length header;
  short = short;
  width = w;
  height = h;
  maxval = m;
  is_header = subst (λ (x : List ℕ). IsHeader x w h m) (sym (take-append_seam header back)) is;
  few = omega (arith, length-append header back);
})

-- the bytes of a header's samples, one of which may be cut
rastered_part : (header bytes : List ℕ) (w h m : ℕ) → IsHeader header w h m → (part : IsPart m (w * h) bytes) → Rastered (header ++ bytes) header w h m part.samples part.half
rastered_part header bytes w h m is part = record {
  is_header = is;
  whole = ap (λ (x : List ℕ). header ++ x) part.whole;
  fit = part.fit;
  short = part.short;
  few = part.few;
}

pub rastered_all : (header : List ℕ) (w h m : ℕ) (xs : List ℕ) → IsHeader header w h m → Fit m xs → length xs ≤ w * h → Rastered (header ++ raster m xs) header w h m xs []
rastered_all header w h m xs is fit few =
    let size = some_size m in
    record {
      is_header = is;
      whole = ap (λ (x : List ℕ). header ++ x) (sym (append-nil (raster m xs)));
      fit = fit;
      short = omega (arith, size.0);
      few = omega arith;
    }

part_within : (m count : ℕ) (bytes : List ℕ) → IsPart m count bytes → length bytes ≤ count * sample_size m + 1
part_within m count bytes part =
    let size : length bytes ≡ length part.samples * sample_size m + length part.half = ap length part.whole ∙ length-append (raster m part.samples) part.half ∙ ap (λ (n : ℕ). n + length part.half) (raster_size m part.samples) in
    let few : length part.samples * sample_size m ≤ count * sample_size m = mul-le-mul_right (sample_size m) (let le : length part.samples ≤ count = omega (arith, part.few) in le) in
    let two = some_size m in
    omega (arith, part.short)

pub raster_within : (m count : ℕ) (samples : List ℕ) → length samples ≡ count → length (raster m samples) ≡ count * sample_size m
raster_within m count samples all = raster_size m samples ∙ ap (λ (n : ℕ). n * sample_size m) all

pub no_shape : HoldsNoHeader []
no_shape = unended Start [] [] refl (λ e. let f : Start ≡ Ended = e in cc)

-- The file is begun, and then read.
-- a count that stayed before it, too
pub kept_count : {T : Type 0} (a b c : TrayState) (result : Result T PlateError) → b.faults ≡ a.faults → KeepsCount b c result → KeepsCount a c result
kept_count a b c (Ok x) before count = count ∙ before
kept_count a b c (Err ReadFault) before count = tt
kept_count a b c (Err OutOfMemory) before count = count ∙ before
kept_count a b c (Err (Fault (SampleAboveMaxval at))) before count = tt
kept_count a b c (Err (Fault (BadMagic at))) before count = count ∙ before
kept_count a b c (Err (Fault (BadHeader at))) before count = count ∙ before
kept_count a b c (Err (Fault (SideRange at))) before count = count ∙ before
kept_count a b c (Err (Fault (TooManySamples at))) before count = count ∙ before
kept_count a b c (Err (Fault (MaxvalRange at))) before count = count ∙ before
kept_count a b c (Err (Fault (Truncated at))) before count = count ∙ before
kept_count a b c (Err (Fault (TrailingBytes at))) before count = count ∙ before

module _ (bounds : Bounds) where
  -- bytes with a header and less than its raster are no plate file
  pub not_whole : (header back : List ℕ) (w h m : ℕ) → IsHeader header w h m → length back < w * h * sample_size m → (plate : Plate) → IsPlateFileWithin bounds (header ++ back) plate → ⊥
  not_whole header back w h m is less plate file =
      let same = one_header header back file.header (raster plate.maxval plate.samples) w h m plate.width plate.height plate.maxval is file.is_header file.whole in
      let all : length plate.samples ≡ w * h = file.plate_ok.count ∙ ap (λ (n : ℕ). n * plate.height) (sym same.width) ∙ ap (λ (n : ℕ). w * n) (sym same.height) in
      let size : length back ≡ w * h * sample_size m =
      ap length same.rest ∙ raster_size plate.maxval plate.samples ∙ ap (λ (n : ℕ). length plate.samples * sample_size n) (sym same.maxval) ∙ ap (λ (n : ℕ). n * sample_size m) all in
      omega arith

  sample_cases : (m s : ℕ) (prefix : List ℕ) → IsClean bounds prefix (length prefix + 1) → (1 < sample_size m → IsClean bounds (prefix ++ (s / 256) ∷ []) (length (prefix ++ (s / 256) ∷ []) + 1)) → IsClean bounds (prefix ++ sample_bytes m s) (length (prefix ++ sample_bytes m s))
  sample_cases m s prefix none half =
      elim (ltb m 256) as (λ t. (1 < cond {A = ℕ} t 1 2 → IsClean bounds (prefix ++ (s / 256) ∷ []) (length (prefix ++ (s / 256) ∷ []) + 1)) → IsClean bounds (prefix ++ cond t (s ∷ []) (s / 256 ∷ s % 256 ∷ [])) (length (prefix ++ cond t (s ∷ []) (s / 256 ∷ s % 256 ∷ [])))) [
        | true ↦ λ h. clean_push bounds prefix s none
        | false ↦ λ h.
            let e : prefix ++ (s / 256) ∷ [] ++ (s % 256) ∷ [] ≡ prefix ++ (s / 256 ∷ s % 256 ∷ []) = append_assoc prefix ((s / 256) ∷ []) ((s % 256) ∷ []) in
            subst (λ (x : List ℕ). IsClean bounds x (length x)) e (clean_push bounds (prefix ++ (s / 256) ∷ []) (s % 256) (h (omega arith)))
      ] half

  -- Up to its last byte, a sample decides nothing.
  pub clean_sample : (header : List ℕ) (w h m : ℕ) (xs : List ℕ) (s : ℕ) → IsHeader header w h m → IsClean bounds header (length header + 1) → Fit m xs → length xs < w * h → IsClean bounds (header ++ raster m xs ++ sample_bytes m s) (length (header ++ raster m xs ++ sample_bytes m s))
  clean_sample header w h m xs s is clean fit few =
      let prefix = header ++ raster m xs in
      let none : IsClean bounds prefix (length prefix + 1) = clean_raster bounds prefix header w h m xs [] clean (rastered_all header w h m xs is fit (omega arith)) in
      sample_cases m s prefix none (λ short. clean_raster bounds (prefix ++ (s / 256) ∷ []) header w h m xs ((s / 256) ∷ []) clean (record {
        is_header = is;
        whole = append_assoc header (raster m xs) ((s / 256) ∷ []);
        fit = fit;
        short = short;
        few = omega arith;
      }))

  pub raster_refused : (a b c : TrayState) (header : Header) (start : ℕ) (error : PlateError) → HeaderRead bounds a b header start → RasterRefused header.maxval (header.width * header.height) start b c error → Answers bounds a c (Err error)
  raster_refused a b c header start (Fault (SampleAboveMaxval at)) read r =
      let bytes = r.0 in
      let above = r.3 in
      let w = header.width in
      let h = header.height in
      let m = header.maxval in
      let prefix = read.bytes ++ raster m above.samples ++ sample_bytes m above.sample in
      let e : prefix ++ above.more ≡ read.bytes ++ bytes =
      ap (λ (x : List ℕ). x ++ above.more) (append_assoc read.bytes (raster m above.samples) (sample_bytes m above.sample))
      ∙ append_assoc read.bytes (raster m above.samples ++ sample_bytes m above.sample) above.more
      ∙ ap (λ (x : List ℕ). read.bytes ++ x) (sym above.whole) in
      let place : at ≡ length (read.bytes ++ raster m above.samples) = r.4 ∙ ap (λ (n : ℕ). n + r.1) (sym read.size) ∙ ap (λ (n : ℕ). length read.bytes + n) above.at ∙ sym (length-append read.bytes (raster m above.samples)) in
      let d : DecidesWithin bounds prefix (SampleAboveMaxval at) = record {
        header = read.bytes;
        width = w;
        height = h;
        maxval = m;
        samples = above.samples;
        sample = above.sample;
        is_header = read.is_header;
        within = above.few;
        whole = refl;
        place = sym place;
        above = above.above;
      } in
      record {
        bytes = read.bytes ++ bytes;
        takes = takes_then read.bytes bytes a b c read.takes r.2;
        few = few_after read.bytes bytes w h m read.is_header (omega (arith, read.size, read.short)) (omega (arith, above.within));
        answer = (
          r.2.begun,
          subst (λ (x : List ℕ). IsFaultWithin bounds x (SampleAboveMaxval at)) e (decided bounds prefix above.more (SampleAboveMaxval at) (clean_sample read.bytes w h m above.samples above.sample read.is_header read.clean above.fit above.few) d),
          λ cut. absurd cut,
        );
      }
  raster_refused a b c header start (Fault (Truncated at)) read r =
      let bytes = r.0 in
      let w = header.width in
      let h = header.height in
      let m = header.maxval in
      let all = read.bytes ++ bytes in
      let place : length all ≡ at = length-append read.bytes bytes ∙ ap (λ (n : ℕ). n + length bytes) read.size ∙ sym r.4 in
      let less = r.3 in
      record {
        bytes = all;
        takes = takes_then read.bytes bytes a b c read.takes r.1;
        few = few_after read.bytes bytes w h m read.is_header (omega (arith, read.size, read.short)) (omega arith);
        answer = (
          r.1.begun,
          subst (λ (n : ℕ). IsFaultWithin bounds all (Truncated n)) place (truncated bounds all (clean_raster bounds all read.bytes w h m r.2.samples r.2.half read.clean (rastered_part read.bytes bytes w h m read.is_header r.2)) (not_whole read.bytes bytes w h m read.is_header r.3)),
          λ cut tells. r.5 (reported_on read.bytes a b read.takes tells),
        );
      }
  raster_refused a b c header start ReadFault read r =
      let bytes = r.0 in
      let w = header.width in
      let h = header.height in
      let m = header.maxval in
      let all = read.bytes ++ bytes in
      record {
        bytes = all;
        takes = takes_then read.bytes bytes a b c read.takes r.1;
        few = few_after read.bytes bytes w h m read.is_header (omega (arith, read.size, read.short)) (part_within m (w * h) bytes r.2);
        answer = (
          rose_before a.faults b.faults c.faults read.takes.keeps.faults r.3,
          only_truncated bounds all (clean_raster bounds all read.bytes w h m r.2.samples r.2.half read.clean (rastered_part read.bytes bytes w h m read.is_header r.2)),
        );
      }
  raster_refused a b c header start OutOfMemory read r =
      let bytes = r.0 in
      let le = r.2 in
      record {
        bytes = read.bytes ++ bytes;
        takes = takes_then read.bytes bytes a b c read.takes r.1;
        few = few_after read.bytes bytes header.width header.height header.maxval read.is_header (omega (arith, read.size, read.short)) (omega arith);
        answer = r.1.begun;
      }
  raster_refused a b c header start (Fault (BadMagic at)) read r = absurd r
  raster_refused a b c header start (Fault (BadHeader at)) read r = absurd r
  raster_refused a b c header start (Fault (SideRange at)) read r = absurd r
  raster_refused a b c header start (Fault (TooManySamples at)) read r = absurd r
  raster_refused a b c header start (Fault (MaxvalRange at)) read r = absurd r
  raster_refused a b c header start (Fault (TrailingBytes at)) read r = absurd r

  pub end_refused : (a b c d : TrayState) (header : Header) (start at : ℕ) (samples : List ℕ) (error : PlateError) → HeaderRead bounds a b header start → RasterTaken header.maxval (header.width * header.height) b c samples → at ≡ start + header.width * header.height * sample_size header.maxval → EndsFile at c d (Err error) → Answers bounds a d (Err error)
  end_refused a b c d header start at samples (Fault (TrailingBytes place)) read taken is r =
      let last = r.0 in
      let w = header.width in
      let h = header.height in
      let m = header.maxval in
      let back = raster m samples in
      let prefix = read.bytes ++ back in
      let all = prefix ++ last ∷ [] in
      let size = raster_within m (w * h) samples taken.all in
      let where_it_is : place ≡ length prefix = r.2 ∙ is ∙ ap (λ (n : ℕ). n + w * h * sample_size m) (sym read.size) ∙ ap (λ (n : ℕ). length read.bytes + n) (sym size) ∙ sym (length-append read.bytes back) in
      let count = taken.all in
      let clean : IsClean bounds prefix (length prefix + 1) = clean_raster bounds prefix read.bytes w h m samples [] read.clean (rastered_all read.bytes w h m samples read.is_header taken.fit (omega arith)) in
      let dec : DecidesWithin bounds all (TrailingBytes place) = record {
        header = read.bytes;
        width = w;
        height = h;
        maxval = m;
        samples = samples;
        last = last;
        is_header = read.is_header;
        all = taken.all;
        whole = refl;
        place = sym where_it_is;
      } in
      record {
        bytes = all;
        takes = takes_then prefix (last ∷ []) a c d (takes_then read.bytes back a b c read.takes taken.takes) r.1;
        few = subst AreFew (sym (append_assoc read.bytes back (last ∷ []))) (few_after read.bytes (back ++ last ∷ []) w h m read.is_header (omega (arith, read.size, read.short)) (omega (arith, length_push back last)));
        answer = (
          r.1.begun,
          subst (λ (x : List ℕ). IsFaultWithin bounds x (TrailingBytes place)) (append-nil all) (decided bounds all [] (TrailingBytes place) (clean_push bounds prefix last clean) dec),
          λ cut. absurd cut,
        );
      }
  end_refused a b c d header start at samples ReadFault read taken is r =
      let w = header.width in
      let h = header.height in
      let m = header.maxval in
      let back = raster m samples in
      let prefix = read.bytes ++ back in
      let size = raster_within m (w * h) samples taken.all in
      let count = taken.all in
      let clean : IsClean bounds prefix (length prefix + 1) = clean_raster bounds prefix read.bytes w h m samples [] read.clean (rastered_all read.bytes w h m samples read.is_header taken.fit (omega arith)) in
      let takes : Takes prefix a d = takes_nil prefix a c d (takes_then read.bytes back a b c read.takes taken.takes) r.0 in
      record {
        bytes = prefix;
        takes = takes;
        few = few_after read.bytes back w h m read.is_header (omega (arith, read.size, read.short)) (omega arith);
        answer = (rose_before a.faults c.faults d.faults (let le = takes_then read.bytes back a b c read.takes taken.takes in le.keeps.faults) r.1, only_truncated bounds prefix clean);
      }
  end_refused a b c d header start at samples OutOfMemory read taken is r = absurd r
  end_refused a b c d header start at samples (Fault (BadMagic place)) read taken is r = absurd r
  end_refused a b c d header start at samples (Fault (BadHeader place)) read taken is r = absurd r
  end_refused a b c d header start at samples (Fault (SideRange place)) read taken is r = absurd r
  end_refused a b c d header start at samples (Fault (TooManySamples place)) read taken is r = absurd r
  end_refused a b c d header start at samples (Fault (MaxvalRange place)) read taken is r = absurd r
  end_refused a b c d header start at samples (Fault (SampleAboveMaxval place)) read taken is r = absurd r
  end_refused a b c d header start at samples (Fault (Truncated place)) read taken is r = absurd r

  -- the file of a header and the samples after it
  pub file_of : (a b c : TrayState) (header : Header) (start : ℕ) (samples : List ℕ) (read : HeaderRead bounds a b header start) → RasterTaken header.maxval (header.width * header.height) b c samples → IsPlateFileWithin bounds (read.bytes ++ raster header.maxval samples) (record { width = header.width; height = header.height; maxval = header.maxval; samples = samples })
  file_of a b c header start samples read taken = record {
    header = read.bytes;
    is_header = read.is_header;
    short = omega (arith, read.size, read.short);
    whole = refl;
    plate_ok = record {
      width = read.width;
      height = read.height;
      product = read.product;
      positive = read.positive;
      maxval = read.maxval;
      count = taken.all;
      samples = taken.fit;
    };
  }

  pub plate_read : (a b c d : TrayState) (header : Header) (start : ℕ) (samples : List ℕ) → HeaderRead bounds a b header start → RasterTaken header.maxval (header.width * header.height) b c samples → Takes [] c d × AtEnd c d → Answers bounds a d (Ok (record { width = header.width; height = header.height; maxval = header.maxval; samples = samples }))
  plate_read a b c d header start samples read taken end =
      let w = header.width in
      let h = header.height in
      let m = header.maxval in
      let back = raster m samples in
      let prefix = read.bytes ++ back in
      let size = raster_within m (w * h) samples taken.all in
      let so_far : Takes prefix a c = takes_then read.bytes back a b c read.takes taken.takes in
      record {
        bytes = prefix;
        takes = takes_nil prefix a c d so_far end.0;
        few = few_after read.bytes back w h m read.is_header (omega (arith, read.size, read.short)) (omega arith);
        answer = (
          end.0.begun,
          file_of a b c header start samples read taken,
          λ tells. end.1 (reported_on prefix a c so_far tells),
        );
      }

  answers_from : (a b c : TrayState) (bytes : List ℕ) (result : Result Plate PlateError) → KeepsTray a b → AnswersPlate bounds bytes b c result → AnswersPlate bounds bytes a c result
  answers_from a b c bytes (Ok plate) keeps answer = (answer.0, answer.1, λ tells. answer.2 (keeps.tells ∙ tells))
  answers_from a b c bytes (Err (Fault fault)) keeps answer = (answer.0, answer.1, λ cut tells. answer.2 cut (keeps.tells ∙ tells))
  answers_from a b c bytes (Err ReadFault) keeps answer = (rose_before a.faults b.faults c.faults keeps.faults answer.0, answer.1)
  answers_from a b c bytes (Err OutOfMemory) keeps answer = answer

  pub begun_then : (name : List ℕ) (a b c : TrayState) (x : Unit {0}) (result : Result Plate PlateError) → Begins {E = DeviceError} name a b (Ok x) → Answers bounds b c result → KeepsCount b c result → ReadsPlateWithin bounds name a c result
  begun_then name a b c x result begun answers count = record {
    keeps = kept_tray a b c begun.keeps answers.takes.keeps;
    asked = subst (λ o. Asks a.asked o (name ∷ [])) (sym answers.takes.asked) begun.asked;
    bytes = answers.bytes;
    taken = λ is tells. begun.left tells ∙ ap (λ (x : List ℕ). Some x) (answers.takes.taken (begun.keeps.tells ∙ tells));
    few = answers.few;
    answer = answers_from a b c answers.bytes result begun.keeps answers.answer;
    count = kept_count a b c result begun.well count;
  }

  pub not_begun : {E : Type 0} (name : List ℕ) (a b : TrayState) (e : E) → Begins {T = Unit {0}} name a b (Err e) → ReadsPlateWithin bounds name a b (Err ReadFault)
  not_begun name a b e begun = record {
    keeps = begun.keeps;
    asked = begun.asked;
    bytes = [];
    taken = λ is tells. absurd (let no : true ≡ false = sym is ∙ begun.begun in cc);
    few = inl (omega arith, no_shape);
    answer = (begun.reason, only_truncated bounds [] (clean_all bounds [] (clean_none bounds) (quiet bounds [] fresh (scanned_none_within bounds) (inr (omega arith)))));
    count = tt;
  }
