-- A piece of a raster: its bytes, its samples, and what they say of the file.
use Rattle.std.proofs.Common.{◌≡◌, ◌⊎◌, ℕ, ◌<◌, ◌≤◌, ◌+◌, ◌*◌, ◌/◌, ◌%◌, max, true, false, cond, ltb, List, [], ◌∷◌, ◌++◌, length, take, drop, get_or, refl, sym, ap, ◌∙◌, subst, inl, inr, arith}
use Rattle.std.proofs.lemmas.Bool.{le-ltb, cond-false}
use Rattle.std.proofs.lemmas.List.{append_assoc, append-nil, take-append-drop, take_all, length-append, length-take-le, drop_more}
use Rattle.std.proofs.lemmas.List.Elements.{All-weaker, All-more, All-same, All-append}
use Rattle.std.proofs.Math.Nat.{add-mul, mul-le-mul_right}
use Rattle.std.specs.List.{All, flat_map}
use Rattle.outside.specs.Tray.{TrayState}
use Rattle.outside.specs.Reading.{Takes}
use Rattle.outside.proofs.Steps.{takes_then, takes_as, rose_before}
use Rattle.pgm_plates.specs.declared.plate.PlateFault.TheVariants.{BadMagic, BadHeader, SideRange, TooManySamples, MaxvalRange, SampleAboveMaxval, Truncated, TrailingBytes}
use Rattle.pgm_plates.specs.declared.plate.PlateError.{PlateError}
use Rattle.pgm_plates.specs.declared.plate.PlateError.TheVariants.{Fault, ReadFault, OutOfMemory}
use Rattle.pgm_plates.specs.Plates.{sample_bytes, sample_size, raster}
use Rattle.pgm_plates.specs.Readers.{Fit, IsPart, IsAbove, RasterRefused, RasterTaken, IsDecoded, FirstAbove}
use Rattle.pgm_plates.proofs.Rasters.{narrow_raster}
use Rattle.pgm_plates.proofs.Headers.{reported_on}
use Rattle.pgm_plates.proofs.Decisions.{some_size, raster_size, raster_both}

pub most_more : (xs : List ℕ) (i most r : ℕ) → i < length xs → r ≡ max most (get_or xs i 0) → All (λ (s : ℕ). s ≤ most) (take i xs) → All (λ (s : ℕ). s ≤ r) (take (i + 1) xs)
most_more xs i most r here is all =
    All-more (λ (s : ℕ). s ≤ r) xs i 0 here
    (All-weaker (λ (s : ℕ). s ≤ most) (λ (s : ℕ). s ≤ r) (λ (s : ℕ) (le : s ≤ most). omega (arith, is)) (take i xs) all)
    (omega (arith, is))

pub fit_more : (maxval : ℕ) (xs : List ℕ) (i : ℕ) → i < length xs → Fit maxval (take i xs) → get_or xs i 0 ≤ maxval → Fit maxval (take (i + 1) xs)
fit_more maxval xs i here fit le = All-more (λ (s : ℕ). s ≤ maxval) xs i 0 here fit le

pub fit_end : (maxval : ℕ) (xs : List ℕ) (n : ℕ) → length xs ≤ n → Fit maxval (take n xs) → Fit maxval xs
fit_end maxval xs n whole fit = All-same (λ (s : ℕ). s ≤ maxval) xs (take n xs) (sym (take_all n xs whole)) fit

pub decoded_narrow : (maxval : ℕ) (bytes samples : List ℕ) → maxval < 256 → samples ≡ bytes → IsDecoded maxval bytes samples
decoded_narrow maxval bytes samples less same =
    let size = some_size maxval in
    record {
      half = [];
      whole = sym same ∙ sym (narrow_raster maxval samples less) ∙ sym (append-nil (raster maxval samples));
      short = omega (arith, size.0);
    }

wide_raster : (maxval : ℕ) (samples : List ℕ) → ltb maxval 256 ≡ false → raster maxval samples ≡ flat_map (λ (s : ℕ). s / 256 ∷ s % 256 ∷ []) samples
wide_raster maxval [] wide = refl
wide_raster maxval (s ∷ samples) wide =
    ap (λ (x : List ℕ). x ++ raster maxval samples) (cond-false (ltb maxval 256) (s ∷ []) (s / 256 ∷ s % 256 ∷ []) wide)
    ∙ ap (λ (x : List ℕ). (s / 256 ∷ s % 256 ∷ []) ++ x) (wide_raster maxval samples wide)

pub decoded_wide : (maxval : ℕ) (bytes samples half : List ℕ) → 256 ≤ maxval → bytes ≡ flat_map (λ (s : ℕ). s / 256 ∷ s % 256 ∷ []) samples ++ half → length half < 2 → IsDecoded maxval bytes samples
decoded_wide maxval bytes samples half big same short =
    let wide : ltb maxval 256 ≡ false = le-ltb maxval 256 big in
    let two : sample_size maxval ≡ 2 = cond-false (ltb maxval 256) 1 2 wide in
    record {
      half = half;
      whole = same ∙ ap (λ (x : List ℕ). x ++ half) (sym (wide_raster maxval samples wide));
      short = omega (arith, two, short);
    }

-- where one sample of a piece is above the maxval
pub piece_above : (maxval count : ℕ) (bytes samples : List ℕ) (place : ℕ) → IsDecoded maxval bytes samples → FirstAbove maxval samples place → length samples ≤ count → length bytes ≤ count * sample_size maxval → IsAbove maxval count bytes (place * sample_size maxval)
piece_above maxval count bytes samples place decoded first few within =
    let prefix = take place samples in
    let sample = get_or samples place 0 in
    let rest = drop (place + 1) samples in
    let split : samples ≡ prefix ++ sample ∷ rest = sym (take-append-drop place samples) ∙ ap (λ (x : List ℕ). prefix ++ x) (drop_more samples place 0 first.within) in
    let spelled : raster maxval samples ≡ raster maxval prefix ++ (sample_bytes maxval sample ++ raster maxval rest) = ap (raster maxval) split ∙ raster_both maxval prefix (sample ∷ rest) in
    record {
      samples = prefix;
      sample = sample;
      more = raster maxval rest ++ decoded.half;
      whole = decoded.whole ∙ ap (λ (x : List ℕ). x ++ decoded.half) spelled
          ∙ append_assoc (raster maxval prefix) (sample_bytes maxval sample ++ raster maxval rest) decoded.half
          ∙ ap (λ (x : List ℕ). raster maxval prefix ++ x) (append_assoc (sample_bytes maxval sample) (raster maxval rest) decoded.half)
          ∙ sym (append_assoc (raster maxval prefix) (sample_bytes maxval sample) (raster maxval rest ++ decoded.half));
      fit = first.fit;
      above = first.above;
      at = sym (raster_size maxval prefix ∙ ap (λ (n : ℕ). n * sample_size maxval) (length-take-le place samples (omega (arith, first.within))));
      few = omega (arith, first.within, length-take-le place samples);
      within = within;
    }

sized : (maxval : ℕ) (bytes samples : List ℕ) (decoded : IsDecoded maxval bytes samples) → length bytes ≡ length samples * sample_size maxval + length decoded.half
sized maxval bytes samples decoded = ap length decoded.whole ∙ length-append (raster maxval samples) decoded.half ∙ ap (λ (n : ℕ). n + length decoded.half) (raster_size maxval samples)

few_samples : (n k count size : ℕ) → n * size + k ≤ count * size → k < size → ((size ≡ 1) ⊎ (size ≡ 2)) → n + k ≤ count
few_samples n k count size le short (inl one) =
    let a : n * size ≡ n = ap (λ (z : ℕ). n * z) one ∙ (let e : n * 1 ≡ n = omega arith in e) in
    let b : count * size ≡ count = ap (λ (z : ℕ). count * z) one ∙ (let e : count * 1 ≡ count = omega arith in e) in
    omega arith
few_samples n k count size le short (inr two) =
    let a : n * size ≡ n * 2 = ap (λ (z : ℕ). n * z) two in
    let b : count * size ≡ count * 2 = ap (λ (z : ℕ). count * z) two in
    omega arith

pub one_or_two : (maxval : ℕ) → (sample_size maxval ≡ 1) ⊎ (sample_size maxval ≡ 2)
one_or_two maxval = elim (ltb maxval 256) as (λ t. (cond {A = ℕ} t 1 2 ≡ 1) ⊎ (cond {A = ℕ} t 1 2 ≡ 2)) [ true ↦ inl refl | false ↦ inr refl ]

-- where the samples of a piece fit
pub piece_part : (maxval count : ℕ) (bytes samples : List ℕ) → IsDecoded maxval bytes samples → Fit maxval samples → length bytes ≤ count * sample_size maxval → IsPart maxval count bytes
piece_part maxval count bytes samples decoded fit within =
    record {
      samples = samples;
      half = decoded.half;
      whole = decoded.whole;
      fit = fit;
      short = decoded.short;
      few = few_samples (length samples) (length decoded.half) count (sample_size maxval) (omega (arith, sized maxval bytes samples decoded)) decoded.short (one_or_two maxval);
    }

pub few_decoded : (maxval count : ℕ) (bytes samples : List ℕ) → IsDecoded maxval bytes samples → length bytes ≤ count * sample_size maxval → length samples ≤ count
few_decoded maxval count bytes samples decoded within =
    let few = few_samples (length samples) (length decoded.half) count (sample_size maxval) (omega (arith, sized maxval bytes samples decoded)) decoded.short (one_or_two maxval) in
    omega (arith, few)

whole_count : (n k count size : ℕ) → n * size + k ≡ count * size → k < size → ((size ≡ 1) ⊎ (size ≡ 2)) → (n ≡ count) × (k ≡ 0)
whole_count n k count size is short (inl one) =
    let a : n * size ≡ n = ap (λ (z : ℕ). n * z) one ∙ (let e : n * 1 ≡ n = omega arith in e) in
    let b : count * size ≡ count = ap (λ (z : ℕ). count * z) one ∙ (let e : count * 1 ≡ count = omega arith in e) in
    (omega arith, omega arith)
whole_count n k count size is short (inr two) =
    let a : n * size ≡ n * 2 = ap (λ (z : ℕ). n * z) two in
    let b : count * size ≡ count * 2 = ap (λ (z : ℕ). count * z) two in
    (omega arith, omega arith)

empty : (xs : List ℕ) → length xs ≡ 0 → xs ≡ []
empty [] none = refl
empty (x ∷ xs) none = absurd (omega arith)

-- where a piece is whole
pub piece_whole : (maxval count : ℕ) (bytes samples : List ℕ) → IsDecoded maxval bytes samples → length bytes ≡ count * sample_size maxval → (bytes ≡ raster maxval samples) × (length samples ≡ count)
piece_whole maxval count bytes samples decoded all =
    let is = whole_count (length samples) (length decoded.half) count (sample_size maxval) (sym (sized maxval bytes samples decoded) ∙ all) decoded.short (one_or_two maxval) in
    (decoded.whole ∙ ap (λ (x : List ℕ). raster maxval samples ++ x) (empty decoded.half is.1) ∙ append-nil (raster maxval samples), is.0)

more_times : (n k count size : ℕ) → n + k ≤ count → n * size + k * size ≤ count * size
more_times n k count size few = subst (λ (z : ℕ). z ≤ count * size) (add-mul n k size) (mul-le-mul_right size few)

after_size : (maxval : ℕ) (xs bytes : List ℕ) → length (raster maxval xs ++ bytes) ≡ length xs * sample_size maxval + length bytes
after_size maxval xs bytes = length-append (raster maxval xs) bytes ∙ ap (λ (n : ℕ). n + length bytes) (raster_size maxval xs)

after_raster : (maxval : ℕ) (xs ys more : List ℕ) → raster maxval xs ++ (raster maxval ys ++ more) ≡ raster maxval (xs ++ ys) ++ more
after_raster maxval xs ys more = sym (append_assoc (raster maxval xs) (raster maxval ys) more) ∙ ap (λ (z : List ℕ). z ++ more) (sym (raster_both maxval xs ys))

part_on : (maxval count want : ℕ) (xs bytes : List ℕ) → Fit maxval xs → length xs + want ≤ count → IsPart maxval want bytes → IsPart maxval count (raster maxval xs ++ bytes)
part_on maxval count want xs bytes fit few part = record {
  samples = xs ++ part.samples;
  half = part.half;
  whole = ap (λ (z : List ℕ). raster maxval xs ++ z) part.whole ∙ after_raster maxval xs part.samples part.half;
  fit = All-append (λ (s : ℕ). s ≤ maxval) xs part.samples fit part.fit;
  short = part.short;
  few = omega (arith, part.few, length-append xs part.samples);
}

above_on : (maxval count want place : ℕ) (xs bytes : List ℕ) → Fit maxval xs → length xs + want ≤ count → IsAbove maxval want bytes place → IsAbove maxval count (raster maxval xs ++ bytes) (length (raster maxval xs) + place)
above_on maxval count want place xs bytes fit few above = record {
  samples = xs ++ above.samples;
  sample = above.sample;
  more = above.more;
  whole = ap (λ (z : List ℕ). raster maxval xs ++ z) (above.whole ∙ append_assoc (raster maxval above.samples) (sample_bytes maxval above.sample) above.more)
      ∙ after_raster maxval xs above.samples (sample_bytes maxval above.sample ++ above.more)
      ∙ sym (append_assoc (raster maxval (xs ++ above.samples)) (sample_bytes maxval above.sample) above.more);
  fit = All-append (λ (s : ℕ). s ≤ maxval) xs above.samples fit above.fit;
  above = above.above;
  at = ap (λ (n : ℕ). length (raster maxval xs) + n) above.at ∙ sym (length-append (raster maxval xs) (raster maxval above.samples)) ∙ ap length (sym (raster_both maxval xs above.samples));
  few = omega (arith, above.few, length-append xs above.samples);
  within =
      let size = after_size maxval xs bytes in
      let enough = more_times (length xs) want count (sample_size maxval) few in
      omega (arith, above.within);
}

-- An error after some samples is one of the whole raster.
pub refused_on : (maxval count want start : ℕ) (a b c : TrayState) (xs : List ℕ) (error : PlateError) → Takes (raster maxval xs) a b → Fit maxval xs → length xs + want ≤ count → RasterRefused maxval want (start + length xs * sample_size maxval) b c error → RasterRefused maxval count start a c error
refused_on maxval count want start a b c xs (Fault (SampleAboveMaxval at)) took fit few r =
    let bytes = r.0 in
    let place = r.1 in (
      raster maxval xs ++ bytes,
      length (raster maxval xs) + place,
      takes_then (raster maxval xs) bytes a b c took r.2,
      above_on maxval count want place xs bytes fit few r.3,
      (let size = raster_size maxval xs in let is = r.4 in omega arith),
    )
refused_on maxval count want start a b c xs (Fault (Truncated at)) took fit few r =
    let bytes = r.0 in
    let size = after_size maxval xs bytes in
    let enough = more_times (length xs) want count (sample_size maxval) few in (
      raster maxval xs ++ bytes,
      takes_then (raster maxval xs) bytes a b c took r.1,
      part_on maxval count want xs bytes fit few r.2,
      (let less = r.3 in omega arith),
      (let is = r.4 in omega arith),
      λ tells. r.5 (reported_on (raster maxval xs) a b took tells),
    )
refused_on maxval count want start a b c xs ReadFault took fit few r =
    let bytes = r.0 in (
      raster maxval xs ++ bytes,
      takes_then (raster maxval xs) bytes a b c took r.1,
      part_on maxval count want xs bytes fit few r.2,
      rose_before a.faults b.faults c.faults took.keeps.faults r.3,
    )
refused_on maxval count want start a b c xs OutOfMemory took fit few r =
    let bytes = r.0 in
    let size = after_size maxval xs bytes in
    let enough = more_times (length xs) want count (sample_size maxval) few in
    (raster maxval xs ++ bytes, takes_then (raster maxval xs) bytes a b c took r.1, (let less = r.2 in omega arith))
refused_on maxval count want start a b c xs (Fault (BadMagic at)) took fit few r = r
refused_on maxval count want start a b c xs (Fault (BadHeader at)) took fit few r = r
refused_on maxval count want start a b c xs (Fault (SideRange at)) took fit few r = r
refused_on maxval count want start a b c xs (Fault (TooManySamples at)) took fit few r = r
refused_on maxval count want start a b c xs (Fault (MaxvalRange at)) took fit few r = r
refused_on maxval count want start a b c xs (Fault (TrailingBytes at)) took fit few r = r

-- all samples so far
pub taken_on : (maxval want : ℕ) (a b c : TrayState) (xs ys : List ℕ) → Takes (raster maxval xs) a b → RasterTaken maxval want b c ys → Takes (raster maxval (xs ++ ys)) a c
taken_on maxval want a b c xs ys took taken =
    takes_as (raster maxval xs ++ raster maxval ys) (raster maxval (xs ++ ys)) a c (sym (raster_both maxval xs ys)) (takes_then (raster maxval xs) (raster maxval ys) a b c took taken.takes)

-- no room for the samples of a piece
pub workspace_refused : (maxval count want start : ℕ) (a b c : TrayState) (xs ys : List ℕ) → Takes (raster maxval xs) a b → length xs + want ≤ count → RasterTaken maxval want b c ys → RasterRefused maxval count start a c OutOfMemory
workspace_refused maxval count want start a b c xs ys took few taken =
    let size = raster_size maxval (xs ++ ys) in
    let all : length (xs ++ ys) ≤ count = omega (arith, length-append xs ys, taken.all) in (
      raster maxval (xs ++ ys),
      taken_on maxval want a b c xs ys took taken,
      subst (λ (n : ℕ). n ≤ count * sample_size maxval) (sym size) (mul-le-mul_right (sample_size maxval) all),
    )

pub within_workspace : (buf : List ℕ) (filled count size : ℕ) → filled ≤ length buf → length buf ≡ count * size → length (take filled buf) ≤ count * size
within_workspace buf filled count size le workspace = omega (arith, length-take-le filled buf le)

pub short_of_workspace : (buf : List ℕ) (filled count size : ℕ) → filled < length buf → length buf ≡ count * size → length (take filled buf) < count * size
short_of_workspace buf filled count size less workspace = omega (arith, length-take-le filled buf (let le : filled ≤ length buf = omega arith in le))

pub taken_whole : (maxval count : ℕ) (bytes samples : List ℕ) (a b : TrayState) → Takes bytes a b → IsDecoded maxval bytes samples → Fit maxval samples → length bytes ≡ count * sample_size maxval → RasterTaken maxval count a b samples
taken_whole maxval count bytes samples a b took decoded fit all =
    let whole = piece_whole maxval count bytes samples decoded all in
    record { takes = takes_as bytes (raster maxval samples) a b whole.0 took; fit = fit; all = whole.1 }

-- The same samples, counted by themselves.
pub taken_as : (maxval count : ℕ) (a b : TrayState) (xs ys : List ℕ) → ys ≡ xs → RasterTaken maxval count a b xs → RasterTaken maxval (length ys) a b ys
taken_as maxval count a b xs ys is taken =
    let same = subst (λ (l : List ℕ). RasterTaken maxval count a b l) (sym is) taken in
    record { takes = same.takes; fit = same.fit; all = refl }
