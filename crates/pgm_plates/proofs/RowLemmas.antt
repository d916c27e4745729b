-- A plate that is read row by row: what each of its calls makes of what was read so far.
use Rattle.std.proofs.Common.{◌≡◌, ℕ, ◌≤◌, ◌+◌, ◌*◌, List, [], ◌∷◌, ◌++◌, length, replicate, take, Some, Result, Ok, Err, IsTrue, refl, sym, ap, ◌∙◌, subst, arith}
use Rattle.std.proofs.lemmas.List.{append_assoc, length-append, length-replicate, length-take-le, take_all}
use Rattle.std.proofs.lemmas.List.Elements.{All-append}
use borrow.Rule.Slice.PartMut.{put_mid}
use Rattle.outside.specs.declared.tray.DeviceError.{DeviceError}
use Rattle.outside.specs.Tray.{TrayState, Begins}
use Rattle.outside.specs.Reading.{Takes}
use Rattle.outside.proofs.Steps.{takes_as, filled_more}
use Rattle.pgm_plates.specs.declared.bounds.Bounds.{Bounds}
use Rattle.pgm_plates.specs.declared.plate.Plate.{Plate}
use Rattle.pgm_plates.specs.declared.plate.PlateError.{PlateError}
use Rattle.pgm_plates.specs.declared.rows.OpenPlate.{OpenPlate}
use Rattle.pgm_plates.specs.Laws.{TopOfFileWithin}
use Rattle.pgm_plates.specs.Plates.{sample_bytes, sample_size, raster}
use Rattle.pgm_plates.specs.Reading.{KeepsCount, ReadsPlateWithin}
use Rattle.pgm_plates.specs.Readers.{Answers, EndsFile, Fit, HeaderRead, OpensPlate, RasterRefused, RasterTaken, ReadsPiece, ReadsUnkept}
use Rattle.pgm_plates.specs.Rows.{BeginsPlate, EndsPlate, HasRead, ReadsRows, ReadsSome, plate_with, samples_of}
use Rattle.pgm_plates.proofs.Counts.{refused_count}
use Rattle.pgm_plates.proofs.Decisions.{one_sample}
use Rattle.pgm_plates.proofs.Headers.{takes_none}
use Rattle.pgm_plates.proofs.Pieces.{refused_on, taken_as, taken_on}
use Rattle.pgm_plates.proofs.Prefixes.{clean_header}
use Rattle.pgm_plates.proofs.Shapes.{one_header}
use Rattle.pgm_plates.proofs.Wholes.{begun_then, end_refused, kept_count, plate_read, raster_refused}

-- one piece more in the buffer
pub filled_on : (buf part : List ℕ) (done k want : ℕ) → done ≤ length buf → length part ≡ want → take done buf ++ part ≡ take (done + want) (put_mid done k buf part)
filled_on buf part done k want le all =
    ap (λ (x : List ℕ). take done buf ++ x) (sym (take_all want part (omega (arith, all)))) ∙ filled_more buf part done k want le (omega (arith, all))

pub filled_takes : (maxval want : ℕ) (a b c : TrayState) (buf part : List ℕ) (done k : ℕ) → done ≤ length buf → length part ≡ want → Takes (raster maxval (take done buf)) a b → RasterTaken maxval (length part) b c part → Takes (raster maxval (take (done + want) (put_mid done k buf part))) a c
filled_takes maxval want a b c buf part done k le all took taken =
    takes_as (raster maxval (take done buf ++ part)) (raster maxval (take (done + want) (put_mid done k buf part))) a c (ap (raster maxval) (filled_on buf part done k want le all)) (taken_on maxval (length part) a b c (take done buf) part took taken)

pub filled_fit : (maxval want : ℕ) (buf part : List ℕ) (done k : ℕ) → done ≤ length buf → length part ≡ want → Fit maxval (take done buf) → Fit maxval part → Fit maxval (take (done + want) (put_mid done k buf part))
filled_fit maxval want buf part done k le all fit more =
    subst (Fit maxval) (filled_on buf part done k want le all) (All-append (λ (s : ℕ). s ≤ maxval) (take done buf) part fit more)

-- a buffer that is not filled
pub filled_refused : (maxval count start place done want : ℕ) (a b c : TrayState) (buf : List ℕ) (error : PlateError) → done ≤ length buf → done + want ≤ count → place ≡ start + done * sample_size maxval → Takes (raster maxval (take done buf)) a b → Fit maxval (take done buf) → RasterRefused maxval want place b c error → RasterRefused maxval count start a c error
filled_refused maxval count start place done want a b c buf error le few is took fit r =
    let size : length (take done buf) ≡ done = length-take-le done buf le in
    refused_on maxval count want start a b c (take done buf) error took fit (omega arith)
    (subst (λ (n : ℕ). RasterRefused maxval want n b c error) (is ∙ ap (λ (n : ℕ). start + n * sample_size maxval) (sym size)) r)

-- Samples of which none is kept: so many more, and an error behind them.
abbrev pub Unkept : ℕ → ℕ → TrayState → TrayState → Type 0
Unkept maxval count a b = (samples : List ℕ) × RasterTaken maxval count a b samples

pub unkept_none : (maxval : ℕ) (a : TrayState) → IsTrue a.begun → Unkept maxval 0 a a
unkept_none maxval a begun = ([], record { takes = takes_none a begun; fit = λ k d less. absurd (omega arith); all = refl })

pub unkept_more : (maxval done want : ℕ) (a b c : TrayState) (ys : List ℕ) → Unkept maxval done a b → RasterTaken maxval want b c ys → Unkept maxval (done + want) a c
unkept_more maxval done want a b c ys one more = (
  one.0 ++ ys,
  record {
    takes = taken_on maxval want a b c one.0 ys one.1.takes more;
    fit = All-append (λ (s : ℕ). s ≤ maxval) one.0 ys one.1.fit more.fit;
    all = length-append one.0 ys ∙ ap (λ (n : ℕ). n + length ys) one.1.all ∙ ap (λ (n : ℕ). done + n) more.all;
  },
)

pub unkept_refused : (maxval count done want start place : ℕ) (a b c : TrayState) (error : PlateError) → done + want ≤ count → place ≡ start + done * sample_size maxval → Unkept maxval done a b → RasterRefused maxval want place b c error → RasterRefused maxval count start a c error
unkept_refused maxval count done want start place a b c error few is one r =
    refused_on maxval count want start a b c one.0 error one.1.takes one.1.fit (omega (arith, one.1.all))
    (subst (λ (n : ℕ). RasterRefused maxval want n b c error) (is ∙ ap (λ (n : ℕ). start + n * sample_size maxval) (sym one.1.all)) r)

module _ (bounds : Bounds) where
  header_read : (name : List ℕ) (a b : TrayState) (plate : OpenPlate) (samples : List ℕ) (has : HasRead bounds name a b plate samples) → HeaderRead bounds has.begun has.headed plate.header plate.size
  header_read name a b plate samples has =
      let w = plate.header.width in
      let h = plate.header.height in
      let m = plate.header.maxval in
      record {
        bytes = has.spelling;
        takes = has.head;
        is_header = has.is_header;
        clean = clean_header bounds has.spelling w h m has.is_header has.within.width has.within.height has.within.product has.within.positive has.within.maxval (omega (arith, has.size, has.short));
        size = has.size;
        short = has.short;
        width = has.within.width;
        height = has.within.height;
        product = has.within.product;
        positive = has.within.positive;
        maxval = has.within.maxval;
      }

  -- what the whole reading answers, by what was answered since the file was begun
  reads_whole : (name : List ℕ) (a b c : TrayState) (plate : OpenPlate) (samples : List ℕ) (has : HasRead bounds name a b plate samples) (error : PlateError) → Answers bounds has.begun c (Err error) → KeepsCount {T = Unit {0}} b c (Err error) → ReadsPlateWithin bounds name a c (Err error)
  reads_whole name a b c plate samples has error answers count =
      begun_then bounds name a has.begun c tt (Err error) has.begins answers
      (kept_count {T = Plate} has.begun b c (Err error) (has.count ∙ sym has.begins.well) (refused_count (Unit {0}) Plate b b c error refl count))

  pub header_begun : (name : List ℕ) (a b c : TrayState) (plate : OpenPlate) → Begins {T = Unit {0}} {E = DeviceError} name a b (Ok tt) → HeaderRead bounds b c plate.header plate.size → c.faults ≡ b.faults → HasRead bounds name a c plate []
  header_begun name a b c plate begins read count = record {
    begun = b;
    begins = begins;
    spelling = read.bytes;
    is_header = read.is_header;
    size = read.size;
    short = read.short;
    within = record { width = read.width; height = read.height; product = read.product; positive = read.positive; maxval = read.maxval };
    headed = c;
    head = read.takes;
    rows = takes_none c read.takes.begun;
    fit = λ k d less. absurd (omega arith);
    few = omega arith;
    count = count ∙ begins.well;
  }

  pub header_refused : (name : List ℕ) (a b c : TrayState) (error : PlateError) → Begins {T = Unit {0}} {E = DeviceError} name a b (Ok tt) → Answers bounds b c (Err error) → KeepsCount {T = OpenPlate} b c (Err error) → ReadsPlateWithin bounds name a c (Err error)
  header_refused name a b c error begins answers count = begun_then bounds name a b c tt (Err error) begins answers (refused_count OpenPlate Plate b b c error refl count)

  pub plate_begun : (name : List ℕ) (a b c : TrayState) (result : Result OpenPlate PlateError) → Begins {T = Unit {0}} {E = DeviceError} name a b (Ok tt) → OpensPlate bounds b c result → KeepsCount b c result → BeginsPlate bounds name a c result
  plate_begun name a b c (Ok plate) begins read count = header_begun name a b c plate begins read count
  plate_begun name a b c (Err error) begins answers count = header_refused name a b c error begins answers count

  rows_read : (name : List ℕ) (a b c : TrayState) (plate : OpenPlate) (samples rows : List ℕ) → HasRead bounds name a b plate samples → length samples + length rows ≤ samples_of plate.header → RasterTaken plate.header.maxval (length rows) b c rows → c.faults ≡ b.faults → HasRead bounds name a c plate (samples ++ rows)
  rows_read name a b c plate samples rows has few taken count =
      let m = plate.header.maxval in
      record {
        begun = has.begun;
        begins = has.begins;
        spelling = has.spelling;
        is_header = has.is_header;
        size = has.size;
        short = has.short;
        within = has.within;
        headed = has.headed;
        head = has.head;
        rows = taken_on m (length rows) has.headed b c samples rows has.rows taken;
        fit = All-append (λ (s : ℕ). s ≤ m) samples rows has.fit taken.fit;
        few = omega (arith, length-append samples rows);
        count = count ∙ has.count;
      }

  rows_refused : (name : List ℕ) (a b c : TrayState) (plate : OpenPlate) (samples rows : List ℕ) (error : PlateError) → HasRead bounds name a b plate samples → length samples + length rows ≤ samples_of plate.header → RasterRefused plate.header.maxval (length rows) (plate.size + length samples * sample_size plate.header.maxval) b c error → KeepsCount {T = Unit {0}} b c (Err error) → ReadsPlateWithin bounds name a c (Err error)
  rows_refused name a b c plate samples rows error has few refused count =
      reads_whole name a b c plate samples has error
      (raster_refused bounds has.begun has.headed c plate.header plate.size error (header_read name a b plate samples has)
      (refused_on plate.header.maxval (samples_of plate.header) (length rows) plate.size has.headed b c samples error has.rows has.fit few refused))
      count

  all_read : (name : List ℕ) (a b : TrayState) (plate : OpenPlate) (samples : List ℕ) (has : HasRead bounds name a b plate samples) → length samples ≡ samples_of plate.header → RasterTaken plate.header.maxval (samples_of plate.header) has.headed b samples
  all_read name a b plate samples has all = record { takes = has.rows; fit = has.fit; all = all }

  plate_ended : (name : List ℕ) (a b c : TrayState) (plate : OpenPlate) (samples : List ℕ) (x : Unit {0}) → HasRead bounds name a b plate samples → length samples ≡ samples_of plate.header → EndsFile (plate.size + samples_of plate.header * sample_size plate.header.maxval) b c (Ok x) → c.faults ≡ b.faults → ReadsPlateWithin bounds name a c (Ok (plate_with plate.header samples))
  plate_ended name a b c plate samples x has all ends count =
      begun_then bounds name a has.begun c tt (Ok (plate_with plate.header samples)) has.begins
      (plate_read bounds has.begun has.headed b c plate.header plate.size samples (header_read name a b plate samples has) (all_read name a b plate samples has all) ends)
      (count ∙ has.count ∙ sym has.begins.well)

  plate_refused : (name : List ℕ) (a b c : TrayState) (plate : OpenPlate) (samples : List ℕ) (error : PlateError) → HasRead bounds name a b plate samples → length samples ≡ samples_of plate.header → EndsFile (plate.size + samples_of plate.header * sample_size plate.header.maxval) b c (Err error) → KeepsCount {T = Unit {0}} b c (Err error) → ReadsPlateWithin bounds name a c (Err error)
  plate_refused name a b c plate samples error has all ends count =
      reads_whole name a b c plate samples has error
      (end_refused bounds has.begun has.headed b c plate.header plate.size (plate.size + samples_of plate.header * sample_size plate.header.maxval) samples error (header_read name a b plate samples has) (all_read name a b plate samples has all) refl ends)
      count

pub rows_answered : (plate : OpenPlate) (done start : ℕ) (rows : List ℕ) (b c : TrayState) (result : Result (Unit {0}) PlateError) → start ≡ plate.size + done * sample_size plate.header.maxval → ReadsPiece plate.header.maxval (length rows) start b c result rows → KeepsCount b c result → ReadsRows plate done rows b c result
rows_answered plate done start rows b c (Ok x) place piece count bounds name a samples has same few = rows_read bounds name a b c plate samples rows has (omega (arith, same, few)) piece count
rows_answered plate done start rows b c (Err error) place piece count bounds name a samples has same few =
    rows_refused bounds name a b c plate samples rows error has (omega (arith, same, few))
    (subst (λ (n : ℕ). RasterRefused plate.header.maxval (length rows) n b c error) (place ∙ ap (λ (n : ℕ). plate.size + n * sample_size plate.header.maxval) (sym same)) piece) count

pub unkept_answered : (plate : OpenPlate) (done count start : ℕ) (b c : TrayState) (result : Result (Unit {0}) PlateError) → start ≡ plate.size + done * sample_size plate.header.maxval → ReadsUnkept plate.header.maxval count start b c result → KeepsCount b c result → ReadsSome plate done count b c result
unkept_answered plate done count start b c (Ok x) place read kept =
    (read.0, read.1.all, rows_answered plate done start read.0 b c (Ok x) place (taken_as plate.header.maxval count b c read.0 read.0 refl read.1) kept)
unkept_answered plate done count start b c (Err error) place read kept =
    let long = length-replicate count 0 in
    (replicate count 0, long, rows_answered plate done start (replicate count 0) b c (Err error) place (subst (λ (n : ℕ). RasterRefused plate.header.maxval n start b c error) (sym long) read.1) kept)

pub end_answered : (plate : OpenPlate) (at : ℕ) (b c : TrayState) (result : Result (Unit {0}) PlateError) → at ≡ plate.size + samples_of plate.header * sample_size plate.header.maxval → EndsFile at b c result → KeepsCount b c result → EndsPlate plate b c result
end_answered plate at b c (Ok x) place ends count bounds name a samples has all = plate_ended bounds name a b c plate samples x has all ends count
end_answered plate at b c (Err error) place ends count bounds name a samples has all =
    plate_refused bounds name a b c plate samples error has all (subst (λ (n : ℕ). EndsFile n b c (Err error)) place ends) count

-- Samples whose bytes begin those of others are the first of these.
first_samples : (m : ℕ) (xs ys l : List ℕ) → length xs ≤ length ys → raster m xs ++ l ≡ raster m ys → xs ≡ take (length xs) ys
first_samples m [] ys l few e = refl
first_samples m (x ∷ xs) [] l few e = absurd (omega arith)
first_samples m (x ∷ xs) (y ∷ ys) l few e =
    let same = one_sample m x y (raster m xs ++ l) (raster m ys) (sym (append_assoc (sample_bytes m x) (raster m xs) l) ∙ e) in
    ap (λ (z : ℕ). z ∷ xs) same.sample ∙ ap (λ (z : List ℕ). y ∷ z) (first_samples m xs ys l (omega arith) same.rest)

some_bytes : (x y : List ℕ) → Some x ≡ Some y → x ≡ y
some_bytes x y e = cc

pub top_of_file : (bounds : Bounds) → TopOfFileWithin bounds
top_of_file bounds name a b plate samples all whole has tells found file =
    let m = plate.header.maxval in
    let back = raster m samples ++ b.left in
    let reported : IsTrue has.begun.tells = has.begins.keeps.tells ∙ tells in
    let bytes : all ≡ has.spelling ++ back = some_bytes all (has.spelling ++ back)
    (sym found ∙ has.begins.left tells ∙ ap (λ (x : List ℕ). Some x) (has.head.taken reported ∙ ap (λ (x : List ℕ). has.spelling ++ x) (has.rows.taken (has.head.keeps.tells ∙ reported)))) in
    let same = one_header has.spelling back file.header (raster whole.maxval whole.samples) plate.header.width plate.header.height m whole.width whole.height whole.maxval has.is_header file.is_header (sym bytes ∙ file.whole) in
    let count : length whole.samples ≡ samples_of plate.header = file.plate_ok.count ∙ ap (λ (n : ℕ). n * whole.height) (sym same.width) ∙ ap (λ (n : ℕ). plate.header.width * n) (sym same.height) in
    record {
      width = same.width;
      height = same.height;
      maxval = same.maxval;
      first = first_samples m samples whole.samples b.left (omega (arith, has.few, count)) (same.rest ∙ ap (λ (n : ℕ). raster n whole.samples) (sym same.maxval));
    }
