-- A plate that is written row by row: what each of its calls makes of what was written so far.
use Rattle.std.proofs.Common.{◌≡◌, ℕ, ◌-◌, List, [], ◌++◌, map, Result, Ok, Err, sym, ap, ◌∙◌, subst}
use Rattle.std.proofs.lemmas.List.{append_assoc, append-nil, map-append}
use Rattle.outside.specs.declared.tray.DeviceError.{DeviceError}
use Rattle.outside.specs.Rack.{RackState, Creates, Finishes}
use Rattle.outside.specs.Writing.{FillsFile, WritesOn, WritesFile}
use Rattle.outside.proofs.Steps.{created_then_filled, writes_as, writes_stopped, writes_then, written_then_finished}
use Rattle.pgm_plates.specs.declared.header.Header.{Header}
use Rattle.pgm_plates.specs.Planes.{plate_of}
use Rattle.pgm_plates.specs.Plates.{raster, spelled_header}
use Rattle.pgm_plates.specs.Rows.{BeginsImage, EndsImage, WritesRows, plane_with, spelled_so_far}
use Rattle.pgm_plates.proofs.Decisions.{raster_both}

abbrev Answer : Type 0
Answer = Result (Unit {0}) DeviceError

-- the samples of some tints
abbrev turned : Header → List ℕ → List ℕ
turned header tints = map (λ (t : ℕ). header.maxval - t) tints

abbrev head : Header → List ℕ
head header = spelled_header (plate_of (plane_with header []))

-- the spelling, with some rows more
spelled_on : (header : Header) (tints rows : List ℕ) → spelled_so_far header tints ++ raster header.maxval (turned header rows) ≡ spelled_so_far header (tints ++ rows)
spelled_on header tints rows =
    let m = header.maxval in
    append_assoc (head header) (raster m (turned header tints)) (raster m (turned header rows))
    ∙ ap (λ (x : List ℕ). head header ++ x) (sym (raster_both m (turned header tints) (turned header rows)) ∙ ap (raster m) (sym (map-append (λ (t : ℕ). m - t) tints rows)))

-- What fails on an open file leaves it unfinished.
stops : (bytes : List ℕ) (a b : RackState) (e : DeviceError) → WritesOn {T = Unit {0}} {E = DeviceError} bytes a b (Err e) → FillsFile {T = Unit {0}} {E = DeviceError} bytes a b (Err e)
stops bytes a b e wrote = record {
  keeps = wrote.keeps;
  asked = wrote.asked;
  reported = wrote.reported;
  shut = tt;
  finished = tt;
  unfinished = wrote.finished;
  kept = wrote.is_open;
  files = tt;
  part = wrote.part;
  well = tt;
  reason = wrote.reason;
  once = wrote.once;
}

broken : (name bytes more : List ℕ) (a b c : RackState) (e : DeviceError) → Creates {T = Unit {0}} {E = DeviceError} name a b (Ok tt) → WritesOn {T = Unit {0}} {E = DeviceError} bytes b c (Err e) → WritesFile {T = Unit {0}} {E = DeviceError} name (bytes ++ more) a c (Err e)
broken name bytes more a b c e creates wrote = created_then_filled name (bytes ++ more) a b c tt (Err e) creates (stops (bytes ++ more) b c e (writes_stopped bytes more b c e e wrote))

pub image_begun : (name : List ℕ) (header : Header) (a b c : RackState) (result : Answer) → Creates {T = Unit {0}} {E = DeviceError} name a b (Ok tt) → WritesOn (head header) b c result → BeginsImage name header a c result
image_begun name header a b c (Ok done) creates wrote = record {
  created = b;
  creates = creates;
  writes = writes_as (head header) (spelled_so_far header []) (sym (append-nil (head header))) b c (Ok tt) wrote;
  is_open = wrote.is_open ∙ creates.opened;
}
image_begun name header a b c (Err e) creates wrote = λ tints. broken name (head header) (raster header.maxval (turned header tints)) a b c e creates wrote

pub rows_written : (header : Header) (rows : List ℕ) (b c : RackState) (result : Answer) → WritesOn (raster header.maxval (turned header rows)) b c result → WritesRows header rows b c result
rows_written header rows b c (Ok done) wrote = λ name tints start has. record {
  created = has.created;
  creates = has.creates;
  writes = writes_as (spelled_so_far header tints ++ raster header.maxval (turned header rows)) (spelled_so_far header (tints ++ rows)) (spelled_on header tints rows) has.created c (Ok tt)
      (writes_then (spelled_so_far header tints) (raster header.maxval (turned header rows)) has.created b c tt (Ok tt) has.writes wrote);
  is_open = wrote.is_open ∙ has.is_open;
}
rows_written header rows b c (Err e) wrote = λ name tints more start has.
    let m = header.maxval in
    let all : spelled_so_far header tints ++ (raster m (turned header rows)) ++ raster m (turned header more) ≡ spelled_so_far header (tints ++ (rows ++ more)) =
    ap (λ (x : List ℕ). x ++ raster m (turned header more)) (spelled_on header tints rows) ∙ spelled_on header (tints ++ rows) more ∙ ap (spelled_so_far header) (append_assoc tints rows more) in
    subst (λ (x : List ℕ). WritesFile {T = Unit {0}} {E = DeviceError} name x start c (Err e)) all
    (broken name (spelled_so_far header tints ++ raster m (turned header rows)) (raster m (turned header more)) start has.created c e has.creates
    (writes_then (spelled_so_far header tints) (raster m (turned header rows)) has.created b c tt (Err e) has.writes wrote))

pub image_ended : (b c : RackState) (result : Answer) → Finishes b c result → EndsImage b c result
image_ended b c result finishes name header tints start has =
    created_then_filled name (spelled_so_far header tints) start has.created c tt result has.creates
    (written_then_finished (spelled_so_far header tints) has.created b c tt result has.writes finishes)
