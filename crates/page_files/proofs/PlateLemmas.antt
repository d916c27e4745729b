-- Plates that are read one after another.
use Rattle.std.proofs.Common.{◌≡◌, ℕ, false, List, Ok, Err, refl, sym, subst}
use Rattle.outside.specs.Tray.{TrayState}
use Rattle.page_model.specs.declared.parts.Plane.{Plane}
use Rattle.pgm_plates.specs.declared.plate.Plate.{Plate as PlateRead}
use Rattle.pgm_plates.specs.declared.plate.PlateFault.{PlateFault}
use Rattle.pgm_plates.specs.declared.plate.PlateFault.TheVariants.{BadMagic, BadHeader, SideRange, TooManySamples, MaxvalRange, SampleAboveMaxval, Truncated, TrailingBytes}
use Rattle.pgm_plates.specs.declared.plate.PlateError.TheVariants.{Fault}
use Rattle.pgm_plates.specs.Laws.{FilePlate, FileFault}
use Rattle.pgm_plates.specs.Planes.{plate_of}
use Rattle.pgm_plates.specs.Reading.{ReadsPlate, KeepsCount}
use Rattle.common_errors.specs.declared.common.CommonError.{CommonError}
use Rattle.common_errors.specs.declared.common.CommonError.TheVariants.{Plate}
use Rattle.page_files.specs.Looks.{LooksAt, Refuses}
use Rattle.page_files.specs.Steps.{IsPlaneOfPage, PassesNoFault, may_hide, plates_sought}

-- the count of faults behind a fault that hides none
pub kept_count : (T : Type 0) (a b : TrayState) (fault : PlateFault) → KeepsCount {T = T} a b (Err (Fault fault)) → may_hide fault ≡ false → b.faults ≡ a.faults
kept_count T a b (SampleAboveMaxval at) count open_ = absurd (cc)
kept_count T a b (BadMagic at) count open_ = count
kept_count T a b (BadHeader at) count open_ = count
kept_count T a b (SideRange at) count open_ = count
kept_count T a b (TooManySamples at) count open_ = count
kept_count T a b (MaxvalRange at) count open_ = count
kept_count T a b (Truncated at) count open_ = count
kept_count T a b (TrailingBytes at) count open_ = count

pub plate_count : (T : Type 0) (k : ℕ) (a b : TrayState) (fault : PlateFault) → (may_hide fault ≡ false → b.faults ≡ a.faults) → PassesNoFault {T = T} a b (Err (Plate k fault))
plate_count T k a b (SampleAboveMaxval at) count = tt
plate_count T k a b (BadMagic at) count = count refl
plate_count T k a b (BadHeader at) count = count refl
plate_count T k a b (SideRange at) count = count refl
plate_count T k a b (TooManySamples at) count = count refl
plate_count T k a b (MaxvalRange at) count = count refl
plate_count T k a b (Truncated at) count = count refl
plate_count T k a b (TrailingBytes at) count = count refl

pub one_refused : FileFault → (k : ℕ) (name : List ℕ) (a b : TrayState) (fault : PlateFault) → ReadsPlate name a b (Err (Fault fault)) → LooksAt plates_sought k name a b (Err (Plate k fault))
one_refused law k name a b fault reads = record {
  keeps = reads.keeps;
  asked = reads.asked;
  takes = record { bytes = reads.bytes; taken = reads.taken; few = reads.few };
  answer = Refuses.refused fault refl (kept_count PlateRead a b fault reads.count) (law name a b fault reads);
}

pub one_read : FilePlate → (k : ℕ) (name : List ℕ) (a b : TrayState) (plane : Plane) → ReadsPlate name a b (Ok (plate_of plane)) → IsPlaneOfPage plane → LooksAt plates_sought k name a b (Ok plane)
one_read law k name a b plane reads fine = record {
  keeps = reads.keeps;
  asked = reads.asked;
  takes = record { bytes = reads.bytes; taken = reads.taken; few = reads.few };
  answer = (fine, reads.count, law name a b (plate_of plane) reads);
}

-- no fault of the tray is passed over where a plate is refused
pub error_passes : (T : Type 0) (k : ℕ) (error : CommonError) (name : List ℕ) (a b : TrayState) → Refuses plates_sought k name a b error → PassesNoFault {T = T} a b (Err error)
error_passes T k error name a b (Refuses.refused fault is count stored) = subst (λ (r : CommonError). PassesNoFault {T = T} a b (Err r)) (sym is) (plate_count T k a b fault count)
error_passes T k error name a b (Refuses.unread is rose taken) = subst (λ (r : CommonError). PassesNoFault {T = T} a b (Err r)) (sym is) tt
error_passes T k error name a b (Refuses.no_memory is calm) = subst (λ (r : CommonError). PassesNoFault {T = T} a b (Err r)) (sym is) calm
