-- The count of a tray's faults that an error keeps, whatever was answered before it.
use Rattle.std.proofs.Common.{◌≡◌, ℕ, Err, ◌∙◌}
use Rattle.outside.specs.Tray.{TrayState}
use Rattle.pgm_plates.specs.declared.plate.PlateFault.TheVariants.{BadMagic, BadHeader, SideRange, TooManySamples, MaxvalRange, SampleAboveMaxval, Truncated, TrailingBytes}
use Rattle.pgm_plates.specs.declared.plate.PlateError.{PlateError}
use Rattle.pgm_plates.specs.declared.plate.PlateError.TheVariants.{Fault, ReadFault, OutOfMemory}
use Rattle.pgm_plates.specs.Images.{further_error}
use Rattle.pgm_plates.specs.Reading.{KeepsCount}

pub refused_count : (S T : Type 0) (a b c : TrayState) (error : PlateError) → b.faults ≡ a.faults → KeepsCount {T = S} b c (Err error) → KeepsCount {T = T} a c (Err error)
refused_count S T a b c ReadFault before count = tt
refused_count S T a b c OutOfMemory before count = count ∙ before
refused_count S T a b c (Fault (SampleAboveMaxval at)) before count = tt
refused_count S T a b c (Fault (BadMagic at)) before count = count ∙ before
refused_count S T a b c (Fault (BadHeader at)) before count = count ∙ before
refused_count S T a b c (Fault (SideRange at)) before count = count ∙ before
refused_count S T a b c (Fault (TooManySamples at)) before count = count ∙ before
refused_count S T a b c (Fault (MaxvalRange at)) before count = count ∙ before
refused_count S T a b c (Fault (Truncated at)) before count = count ∙ before
refused_count S T a b c (Fault (TrailingBytes at)) before count = count ∙ before

-- the same error, at its place in the file
pub further_count : (S T : Type 0) (a b : TrayState) (start : ℕ) (error : PlateError) → KeepsCount {T = S} a b (Err error) → KeepsCount {T = T} a b (Err (further_error start error))
further_count S T a b start ReadFault count = tt
further_count S T a b start OutOfMemory count = count
further_count S T a b start (Fault (SampleAboveMaxval at)) count = tt
further_count S T a b start (Fault (BadMagic at)) count = count
further_count S T a b start (Fault (BadHeader at)) count = count
further_count S T a b start (Fault (SideRange at)) count = count
further_count S T a b start (Fault (TooManySamples at)) count = count
further_count S T a b start (Fault (MaxvalRange at)) count = count
further_count S T a b start (Fault (Truncated at)) count = count
further_count S T a b start (Fault (TrailingBytes at)) count = count
