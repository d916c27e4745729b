-- The counts of a report, as C has them.
use Rattle.std.specs.Prelude.{◌≡◌, ℕ, ◌-◌, ◌≤◌, Bool, ◌==◌, List, ◌++◌, length, replicate}
use Rattle.page_model.specs.declared.parts.Counts.{Counts}
use Rattle.page_model.specs.Limits.{most_plates, most_zones}
use Rattle.trap_c.specs.declared.report_record.ReportRecord.{ReportRecord}

-- the bytes of C's struct
abbrev pub report_size : ℕ
report_size = 4168

-- whether the caller's struct has the size of the library's
abbrev pub is_sized : ReportRecord → Bool
is_sized report = report.size == report_size

-- counts in an array of n: those that follow are 0
abbrev pub padded : ℕ → List ℕ → List ℕ
padded n counts = counts ++ replicate (n - length counts) 0

-- counts for which the arrays have room
pub record AreFew (counts : Counts) : Type 0 where
  pub zone_samples : length counts.zone_samples ≤ most_zones
  pub zone_changed : length counts.zone_changed ≤ most_zones
  pub plate_changed : length counts.plate_changed ≤ most_plates

-- What C has of counts.
pub record IsReport (counts : Counts) (report : ReportRecord) : Type 0 where
  pub size : report.size ≡ report_size
  pub zones : report.zones ≡ length counts.zone_samples
  pub planes : report.planes ≡ length counts.plate_changed
  pub edges : report.edges ≡ counts.edges
  pub zone_samples : report.zone_samples ≡ padded most_zones counts.zone_samples
  pub zone_changed : report.zone_changed ≡ padded most_zones counts.zone_changed
  pub plane_changed : report.plane_changed ≡ padded most_plates counts.plate_changed
