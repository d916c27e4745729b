-- write_counts: writes the report of the counts.
use Rattle.std.proofs.Common.{refl}
use Rattle.sheet_files.specs.Streaming.{EndsReport}
use Rattle.sheet_files.proofs.streaming.write_counts.Goals as goal

pub returns-in-Err : goal.returns-in-Err
returns-in-Err g c = EndsReport.broke c.in-Err.field-0 refl (record { here = c.in-Err.ensures.here; others = c.in-Err.ensures.others })
