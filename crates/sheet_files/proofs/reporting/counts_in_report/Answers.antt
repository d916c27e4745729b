-- counts_in_report: what is counted of a sheet, as its report tells it.
use Rattle.std.proofs.Common.{ℕ, List, length, ap, ◌∙◌}
use Rattle.sheet_files.proofs.OutcomeLemmas.{counts_are}
use Rattle.sheet_files.proofs.reporting.counts_in_report.Goals as goal

pub returns : goal.returns
returns c sheet counted = (
  (rw (c.from_vec.ensures, c.from_vec-2.ensures, c.from_vec-3.ensures) (counts_are sheet c.args.counts counted)),
  record {
    zone_samples = ap (λ (l : List ℕ). length l) c.from_vec.ensures ∙ counted.zones;
    zone_changed = ap (λ (l : List ℕ). length l) c.from_vec-2.ensures ∙ counted.zones_too;
    plate_changed = ap (λ (l : List ℕ). length l) c.from_vec-3.ensures ∙ counted.plates_all;
  },
)
