use Rattle.std.proofs.Common.{◌≡◌, ◌++◌, slice_index}
use Rattle.keep_pages.specs.KeptPages.{plate_lines}
use Rattle.keep_pages.proofs.report.add_plates.Given as goal

abbrev pub invariant-loop-c : goal.invariant-loop-c
invariant-loop-c l = l.text.items ≡ l.initial.text.items ++ plate_lines l.page l.used (slice_index l.changed) l.c
