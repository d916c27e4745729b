use Rattle.std.proofs.Common.{◌≡◌, ◌<◌, ℕ, slice_index}
use Rattle.keep_pages.specs.KeptPages.{changed_count}
use Rattle.keep_pages.proofs.outcome.count_plates.Given as goal

abbrev pub invariant-loop-c : goal.invariant-loop-c
invariant-loop-c l = (k : ℕ) → k < l.c → slice_index l.counts k ≡ changed_count l.page l.used k
