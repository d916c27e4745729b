use Rattle.std.proofs.Common.{◌≡◌, ◌*◌, ◌<◌, ◌≤◌, ℕ, length, slice_index}
use Rattle.lists.specs.Words.{sum_below}
use Rattle.page_model.specs.Limits.{most_maxval}
use Rattle.page_model.specs.Page.{width}
use Rattle.underprint.specs.Underprint.{colour_tint}
use Rattle.underprint.proofs.colour.add_plates.Given as goal

abbrev pub invariant-loop-c : goal.invariant-loop-c
invariant-loop-c l = record {
  long : length l.sums ≡ width l.page;
  sums : (x : ℕ) → x < width l.page → slice_index l.sums x ≡ sum_below (colour_tint l.page l.whites (record { x = x; y = l.y })) l.c;
  small : (x : ℕ) → x < width l.page → slice_index l.sums x ≤ l.c * most_maxval;
}
