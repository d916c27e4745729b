-- The loops of scratches: the memory of so many workers.
use Rattle.std.proofs.Common.{◌≡◌, length, All}
use Rattle.page_model.specs.Page.{plates, width}
use Rattle.band_tests.proofs.made.scratches.Given as goal

abbrev pub invariant-loop-k : goal.invariant-loop-k
invariant-loop-k l = record {
  count : length l.all ≡ l._k;
  layout : All (λ scratch. scratch.layout ≡ record { bands = l.bands; width = width l.page; plates = plates l.page }) l.all;
}
