-- The loops of copy_row: writes the page's own tints of row y, plate after plate.
use Rattle.std.proofs.Common.{◌≡◌, ◌+◌, ◌*◌, ◌<◌, ℕ, length, slice_index}
use Rattle.page_model.specs.Page.{plates, tint, width}
use Rattle.row_values.proofs.tint_rows.copy_row.Given as goal

abbrev pub invariant-loop-c : goal.invariant-loop-c
invariant-loop-c l = record {
  end : l.c-end ≡ plates l.page;
  long : length l.out ≡ plates l.page * width l.page;
  done : (j x : ℕ) → j < l.c → x < width l.page → slice_index l.out (j * width l.page + x) ≡ tint l.page j (record { x = x; y = l.y });
}
