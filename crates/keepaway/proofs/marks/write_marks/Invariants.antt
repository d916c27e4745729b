use Rattle.std.proofs.Common.{◌≡◌, ◌*◌, ◌<◌, ℕ, slice_index}
use Rattle.page_model.specs.Page.{width}
use Rattle.keepaway.specs.Rows.{mark}
use Rattle.keepaway.proofs.marks.write_marks.Given as goal

abbrev pub invariant-loop-b : goal.invariant-loop-b
invariant-loop-b l = (i : ℕ) → i < l.b * 32 → i < width l.page → slice_index l.marks i ≡ mark l.page l.limit (record { x = i; y = l.y })
