use Rattle.std.proofs.Common.{◌≡◌, ◌*◌, ◌<◌, ◌≤◌, ℕ, slice_index}
use Rattle.draw_back.specs.Fields.{entry, kept}
use Rattle.draw_back.proofs.row.draw_row.Given as goal

abbrev pub invariant-loop-b : goal.invariant-loop-b
invariant-loop-b l = record {
  done : (x : ℕ) → x < l.b * 32 → x < l.field.wide → slice_index l.out x ≡ kept l.field l.reach.limit x l.y;
  later : (x : ℕ) → l.b * 32 ≤ x → x < l.field.wide → slice_index l.out x ≡ entry l.field.tints l.field.wide x l.y;
}
