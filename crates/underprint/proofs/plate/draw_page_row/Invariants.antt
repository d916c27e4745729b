use Rattle.std.proofs.Common.{◌≡◌, ◌<◌, ◌≤◌, ℕ, Some, length, slice_index}
use Rattle.keepaway.specs.Keepaway.{near_limit}
use Rattle.page_model.specs.Page.{width}
use Rattle.underprint.specs.Underprint.{drawn_to, kept_by}
use Rattle.underprint.proofs.plate.draw_page_row.Given as goal

abbrev pub invariant-loop-x : goal.invariant-loop-x
invariant-loop-x l = record {
  long : length l.out ≡ width l.page;
  done : (i : ℕ) → i < l.x → slice_index l.out i ≡ kept_by l.page l.whites (Some l.wide) l.c (record { x = i; y = l.y });
  later : (i : ℕ) → l.x ≤ i → i < width l.page → slice_index l.out i ≡ drawn_to l.page l.whites l.c (near_limit l.wide l.page.resolution) (record { x = i; y = l.y });
}
