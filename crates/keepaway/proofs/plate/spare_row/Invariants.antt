use Rattle.std.proofs.Common.{◌≡◌, ◌<◌, ◌≤◌, ℕ, slice_index, if◌then◌else◌}
use Rattle.page_model.specs.Zones.{zone_of}
use Rattle.keepaway.specs.Keepaway.{is_black_ink}
use Rattle.keepaway.proofs.plate.spare_row.Given as goal

abbrev pub invariant-loop-x : goal.invariant-loop-x
invariant-loop-x l = record {
  done : (i : ℕ) → i < l.x → slice_index l.out i ≡ (if is_black_ink l.page (zone_of l.page (record { x = i; y = l.y })) l.c then slice_index l.tints i else slice_index l.initial.out i);
  later : (i : ℕ) → l.x ≤ i → slice_index l.out i ≡ slice_index l.initial.out i;
}
