-- How far the loops of `keep_tints` have come.
use Rattle.std.proofs.Common.{◌≡◌, ◌<◌, ℕ, length, slice_index}
use Rattle.page_model.specs.Page.{plates, tint}
use Rattle.trap_color.proofs.sample.keep_tints.Given as goal

abbrev pub invariant-loop-c : goal.invariant-loop-c
invariant-loop-c l = record { end : l.c-end ≡ plates l.page; len : length l.out ≡ plates l.page; done : (k : ℕ) → k < l.c → slice_index l.out k ≡ tint l.page k l.p }
