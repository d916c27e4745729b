-- The loops of put_scaled: writes the new tints of p, which e traps.
use Rattle.std.proofs.Common.{◌≡◌, ◌<◌, ℕ, length, slice_index}
use Rattle.page_model.specs.Page.{plates}
use Rattle.page_model.specs.Tints.{new_in}
use Rattle.trap_color.proofs.sample.put_scaled.Given as goal

abbrev pub invariant-loop-c : goal.invariant-loop-c
invariant-loop-c l = record { end : l.c-end ≡ plates l.page; len : length l.out ≡ plates l.page; done : (k : ℕ) → k < l.c → slice_index l.out k ≡ new_in l.page l.zone l.p l.e k }
