-- What holds each time round the loop of put_bytes.
use Rattle.std.proofs.Common.{◌≡◌, ◌<◌, ℕ}
use Rattle.page_model.specs.Planes.{plane_at}
use Rattle.trap_c.specs.Planes.{KeepsGaps, tints_in}
use Rattle.trap_c.proofs.planes.put_bytes.Given as goal

abbrev pub invariant-loop-c : goal.invariant-loop-c
invariant-loop-c l = record {
  planes : (j : ℕ) → j < l.c → tints_in l.layout l.samples j ≡ (plane_at l.fn.planes j).tints;
  gaps : KeepsGaps l.layout l.initial.samples l.samples;
}
