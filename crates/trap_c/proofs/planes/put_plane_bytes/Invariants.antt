-- What holds each time round the loop of put_plane_bytes.
use Rattle.trap_c.proofs.Rows.{IsPut}
use Rattle.trap_c.proofs.planes.put_plane_bytes.Given as goal

abbrev pub invariant-loop-y : goal.invariant-loop-y
invariant-loop-y l = IsPut l.layout l.tints l.initial.samples l.samples l.fn.c l.y
