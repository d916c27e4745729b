-- What holds each time round the loop of escape.
use Rattle.std.proofs.Common.{◌≡◌, ◌≤◌, length, take}
use Rattle.escaped_names.specs.Escapes.{escaped}
use Rattle.escaped_names.proofs.escape.escape.Given as goal

abbrev pub invariant-loop-byte : goal.invariant-loop-byte
invariant-loop-byte l = record {
  bytes : l.name.items ≡ escaped (take l.byte-index l.bytes);
  short : length l.name.items ≤ 64;
}
