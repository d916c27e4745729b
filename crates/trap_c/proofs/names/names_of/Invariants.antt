-- What holds each time round the loop of names_of.
use Rattle.std.proofs.Common.{◌≡◌, ◌++◌, drop}
use Rattle.trap_c.specs.Names.{names_from, names_in}
use Rattle.trap_c.proofs.names.names_of.Given as goal

abbrev pub invariant-loop-byte : goal.invariant-loop-byte
invariant-loop-byte l = l.names ++ names_from l.name (drop l.byte-index l.text) ≡ names_in l.text
