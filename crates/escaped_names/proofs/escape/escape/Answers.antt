-- escape: a name that outgrows its limit at a byte is too long.
use Rattle.std.proofs.Common.{◌≤◌, ◌+◌, length, get_or, refl, arith, rules}
use Rattle.std.proofs.lemmas.Grind.{common_steps}
use Rattle.escaped_names.specs.Escapes.{escaped_byte as escaped_byte_spec}
use Rattle.escaped_names.proofs.EscapeLemmas.{too_long}
use Rattle.escaped_names.proofs.escape.escape.Goals as goal

pub returns-then-is_err : goal.returns-then-is_err
returns-then-is_err c =
    let byte = get_or c.args.bytes.now c.loop-byte.byte-index 0 in
    too_long c.args.bytes.now c.loop-byte.name.items c.loop-byte.byte-index byte (omega arith) refl c.loop-byte.invariant.bytes
    (λ (short : length c.loop-byte.name.items + length (escaped_byte_spec byte) ≤ 64). first_of (grind (arith, common_steps), search rules))
