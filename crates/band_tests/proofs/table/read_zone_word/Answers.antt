-- read_zone_word: the word of the first band's zones, where a seat that reads alone finds them done.
use Rattle.std.proofs.Common.{arith}
use Rattle.band_claims.proofs.Looking.{knows_here}
use Rattle.band_tests.proofs.OneZone.{cell_has}
use Rattle.band_tests.proofs.table.read_zone_word.Goals as goal

pub read_alone-requires-clause-known : goal.read_alone-requires-clause-known
read_alone-requires-clause-known c =
    let d = c.sees_done.ensures.answer in
    (0, cell_has c.args.shared.now.table_key c.requires.table_key 0 (omega arith), rw d.1 (knows_here c.args.reader.now.view 0 d.0 (d.2.0 c.if-not-sees_done.false)))
