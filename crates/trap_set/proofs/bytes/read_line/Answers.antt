-- read_line: reads the next line, and says whether there is one.
use Rattle.std.proofs.lemmas.Result.{err_from_is_err_and}
use Rattle.std.proofs.Common.{arith, rules, ◌≤◌, length}
use Rattle.std.proofs.lemmas.Grind.{common_steps}
use Rattle.trap_set.specs.Bytes.{stored_in, most_line}
use Rattle.trap_set.proofs.LineReading.{line_ended, line_cut, line_failed, line_long}
use Rattle.trap_set.proofs.bytes.read_line.Goals as goal

pub returns-then-byte-eq10-clause-line : goal.returns-then-byte-eq10-clause-line
returns-then-byte-eq10-clause-line g c =
    line_ended (g.T.Tray.state c.args.tray.now) (g.T.Tray.state c.loop-tray.tray) (g.T.Tray.state c.next_byte.new.tray) (stored_in c.args.buf.now c.args.unread.now) (stored_in c.loop-tray.buf c.loop-tray.unread) (stored_in c.next_byte.new.buf c.next_byte.new.unread)
    c.loop-tray.line.items c.loop-tray.invariant.so c.push.new.self.items c.in-Some.byte (rw c.in-Some.is at c.in_ok-byte.ensures.byte) c.push.ensures.items c.if-byte-eq10.true (search rules)

pub returns-in-None-clause-line : goal.returns-in-None-clause-line
returns-in-None-clause-line g c =
    line_cut (g.T.Tray.state c.args.tray.now) (g.T.Tray.state c.loop-tray.tray) (g.T.Tray.state c.next_byte.new.tray) (stored_in c.args.buf.now c.args.unread.now) (stored_in c.loop-tray.buf c.loop-tray.unread) (stored_in c.next_byte.new.buf c.next_byte.new.unread)
    c.loop-tray.line.items c.loop-tray.invariant.so (rw c.in-None.is at c.in_ok-byte.ensures.byte)

pub returns-in_err-byte-clause-line : goal.returns-in_err-byte-clause-line
returns-in_err-byte-clause-line g c =
    let p = err_from_is_err_and c.from_residual.result c.from_residual.ensures.1 in
    rw p.1 (
    line_failed (g.T.Tray.state c.args.tray.now) (g.T.Tray.state c.loop-tray.tray) (g.T.Tray.state c.next_byte.new.tray) (stored_in c.args.buf.now c.args.unread.now) (stored_in c.loop-tray.buf c.loop-tray.unread) (stored_in c.next_byte.new.buf c.next_byte.new.unread)
    c.loop-tray.line.items c.loop-tray.invariant.so _ c.in_err-byte.ensures.byte
    )

pub returns-clause-line : goal.returns-clause-line
returns-clause-line g c =
    line_long (g.T.Tray.state c.args.tray.now) (g.T.Tray.state c.loop-tray.tray) (stored_in c.args.buf.now c.args.unread.now) (stored_in c.loop-tray.buf c.loop-tray.unread) c.loop-tray.line.items c.loop-tray.invariant.so
    (let long : most_line ≤ length c.loop-tray.line.items = grind (arith, common_steps) in long)

pub loop-tray-preserved : goal.loop-tray-preserved
loop-tray-preserved g c = grind (arith, common_steps)
