-- What `run` has to show.
use Rattle.std.proofs.Common.{sym}
use Rattle.trappool_cli.proofs.Outs.{made_outs}
use Rattle.trappool_cli.specs.Endings.{answered, no_list}
use Rattle.trappool_cli.specs.Words.{asked_in}
use Rattle.trappool_cli.proofs.top.run.Goals as goal

pub answer_all-requires-clause-outs : goal.answer_all-requires-clause-outs
answer_all-requires-clause-outs g c = made_outs c.in-Some.asked.list.now c.in-Ok.lines c.in-Ok.replies (g.T.Tray.state c.args.tray.now) (g.T.Tray.state c.make_replies.new.tray) c.in-Ok.ensures

pub returns-in-Ok : goal.returns-in-Ok
returns-in-Ok g c = answered (asked_in c.in-Some.asked) c.in-Ok.lines c.in-Ok.replies (sym c.in-Some.ensures.meaning) c.in-Ok.ensures c.answer_all.ensures

pub returns-in-Err : goal.returns-in-Err
returns-in-Err g c = no_list (asked_in c.in-Some.asked) c.in-Err.fault (sym c.in-Some.ensures.meaning) c.in-Err.ensures c.refuse_list.ensures
