-- answer_share: how it ends.
use Rattle.std.proofs.Common.{◌≡◌, false, true, arith}
use Rattle.std.proofs.lemmas.Grind.{common_steps}
use Rattle.job_handles.specs.Opened.{opened}
use Rattle.trap_c.specs.ErrorRecords.{is_sized}
use Rattle.trap_c.proofs.OpenLemmas.{share_refused, share_told, share_unsized}
use Rattle.trap_c.proofs.opened.answer_share.Goals as goal

pub returns-then-not-is_sized-clause-shares : goal.returns-then-not-is_sized-clause-shares
returns-then-not-is_sized-clause-shares c =
    let other : is_sized c.args.said.now ≡ false = first_of (cc, grind (arith, common_steps)) in
    share_unsized (opened c.args.handle.now) (opened c.args.other.now) c.say_size.result c.args.said.now c.say_size.new.self other c.say_size.ensures.status c.say_size.ensures.refused c.say_size.ensures.said

pub returns-in-Ok-clause-shares : goal.returns-in-Ok-clause-shares
returns-in-Ok-clause-shares c =
    let sized : is_sized c.args.said.now ≡ true = first_of (cc, grind (arith, common_steps)) in
    share_told (opened c.args.handle.now) (opened c.args.other.now) (opened c.share_opened.new.other) c.say_done.result c.args.said.now c.say_done.new.self tt sized c.in-Ok.ensures.shares c.say_done.ensures.status c.say_done.ensures.said

pub returns-in-Err-clause-shares : goal.returns-in-Err-clause-shares
returns-in-Err-clause-shares c =
    let sized : is_sized c.args.said.now ≡ true = first_of (cc, grind (arith, common_steps)) in
    share_refused (opened c.args.handle.now) (opened c.args.other.now) (opened c.share_opened.new.other) c.say.result c.args.said.now c.say.new.self c.in-Err.error sized c.in-Err.ensures.shares c.say.ensures.status c.say.ensures.refused c.say.ensures.said
