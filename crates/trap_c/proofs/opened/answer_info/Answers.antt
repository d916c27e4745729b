-- answer_info: how it ends.
use Rattle.std.proofs.Common.{◌≡◌, false, true, refl, arith}
use Rattle.std.proofs.lemmas.Grind.{common_steps}
use mathlib.Core.Logic.{inl, inr}
use Rattle.job_handles.specs.Opened.{opened}
use Rattle.trap_c.specs.declared.error.CallError.TheVariants.{Call}
use Rattle.trap_c.specs.declared.error.CallFault.TheVariants.{Size}
use Rattle.trap_c.specs.ErrorRecords.{is_sized}
use Rattle.trap_c.proofs.OpenLemmas.{info_refused, info_told}
use Rattle.trap_c.proofs.opened.answer_info.Goals as goal

pub returns-then-not-is_sized-clause-info : goal.returns-then-not-is_sized-clause-info
returns-then-not-is_sized-clause-info c =
    let other : is_sized c.args.said.now ≡ false = first_of (cc, grind (arith, common_steps)) in
    info_refused (opened c.args.handle.now) c.args.info.now c.args.info.now c.say_size.result c.args.said.now c.say_size.new.self (Call Size) refl (inl (other, refl)) c.say_size.ensures.status c.say_size.ensures.refused c.say_size.ensures.said

pub returns-in-Ok-clause-info : goal.returns-in-Ok-clause-info
returns-in-Ok-clause-info c =
    let sized : is_sized c.args.said.now ≡ true = first_of (cc, grind (arith, common_steps)) in
    info_told (opened c.args.handle.now) c.args.info.now c.figures_of.new.info c.say_done.result c.args.said.now c.say_done.new.self sized c.in-Ok.ensures.info c.say_done.ensures.status c.say_done.ensures.said

pub returns-in-Err-clause-info : goal.returns-in-Err-clause-info
returns-in-Err-clause-info c =
    let sized : is_sized c.args.said.now ≡ true = first_of (cc, grind (arith, common_steps)) in
    info_refused (opened c.args.handle.now) c.args.info.now c.figures_of.new.info c.say.result c.args.said.now c.say.new.self c.in-Err.error c.in-Err.ensures.info.0 (inr (sized, c.in-Err.ensures.info.1)) c.say.ensures.status c.say.ensures.refused c.say.ensures.said
