-- answer_open: how it ends.
use Rattle.std.proofs.Common.{◌≡◌, false, true, refl, arith}
use Rattle.std.proofs.lemmas.Grind.{common_steps}
use mathlib.Core.Logic.{inl, inr}
use Rattle.job_handles.specs.Opened.{opened}
use Rattle.trap_c.specs.declared.error.CallError.TheVariants.{Call}
use Rattle.trap_c.specs.declared.error.CallFault.TheVariants.{Size}
use Rattle.trap_c.specs.ErrorRecords.{is_sized}
use Rattle.trap_c.proofs.OpenLemmas.{open_refused, open_told}
use Rattle.trap_c.proofs.opened.answer_open.Goals as goal

pub returns-then-not-is_sized : goal.returns-then-not-is_sized
returns-then-not-is_sized c =
    let other : is_sized c.args.said.now ≡ false = first_of (cc, grind (arith, common_steps)) in
    open_refused c.args.job.now c.args.text.now c.tell_size.new.text c.tell_size.new.text_len c.tell_size.result (opened c.args.handle.now) (opened c.args.handle.now) c.args.said.now c.tell_size.new.said (Call Size) refl (inl (other, refl)) c.tell_size.ensures

pub returns-in-Ok : goal.returns-in-Ok
returns-in-Ok c =
    let sized : is_sized c.args.said.now ≡ true = first_of (cc, grind (arith, common_steps)) in
    open_told c.args.job.now c.args.text.now c.tell_done.new.text c.tell_done.new.text_len c.tell_done.result (opened c.args.handle.now) (opened c.open_closed.new.handle) c.args.said.now c.tell_done.new.said tt sized c.in-Ok.ensures c.tell_done.ensures

pub returns-in-Err : goal.returns-in-Err
returns-in-Err c =
    let sized : is_sized c.args.said.now ≡ true = first_of (cc, grind (arith, common_steps)) in
    open_refused c.args.job.now c.args.text.now c.tell_error.new.text c.tell_error.new.text_len c.tell_error.result (opened c.args.handle.now) (opened c.open_closed.new.handle) c.args.said.now c.tell_error.new.said c.in-Err.error c.in-Err.ensures.0 (inr (sized, c.in-Err.ensures.1)) c.tell_error.ensures
