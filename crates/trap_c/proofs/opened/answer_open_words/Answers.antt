-- answer_open_words: how it ends.
use Rattle.std.proofs.Common.{◌≡◌, ℕ, List, false, true, subst, arith}
use Rattle.std.proofs.lemmas.Grind.{common_steps}
use Rattle.job_handles.specs.Opened.{opened}
use Rattle.trap_c.specs.Opened.{TellsDone, are_sized}
use Rattle.trap_c.proofs.OpenLemmas.{opened_few, opened_refused, opened_told, opened_unsized}
use Rattle.trap_c.proofs.opened.answer_open_words.Goals as goal

pub returns-then-not-are_sized-clause-traps : goal.returns-then-not-are_sized-clause-traps
returns-then-not-are_sized-clause-traps c =
    let other : are_sized c.args.report.now c.args.said.now ≡ false = first_of (cc, grind (arith, common_steps)) in
    opened_unsized 65535 (opened c.args.handle.now) c.args.names.now c.args.layout c.args.place.now c.args.samples.now c.args.text.now c.tell_size.new.text c.tell_size.new.text_len c.tell_size.result c.args.report.now c.args.said.now c.tell_size.new.said other c.tell_size.ensures

pub say-requires : goal.say-requires
say-requires c = opened_few 65535 (opened c.args.handle.now) c.args.names.now c.args.layout c.args.place.now c.args.samples.now c.opened_words.new.samples c.in-Ok.told c.in-Ok.ensures.makes

pub returns-in-Ok-clause-traps : goal.returns-in-Ok-clause-traps
returns-in-Ok-clause-traps c =
    let sized : are_sized c.args.report.now c.args.said.now ≡ true = first_of (cc, grind (arith, common_steps)) in
    opened_told 65535 (opened c.args.handle.now) c.args.names.now c.args.layout c.args.place.now c.args.samples.now c.opened_words.new.samples c.args.text.now c.tell_done.new.text c.tell_done.new.text_len c.tell_done.result c.args.report.now c.say.new.self c.args.said.now c.tell_done.new.said c.in-Ok.told c.in-Ok.ensures.makes sized c.say.ensures (subst (λ (t : List ℕ). TellsDone t c.args.text.now c.tell_done.new.text c.tell_done.new.text_len c.tell_done.new.said c.tell_done.result) c.as_slice.ensures c.tell_done.ensures)

pub returns-in-Err-clause-traps : goal.returns-in-Err-clause-traps
returns-in-Err-clause-traps c =
    let sized : are_sized c.args.report.now c.args.said.now ≡ true = first_of (cc, grind (arith, common_steps)) in
    opened_refused 65535 (opened c.args.handle.now) c.args.names.now c.args.layout c.args.place.now c.args.samples.now c.opened_words.new.samples c.args.text.now c.tell_error.new.text c.tell_error.new.text_len c.tell_error.result c.args.report.now c.args.said.now c.tell_error.new.said c.in-Err.error c.in-Err.ensures.makes sized c.tell_error.ensures
