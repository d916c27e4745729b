-- Goals of trap_window_words that want a lemma by name.
use Rattle.std.proofs.lemmas.Grind.{common_steps}
use Rattle.std.proofs.Common.{arith, length, subst}
use Rattle.sheet_geometry.specs.declared.cuts.Cut.{Cut}
use Rattle.trap_c.specs.Cores.{HaveCores}
use Rattle.trap_c.specs.Requests.{asked}
use Rattle.trap_c.specs.WindowCalls.{core_report}
use Rattle.trap_c.proofs.AnswerLemmas.{window_made}
use Rattle.trap_c.proofs.WorkLemmas.{all_lie, each_full, few_lie}
use Rattle.page_model.specs.Columns.{halo}
use Rattle.page_model.specs.Reach.{page_reach}
use Rattle.sheet_geometry.specs.Areas.{traps}
use Rattle.sheet_geometry.proofs.Tiles.{traps_local}
use Rattle.trap_c.proofs.answer.trap_window_words.Goals as goal

pub put_word_cores-requires-clause-all : goal.put_word_cores-requires-clause-all
put_word_cores-requires-clause-all c = all_lie 65535 c.args.request.now.layout c.args.samples.now c.in-Ok.ensures.0 (core_report c.args.place.now c.in-Ok.ensures.0) c.in-Ok.done c.in-Ok.ensures.2

pub put_word_cores-requires-clause-full : goal.put_word_cores-requires-clause-full
put_word_cores-requires-clause-full c = each_full 65535 c.args.request.now.layout c.args.samples.now c.in-Ok.ensures.0 (core_report c.args.place.now c.in-Ok.ensures.0) c.in-Ok.done c.in-Ok.ensures.2

pub put_word_cores-requires-clause-few : goal.put_word_cores-requires-clause-few
put_word_cores-requires-clause-few c = few_lie 65535 c.args.request.now.layout c.args.samples.now c.in-Ok.ensures.0 (core_report c.args.place.now c.in-Ok.ensures.0) c.in-Ok.done c.in-Ok.ensures.2

pub returns-in-Ok : goal.returns-in-Ok
returns-in-Ok c = window_made 65535 (asked c.args.request.now) c.args.place.now c.args.samples.now c.put_word_cores.new.samples c.in-Ok.done c.in-Ok.ensures (subst (λ (core : Cut). HaveCores c.args.request.now.layout core c.in-Ok.done.planes c.args.samples.now c.put_word_cores.new.samples (length c.in-Ok.done.planes)) c.core_of.ensures c.put_word_cores.ensures) c.window_law.ensures (λ s t x y rows. c.tile_law.ensures (halo (page_reach s)) traps s t x y rows traps_local (omega arith))

pub put_word_cores-requires-clause-core : goal.put_word_cores-requires-clause-core
put_word_cores-requires-clause-core c = grind (arith, common_steps)
