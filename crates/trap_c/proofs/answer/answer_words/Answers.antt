-- Goals of answer_words that want a lemma by name.
use Rattle.std.proofs.lemmas.Grind.{common_steps}
use Rattle.std.proofs.Common.{arith, ℕ, List, subst}
use Rattle.page_model.specs.Counts.{page_counts}
use Rattle.trap_report.specs.Report.{report_of}
use Rattle.trap_c.specs.Calls.{Tells}
use Rattle.trap_c.specs.Requests.{asked}
use Rattle.trap_c.proofs.AnswerLemmas.{done_well}
use Rattle.trap_c.proofs.WorkLemmas.{all_lie, each_full, few_lie}
use Rattle.trap_c.proofs.answer.answer_words.Goals as goal

pub put_words-requires-clause-all : goal.put_words-requires-clause-all
put_words-requires-clause-all c = all_lie 65535 c.args.request.now.layout c.args.samples.now c.in-Ok.ensures.0 (report_of c.in-Ok.ensures.0 (page_counts c.in-Ok.ensures.0)) c.in-Ok.done c.in-Ok.ensures.2

pub put_words-requires-clause-full : goal.put_words-requires-clause-full
put_words-requires-clause-full c = each_full 65535 c.args.request.now.layout c.args.samples.now c.in-Ok.ensures.0 (report_of c.in-Ok.ensures.0 (page_counts c.in-Ok.ensures.0)) c.in-Ok.done c.in-Ok.ensures.2

pub put_words-requires-clause-few : goal.put_words-requires-clause-few
put_words-requires-clause-few c = few_lie 65535 c.args.request.now.layout c.args.samples.now c.in-Ok.ensures.0 (report_of c.in-Ok.ensures.0 (page_counts c.in-Ok.ensures.0)) c.in-Ok.done c.in-Ok.ensures.2

pub returns-in-Ok : goal.returns-in-Ok
returns-in-Ok c = done_well 65535 (asked c.args.request.now) c.args.samples.now c.put_words.new.samples c.args.text.now c.put_text.new.text c.put_text.new.text_len c.in-Ok.done c.in-Ok.ensures c.put_words.ensures.planes c.put_words.ensures.gaps (subst (λ (t : List ℕ). Tells t c.args.text.now c.put_text.new.text c.put_text.new.text_len) c.as_slice.ensures c.put_text.ensures)

pub returns-in-Err : goal.returns-in-Err
returns-in-Err c = grind (arith, common_steps)
