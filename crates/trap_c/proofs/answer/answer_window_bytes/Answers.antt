-- answer_window_bytes: the report is told.
use Rattle.std.proofs.Common.{ℕ, List, subst}
use Rattle.trap_c.specs.Calls.{Tells}
use Rattle.trap_c.specs.Requests.{asked}
use Rattle.trap_c.proofs.AnswerLemmas.{window_done}
use Rattle.trap_c.proofs.answer.answer_window_bytes.Goals as goal

pub returns-in-Ok : goal.returns-in-Ok
returns-in-Ok c = window_done 255 (asked c.args.request.now) c.args.place.now c.args.samples.now c.trap_window_bytes.new.samples c.args.text.now c.put_text.new.text c.put_text.new.text_len c.in-Ok.told c.in-Ok.ensures (subst (λ (t : List ℕ). Tells t c.args.text.now c.put_text.new.text c.put_text.new.text_len) c.as_slice.ensures c.put_text.ensures)
