-- gather_line: the line as it was gathered, and its page, where it waits to be trapped.
use Rattle.std.proofs.lemmas.Grind.{common_steps}
use Rattle.std.proofs.Common.{arith, map, string_bytes}
use Rattle.trap_pool.proofs.Turns.{page_answers}
use Rattle.trap_pool.proofs.gathering.gather_line.Goals as goal

pub returns-in-Ok-clause-answer : goal.returns-in-Ok-clause-answer
returns-in-Ok-clause-answer g c =
    page_answers c.args.number c.args.used c.args.line.now c.job-job.result.now c.names.result.now (map string_bytes c.inputs.result.now) (g.T.Tray.state c.args.tray.now) (g.T.Tray.state c.gather.new.tray) c.in-Ok.page c.of_page.result.0
    c.job-job.ensures.value c.names.ensures c.inputs.ensures c.in-Ok.ensures c.of_page.ensures.line c.of_page.ensures.page c.of_page.ensures.kind c.of_page.ensures.limit

pub gather-requires-clause-named : goal.gather-requires-clause-named
gather-requires-clause-named g c = grind (arith, common_steps)
