-- next_row: the rows of the next strip, as many as each strip has.
use Rattle.sheet_stream.proofs.GoingLemmas.{hand_of, next_is}
use Rattle.sheet_stream.proofs.rows.next_row.Goals as goal

pub returns-clause-next : goal.returns-clause-next
returns-clause-next c = next_is c.args.down.now c.args.progress c.even_span_at-span.result c.max-from.result c.requires.progress c.even_span_at-span.ensures.span c.even_span_at-span.ensures.wide c.max-from.ensures

pub returns-clause-strip : goal.returns-clause-strip
returns-clause-strip c = hand_of c.args.down.now c.args.progress _ (returns-clause-next c)
