-- Goals of first_above that want a lemma by name.
use Rattle.std.proofs.Common.{rules, sym}
use Rattle.trap_c.proofs.PageLemmas.{none_where_fit}
use Rattle.trap_c.proofs.fit.first_above.Goals as goal

pub returns-then-are_fit : goal.returns-then-are_fit
returns-then-are_fit c = sym (none_where_fit c.args.planes.now (c.requires.fit (search rules)))
