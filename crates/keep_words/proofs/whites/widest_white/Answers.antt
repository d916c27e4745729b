-- widest_white: the greatest width of the words is that of their underprints.
use Rattle.std.proofs.Common.{map, string_bytes, Global, ◌∙◌}
use Rattle.std.specs.Prelude.{codes}
use Rattle.keep_words.specs.Words.{options_of, values_after}
use Rattle.keep_words.proofs.WordLemmas.{widest_same}
use Rattle.keep_words.proofs.whites.widest_white.Goals as goal

pub returns-clause-value : goal.returns-clause-value
returns-clause-value c = c.widest_among.ensures.value ∙ widest_same (values_after (codes "--underprint") (options_of (map (string_bytes {Z = Global}) c.args.words.now)))
