-- widest_among: too few words have no option.
use Rattle.std.proofs.Common.{map, string_bytes, sym, ap}
use Rattle.std.specs.Prelude.{codes}
use Rattle.std.proofs.lemmas.List.{length-map}
use Rattle.keep_words.specs.Words.{widest_in}
use Rattle.keep_words.proofs.WordLemmas.{values_short}
use Rattle.keep_words.proofs.whites.+widest_among.Goals as goal

pub returns-in_default-clause-value : goal.returns-in_default-clause-value
returns-in_default-clause-value n c = sym (ap widest_in (values_short (codes "--underprint") (map string_bytes c.args.words.now) (rw length-map c.in_default.len_below)))
