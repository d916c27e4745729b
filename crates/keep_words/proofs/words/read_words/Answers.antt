-- read_words: words that are too few mean no command.
use Rattle.std.proofs.Common.{map, string_bytes}
use Rattle.std.proofs.lemmas.List.{length-map}
use Rattle.keep_words.proofs.WordLemmas.{too_short}
use Rattle.keep_words.proofs.words.read_words.Goals as goal

pub returns-in_default-clause-meaning : goal.returns-in_default-clause-meaning
returns-in_default-clause-meaning c = too_short (map string_bytes c.args.words.now) (map string_bytes c.rest_of.result.now) c.rest_of.ensures (rw length-map c.in_default.len_below)
