-- The loops of first_names: the names of the colorants.
use Rattle.std.proofs.Common.{◌≡◌, map, take}
use Rattle.plain_words.specs.Parts.{before_colon}
use Rattle.plain_words.proofs.files.first_names.Given as goal

abbrev pub invariant-loop-word : goal.invariant-loop-word
invariant-loop-word g l = l.names ≡ map before_colon (map g.S.AsStr.text (take l.word-index l.words))
