-- The loops of files_at: the file at that place of each word.
use Rattle.std.proofs.Common.{◌≡◌, map, take}
use Rattle.plain_words.specs.Places.{part_at}
use Rattle.plain_words.proofs.files.files_at.Given as goal

abbrev pub invariant-loop-word : goal.invariant-loop-word
invariant-loop-word g l = map (λ file. file.now) l.files.items ≡ map (part_at l.place) (map g.S.AsStr.text (take l.word-index l.words))
