-- The loops of outputs_at: the files that the plates of a page are written into.
use Rattle.std.proofs.Common.{◌≡◌, map, string_bytes, take}
use Rattle.plain_words.specs.Parts.{parts_of}
use Rattle.plain_words.specs.Plates.{outputs_of}
use Rattle.traprun_cli.specs.Pages.{numbered}
use Rattle.traprun_cli.proofs.files.outputs_at.Given as goal

abbrev pub invariant-loop-word : goal.invariant-loop-word
invariant-loop-word l = map string_bytes l.files.items ≡ map (numbered l.page) (outputs_of (map parts_of (map string_bytes (take l.word-index l.words))))
