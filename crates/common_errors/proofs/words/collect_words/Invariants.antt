-- How far the loops of `collect_words` have come.
use Rattle.std.proofs.Common.{◌≡◌, ◌++◌}
use Rattle.std.specs.Vec.Iter.{into_iter_items}
use Rattle.common_errors.proofs.words.collect_words.Given as goal

abbrev pub invariant-loop-word : goal.invariant-loop-word
invariant-loop-word l = record {
  made : l.words.items ≡ l.yielded;
  left : into_iter_items l.fn.args ≡ l.yielded ++ into_iter_items l.word-iterator;
}
