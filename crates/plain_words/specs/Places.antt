-- The parts of words, by their place in a word.
use Rattle.std.specs.Prelude.{ℕ, List}
use Rattle.plain_words.specs.declared.places.Place.{Place}
use Rattle.plain_words.specs.declared.places.Place.TheVariants.{Whole, First, Second, AfterFirst}
use Rattle.plain_words.specs.declared.places.Place.TheVariants.{AfterSecond}
use Rattle.plain_words.specs.Parts.{before_colon, after_colon}

-- what stands there
abbrev pub part_at : Place → List ℕ → List ℕ
part_at Whole word = word
part_at First word = before_colon word
part_at Second word = before_colon (after_colon word)
part_at AfterFirst word = after_colon word
part_at AfterSecond word = after_colon (after_colon word)
