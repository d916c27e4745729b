-- are_whites: too few words have no option.
use Rattle.std.proofs.Common.{ℕ, List, map, string_bytes, sym, ap}
use Rattle.std.specs.Prelude.{codes}
use Rattle.std.proofs.lemmas.List.{length-map}
use Rattle.plain_words.specs.Parts.{parts_of}
use Rattle.keep_words.specs.Words.{are_whites}
use Rattle.keep_words.proofs.WordLemmas.{values_short}
use Rattle.keep_words.proofs.whites.+are_whites.Goals as goal

pub returns-in_default : goal.returns-in_default
returns-in_default n c = sym (ap (λ (vs : List (List ℕ)). are_whites vs (map parts_of (map string_bytes c.args.plates.now))) (values_short (codes "--underprint") (map string_bytes c.args.words.now) (rw length-map c.in_default.len_below)))
