-- push_whites: too few words have no option.
use Rattle.std.proofs.Common.{ℕ, List, ◌++◌, append-nil, map, string_bytes, sym, ap, ◌∙◌}
use Rattle.std.specs.Prelude.{codes}
use Rattle.std.proofs.lemmas.List.{length-map}
use Rattle.keep_words.specs.Stored.{white_words}
use Rattle.keep_words.specs.Words.{white_of}
use Rattle.keep_words.proofs.WordLemmas.{values_short}
use Rattle.keep_words.proofs.whites.+push_whites.Goals as goal

pub returns-in_default : goal.returns-in_default
returns-in_default n c = sym (ap (λ (vs : List (List ℕ)). map white_words c.args.whites.now ++ map white_of vs) (values_short (codes "--underprint") (map string_bytes c.args.words.now) (rw length-map c.in_default.len_below)) ∙ append-nil (map white_words c.args.whites.now))
