-- take_word: what stands after the word with which the text begins.
use Rattle.std.proofs.Common.{ℕ, List, Option, Some, None, Bor, IfSome, IfNone, MatchOption}
use Rattle.std.proofs.lemmas.Bool.Decides.{Decides-eqb}
use Rattle.std.proofs.lemmas.Slice.Eq.{strip_prefix_is}
use Rattle.trap_set.proofs.numbers.take_word.Goals as goal

some_of : (r : Option (Bor (List ℕ))) (P : Type 0) (Q : Bor (List ℕ) → Type 0) → MatchOption r P Q → IfSome r Q
some_of (Some x) P Q h = h
some_of None P Q h = tt

none_of : (r : Option (Bor (List ℕ))) (P : Type 0) (Q : Bor (List ℕ) → Type 0) → MatchOption r P Q → IfNone r P
none_of (Some x) P Q h = tt
none_of None P Q h = h

pub returns-clause-some : goal.returns-clause-some
returns-clause-some c = some_of c.strip_prefix.result _ _ (strip_prefix_is Decides-eqb c.args.text.now c.args.word.now c.strip_prefix.result c.strip_prefix.ensures.cases)

pub returns-clause-none : goal.returns-clause-none
returns-clause-none c = none_of c.strip_prefix.result _ _ (strip_prefix_is Decides-eqb c.args.text.now c.args.word.now c.strip_prefix.result c.strip_prefix.ensures.cases)
