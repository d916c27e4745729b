-- sound_table_law: the words of a table that meets the rule are those of a board that is sound for
-- its page.
use Rattle.band_claims.proofs.laws.sound_table_law.Goals as goal

pub returns : goal.returns
returns c = λ key s rule. rule.sound
