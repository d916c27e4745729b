-- one_word_law: an event is one change of one word.
use Rattle.band_core.proofs.TableWords.{one_word}
use Rattle.band_core.proofs.board_laws.one_word_law.Goals as goal

pub returns : goal.returns
returns c = one_word
