-- opening_words_law: a table's words that are all 0 are the opening board.
use Rattle.band_core.proofs.TableWords.{opening_words}
use Rattle.band_core.proofs.board_laws.opening_words_law.Goals as goal

pub returns : goal.returns
returns c = opening_words
