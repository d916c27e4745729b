-- sound_words_law: a change of a word that is an event which may happen, with the defined value
-- where it fills a cell, keeps the words those of a sound board.
use Rattle.band_core.proofs.TableWords.{sound_words, words_kept}
use Rattle.band_core.proofs.board_laws.sound_words_law.Goals as goal

pub returns-clause-words : goal.returns-clause-words
returns-clause-words c = words_kept

pub returns-clause-sound : goal.returns-clause-sound
returns-clause-sound c = sound_words
