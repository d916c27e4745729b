-- keeps_sound_law: whatever the defined cells are, each event that may happen, with the defined
-- value where it fills a cell, keeps a sound board sound.
use Rattle.band_core.proofs.Runs.{sound_after}
use Rattle.band_core.proofs.board_laws.keeps_sound_law.Goals as goal

pub returns : goal.returns
returns c = λ k ok defined board r event range fits t. sound_after k ok defined board r event range fits t
