-- never_stuck_law: where no piece is claimed and some piece is not done, some free piece has all
-- its needs done.
use Rattle.band_core.proofs.Runs.{no_stuck}
use Rattle.band_core.proofs.board_laws.never_stuck_law.Goals as goal

pub returns : goal.returns
returns c = λ k ok board idle i l short. let t = no_stuck k ok board idle i l short in (t.0, record { piece = t.1; free = t.2; needs = t.3 })
