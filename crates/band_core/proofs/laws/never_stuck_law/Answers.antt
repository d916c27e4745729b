-- never_stuck_law: where no piece is claimed and some piece is not done, some free piece has all
-- its needs done.
use Rattle.band_core.proofs.Runs.{no_stuck}
use Rattle.band_core.specs.Shapes.{shape_of}
use Rattle.band_core.proofs.Shapes.{is_shape}
use Rattle.band_core.proofs.laws.never_stuck_law.Goals as goal

pub returns : goal.returns
returns c = λ layout is board idle i l short. let t = no_stuck (shape_of layout) (is_shape layout is) board idle i l short in (t.0, record { piece = t.1; free = t.2; needs = t.3 })
