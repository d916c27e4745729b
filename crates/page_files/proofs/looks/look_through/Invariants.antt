-- The loops of look_through: looks into each of these files in order, up to the first that is
-- refused.
use Rattle.std.proofs.Common.{map}
use Rattle.page_files.proofs.LookLemmas.{SoFar}
use Rattle.page_files.proofs.looks.look_through.Given as goal

abbrev pub invariant-loop-place : goal.invariant-loop-place
invariant-loop-place g l = SoFar (g.L.Look.sought l.look) (map g.S.AsStr.text l.inputs) l.place (g.T.Tray.state l.fn.tray) (g.T.Tray.state l.tray) l.all
