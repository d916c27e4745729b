-- The loops of turn: turns samples into tints, or tints into samples, where they stand.
use Rattle.std.proofs.Common.{◌≡◌, ◌-◌, ◌++◌, map, take, drop}
use Rattle.pgm_plates.proofs.turning.turn.Given as goal

abbrev pub invariant-loop-at : goal.invariant-loop-at
invariant-loop-at l = l.values ≡ map (λ v. l.most - v) (take l.at l.initial.values) ++ drop l.at l.initial.values
