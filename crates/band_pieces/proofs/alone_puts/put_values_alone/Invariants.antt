-- The loops of put_values_alone: packs the values of a piece into its cells.
use Rattle.band_pieces.proofs.Filling.{FillsUpTo}
use Rattle.band_pieces.proofs.alone_puts.put_values_alone.Given as goal

abbrev pub invariant-loop-o : goal.invariant-loop-o
invariant-loop-o g l = FillsUpTo l.initial.closed l.closed l.piece l.o
