-- How far the loops of `pack_words` have come.
use Rattle.std.proofs.Common.{◌≡◌, ℕ, ◌+◌, ◌<◌, slice_index}
use Rattle.band_core.specs.Places.{first_cell_of}
use Rattle.band_claims.specs.TableKeys.{cell}
use Rattle.band_claims.proofs.putting.pack_words.Given as goal

abbrev pub invariant-loop-k : goal.invariant-loop-k
invariant-loop-k g l = (j : ℕ) → j < l.k → slice_index l.words j ≡ cell l.table_key (first_cell_of l.table_key.layout l.piece + (l.first + j))
