-- What was taken off a file that is read piece by piece.
use Rattle.std.proofs.Common.{◌≡◌, ℕ, ◌≤◌, ◌+◌, List, ◌++◌, take, length, append_assoc, refl, arith}
use Rattle.std.proofs.lemmas.Grind.{common_steps}
use Rattle.outside.specs.Tray.{TrayState}
use Rattle.outside.specs.Reading.{TakesAtMost}

-- These bytes were taken, and no more.
pub few_taken : (most : ℕ) (all bytes : List ℕ) (after : TrayState) → all ≡ bytes ++ after.left → length bytes ≤ most → TakesAtMost most all after
few_taken most all bytes after taken few = record { prefix = bytes; taken = taken; few = few }

-- One more piece was taken.
pub few_and_piece : (most count : ℕ) (all bytes left piece : List ℕ) (after : TrayState) → all ≡ bytes ++ left → left ≡ take count piece ++ after.left → length bytes + length piece ≤ most → TakesAtMost most all after
few_and_piece most count all bytes left piece after taken more few = record {
  prefix = bytes ++ take count piece;
  taken = rw (taken, more, append_assoc);
  few = grind (arith, common_steps);
}

-- The same, where the piece was put after what was taken so far.
pub taken_more : (all bytes left piece now : List ℕ) (after : TrayState) → all ≡ bytes ++ left → left ≡ piece ++ after.left → now ≡ bytes ++ piece → all ≡ now ++ after.left
taken_more all bytes left piece now after taken more put = rw (taken, more, put, append_assoc) refl
