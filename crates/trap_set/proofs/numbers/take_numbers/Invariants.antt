-- The loops of take_numbers: puts the numbers that the text begins with into the list, as many as
-- it has places, and gives what stands after them.
use Rattle.std.proofs.Common.{◌≡◌, ◌<◌, ℕ, List, ◌++◌, length, take, drop}
use Rattle.std.specs.List.{All, flat_map}
use Rattle.trap_set.specs.Numbers.{BeginsNumbers, NoDigit, past_numbers}
use Rattle.trap_set.specs.SetText.{number}
use Rattle.trap_set.proofs.numbers.take_numbers.Given as goal

abbrev pub invariant-loop-place : goal.invariant-loop-place
invariant-loop-place l = record {
  whole : l.text ≡ flat_map number (take l.place l.numbers) ++ l.rest;
  below : All (λ (n : ℕ). n < past_numbers) (take l.place l.numbers);
  ends : 0 < l.place → NoDigit l.rest;
  goes_on : (meant rest : List ℕ) → length meant ≡ length l.numbers → BeginsNumbers l.text meant rest → BeginsNumbers l.rest (drop l.place meant) rest;
}
