-- Signed strides, as how far they lead forward and how far back.
use Rattle.std.specs.Prelude.{ℕ, suc, ◌+◌, ℤ, pos, negsuc}

-- the bytes that a step leads forward; 0 if it leads back
abbrev pub forward : ℤ → ℕ
forward (pos n) = n
forward (negsuc n) = 0

-- the bytes that a step leads back; 0 if it leads forward
abbrev pub backward : ℤ → ℕ
backward (pos n) = 0
backward (negsuc n) = suc n

-- the bytes of a step in either direction
abbrev pub step : ℤ → ℕ
step stride = forward stride + backward stride
