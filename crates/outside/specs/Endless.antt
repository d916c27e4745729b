-- What a tray of endless files is.
use Rattle.std.specs.Prelude.{ℕ, Bool, false, List, [], ◌++◌, drop, take, replicate, None}
use Rattle.outside.specs.Tray.{TrayState}

pub record EndlessState : Type 0 where
  -- the bytes with which each file begins, and the one that comes after them without end
  pub head : List ℕ
  pub tail : ℕ
  pub begun : Bool
  -- how many bytes of the head were taken from the file that is begun
  pub taken : ℕ

-- what it means as a tray: it tells no bytes and no names, and has no fault
abbrev pub endless_tray_of : EndlessState → TrayState
endless_tray_of e =
    record {
      tells = false;
      file = λ name. None;
      begun = e.begun;
      left = [];
      asked = None;
      faults = 0;
    }

-- the next `count` bytes
abbrev pub next_bytes : EndlessState → ℕ → List ℕ
next_bytes e count = take count (drop e.taken e.head ++ replicate count e.tail)
