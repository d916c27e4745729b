-- What it means to read on in a file, and to read a file's prefix.
use Rattle.std.specs.Prelude.{◌≡◌, ℕ, ◌≤◌, IsTrue, List, ◌++◌, length, take, drop, Some}
use Rattle.outside.specs.Tray.{TrayState, KeepsTray}

-- The first bytes of the file of that name were taken: all of them, or `most` where it has more.
pub record TakesPrefix (name : List ℕ) (most : ℕ) (before after : TrayState)
    (bytes : List ℕ) : Type 0 where
  pub all : List ℕ
  pub found : before.file name ≡ Some all
  pub taken : bytes ≡ take most all
  pub left : after.left ≡ drop most all

-- A prefix of these bytes was taken, of at most `most` bytes, and the rest is left.
pub record TakesAtMost (most : ℕ) (bytes : List ℕ) (after : TrayState) : Type 0 where
  pub prefix : List ℕ
  pub taken : bytes ≡ prefix ++ after.left
  pub few : length prefix ≤ most

-- A prefix of the file of that name was taken, of at most `most` bytes.
abbrev pub TakesFew : List ℕ → ℕ → TrayState → TrayState → Type 0
TakesFew name most before after =
    (all : List ℕ) × (before.file name ≡ Some all) × TakesAtMost most all after

-- These bytes were taken off what was left of the file that is begun.
pub record Takes (bytes : List ℕ) (before after : TrayState) : Type 0 where
  pub keeps : KeepsTray before after
  pub asked : after.asked ≡ before.asked
  pub begun : IsTrue after.begun
  pub taken : IsTrue before.tells → before.left ≡ bytes ++ after.left
