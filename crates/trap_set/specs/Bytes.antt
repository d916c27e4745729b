-- How the lines of a file are read, by way of a buffer that is filled where all that it held was
-- given out.
use Rattle.std.specs.Prelude.{◌≡◌, ℕ, ◌≤◌, Bool, IsTrue, List, [], ◌∷◌, ◌++◌, length, slice_range}
use Rattle.std.specs.Prelude.{Option, Some, None, Result, Ok, Err, IfOk, IfSome, IfNone, OnOk}
use Rattle.std.specs.Prelude.{OnErr, if◌then◌else◌}
use Rattle.outside.specs.ErrorCases.{Rose}
use Rattle.outside.specs.Tray.{TrayState, KeepsTray}
use Rattle.trap_set.specs.Lines.{IsLine, HasNoEnd}
use Rattle.trap_set.specs.declared.bytes.Unread.{Unread}

-- the bytes of the buffer that were read and not given out
abbrev pub stored_in : List ℕ → Unread → List ℕ
stored_in buf unread = slice_range buf unread.from unread.to

-- they stand in the buffer
pub record IsIn (buf : List ℕ) (unread : Unread) : Type 0 where
  pub order : unread.from ≤ unread.to
  pub within : unread.to ≤ length buf

-- the bytes of the longest line that is read; no line of a set has as many
abbrev pub most_line : ℕ
most_line = 160

-- a line that is read whole
abbrev pub IsShortLine : List ℕ → Type 0
IsShortLine line = IsLine line × (length line ≤ most_line)

-- the next byte is given out, or there is none, or the tray fails
pub record GivesByte {E : Type 0} (before after : TrayState) (stored held2 : List ℕ)
    (result : Result (Option ℕ) E) : Type 0 where
  pub keeps : KeepsTray before after
  pub asked : after.asked ≡ before.asked
  pub begun : IsTrue after.begun
  pub some : IfOk result (λ byte. IfSome byte (λ b. IsTrue before.tells
      → stored ++ before.left ≡ b ∷ (held2 ++ after.left)))
  pub none : IfOk result (λ byte. IfNone byte (IsTrue before.tells → (stored ++ before.left ≡ [])
      × (held2 ++ after.left ≡ [])))
  pub kept : OnErr result (IsTrue before.tells → stored ++ before.left ≡ after.left)
  pub well : OnOk result (after.faults ≡ before.faults)
  pub reason : OnErr result (Rose before.faults after.faults)

-- The next line is one of those that are looked for, and is given out; or none of them stands
-- there; or the tray fails within a line.
pub record ReadsNext {E : Type 0} (Looked : List ℕ → Type 0) (before after : TrayState)
    (stored held2 : List ℕ) (next : Result (Option (List ℕ)) E) : Type 0 where
  pub keeps : KeepsTray before after
  pub asked : after.asked ≡ before.asked
  pub begun : IsTrue after.begun
  pub line : IfOk next (λ found. IfSome found (λ line. Looked line
      × (IsTrue before.tells → stored ++ before.left ≡ line ++ (held2 ++ after.left))))
  pub none : IfOk next (λ found. IfNone found (IsTrue before.tells → (line more : List ℕ)
      → Looked line → stored ++ before.left ≡ line ++ more → ⊥))
  -- what was looked at in its place
  pub other : IfOk next (λ found. IfNone found (IsTrue before.tells → (part : List ℕ)
      × (stored ++ before.left ≡ part ++ (held2 ++ after.left))))
  pub part : OnErr next (IsTrue before.tells → (part : List ℕ) × HasNoEnd part
      × (stored ++ before.left ≡ part ++ after.left))
  pub well : OnOk next (after.faults ≡ before.faults)
  pub reason : OnErr next (Rose before.faults after.faults)

-- the line, where there is one
abbrev pub found_line : {E : Type 0} → Result Bool E → List ℕ → Result (Option (List ℕ)) E
found_line (Ok there) line = Ok (if there then Some line else None)
found_line (Err e) line = Err e
