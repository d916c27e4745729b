-- Where the text of no set has its fault: at the first line that no set goes on with.
use Rattle.std.specs.Prelude.{◌≡◌, ◌≢◌, ℕ, ◌+◌, ◌≤◌, ◌==◌, List, [], ◌∷◌, ◌++◌, length, take, All}
use Rattle.std.specs.Prelude.{if◌then◌else◌}
use Rattle.trap_set.specs.Runs.{Run}
use Rattle.trap_set.specs.SetText.{SetHead, IsSet, IsSetFile, set_lines}

-- the byte stands before the first line
abbrev pub before_first : ℕ → List (List ℕ) → List (List ℕ)
before_first b [] = (b ∷ []) ∷ []
before_first b (text ∷ later) = (b ∷ text) ∷ later

-- the lines of a text, each with its LF; what stands after the last LF is a line without one
abbrev pub lines_of : List ℕ → List (List ℕ)
lines_of [] = [] ∷ []
lines_of (b ∷ bytes) =
    if b == 10 then (b ∷ []) ∷ lines_of bytes else before_first b (lines_of bytes)

-- none of the bytes ends a line
abbrev pub HasNoEnd : List ℕ → Type 0
HasNoEnd text = All (λ b. b ≢ 10) text

-- a line with its LF, and no more
pub record IsLine (line : List ℕ) : Type 0 where
  pub text : List ℕ
  pub is : line ≡ text ++ 10 ∷ []
  pub one : HasNoEnd text

-- the first k lines of the text are those of some set
pub record BeginSet (bytes : List ℕ) (k : ℕ) (head : SetHead) (runs : List Run) : Type 0 where
  pub is_set : IsSet head runs
  pub there : k ≤ length (set_lines head runs)
  pub same : take k (lines_of bytes) ≡ take k (set_lines head runs)

abbrev pub BeginsSome : List ℕ → ℕ → Type 0
BeginsSome bytes k = (head : SetHead) × (runs : List Run) × BeginSet bytes k head runs

-- the text is no set; its first k lines begin some set, and with the line after them, which may be
-- missing, they do not
pub record IsBadLine (bytes : List ℕ) (k : ℕ) : Type 0 where
  pub no_set : (head : SetHead) (runs : List Run) → IsSetFile bytes head runs → ⊥
  pub before : BeginsSome bytes k
  pub bad : BeginsSome bytes (k + 1) → ⊥
