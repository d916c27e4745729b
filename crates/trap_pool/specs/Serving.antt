-- What workers keep of the lines that they take.
use Rattle.std.specs.Prelude.{◌≡◌, ◌≤◌, ℕ, List, [], ◌∷◌, ◌++◌, None, map, All, vec_capacity}
use Rattle.std.specs.Prelude.{vec_len}
use Rattle.trap_pool.specs.declared.serving.Kept.{Kept}
use Rattle.trap_pool.specs.declared.serving.Workspace.{Workspace}

-- each result of a room is one that may be made of its line
abbrev pub AreMade : {K : Type 0} → (ℕ → K → Type 0) → Workspace K → Type 0
AreMade makes workspace = All (λ kept. makes kept.line kept.made) workspace.kept.items

-- no worker has been in the room
abbrev pub IsUnused : {K : Type 0} → Workspace K → Type 0
IsUnused workspace = workspace.end ≡ None

-- Its worker took lines until it found none, or until the room was full.
abbrev pub IsServed : {K : Type 0} → Workspace K → Type 0
IsServed workspace = workspace.end ≡ None → vec_capacity workspace.kept ≤ vec_len workspace.kept

-- the lines of these results
abbrev pub kept_lines : {K : Type 0} → List (Kept K) → List ℕ
kept_lines {K} kept = map (λ (k : Kept K). k.line) kept

-- the lines of all rooms, one room after another
abbrev pub served_lines : {K : Type 0} → List (Workspace K) → List ℕ
served_lines [] = []
served_lines (workspace ∷ workspaces) = kept_lines workspace.kept.items ++ served_lines workspaces
