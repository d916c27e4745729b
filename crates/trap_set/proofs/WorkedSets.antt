-- Small sets, worked out by hand.
use Rattle.std.proofs.Common.{◌≡◌, ℕ, List, [], ◌∷◌, ◌++◌, refl}
use Rattle.std.specs.Fmt.{digits}
use Rattle.std.specs.Prelude.{codes}
use Rattle.page_model.specs.declared.parts.Plane.{Plane}
use Rattle.trap_set.specs.Applied.{applied}
use Rattle.trap_set.specs.Runs.{trap_runs}
use Rattle.trap_set.specs.SetText.{line, set_text}

abbrev row : List ℕ → Plane
row tints = record { width = 6; height = 1; maxval = 255; tints = tints }

-- cyan beside magenta, as they come, with the trap on both sides, and with a lighter one on the darker side
abbrev old : List Plane
old = row (255 ∷ 255 ∷ 255 ∷ 0 ∷ 0 ∷ 0 ∷ []) ∷ row (0 ∷ 0 ∷ 0 ∷ 255 ∷ 255 ∷ 255 ∷ []) ∷ []

abbrev slid : List Plane
slid = row (255 ∷ 255 ∷ 255 ∷ 255 ∷ 0 ∷ 0 ∷ []) ∷ row (0 ∷ 0 ∷ 255 ∷ 255 ∷ 255 ∷ 255 ∷ []) ∷ []

abbrev scaled : List Plane
scaled = row (255 ∷ 255 ∷ 255 ∷ 141 ∷ 141 ∷ 0 ∷ []) ∷ row (0 ∷ 0 ∷ 0 ∷ 141 ∷ 141 ∷ 255 ∷ []) ∷ []

pub slid_text : set_text old slid ≡ line (codes "trap set") ++ line (codes "page 6 1 255 plates 2") ++ line (codes "run 0 2 2 255 255") ++ line (codes "end")
unfolding digits
slid_text = refl

pub scaled_text : set_text old scaled ≡ line (codes "trap set") ++ line (codes "page 6 1 255 plates 2") ++ line (codes "run 0 3 2 141 141") ++ line (codes "end")
unfolding digits
scaled_text = refl

pub slid_applied : applied (trap_runs old slid) old ≡ slid
slid_applied = refl

-- a run ends where the new tints change, and at the end of a row
abbrev square : List ℕ → List Plane
square tints = record { width = 3; height = 2; maxval = 9; tints = tints } ∷ []

pub broken : set_text (square (0 ∷ 0 ∷ 0 ∷ 0 ∷ 0 ∷ 0 ∷ [])) (square (0 ∷ 4 ∷ 5 ∷ 5 ∷ 5 ∷ 0 ∷ [])) ≡ line (codes "trap set") ++ line (codes "page 3 2 9 plates 1") ++ line (codes "run 0 1 1 4") ++ line (codes "run 0 2 1 5") ++ line (codes "run 1 0 2 5") ++ line (codes "end")
unfolding digits
broken = refl

pub unchanged : set_text old old ≡ line (codes "trap set") ++ line (codes "page 6 1 255 plates 2") ++ line (codes "end")
unfolding digits
unchanged = refl
