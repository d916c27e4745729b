-- A stack at the end of a buffer.
use Rattle.std.proofs.Common.{◌≡◌, ℕ, ◌<◌, List, length, drop, get_or, Some, refl}
use Rattle.std.specs.Prelude.{slice_get}
use Rattle.std.proofs.lemmas.List.{drop_more, drop-set, drop_all, drop-drop, length-drop}

-- the element on top
pub slice_get-drop : {X : Type 0} (xs : List X) (i : ℕ) (d : X) → i < length xs → slice_get (drop i xs) 0 ≡ Some (get_or xs i d)
slice_get-drop xs i d lt = rw (drop_more xs i d lt) refl

-- those laws, for tactics
pub ruleset stacks = (slice_get-drop, drop-drop, drop-set, drop_all, length-drop)
