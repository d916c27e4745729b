-- A step that is taken keeps a board sound, where a put has the recipe's value.
use Rattle.std.proofs.Common.{◌≡◌, ℕ, Bool, true, false, refl, sym, ap, subst}
use Rattle.std.specs.Prelude.{Option, Some, None, if◌then◌else◌}
use Rattle.std.specs.Option.{is_some}
use Rattle.std.proofs.lemmas.Bool.{false≢true}
use Rattle.band_core.specs.declared.event.Event.{Event}
use Rattle.band_core.specs.TableShapes.{Shape, IsShape}
use Rattle.band_core.specs.Boards.{Board, allowed, changed, after, InRange}
use Rattle.band_core.specs.Runs.{Sound, ByRecipe, Halo}
use Rattle.band_core.proofs.Runs.{sound_after, recipe_fits}

some_or : Board → Option Board → Board
some_or d None = d
some_or d (Some x) = x

taken : (test : Bool) (x y : Board) → (if test then Some x else None) ≡ Some y → (test ≡ true) × (x ≡ y)
unfolding some_or
taken true x y e = (refl, ap (some_or x) e)
taken false x y e = absurd (false≢true (ap is_some e))

pub sound_next : (k : Shape) → IsShape k → (defined : ℕ → ℕ) (recipe : Board → ℕ → ℕ) → Halo k defined recipe → (old next : Board) (event : Event) (result : Bool) → InRange k event
    → after k old event ≡ (if result then Some next else None) → (result ≡ false → next ≡ old) → ByRecipe recipe old event → Sound k defined old → Sound k defined next
sound_next k ok defined recipe halo old next event true range e same by r =
    let t = taken (allowed k old event) (changed old event) next e in
    subst (Sound k defined) t.1 (sound_after k ok defined old r event range (recipe_fits k defined recipe old halo r event by t.0) t.0)
sound_next k ok defined recipe halo old next event false range e same by r = subst (Sound k defined) (sym (same refl)) r
