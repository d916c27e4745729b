-- The steps of `traps` and of `apply`.
use Rattle.std.specs.Prelude.{◌≡◌, ℕ, ◌*◌, ◌≤◌, IsTrue, List, [], ◌∷◌, length, All, Result}
use Rattle.std.specs.Prelude.{Ok, Err}
use Rattle.outside.specs.ErrorCases.{Asks, AsksPrefix, RoseOnce}
use Rattle.outside.specs.Tray.{TrayState}
use Rattle.outside.specs.Rack.{RackState, KeepsRack}
use Rattle.page_model.specs.declared.parts.PageParts.{PageParts}
use Rattle.page_model.specs.declared.parts.Plane.{Plane}
use Rattle.page_model.specs.Conditions.{IsPage, IsPlane}
use Rattle.page_model.specs.Limits.{most_samples}
use Rattle.page_files.specs.Writing.{WritesAll, WritesPlates, BreaksAt}
use Rattle.trapset_cli.specs.declared.reason.TrapsetError.{TrapsetError}
use Rattle.trapset_cli.specs.declared.reason.TrapsetError.TheVariants.{Page, SetUnread, SetUnwritten}
use Rattle.trapset_cli.specs.declared.reason.TrapsetError.TheVariants.{BadLine, Differs}
use Rattle.trapset_cli.specs.Commands.{inputs_of, read_names}
use Rattle.trapset_cli.specs.Endings.{HasInHand, NotRead}
use Rattle.trapset_cli.specs.Verdicts.{Gives, OnPlanes, set_files}
use Rattle.trapset_cli.specs.Words.{ApplyWords, Apply}
use Rattle.common_errors.specs.declared.common.CommonError.TheVariants.{Memory}
use Rattle.trap_set.specs.Applying.{AppliesSet}
use Rattle.trap_set.specs.declared.apply.SetError.TheVariants.{BadLine as bad_line}
use Rattle.trap_set.specs.declared.apply.SetError.TheVariants.{Differs as differs}
use Rattle.trap_set.specs.declared.apply.SetError.TheVariants.{ReadFault as read_fault}

-- What the answer says where a page is trapped and its set written.
abbrev pub AnswersPut : List ℕ → PageParts → RackState → RackState → Result (Unit {0}) TrapsetError
    → Type 0
AnswersPut name page before after (Ok nothing) = WritesAll (set_files name page) before after
AnswersPut name page before after (Err SetUnwritten) = BreaksAt (set_files name page) 0 before after
    × RoseOnce before.faults after.faults
AnswersPut name page before after (Err (Page Memory)) = after ≡ before
AnswersPut name page before after (Err other) = ⊥

-- A page is trapped, and the set of what changed is written.
pub record PutsSet (name : List ℕ) (page : PageParts) (before after : RackState)
    (result : Result (Unit {0}) TrapsetError) : Type 0 where
  pub valid : IsPage page
  pub keeps : KeepsRack before after
  pub reported : IsTrue before.tells → after.reported ≡ before.reported
  pub asked : AsksPrefix before.asked after.asked (name ∷ [])
  pub answer : AnswersPut name page before after result

-- a plane with no more samples than a page may have
abbrev pub IsSmall : Plane → Type 0
IsSmall plane = plane.width * plane.height ≤ most_samples

-- planes in range, as many as that
pub record AreInRange (planes : List Plane) (count : ℕ) : Type 0 where
  pub planes_ok : All IsPlane planes
  pub small : All IsSmall planes
  pub as_many : length planes ≡ count

-- The set of that name is put onto the planes.
abbrev pub Patches : List ℕ → List Plane → TrayState → TrayState → Result (List Plane) TrapsetError
    → Type 0
Patches name old before after (Ok new) = AppliesSet {T = Unit {0}} name before after old new (Ok tt)
Patches name old before after (Err (BadLine n)) = (new : List Plane)
    × AppliesSet {T = Unit {0}} name before after old new (Err (bad_line n))
Patches name old before after (Err Differs) = (new : List Plane)
    × AppliesSet {T = Unit {0}} name before after old new (Err differs)
Patches name old before after (Err SetUnread) = (new : List Plane)
    × AppliesSet {T = Unit {0}} name before after old new (Err read_fault)
Patches name old before after (Err other) = ⊥

-- What the answer says where the planes are to be written.
abbrev pub AnswersPatch : ApplyWords → TrayState → TrayState → Result (List Plane) TrapsetError
    → Type 0
AnswersPatch words before after (Ok new) = (after.faults ≡ before.faults)
    × Asks before.asked after.asked (read_names (Apply words))
    × AreInRange new (length (inputs_of words))
    × (IsTrue before.tells → OnPlanes before.file words (Gives new))
AnswersPatch words before after (Err reason) = NotRead (Apply words) before after reason

-- The plates are read, and the set is put onto them.
pub record PatchesPlanes (words : ApplyWords) (before after : TrayState)
    (result : Result (List Plane) TrapsetError) : Type 0 where
  pub asked : AsksPrefix before.asked after.asked (read_names (Apply words))
  pub in_hand : HasInHand (Apply words) before after
  pub answer : AnswersPatch words before after result

-- The planes are written as plates.
abbrev pub PutsPlates : List (List ℕ) → List Plane → RackState → RackState
    → Result (Unit {0}) TrapsetError
    → Type 0
PutsPlates outputs planes before after (Ok nothing) =
    WritesPlates {T = Unit {0}} outputs planes before after (Ok tt)
PutsPlates outputs planes before after (Err (Page error)) =
    WritesPlates {T = Unit {0}} outputs planes before after (Err error)
PutsPlates outputs planes before after (Err other) = ⊥
