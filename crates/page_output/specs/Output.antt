-- What it means to put a page out.
use Rattle.std.specs.Prelude.{◌≡◌, ℕ, IsTrue, List, length, Result, Ok, Err}
use Rattle.band_claims.specs.Receipt.{Receipt}
use Rattle.outside.specs.ErrorCases.{Asks, AsksPrefix}
use Rattle.outside.specs.Rack.{RackState, KeepsRack}
use Rattle.page_model.specs.declared.parts.PageParts.{PageParts}
use Rattle.page_model.specs.Conditions.{IsPage}
use Rattle.page_files.specs.Writing.{WritesAll, Breaks, FailsOnce, FinishesAll}
use Rattle.trap_engine.specs.Receipts.{IsWholeReceipt}
use Rattle.common_errors.specs.declared.common.CommonError.{CommonError}
use Rattle.common_errors.specs.declared.common.CommonError.TheVariants.{Write, Memory}
use Rattle.page_files.specs.Verdicts.{Targets, outcome, written_names}

-- the files of these names
abbrev pub targets : List (List ℕ) → List ℕ → Targets
targets outputs report = record { outputs = outputs; report = report }

-- What the answer says where the page is put out.
abbrev pub AnswersPut : ℕ → Targets → PageParts → RackState → RackState → Result Receipt CommonError
    → Type 0
AnswersPut band target page before after (Ok receipt) = IsWholeReceipt page band receipt
    × WritesAll (outcome target page) before after
    × Asks before.asked after.asked (written_names target)
    × FinishesAll (written_names target) before after
AnswersPut band target page before after (Err (Write file)) =
    Breaks (length target.outputs) (outcome target page) file before after
AnswersPut band target page before after (Err Memory) = after ≡ before
AnswersPut band target page before after (Err other) = ⊥

-- A page is trapped in bands of `band` rows, and its files are written.
pub record PutsOut (band : ℕ) (target : Targets) (page : PageParts) (before after : RackState)
    (result : Result Receipt CommonError) : Type 0 where
  pub valid : IsPage page
  pub keeps : KeepsRack before after
  pub reported : IsTrue before.tells → after.reported ≡ before.reported
  pub asked : AsksPrefix before.asked after.asked (written_names target)
  pub answer : AnswersPut band target page before after result
  pub once : FailsOnce before after result
