-- The rule of a table that remembers the steps that were made on it.
use Rattle.std.specs.Prelude.{◌≡◌, ℕ, List}
use Rattle.atomic_table.specs.Table.{State}
use Rattle.band_claims.specs.declared.table_key.TableKey.{TableKey}
use Rattle.band_claims.specs.declared.view.View.{View}
use Rattle.band_claims.specs.Kinds.{Kind, Leads, first_state}
use Rattle.band_claims.specs.Rule.{RuleOf, Sees}
use Rattle.band_claims.specs.TableKeys.{shape_of, cell}

-- these steps lead from the opening of the page's table to the state
abbrev pub Steps : TableKey → List Kind → State (Unit {0}) View → Type 0
Steps key kinds s = Leads (shape_of key) (cell key) (first_state (shape_of key) key) kinds s

-- the rule holds, and steps of the eight kinds, each where it is allowed, led here from the opening
pub record Remembered (key : TableKey) (s : State (Unit {0}) View) : Type 0 where
  pub rule : RuleOf key s
  pub kinds : List Kind
  pub steps : Steps key kinds s

-- steps led from the opening to these words, and then a seat had this view
pub record Ends (key : TableKey) (words : List ℕ) (v : View) : Type 0 where
  pub kinds : List Kind
  pub last : State (Unit {0}) View
  pub steps : Steps key kinds last
  pub same_words : last.words ≡ words
  pub seat : ℕ
  pub sees : Sees last seat v
