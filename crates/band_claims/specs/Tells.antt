-- What a load of a cell tells.
use Rattle.std.specs.Prelude.{◌≡◌, ℕ, ◌-◌, Option, MatchOption}
use Rattle.band_claims.specs.declared.table_key.TableKey.{TableKey}
use Rattle.band_claims.specs.declared.view.View.{View}
use Rattle.band_claims.specs.Views.{IsFair}
use Rattle.page_model.specs.Bands.{pieces_of}
use Rattle.band_claims.specs.TableKeys.{cell}

-- n is the defined value of the cell whose word has this number
abbrev pub Cell : Option TableKey → ℕ → ℕ → Type 0
Cell table_key word n =
    MatchOption table_key (Unit {0}) (λ key. n ≡ cell key (word - pieces_of key.layout.bands))

-- what the rule says of a view, read with the view's own key
abbrev pub Fair : View → Type 0
Fair v = MatchOption v.table_key (Unit {0}) (λ key. IsFair (pieces_of key.layout.bands) v)
