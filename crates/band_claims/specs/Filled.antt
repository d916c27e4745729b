-- What filling the cells of a held piece changes in a view, and what the values of a piece are.
use Rattle.std.specs.Prelude.{◌≡◌, ℕ, ◌-◌, ◌*◌, ◌<◌, ◌≤◌, List, length, slice_index, min}
use Rattle.band_claims.specs.declared.table_key.TableKey.{TableKey}
use Rattle.band_claims.specs.declared.view.View.{View}
use Rattle.band_core.specs.Values.{value}
use Rattle.page_model.specs.Bands.{phase_of}
use Rattle.band_core.specs.Layouts.{Layout}
use Rattle.band_core.specs.Places.{lanes_of, value_total}

-- the view with n cells of its piece filled
abbrev pub filled_to : ℕ → View → View
filled_to n v =
    record {
      table_key = v.table_key;
      stored = v.stored;
      filled = n;
      published = v.published;
      seen = v.seen;
      looked = v.looked;
      reported = v.reported;
      share = v.share;
    }

-- all values of the piece over the undivided page, in their order
pub record AreValues (table_key : TableKey) (piece : ℕ) (values : List ℕ) : Type 0 where
  pub long : length values ≡ value_total table_key.layout piece
  pub each : (k : ℕ) → k < length values
      → slice_index values k ≡ value table_key.page.value table_key.layout piece k

-- cell o of a piece is made of `count` of its values, from number first on
pub record IsCut (layout : Layout) (piece o phase first count : ℕ) : Type 0 where
  pub same_phase : phase ≡ phase_of layout.bands piece
  pub begins : first ≡ o * lanes_of phase
  pub inside : first < value_total layout piece
  pub few : count ≡ min (lanes_of phase) (value_total layout piece - first)
  pub fits : count ≤ 31
