-- The page of the tests: one column of two samples, one zone, bands of one row.
use Rattle.std.specs.Prelude.{◌≡◌, length}
use Rattle.band_claims.specs.declared.table_key.TableKey.{TableKey}
use Rattle.band_claims.specs.TableKeys.{IsFit}

pub record OneColumn (table_key : TableKey) : Type 0 where
  pub fit : IsFit table_key
  pub one_zone : length table_key.page.value.zones ≡ 1
  pub narrow : table_key.layout.width ≡ 1
  pub flat : table_key.layout.bands.height ≡ 1
  pub two_bands : table_key.layout.bands.count ≡ 2
