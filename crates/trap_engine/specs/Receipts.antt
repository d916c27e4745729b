-- The receipt of a page: its closed table, all work done, in bands of some height.
use Rattle.std.specs.Prelude.{◌≡◌, ℕ}
use Rattle.page_model.specs.declared.parts.PageParts.{PageParts}
use Rattle.band_claims.specs.Receipt.{Receipt}
use Rattle.band_pieces.specs.Finished.{IsFinished}

-- the closed table of the page, on which all work is done, in bands of `band` rows
pub record IsWholeReceipt (page : PageParts) (band : ℕ) (receipt : Receipt) : Type 0 where
  pub finished : IsFinished page receipt
  pub low : receipt.table_key.layout.bands.height ≡ band
