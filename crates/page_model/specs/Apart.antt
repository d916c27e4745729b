-- Whether a gap would show between two samples if their plates shifted.
use Rattle.std.specs.Prelude.{ℕ, ◌-◌, ◌*◌, Bool, ◌&&◌, nat_lt, nat_le}
use Rattle.page_model.specs.declared.parts.At.{At}
use Rattle.page_model.specs.declared.parts.PageParts.{PageParts}
use Rattle.page_model.specs.Page.{plates, maxval, tint, step_limit}
use Rattle.page_model.specs.Density.{plate_counts}
use Rattle.lists.specs.Words.{any_below}
use Rattle.page_model.specs.Limits.{scale}

-- plate c counts, and its tint falls from p to q, by at least its step limit in zone z
abbrev pub falls : PageParts → ℕ → At → At → ℕ → Bool
falls page z p q c = plate_counts page c && nat_lt (tint page c q) (tint page c p)
    && nat_le (step_limit page z c * maxval page) ((tint page c p - tint page c q) * scale)

-- two samples are apart where one ink falls and another rises between them: a gap would show
-- between these two
abbrev pub apart : PageParts → ℕ → At → At → Bool
apart page z p q =
    any_below (falls page z p q) (plates page) && any_below (falls page z q p) (plates page)
