-- The limits of a plate file: by whose bounds it is read, and those that a page has not.
use Rattle.std.specs.Prelude.{ℕ}
use Rattle.page_model.specs.Limits.{most_samples, most_sheet_side, most_side}
use Rattle.pgm_plates.specs.declared.bounds.Bounds.{Bounds}
use Rattle.pgm_plates.specs.declared.bounds.Bounds.TheVariants.{Page, Sheet}

-- the most bytes that a header may have
abbrev pub most_header : ℕ
most_header = 65536

-- the most samples of a side
abbrev pub side_within : Bounds → ℕ
side_within Page = most_side
side_within Sheet = most_sheet_side

-- the most samples of a plate; a sheet's are as many as its two sides allow
abbrev pub samples_within : Bounds → ℕ
samples_within Page = most_samples
samples_within Sheet = 68719476736
