-- What a check tells.
use Rattle.std.specs.Prelude.{ℕ, List, ◌++◌, codes, decimal}
use Rattle.page_model.specs.declared.parts.PageParts.{PageParts}
use Rattle.page_model.specs.Tints.{trapped_planes}
use Rattle.misregister.specs.Risk.{risk}
use Rattle.common_errors.specs.Lines.{line}

-- the radius, and how many samples are at risk before trapping and after
abbrev pub check_text : ℕ → ℕ → ℕ → List ℕ
check_text radius before after =
    line (codes "press check") ++ line (codes "radius " ++ decimal radius)
    ++ line (codes "before " ++ decimal before) ++ line (codes "after " ++ decimal after)
    ++ line (codes "end")

-- the text of a page
abbrev pub text_of : ℕ → PageParts → List ℕ
text_of radius page =
    check_text radius (risk page.planes radius) (risk (trapped_planes page) radius)

-- what is printed for words that are no check
abbrev pub usage_line : List ℕ
usage_line = line (codes "usage: presscheck RADIUS JOB NAME:IN ...")
