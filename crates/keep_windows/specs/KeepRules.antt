-- Keepaway as rules of a page: how far they reach, their new tints, and that covered pixels are counted.
use Rattle.std.specs.Prelude.{ℕ, ◌+◌, ◌*◌, ◌/◌, max, List, [], ◌∷◌}
use Rattle.keepaway.specs.Keepaway.{pixel}
use Rattle.keepaway.specs.Keepaway.{covered as is_under_black, kept as kept_under_black}
use Rattle.keepaway.specs.declared.parts.RichBlack.{RichBlack}
use Rattle.sheet_geometry.specs.Areas.{one_if}
use Rattle.sheet_geometry.specs.PageRules.{PageRule}
use Rattle.underprint.specs.declared.parts.White.{White}
use Rattle.underprint.specs.Underprint.{followed}
use Rattle.underprint.specs.Underprint.{covered as is_under_colour, kept as kept_under_colour}

-- the width and half a pixel, in whole pixels
abbrev pub rounded : ℕ → ℕ → ℕ
rounded wide resolution = (wide * resolution + pixel / 2) / pixel

-- inks drawn back under black
abbrev pub under_black : RichBlack → PageRule
under_black rich = record {
  reach = λ page. 2 * (rounded rich.width page.resolution + 1);
  tint = λ page p c. kept_under_black page rich c p;
  mark = λ page p. one_if (is_under_black page rich.limit p);
}

-- how far the ink of the underprints is followed, and at least a pixel
abbrev pub farthest : ℕ → List White → ℕ
farthest resolution [] = 1
farthest resolution (w ∷ ws) = max (followed w.width resolution) (farthest resolution ws)

-- underprints drawn back under colour
abbrev pub under_colour : List White → PageRule
under_colour whites = record {
  reach = λ page. 2 * farthest page.resolution whites;
  tint = λ page p c. kept_under_colour page whites c p;
  mark = λ page p. one_if (is_under_colour page whites p);
}
