-- The page that stands in for a job and its plates: tiles of eight samples a side in eight colours.
use Rattle.std.specs.Prelude.{ℕ, ◌+◌, ◌*◌, ◌/◌, ◌%◌, List, [], ◌∷◌, slice_index, codes}
use Rattle.page_model.specs.declared.parts.Ink.{Ink}
use Rattle.page_model.specs.declared.parts.InkKind.TheVariants.{Normal}
use Rattle.page_model.specs.declared.parts.PageParts.{PageParts}
use Rattle.page_model.specs.declared.parts.Plane.{Plane}
use Rattle.page_model.specs.declared.parts.TrapParams.{TrapParams}
use Rattle.page_model.specs.declared.parts.Zone.{Zone}
use Rattle.page_model.specs.Parameters.{usual_params}
use Rattle.lists.specs.Words.{list_below}

-- the colour of the sample (x, y), from 0 to 7: that of its tile
abbrev pub colour : ℕ → ℕ → ℕ → ℕ
colour number x y = (number + 3 * (x / 8) + 5 * (y / 8) + (x / 8) * (y / 8)) % 8

-- the tints of cyan in the eight colours, which are cyan, magenta, yellow, black, paper, green,
-- red and grey
abbrev pub cyan_tints : List ℕ
cyan_tints = 255 ∷ 0 ∷ 0 ∷ 0 ∷ 0 ∷ 128 ∷ 0 ∷ 64 ∷ []

-- the same of magenta
abbrev pub magenta_tints : List ℕ
magenta_tints = 0 ∷ 255 ∷ 0 ∷ 0 ∷ 0 ∷ 0 ∷ 255 ∷ 64 ∷ []

-- the same of yellow
abbrev pub yellow_tints : List ℕ
yellow_tints = 0 ∷ 0 ∷ 255 ∷ 0 ∷ 0 ∷ 255 ∷ 255 ∷ 0 ∷ []

-- the same of black
abbrev pub black_tints : List ℕ
black_tints = 0 ∷ 0 ∷ 0 ∷ 255 ∷ 0 ∷ 0 ∷ 0 ∷ 128 ∷ []

-- the tint of an ink with these tints at the k-th sample
abbrev pub tint_at : List ℕ → ℕ → ℕ → ℕ → ℕ
tint_at tints number width k = slice_index tints (colour number (k % width) (k / width))

-- the tints of a plane, row by row from the top
unfoldable pub sample_tints : List ℕ → ℕ → ℕ → ℕ → List ℕ
sample_tints tints number width height = list_below (tint_at tints number width) (width * height)

-- a plane of these tints, of which 255 is full ink
abbrev pub sample_plane : List ℕ → ℕ → ℕ → ℕ → Plane
sample_plane tints number width
    height = record {
      width = width;
      height = height;
      maxval = 255;
      tints = sample_tints tints number width height;
    }

-- an ink that is neither clear nor opaque
abbrev pub normal_ink : List ℕ → ℕ → Ink
normal_ink name density = record { name = name; density = density; kind = Normal }

-- the usual parameters, with a trap width of 0.75 points
abbrev pub sample_params : TrapParams
sample_params = record usual_params { trap_width = 7500 }

-- zone 0, with no path and no limit of its own
abbrev pub sample_zone : Zone
sample_zone = record { params = sample_params; path = []; limits = [] }

-- four plates at 600 pixels per inch, and zone 0 alone
abbrev pub sample_parts : ℕ → ℕ → ℕ → PageParts
sample_parts number width height = record {
  resolution = 600;
  planes = sample_plane cyan_tints number width height
      ∷ sample_plane magenta_tints number width height
      ∷ sample_plane yellow_tints number width height ∷ sample_plane black_tints number width height
      ∷ [];
  inks = normal_ink (codes "Cyan") 6100 ∷ normal_ink (codes "Magenta") 7600
      ∷ normal_ink (codes "Yellow") 1600 ∷ normal_ink (codes "Black") 17000 ∷ [];
  zones = sample_zone ∷ [];
}
