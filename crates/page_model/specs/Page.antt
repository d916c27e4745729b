-- A page as the rule sees it: plates of one size, their inks, zones, tints and step limits.
use Rattle.std.specs.Prelude.{ℕ, ◌+◌, ◌*◌, ◌/◌, ◌%◌, ◌<◌, false, List, [], length, slice_index}
use Rattle.std.specs.Prelude.{slice_index_or, find, Option, Some, None}
use Rattle.std.specs.Str.{bytes_eq}
use Rattle.page_model.specs.declared.parts.At.{At}
use Rattle.page_model.specs.declared.parts.Ink.{Ink}
use Rattle.page_model.specs.declared.parts.InkKind.TheVariants.{Transparent}
use Rattle.page_model.specs.declared.parts.Limit.{Limit}
use Rattle.page_model.specs.declared.parts.PageParts.{PageParts}
use Rattle.page_model.specs.declared.parts.TrapParams.{TrapParams}
use Rattle.page_model.specs.declared.parts.Vertex.{Vertex}
use Rattle.page_model.specs.declared.parts.Zone.{Zone}
use Rattle.page_model.specs.Parameters.{usual_params}
use Rattle.page_model.specs.Planes.{plane_at}

-- stand where a number is out of range; no promise speaks of them
abbrev pub no_ink : Ink
no_ink = record { name = []; density = 0; kind = Transparent }

-- the parameters of no zone
abbrev pub no_params : TrapParams
no_params = record usual_params { enabled = false }

-- what stands past the last zone
abbrev pub no_zone : Zone
no_zone = record { params = no_params; path = []; limits = [] }

-- how many plates the page has; they are numbered from 0
abbrev pub plates : PageParts → ℕ
plates page = length page.planes

-- the sides in samples, and the tint of full ink: those of plate 0, which all plates share
abbrev pub width : PageParts → ℕ
width page = (plane_at page.planes 0).width

-- the rows of a page
abbrev pub height : PageParts → ℕ
height page = (plane_at page.planes 0).height

-- the tint of full ink
abbrev pub maxval : PageParts → ℕ
maxval page = (plane_at page.planes 0).maxval

-- the ink of plate c
abbrev pub ink_at : PageParts → ℕ → Ink
ink_at page c = slice_index_or page.inks c no_ink

-- zone z
abbrev pub zone_at : PageParts → ℕ → Zone
zone_at page z = slice_index_or page.zones z no_zone

-- the parameters of zone z
abbrev pub params_at : PageParts → ℕ → TrapParams
params_at page z = (zone_at page z).params

-- the path of zone z
abbrev pub path_at : PageParts → ℕ → List Vertex
path_at page z = (zone_at page z).path

-- the sample lies on the page
pub record InPage (page : PageParts) (p : At) : Type 0 where
  pub x : p.x < width page
  pub y : p.y < height page

-- samples are numbered row by row from the top
abbrev pub samples : PageParts → ℕ
samples page = width page * height page

-- the place of a sample in the list of its plate
abbrev pub place : PageParts → At → ℕ
place page p = p.y * width page + p.x

-- the sample of a place
abbrev pub sample_at : PageParts → ℕ → At
sample_at page k = record { x = k % width page; y = k / width page }

-- the tint of plate c at a sample, 0 for no ink
abbrev pub tint : PageParts → ℕ → At → ℕ
tint page c p = slice_index (plane_at page.planes c).tints (place page p)

-- a step that limits name, else the usual one
abbrev pub step_or : Option Limit → ℕ → ℕ
step_or None usual = usual
step_or (Some l) usual = l.step

-- the step that the limits name for the colorant, else the usual one
abbrev pub named_step : List Limit → List ℕ → ℕ → ℕ
named_step limits name usual = step_or (find (λ l. bytes_eq l.name name) limits) usual

-- the step limit of plate c in zone z
abbrev pub step_limit : PageParts → ℕ → ℕ → ℕ
step_limit page z c =
    named_step (zone_at page z).limits (ink_at page c).name (params_at page z).step_limit
