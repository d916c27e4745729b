-- Small pages whose traps are known, for the worked values beside this file.
use Rattle.std.proofs.Common.{ℕ, List, [], ◌∷◌, ◌++◌, Bool, true, false, map, pos}
use Rattle.page_model.specs.declared.parts.At.{At}
use Rattle.page_model.specs.declared.parts.EdgeAt.{EdgeAt}
use Rattle.page_model.specs.declared.parts.Ink.{Ink}
use Rattle.page_model.specs.declared.parts.InkKind.{InkKind}
use Rattle.page_model.specs.declared.parts.InkKind.TheVariants.{Normal}
use Rattle.page_model.specs.declared.parts.Limit.{Limit}
use Rattle.page_model.specs.declared.parts.PageParts.{PageParts}
use Rattle.page_model.specs.declared.parts.Plane.{Plane}
use Rattle.page_model.specs.declared.parts.TrapParams.{TrapParams}
use Rattle.page_model.specs.declared.parts.Vertex.{Vertex}
use Rattle.page_model.specs.declared.parts.Zone.{Zone}
use Rattle.page_model.specs.Tints.{new_tints}
use Rattle.page_model.specs.Parameters.{usual_params}

abbrev pub at : ℕ → ℕ → At
at x y = record { x = x; y = y }

abbrev pub edge : ℕ → ℕ → EdgeAt
edge x2 y2 = record { x2 = x2; y2 = y2 }

-- an ink is named by one letter
abbrev pub ink : ℕ → ℕ → InkKind → Ink
ink letter density kind = record { name = letter ∷ []; density = density; kind = kind }

abbrev pub cyan : Ink
cyan = ink 67 6100 Normal

abbrev pub magenta : Ink
magenta = ink 77 7600 Normal

abbrev pub yellow : Ink
yellow = ink 89 1600 Normal

abbrev pub black_ink : Ink
black_ink = ink 75 17000 Normal

-- the default parameters
abbrev pub usual : TrapParams
usual = usual_params

abbrev pub off : TrapParams
off = record usual { enabled = false }

-- traps of two points
abbrev pub wide : TrapParams
wide = record usual { trap_width = 20000 }

abbrev pub limit : ℕ → ℕ → Limit
limit letter step = record { name = letter ∷ []; step = step }

-- a zone of a path, without limits
abbrev pub zone : TrapParams → List Vertex → Zone
zone params path = record { params = params; path = path; limits = [] }

-- one zone, which is the whole page
abbrev pub everywhere : TrapParams → List Zone
everywhere params = zone params [] ∷ []

-- planes of one size and maxval, from their tints row by row
abbrev pub planes : ℕ → ℕ → ℕ → List (List ℕ) → List Plane
planes w h m tints = map (λ (t : List ℕ). record { width = w; height = h; maxval = m; tints = t }) tints

abbrev pub page : ℕ → List Plane → List Ink → List Zone → PageParts
page resolution planes inks zones = record { resolution = resolution; planes = planes; inks = inks; zones = zones }

-- three samples of cyan beside three of magenta
abbrev pub cyan_row : ℕ → List ℕ
cyan_row m = m ∷ m ∷ m ∷ 0 ∷ 0 ∷ 0 ∷ []

abbrev pub magenta_row : ℕ → List ℕ
magenta_row m = 0 ∷ 0 ∷ 0 ∷ m ∷ m ∷ m ∷ []

abbrev pub pair : ℕ → TrapParams → PageParts
pair m params = page 72 (planes 6 1 m (cyan_row m ∷ magenta_row m ∷ [])) (cyan ∷ magenta ∷ []) (everywhere params)

-- the same with a third plate, which lies on the fourth sample alone
abbrev pub pair_under : InkKind → TrapParams → PageParts
pair_under kind params = page 72 (planes 6 1 255 (cyan_row 255 ∷ magenta_row 255 ∷ (0 ∷ 0 ∷ 0 ∷ 255 ∷ 0 ∷ 0 ∷ []) ∷ [])) (cyan ∷ magenta ∷ ink 70 10000 kind ∷ []) (everywhere params)

abbrev rows_7 : List ℕ → List ℕ
rows_7 row = row ++ row ++ row ++ row ++ row ++ row ++ row

-- seven columns of cyan and of magenta in turn, seven samples high: no edge between them is slid
abbrev pub stripes : ℕ → TrapParams → PageParts
stripes resolution params = page resolution (planes 7 7 255 (rows_7 (255 ∷ 0 ∷ 255 ∷ 0 ∷ 255 ∷ 0 ∷ 255 ∷ []) ∷ rows_7 (0 ∷ 255 ∷ 0 ∷ 255 ∷ 0 ∷ 255 ∷ 0 ∷ []) ∷ [])) (cyan ∷ magenta ∷ []) (everywhere (record params { sliding_trap_limit = 10000 }))

-- a page of black between cyan and yellow, w by h
abbrev pub three : ℕ → ℕ → PageParts
three w h = page 72 (planes w h 255 ((255 ∷ 0 ∷ 0 ∷ []) ∷ (0 ∷ 255 ∷ 0 ∷ []) ∷ (0 ∷ 0 ∷ 255 ∷ []) ∷ [])) (cyan ∷ black_ink ∷ yellow ∷ []) (everywhere (record usual { trap_width = 10000 }))

-- two samples of a hundred tints, in cyan and in magenta, with limits
abbrev pub steps : ℕ → ℕ → List Limit → PageParts
steps c m limits = page 72 (planes 2 1 100 ((c ∷ 0 ∷ []) ∷ (0 ∷ m ∷ []) ∷ [])) (cyan ∷ magenta ∷ []) (record { params = wide; path = []; limits = limits } ∷ [])

abbrev pub vertex : ℕ → ℕ → Bool → Vertex
vertex x y starts = record { x = pos x; y = pos y; starts = starts }

-- a box, its corners given from the lower left, counter-clockwise
abbrev pub box : ℕ → ℕ → ℕ → ℕ → List Vertex
box left bottom right top = vertex left bottom true ∷ vertex right bottom false ∷ vertex right top false ∷ vertex left top false ∷ []

-- the same box, clockwise
abbrev pub box_back : ℕ → ℕ → ℕ → ℕ → List Vertex
box_back left bottom right top = vertex left bottom true ∷ vertex left top false ∷ vertex right top false ∷ vertex right bottom false ∷ []

-- a shop's page: 12 by 2 at 600 pixels an inch, a zone that is trapped and right of it one that is not
abbrev pub shop_params : TrapParams
shop_params = record usual { black_width = 20000 }

abbrev pub twice : List ℕ → List ℕ
twice row = row ++ row

abbrev pub shop : PageParts
shop = page 600
    (planes 12 2 255 (twice (0 ∷ 0 ∷ 0 ∷ 255 ∷ 255 ∷ 255 ∷ 0 ∷ 0 ∷ 0 ∷ 0 ∷ 0 ∷ 0 ∷ []) ∷ twice (0 ∷ 0 ∷ 0 ∷ 0 ∷ 0 ∷ 0 ∷ 0 ∷ 0 ∷ 0 ∷ 255 ∷ 255 ∷ 255 ∷ []) ∷ twice (0 ∷ 0 ∷ 0 ∷ 0 ∷ 0 ∷ 0 ∷ 255 ∷ 255 ∷ 255 ∷ 0 ∷ 0 ∷ 0 ∷ []) ∷ twice (255 ∷ 255 ∷ 255 ∷ 0 ∷ 0 ∷ 0 ∷ 0 ∷ 0 ∷ 0 ∷ 0 ∷ 0 ∷ 0 ∷ []) ∷ []))
    (cyan ∷ magenta ∷ yellow ∷ black_ink ∷ [])
    (zone (record shop_params { enabled = false }) [] ∷ zone shop_params (box 0 0 6120000 7920000) ∷ zone (record shop_params { enabled = false }) (box 10800 0 6120000 7920000) ∷ [])

-- the new tints of plate c, row by row
abbrev pub news : PageParts → ℕ → List ℕ
news p c = new_tints p c
