-- The local recipe: the values of a piece from the page's own tints and from the values that its
-- needs' cells hold.
use Rattle.std.specs.Prelude.{◌≡◌, ℕ, zero, suc, ◌+◌, ◌-◌, ◌*◌, ◌/◌, ◌%◌, ◌<◌, Bool, true, ◌&&◌}
use Rattle.std.specs.Prelude.{nat_lt, nat_le, ◌==◌, bit_and, Option, Some, None, if◌then◌else◌}
use Rattle.std.specs.Option.{option_map}
use Rattle.page_model.specs.declared.parts.At.{At}
use Rattle.page_model.specs.declared.parts.EdgeAt.{EdgeAt}
use Rattle.page_model.specs.declared.parts.PageParts.{PageParts}
use Rattle.page_model.specs.Columns.{offset_code}
use Rattle.page_model.specs.Decider.{grid_rows}
use Rattle.page_model.specs.Deciding.{decides_in}
use Rattle.page_model.specs.Edges.{first, second, right_edge, lower_edge, d2}
use Rattle.page_model.specs.Marks.{mark_bit}
use Rattle.page_model.specs.Page.{width, height, tint}
use Rattle.page_model.specs.Tints.{new_in}
use Rattle.lists.specs.Words.{first_least, gap}
use Rattle.page_model.specs.Zones.{zone_of}
use Rattle.page_model.specs.declared.bands.Bands.{Bands}
use Rattle.page_model.specs.Bands.{piece_of, band_of_row, phase_of, band_of}
use Rattle.band_core.specs.Needs.{is_need, near_bands}
use Rattle.band_core.specs.Layouts.{Layout}
use Rattle.band_core.specs.Packing.{lane}
use Rattle.band_core.specs.Places.{per_row, bits_of, lanes_of, first_cell_of}
use Rattle.band_core.specs.Boards.{Board, cell_at}
use Rattle.band_core.specs.Values.{row_value, row_of, place_of, cell_of}

-- what somebody knows of the values of a page: of a phase, at place o of row y
abbrev pub Reading : Type 0
Reading = ℕ → ℕ → ℕ → ℕ

-- value k of a piece, unpacked from its cell
unfoldable pub unpacked : Layout → Board → ℕ → ℕ → ℕ
unpacked layout board i k =
    let phase = phase_of layout.bands i in
    lane (bits_of phase) (cell_at board (first_cell_of layout i + k / lanes_of phase) - 1)
    (k % lanes_of phase)

-- what the board's cells hold of a phase at place o of row y
unfoldable pub stored : Layout → Board → Reading
stored layout board phase y o = unpacked layout board
    (piece_of layout.bands phase (band_of_row layout.bands y))
    (y % layout.bands.height * per_row layout phase + o)

-- EDGES: the marks of a sample by the zones that are held
abbrev pub zone_by : Reading → At → ℕ
zone_by read p = read 0 p.y p.x

unfoldable pub decides_by : PageParts → Reading → EdgeAt → Bool
decides_by page read e = decides_in page (zone_by read (first e)) (zone_by read (second e)) e

abbrev pub mark_by : PageParts → Reading → ℕ → ℕ → ℕ
mark_by page read y x =
    (if nat_lt (x + 1) (width page) && decides_by page read (right_edge x y) then 1 else 0)
    + (if nat_lt (y + 1) (height page) && decides_by page read (lower_edge x y) then 2 else 0)

-- COLUMNS: of the edges in the bands within the halo of a band whose marks are set, the nearest
-- within reach of the row
unfoldable pub marked_by : PageParts → Reading → ℕ → ℕ → Bool
marked_by page read x2 y2 = ((x2 + y2) % 2 == 1)
    && (nat_le (x2 + 2) (2 * width page)
    && (nat_le (y2 + 2) (2 * height page)
    && (bit_and (read 1 (y2 / 2) (x2 / 2)) (mark_bit x2) == mark_bit x2)))

unfoldable pub column_by : PageParts → Bands → Reading → ℕ → ℕ → ℕ → Option ℕ
column_by page bands read band x2 y = first_least (λ y2. gap y2 (2 * y))
    (λ y2. (near_bands bands (band_of_row bands (y2 / 2)) band && marked_by page read x2 y2)
    && nat_le (gap y2 (2 * y)) bands.reach2) (grid_rows page)

-- TRAPS: the edge of a column's answer, and of these the nearest to a sample
abbrev pub arm_by : Reading → ℕ → ℕ → EdgeAt
arm_by read y x2 = record { x2 = x2; y2 = 2 * y + read 2 y x2 - 257 }

unfoldable pub edge_by : PageParts → Reading → At → Option EdgeAt
edge_by page read p = option_map (arm_by read p.y)
    (first_least (λ x2. d2 p (arm_by read p.y x2)) (λ x2. nat_lt 0 (read 2 p.y x2))
    (2 * width page - 1))

abbrev pub tint_by : PageParts → ℕ → At → ℕ → Option EdgeAt → ℕ
tint_by page zone p c None = tint page c p
tint_by page zone p c (Some e) = new_in page zone p e c

-- the value of a phase of a band at place o of row y
unfoldable pub row_by : PageParts → Bands → Reading → ℕ → ℕ → ℕ → ℕ → ℕ
row_by page bands read zero band y o = zone_of page (record { x = o; y = y })
row_by page bands read (suc zero) band y o = mark_by page read y o
row_by page bands read (suc (suc zero)) band y o =
    offset_code y (column_by page bands read band o y)
row_by page bands read
    (suc (suc (suc phase))) band y o = let p : At = record { x = o % width page; y = y } in
    tint_by page (zone_by read p) p (o / width page) (edge_by page read p)

-- value k of piece i
abbrev pub value_by : PageParts → Layout → Reading → ℕ → ℕ → ℕ
value_by page layout read i k = row_by page layout.bands read (phase_of layout.bands i)
    (band_of layout.bands i) (row_of layout i k) (place_of layout i k)

-- the local recipe
abbrev pub recipe : PageParts → Layout → Board → ℕ → ℕ
recipe page layout board j = cell_of layout (value_by page layout (stored layout board)) j

-- two readings agree on all that piece i needs
abbrev pub AgreeOnNeeds : PageParts → Layout → Reading → Reading → ℕ → Type 0
AgreeOnNeeds page layout read other i = (phase y o : ℕ)
    → is_need layout.bands i (piece_of layout.bands phase (band_of_row layout.bands y)) ≡ true
    → y < height page → o < per_row layout phase → read phase y o ≡ other phase y o

-- the one premise of the halo: of each need of piece i is held what its values are over the
-- undivided page
abbrev pub HoldsNeeds : PageParts → Layout → Reading → ℕ → Type 0
HoldsNeeds page layout read i = AgreeOnNeeds page layout read (row_value page) i
