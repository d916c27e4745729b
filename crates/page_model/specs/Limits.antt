-- The numbers that the rule and the limits of a page are stated with, each once.
use Rattle.std.specs.Prelude.{ℕ}

-- 1 in ten-thousandths, in which a job's numbers are held
abbrev pub scale : ℕ
scale = 10000

-- 36 times the square of the scale: a width times a factor times a resolution, each in
-- ten-thousandths, of one half-sample.
-- A point is a 72nd of an inch, and a half-sample half of an inch cut by the resolution
abbrev pub half_sample : ℕ
half_sample = 3600000000

-- the samples of a side
abbrev pub most_side : ℕ
most_side = 16384

-- the samples of a side of a sheet
abbrev pub most_sheet_side : ℕ
most_sheet_side = 262144

-- the samples of all plates of a page together
abbrev pub most_samples : ℕ
most_samples = 160000000

-- the greatest sample that two bytes hold
abbrev pub most_maxval : ℕ
most_maxval = 65535

-- the plates of a page
abbrev pub most_plates : ℕ
most_plates = 16

-- the bytes of a colorant's name
abbrev pub longest_name : ℕ
longest_name = 64

-- zone 0 and the zones that a job makes
abbrev pub most_zones : ℕ
most_zones = 251

-- the zones that a job makes
abbrev pub most_job_zones : ℕ
most_job_zones = 250

-- the vertices of one path
abbrev pub most_vertices : ℕ
most_vertices = 4096

-- the vertices of all zones together
abbrev pub most_vertices_in_all : ℕ
most_vertices_in_all = 16384

-- a million points in ten-thousandths: how far from the origin a vertex may stand
abbrev pub most_coordinate : ℕ
most_coordinate = 10000000000

-- pixels per inch
abbrev pub most_resolution : ℕ
most_resolution = 10000

-- how far a trap may reach, in half-samples
abbrev pub most_reach : ℕ
most_reach = 256

-- the code of a column's answer that stands level with the row: codes are offsets in half-samples
-- plus this, and 0 is the code of no answer
abbrev pub level_code : ℕ
level_code = 257

-- the rows of a band
abbrev pub most_band_height : ℕ
most_band_height = 4096

-- the greatest doubled column: that of the last sample of the widest row, 2 * (most_side - 1)
abbrev pub most_column : ℕ
most_column = 32766

-- a neutral density of 0.001, and one of 10, in ten-thousandths
abbrev pub least_ink_density : ℕ
least_ink_density = 10

abbrev pub most_ink_density : ℕ
most_ink_density = 100000

-- a hundred points, in ten-thousandths
abbrev pub most_trap_width : ℕ
most_trap_width = 1000000

-- the greatest factor of the width at black edges, 10 in ten-thousandths
abbrev pub most_black_width : ℕ
most_black_width = 100000

-- the workers of a page
abbrev pub most_workers : ℕ
most_workers = 64
