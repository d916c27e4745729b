-- Several racks, of which each writes the file of one plate.
use Rattle.std.specs.Prelude.{ℕ, false, List, [], None, slice_index_or}
use Rattle.outside.specs.Rack.{RackState}
use Rattle.plate_rows.specs.Each.{EachDoes, StopsAt}

-- stands where there is no rack
abbrev pub no_rack : RackState
no_rack = record {
  tells = false;
  file = λ name. None;
  reported = [];
  is_open = false;
  current = [];
  asked = None;
  finished = None;
  faults = 0;
}

-- rack k
abbrev pub rack_at : List RackState → ℕ → RackState
rack_at racks k = slice_index_or racks k no_rack

-- Each of the first racks does this.
abbrev pub EachRack : ℕ → (ℕ → RackState → RackState → Type 0) → List RackState → List RackState
    → Type 0
EachRack = EachDoes no_rack

-- Rack k stops, and each before it does this.
abbrev pub RackStops : ℕ → ℕ → (ℕ → RackState → RackState → Type 0)
    → (ℕ → RackState → RackState → Type 0) → List RackState → List RackState → Type 0
RackStops = StopsAt no_rack
