-- without_lanes: the cell whose first value is the one that stands after so many lanes of this
-- cell.
use Rattle.std.proofs.Common.{◌≡◌, ℕ, ◌+◌, ◌-◌, ◌*◌, ◌/◌, ◌^◌, ap, ◌∙◌, arith}
use Rattle.band_core.specs.Packing.{lane}
use Rattle.band_core.proofs.Lanes.{lane_after}
use Rattle.band_core.proofs.packing.without_lanes.Goals as goal

pub returns-clause-rest : goal.returns-clause-rest
returns-clause-rest c j =
    let n : ℕ = (c.args.cell - 1) / 2 ^ (c.args.bits * c.args.skip) in let e : 1 + n - 1 ≡ n = omega arith in
    ap (λ (k : ℕ). lane c.args.bits k j) e ∙ lane_after c.args.bits (c.args.cell - 1) c.args.skip j
