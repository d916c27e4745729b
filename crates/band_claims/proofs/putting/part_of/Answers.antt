-- What `part_of` has to show.
use Rattle.std.proofs.Common.{ℕ, ◌+◌, ◌-◌, List, drop, slice_index, ap, ◌∙◌, arith}
use Rattle.std.proofs.lemmas.List.{get_or-drop, get_or-take}
use Rattle.band_core.proofs.Numbers.{cut_out}
use Rattle.band_claims.proofs.putting.part_of.Goals as goal

pub returns-clause-each : goal.returns-clause-each
returns-clause-each g c l m =
    let all : List ℕ = g.V.CellValue.numbers c.args.values.now in let first : ℕ = c.args.first in let count : ℕ = first + c.args.count - first in
    ap (λ (ns : List ℕ). slice_index ns l) (cut_out g.met.V.CellValue.each c.args.values.now first count) ∙ (get_or-take count (drop first all) l 0 (omega (arith, m)) ∙ get_or-drop first all l 0)
