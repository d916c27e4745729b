-- unpack_at: unpacks the first values of a cell to a place.
use Rattle.std.proofs.Common.{ℕ, List, take, slice_index, ap, ◌∙◌, arith, length-take}
use Rattle.std.proofs.lemmas.List.{get_or_append_left, get_or-take}
use Rattle.band_core.proofs.Numbers.{as_many, part_written}
use Rattle.band_pieces.proofs.reading.unpack_at.Goals as goal

pub returns-clause-kept : goal.returns-clause-kept
returns-clause-kept g c k l =
    let met = g.met.V.CellValue.each in let place : ℕ = c.args.place in let before : List ℕ = g.V.CellValue.numbers c.args.out.now in
    ap (λ (ns : List ℕ). slice_index ns k) (part_written met c.args.out.now c.unpack.new.out place _)
    ∙ (get_or_append_left (take place before) _ 0 k (omega (arith, l, length-take place before, as_many met c.args.out.now, c.requires.out)) ∙ get_or-take place before k 0 l)
