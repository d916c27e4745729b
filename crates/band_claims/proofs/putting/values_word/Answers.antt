-- What `values_word` has to show.
use Rattle.std.proofs.lemmas.Grind.{common_steps}
use Rattle.std.proofs.Common.{ℕ, List, ◌∙◌, arith}
use Rattle.band_core.proofs.Numbers.{as_many}
use Rattle.band_claims.proofs.Cutting.{AreCellValues, packs, small}
use Rattle.band_claims.proofs.putting.values_word.Goals as goal

pub cut_of-cut-requires-clause-total : goal.cut_of-cut-requires-clause-total
cut_of-cut-requires-clause-total g c = omega (arith, c.requires.values.long, as_many g.met.V.CellValue.each c.args.values.now)

pub part_of-requires : goal.part_of-requires
part_of-requires g c = let cut = c.cut_of-cut.ensures in omega (arith, cut.inside, cut.few, c.requires.values.long, as_many g.met.V.CellValue.each c.args.values.now)

pub pack-requires-clause-small : goal.pack-requires-clause-small
pack-requires-clause-small g c k d l =
    let cut = c.cut_of-cut.ensures in let made = c.cut_of-cut.result in let all : List ℕ = g.V.CellValue.numbers c.args.values.now in let here : List ℕ = g.V.CellValue.numbers c.part_of.result.now in
    let are : AreCellValues c.args.table_key.now c.args.piece c.args.o c.args.phase made.first made.count all here = record { piece = c.requires.piece; cell = c.requires.cell; cut = cut; all = c.requires.values; long = as_many g.met.V.CellValue.each c.part_of.result.now ∙ c.part_of.ensures.len; each = (λ q m. c.part_of.ensures.each q (omega (arith, m, as_many g.met.V.CellValue.each c.part_of.result.now, c.part_of.ensures.len))) } in
    small c.args.table_key.now c.requires.fit c.args.piece c.args.o c.args.phase made.first made.count c.bits.result all here are c.bits.ensures.value k d l

pub returns : goal.returns
returns g c =
    let cut = c.cut_of-cut.ensures in let made = c.cut_of-cut.result in let all : List ℕ = g.V.CellValue.numbers c.args.values.now in let here : List ℕ = g.V.CellValue.numbers c.part_of.result.now in
    let are : AreCellValues c.args.table_key.now c.args.piece c.args.o c.args.phase made.first made.count all here = record { piece = c.requires.piece; cell = c.requires.cell; cut = cut; all = c.requires.values; long = as_many g.met.V.CellValue.each c.part_of.result.now ∙ c.part_of.ensures.len; each = (λ q m. c.part_of.ensures.each q (omega (arith, m, as_many g.met.V.CellValue.each c.part_of.result.now, c.part_of.ensures.len))) } in
    c.pack.ensures ∙ packs c.args.table_key.now c.args.piece c.args.o c.args.phase made.first made.count c.bits.result all here are c.bits.ensures.value

pub pack-requires-clause-few : goal.pack-requires-clause-few
pack-requires-clause-few g c = grind (arith, common_steps)
