-- read_next: unpacks the first values of a run, of which there are some, and gives how many.
use Rattle.std.proofs.Common.{◌≡◌, ℕ, ◌*◌, ◌/◌, sym, ap, ◌∙◌, arith}
use Rattle.std.proofs.lemmas.Grind.{common_steps}
use Rattle.page_model.specs.declared.bands.Bands.{Bands}
use Rattle.page_model.specs.Bands.{phase_of}
use Rattle.band_core.specs.Places.{lanes_of, value_total}
use Rattle.band_core.specs.Values.{value}
use Rattle.band_claims.proofs.Cutting.{few_values}
use Rattle.band_claims.specs.declared.table_key.TableKey.{TableKey}
use Rattle.band_pieces.proofs.Runs.{begins_at, whole_cells}
use Rattle.band_pieces.proofs.reading.read_next.Goals as goal

pub read_whole-requires-clause-inside : goal.read_whole-requires-clause-inside
read_whole-requires-clause-inside g c =
    let run = c.args.run in let layout = c.args.layout.now in
    let w = whole_cells run.from run.count c.lanes-lanes.result (value_total layout run.piece) c.lanes-lanes.ensures.some (omega arith) c.requires.inside in
    rw (sym c.lanes-lanes.ensures.value) w.inside

pub overflow_cast-cells : goal.overflow_cast-cells
overflow_cast-cells g c =
    let run = c.args.run in let layout = c.args.layout.now in
    let w = whole_cells run.from run.count c.lanes-lanes.result (value_total layout run.piece) c.lanes-lanes.ensures.some c.if-lane-eq0.true c.requires.inside in
    omega (arith, w.fewer, c.requires.inside, few_values layout run.piece c.bands.ensures.valid)

pub returns-then-whole-gt0-clause-here : goal.returns-then-whole-gt0-clause-here
returns-then-whole-gt0-clause-here g c j l =
    let run = c.args.run in let layout = c.args.layout.now in let n : ℕ = c.lanes-lanes.result in let same = c.lanes-lanes.ensures.value in
    let key : TableKey = g.C.CellSource.table_key c.args.source.now c.args.seat.now in
    let w = whole_cells run.from run.count n (value_total layout run.piece) c.lanes-lanes.ensures.some c.if-lane-eq0.true c.requires.inside in
    c.read_whole.ensures.here j (omega (arith, l, ap (λ (z : ℕ). run.count / n * z) same))
    ∙ ap (λ (z : ℕ). value key.page.value layout run.piece z) (omega (arith, w.begins, ap (λ (z : ℕ). run.from / n * z) same))

pub returns-clause-here : goal.returns-clause-here
returns-clause-here g c j l =
    let run = c.args.run in let layout = c.args.layout.now in let n : ℕ = c.lanes-lanes.result in
    let key : TableKey = g.C.CellSource.table_key c.args.source.now c.args.seat.now in
    let same : n ≡ lanes_of (phase_of layout.bands run.piece) = c.lanes-lanes.ensures.value ∙ ap (λ (z : Bands). lanes_of (phase_of z run.piece)) c.bands.ensures.value in
    c.read_part.ensures.here j l ∙ ap (λ (z : ℕ). value key.page.value layout run.piece z) (omega (arith, begins_at run.from n c.lanes-lanes.ensures.some, ap (λ (z : ℕ). run.from / n * z) same))

pub read_whole-requires-clause-out : goal.read_whole-requires-clause-out
read_whole-requires-clause-out g c = grind (arith, common_steps)

pub overflow_mul-result : goal.overflow_mul-result
overflow_mul-result g c = grind (arith, common_steps)

pub overflow_cast-result : goal.overflow_cast-result
overflow_cast-result g c = grind (arith, common_steps)

pub returns-then-whole-gt0-clause-some : goal.returns-then-whole-gt0-clause-some
returns-then-whole-gt0-clause-some g c = grind (arith, common_steps)

pub returns-then-whole-gt0-clause-few : goal.returns-then-whole-gt0-clause-few
returns-then-whole-gt0-clause-few g c = grind (arith, common_steps)

pub read_part-requires-clause-few : goal.read_part-requires-clause-few
read_part-requires-clause-few g c = grind (arith, common_steps)

pub read_part-requires-clause-inside : goal.read_part-requires-clause-inside
read_part-requires-clause-inside g c = grind (arith, common_steps)

pub read_part-requires-clause-out : goal.read_part-requires-clause-out
read_part-requires-clause-out g c = grind (arith, common_steps)

pub returns-then-whole-gt0-clause-kept : goal.returns-then-whole-gt0-clause-kept
returns-then-whole-gt0-clause-kept g c = grind (arith, common_steps)

pub read_whole-requires-clause-phase : goal.read_whole-requires-clause-phase
read_whole-requires-clause-phase g c = grind (arith, common_steps)

pub read_part-requires-clause-fits : goal.read_part-requires-clause-fits
read_part-requires-clause-fits g c = grind (arith, common_steps)

pub read_part-requires-clause-bits : goal.read_part-requires-clause-bits
read_part-requires-clause-bits g c = grind (arith, common_steps)

pub read_whole-requires-clause-fits : goal.read_whole-requires-clause-fits
read_whole-requires-clause-fits g c = grind (arith, common_steps)

pub returns-clause-kept : goal.returns-clause-kept
returns-clause-kept g c = grind (arith, common_steps)
