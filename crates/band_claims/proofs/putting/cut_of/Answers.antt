-- What `cut_of` has to show.
use Rattle.std.proofs.Common.{ℕ, ◌*◌, ap, ◌∙◌, arith}
use Rattle.band_core.specs.Places.{lanes_of}
use Rattle.band_claims.proofs.Cutting.{cell_at}
use Rattle.band_claims.proofs.putting.cut_of.Goals as goal

pub overflow_mul-first : goal.overflow_mul-first
overflow_mul-first c =
    let layout = c.args.table_key.now.layout in let n : ℕ = c.lanes-per_cell.result in
    let t = cell_at layout c.args.piece c.args.o n c.requires.fit.made c.requires.cell (c.lanes-per_cell.ensures.value ∙ ap lanes_of c.requires.phase) in
    omega (arith, t.0, t.1)

pub overflow_sub-total : goal.overflow_sub-total
overflow_sub-total c =
    let layout = c.args.table_key.now.layout in let n : ℕ = c.lanes-per_cell.result in
    let t = cell_at layout c.args.piece c.args.o n c.requires.fit.made c.requires.cell (c.lanes-per_cell.ensures.value ∙ ap lanes_of c.requires.phase) in
    omega (arith, t.0, c.requires.total)

pub returns : goal.returns
returns c =
    let layout = c.args.table_key.now.layout in let n : ℕ = c.lanes-per_cell.result in
    let t = cell_at layout c.args.piece c.args.o n c.requires.fit.made c.requires.cell (c.lanes-per_cell.ensures.value ∙ ap lanes_of c.requires.phase) in record {
      same_phase = c.requires.phase;
      begins = ap (λ (z : ℕ). c.args.o * z) c.lanes-per_cell.ensures.value;
      inside = t.0;
      few = omega (arith, c.min.ensures, c.requires.total, c.lanes-per_cell.ensures.value);
      fits = omega (arith, c.min.ensures, c.lanes-per_cell.ensures.few);
    }
