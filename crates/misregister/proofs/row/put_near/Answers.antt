-- put_near: puts the value in each place of a row that some sample without ink is near.
use Rattle.std.proofs.Common.{ℕ, ◌+◌, Bool, nat_lt, length, slice_index, ap, ◌∙◌, inl, inr, arith, if◌then◌else◌}
use Rattle.std.proofs.lemmas.Bool.{cases_lt}
use Rattle.misregister.specs.Sweep.{is_clear}
use Rattle.misregister.proofs.WindowLemmas.{window-is}
use Rattle.misregister.proofs.row.put_near.Goals as goal

pub returns : goal.returns
returns c = λ x l.
    (let row = c.args.row.now in
    let lead = c.min-lead.result in
    let older = slice_index c.args.until.now x in
    elim (cases_lt (x + lead) (length row)) [
      | inl ahead ↦ c.put_last.ensures.kept x (omega arith) ∙ c.put_ahead-reach.ensures.put x ahead
          ∙ ap (λ (b : Bool). if b then c.args.value else older) (window-is (is_clear row) c.args.radius (length row) x (x + lead + 1) (omega arith))
      | inr last ↦ c.put_last.ensures.put x (omega arith) (omega arith)
          ∙ ap (λ (u : ℕ). if nat_lt x c.put_ahead-reach.result then c.args.value else u) (c.put_ahead-reach.ensures.kept x last)
          ∙ ap (λ (b : Bool). if b then c.args.value else older) (ap (nat_lt x) c.put_ahead-reach.ensures.reach ∙ window-is (is_clear row) c.args.radius (length row) x (length row) (omega arith))
    ])
