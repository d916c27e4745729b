-- trap_rows: traps these rows, whose column answers these are.
use Rattle.std.proofs.Common.{◌≡◌, ℕ, ◌+◌, arith, subst, ◌-◌, ◌*◌, ◌<◌, ◌≤◌, ◌∙◌, ap, sym, slice_index, refl}
use Rattle.std.proofs.lemmas.Grind.{common_steps}
use Rattle.strip_engine.specs.Taken.{IsTaken}
use Rattle.std.proofs.Math.Nat.{mul-le-mul}
use Rattle.strip_engine.proofs.strips.trap_rows.Goals as goal

row_inside : (k count wide d n : ℕ) → k < count → wide ≡ d → n ≡ count * d → (k + 1) * wide ≤ n
row_inside k count wide d n less same long = rw (same, long) (mul-le-mul (omega arith) (omega arith))

pub returns-clause-outcome : goal.returns-clause-outcome
returns-clause-outcome c = subst (λ (n : ℕ). IsTaken c.args.page.now (c.args.rows.first + n) c.args.counted c.loop-k.outcome) (let all : c.loop-k.k ≡ c.args.rows.count = omega (arith, c.loop-k-test.false, c.loop-k.invariant.end) in all) c.loop-k.invariant.outcome

pub trap_row-requires-clause-codes : goal.trap_row-requires-clause-codes
trap_row-requires-clause-codes c =
    let same = ap (λ (w : ℕ). 2 * w - 1) c.width.ensures.value in
    record {
      len = c.row_of-answers.ensures.len ∙ same;
      each = λ x l. c.row_of-answers.ensures.each x (subst (λ (n : ℕ). x < n) (sym same) l)
          ∙ ap (λ (w : ℕ). slice_index c.args.codes.now (c.loop-k.k * (2 * w - 1) + x)) c.width.ensures.value
          ∙ c.requires.codes.each c.loop-k.k x c.loop-k-test.true l;
    }

pub loop-k-preserved : goal.loop-k-preserved
loop-k-preserved c = grind (arith, common_steps)

pub row_of-answers-requires-clause-inside : goal.row_of-answers-requires-clause-inside
row_of-answers-requires-clause-inside c = row_inside c.loop-k.k c.args.rows.count _ _ _ c.loop-k-test.true (ap (λ (w : ℕ). 2 * w - 1) c.width.ensures.value) c.requires.codes.long

pub loop-k-init : goal.loop-k-init
loop-k-init c = record {
  end = refl;
  buffers = c.requires.buffers;
  workspace = refl;
  outcome = subst (λ (n : ℕ). IsTaken c.args.page.now n c.args.counted c.args.outcome.now) (let same : c.args.rows.first ≡ c.args.rows.first + 0 = omega arith in same) c.requires.outcome;
}

pub trap_row-requires-clause-outcome : goal.trap_row-requires-clause-outcome
trap_row-requires-clause-outcome c = grind (arith, common_steps)
