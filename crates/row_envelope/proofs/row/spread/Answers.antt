-- spread: gives each sample the hull's entry that has it, entry by entry.
use Rattle.std.proofs.Common.{arith, ◌+◌, ◌*◌, ◌<◌, ◌≡◌, slice_index, inl, inr, ◌∙◌}
use Rattle.std.proofs.lemmas.Bool.{cases_lt}
use Rattle.row_envelope.proofs.HullLemmas.{nearest_by_entry}
use Rattle.row_envelope.proofs.row.spread.Goals as goal
use Rattle.row_envelope.proofs.row.spread.Goals.{then-loop-k-test+else-starts-k, else-loop-k-test}

pub end_of-end-requires-clause-begun : goal.end_of-end-requires-clause-begun
end_of-end-requires-clause-begun c = λ l. elim c.loop-k-test.branch [ then-loop-k-test+else-starts-k w ↦ omega arith | else-loop-k-test w ↦ absurd (omega arith) ]

pub loop-x-preserved : goal.loop-x-preserved
loop-x-preserved c = record {
  k = c.loop-k.invariant.k;
  inside = omega (arith, c.end_of-end.ensures.inside, c.loop-x.invariant.out);
  out = c.give.ensures.len ∙ c.loop-x.invariant.out;
  begun = omega (arith, c.loop-k.invariant.begun, c.end_of-end.ensures.some);
  done = λ j l. elim (cases_lt j c.loop-x.x) [
    | inl before ↦ c.give.ensures.before j before ∙ c.loop-x.invariant.done j before
    | inr from ↦ c.give.ensures.here j from l ∙ nearest_by_entry _ _ _ _ _ _ _ c.requires.hull c.loop-k.invariant.k (record { at_start = omega (arith, c.loop-k.invariant.begun, from); before_next = c.end_of-end.ensures.within j l; fits = omega (arith, c.end_of-end.ensures.inside, c.loop-x.invariant.out, c.requires.last, l) })
  ];
}
