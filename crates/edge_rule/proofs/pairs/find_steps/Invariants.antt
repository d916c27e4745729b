-- The loops of find_steps: finds at which pairs some plate falls by a step, and at which some plate
-- rises by one.
use Rattle.std.proofs.Common.{◌≡◌, ◌<◌, ℕ, false, length, slice_index_or}
use Rattle.edge_rule.specs.Pairs.{along}
use Rattle.page_model.specs.Apart.{falls}
use Rattle.page_model.specs.Page.{plates}
use Rattle.lists.specs.Words.{any_below}
use Rattle.edge_rule.proofs.pairs.find_steps.Given as goal

abbrev pub invariant-loop-c : goal.invariant-loop-c
invariant-loop-c l = record {
  end : l.c-end ≡ plates l.page;
  fallen_len : length l.fallen ≡ length l.fn.fallen;
  risen_len : length l.risen ≡ length l.fn.fallen;
  fallen : (k : ℕ) → k < length l.fn.fallen → slice_index_or l.fallen k false ≡ any_below (falls l.page l.zone (along l.p k) (along l.q k)) l.c;
  risen : (k : ℕ) → k < length l.fn.fallen → slice_index_or l.risen k false ≡ any_below (falls l.page l.zone (along l.q k) (along l.p k)) l.c;
}
