-- The loops of slow_deciders: the decider of each sample.
use Rattle.std.proofs.Common.{◌≡◌, All, length}
use Rattle.std.specs.Option.{ForSome}
use Rattle.page_model.specs.Edges.{IsEdge}
use Rattle.page_model.specs.Page.{samples}
use Rattle.engine_tests.proofs.slow_traps.slow_deciders.Given as goal

abbrev pub invariant-loop-k : goal.invariant-loop-k
invariant-loop-k g l = record {
  end : l.k-end ≡ samples l.page;
  count : length l.deciders ≡ l.k;
  edges : All (λ decider. ForSome decider (IsEdge l.page)) l.deciders;
}
