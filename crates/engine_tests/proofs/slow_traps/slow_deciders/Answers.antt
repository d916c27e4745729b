-- slow_deciders: the decider of each sample.
use Rattle.std.proofs.Common.{◌∷◌, [], All, List, Option, ap, arith, length, subst, sym}
use Rattle.std.proofs.lemmas.List.{length-append}
use Rattle.std.proofs.lemmas.List.Elements.{All-push}
use Rattle.std.specs.Option.{ForSome}
use Rattle.page_model.specs.declared.parts.EdgeAt.{EdgeAt}
use Rattle.page_model.specs.Edges.{IsEdge}
use Rattle.engine_tests.proofs.slow_traps.slow_deciders.Goals as goal

pub loop-k-preserved : goal.loop-k-preserved
loop-k-preserved g c = record {
  end = c.loop-k.invariant.end;
  count = omega (arith, ap (λ (deciders : List (Option EdgeAt)). length deciders) c.put.ensures, length-append c.loop-k.deciders (c.first_for.result ∷ []), c.loop-k.invariant.count);
  edges = subst (λ (deciders : List (Option EdgeAt)). All (λ decider. ForSome decider (IsEdge c.args.page.now)) deciders) (sym c.put.ensures) (All-push (λ decider. ForSome decider (IsEdge c.args.page.now)) c.loop-k.deciders c.first_for.result c.loop-k.invariant.edges c.first_for.ensures);
}
