-- scratches_of: the memory of so many workers.
use Rattle.std.proofs.Common.{◌≡◌, ◌∙◌, ◌∷◌, ◌++◌, [], Bool, ap, arith, if◌then◌else◌, length}
use Rattle.std.proofs.lemmas.List.{length-append}
use Rattle.page_model.specs.Page.{plates, width}
use Rattle.trap_engine.proofs.WorkspaceLemmas.{one_more_laid}
use Rattle.trap_engine.proofs.workspace.scratches_of.Goals as goal

pub loop-alloc-preserved : goal.loop-alloc-preserved
loop-alloc-preserved c =
    let one = c.in_ok-scratch.scratch in
    let grown : c.push.new.self.items ≡ c.loop-alloc.scratches.items ++ one ∷ [] = c.push.ensures.items ∙ ap (λ (b : Bool). if b then c.loop-alloc.scratches.items ++ one ∷ [] else c.loop-alloc.scratches.items) c.if-is_err.ensures.negation in
    record {
      made = rw grown (one_more_laid c.loop-alloc.scratches.items one c.args.bands.now (width c.args.page.now) (plates c.args.page.now) c.loop-alloc.invariant.made c.in_ok-scratch.ensures);
      few = omega (arith, ap length grown, length-append c.loop-alloc.scratches.items (one ∷ []), c.push.new.self.ok, c.loop-alloc.scratches.ok, c.loop-alloc-test.true, c.len.ensures);
    }
