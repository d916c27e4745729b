-- scratches: the memory of so many workers.
use Rattle.std.proofs.Common.{◌≡◌, ℕ, List, [], ◌∷◌, ◌++◌, length, All, sym, ap, subst, arith, length-append}
use Rattle.std.specs.Prelude.{slice_index_or}
use Rattle.std.proofs.lemmas.List.Elements.{All-append}
use Rattle.page_model.specs.Page.{plates, width}
use Rattle.band_core.specs.Layouts.{Layout}
use Rattle.band_pieces.specs.Workspace.{Memory}
use Rattle.band_tests.proofs.made.scratches.Goals as goal

one : (want : Layout) (x : Memory) → x.layout ≡ want → All (λ (z : Memory). z.layout ≡ want) (x ∷ [])
one want x e k d l = subst (λ (i : ℕ). (slice_index_or (x ∷ []) i d).layout ≡ want) (let z : 0 ≡ k = omega (arith, l) in z) e

more : (want : Layout) (x : Memory) (xs ys : List Memory) → ys ≡ xs ++ x ∷ [] → x.layout ≡ want → All (λ (z : Memory). z.layout ≡ want) xs → All (λ (z : Memory). z.layout ≡ want) ys
more want x xs ys e is all = subst (All (λ (z : Memory). z.layout ≡ want)) (sym e) (All-append (λ (z : Memory). z.layout ≡ want) xs (x ∷ []) all (one want x is))

pub loop-k-preserved : goal.loop-k-preserved
loop-k-preserved c =
    let e = c.in_ok-push.ensures in let want : Layout = record { bands = c.args.bands.now; width = width c.args.page.now; plates = plates c.args.page.now } in
    let added = length-append c.loop-k.all (c.in_ok-new.field-0 ∷ []) in
    record {
      count = omega (arith, ap length e, added, c.loop-k.invariant.count);
      layout = more want c.in_ok-new.field-0 c.loop-k.all c.push.new.list e c.in_ok-new.ensures c.loop-k.invariant.layout;
    }
