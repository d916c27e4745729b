-- no_tints: an empty list of tints for each plate.
use Rattle.std.proofs.Common.{◌≡◌, ℕ, ◌*◌, [], ◌∷◌, ◌++◌, List, length, ap, ◌∙◌, arith}
use Rattle.std.specs.Prelude.{slice_index_or}
use Rattle.std.proofs.lemmas.List.{length-append}
use Rattle.lists.specs.Words.{list_below}
use Rattle.page_model.specs.Page.{sample_at, width}
use Rattle.page_model.specs.Tints.{new}
use Rattle.sheet_files.proofs.Extending.{empty_push}
use Rattle.sheet_files.proofs.whole.no_tints.Goals as goal

pub loop-init : goal.loop-init
loop-init c = record { long = ap length c.new-out.ensures; each = λ k. ap (λ (xs : List (List ℕ)). slice_index_or xs k []) c.new-out.ensures }

pub loop-preserved : goal.loop-preserved
loop-preserved c =
    let e : c.push.new.list ≡ c.loop.out ++ [] ∷ [] = c.in_ok-push.ensures ∙ ap (λ (x : List ℕ). c.loop.out ++ x ∷ []) c.new.ensures in
    record {
      long = (let a = ap length e in let b = length-append c.loop.out ([] ∷ []) in let d = c.loop.invariant.long in omega (arith, a, b, d));
      each = λ k. ap (λ (xs : List (List ℕ)). slice_index_or xs k []) e ∙ empty_push c.loop.out c.loop.invariant.each k;
    }

pub returns : goal.returns
returns c = record {
  count = (let a = c.loop.invariant.long in let b = c.plates-end.ensures.value in let d = c.loop-test.false in let e = c.loop.auto.counter-end in omega (arith, a, b, d, e));
  each = λ k l. c.loop.invariant.each k ∙ (let z : 0 ≡ 0 * width c.args.sheet.now = omega arith in ap (list_below (λ i. new c.args.sheet.now (sample_at c.args.sheet.now i) k)) z);
}
