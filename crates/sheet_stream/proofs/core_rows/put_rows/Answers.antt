-- put_rows: puts n rows of the core of the strip that was trapped in the room last in `line`, from
-- row k on.
use Rattle.std.proofs.lemmas.Grind.{common_steps}
use Rattle.std.proofs.Common.{◌≡◌, ℕ, ◌+◌, ◌*◌, ◌<◌, ◌≤◌, List, ◌++◌, drop, length, take, inl, inr, sym, ap, ◌∙◌, subst, arith}
use Rattle.std.proofs.Math.Nat.{mul-le-mul}
use Rattle.std.proofs.lemmas.Bool.{cases_eq}
use Rattle.page_model.specs.Page.{plates, width}
use Rattle.plate_rows.specs.Images.{part_at}
use Rattle.sheet_stream.specs.Cores.{core_span_of}
use Rattle.sheet_stream.proofs.RowLemmas.{part_new, part_put, put_long, span_long}
use Rattle.sheet_stream.proofs.core_rows.put_rows.Goals as goal

pub put_plate-requires-clause-workspace : goal.put_plate-requires-clause-workspace
put_plate-requires-clause-workspace c =
    let strip = c.args.strip.now in
    let each : ℕ = c.args.n * width strip in
    let next : (c.loop-c.c + 1) * each ≤ plates strip * each = mul-le-mul (let t = c.loop-c-test.true in let e = c.plates-c-end.ensures.value in omega (arith, t, e)) (omega arith) in
    let w = c.width-wide.ensures.value in
    let here : c.loop-c.c * (c.args.n * c.width-wide.result) ≡ c.loop-c.c * each = ap (λ (n : ℕ). c.loop-c.c * (c.args.n * n)) w in
    (let long = c.loop-c.invariant.long in let line = c.requires.line in omega (arith, next, long, line, here))

pub loop-c-preserved : goal.loop-c-preserved
loop-c-preserved c =
    let strip = c.args.strip.now in
    let cut = c.args.cut.now in
    let n : ℕ = c.args.n in
    let each : ℕ = n * width strip in
    let at : ℕ = c.loop-c.c in
    let line : List ℕ = c.loop-c.line in
    let rows : List ℕ = core_span_of strip cut c.args.k n at in
    let here : at * (n * c.width-wide.result) ≡ at * each = ap (λ (w : ℕ). at * (n * w)) c.width-wide.ensures.value in
    let next : (at + 1) * each ≤ plates strip * each = mul-le-mul (let t = c.loop-c-test.true in let e = c.plates-c-end.ensures.value in omega (arith, t, e)) (omega arith) in
    let workspace : at * each + each ≤ length line = (let long = c.loop-c.invariant.long in let all = c.requires.line in omega (arith, next, long, all)) in
    let put : c.put_plate.new.line ≡ take (at * each) line ++ (rows ++ drop (at * each + each) line) = c.put_plate.ensures ∙ ap (λ (k : ℕ). take k line ++ (rows ++ drop (k + each) line)) here in
    let long = span_long strip cut c.args.k n at in
    record {
      end = c.loop-c.invariant.end;
      long = put_long each at line rows c.put_plate.new.line long workspace put ∙ c.loop-c.invariant.long;
      done = λ j l. elim (cases_eq j at) [
        | inl same ↦ subst (λ (p : ℕ). part_at each c.put_plate.new.line p ≡ core_span_of strip cut c.args.k n p) (sym same) (part_new each at line rows c.put_plate.new.line long workspace put)
        | inr other ↦ (let less : j < at = omega (arith, l, other) in part_put each at j line rows c.put_plate.new.line long workspace put less ∙ c.loop-c.invariant.done j less)
      ];
    }

pub overflow_mul-c : goal.overflow_mul-c
overflow_mul-c c = grind (arith, common_steps)
