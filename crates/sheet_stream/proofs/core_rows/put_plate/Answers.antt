-- put_plate: puts n rows of the core of one plate in a line, from row k on, from there on.
use Rattle.std.proofs.lemmas.Grind.{common_steps}
use Rattle.std.proofs.Common.{◌≡◌, ℕ, ◌+◌, ◌*◌, ◌≤◌, List, ◌++◌, drop, length, take, sym, ap, ◌∙◌, subst, arith}
use Rattle.std.proofs.Math.Nat.{mul-le-mul}
use Rattle.std.proofs.lemmas.List.{take-append-drop}
use Rattle.page_model.specs.Page.{width}
use Rattle.sheet_stream.specs.Cores.{core_row_of, core_span_of}
use Rattle.sheet_stream.proofs.RowLemmas.{row_long, row_put, span_long, span_more, span_none}
use Rattle.sheet_stream.proofs.core_rows.put_plate.Goals as goal

pub loop-i-init : goal.loop-i-init
loop-i-init c =
    let strip = c.args.strip.now in
    let line : List ℕ = c.args.line.now in
    let from : ℕ = c.args.from in
    let none = span_none strip c.args.cut.now c.args.k c.args.c in
    let here : from ≡ from + 0 * width strip = omega arith in
    record { put = sym (take-append-drop from line) ∙ (λ i. take from line ++ (sym none i ++ drop (here i) line)) }

pub loop-i-preserved : goal.loop-i-preserved
loop-i-preserved c =
    let strip = c.args.strip.now in
    let cut = c.args.cut.now in
    let w = width strip in
    let k : ℕ = c.args.k in
    let i : ℕ = c.loop-i.i in
    let plate : ℕ = c.args.c in
    let from : ℕ = c.args.from in
    let line : List ℕ = c.args.line.now in
    let mid : List ℕ = c.loop-i.line in
    let rows : List ℕ = core_span_of strip cut k i plate in
    let row : List ℕ = core_row_of strip cut (k + i) plate in
    let here : from + i * c.width-wide.result ≡ from + i * w = ap (λ (n : ℕ). from + i * n) c.width-wide.ensures.value in
    let put : c.put_row.new.line ≡ take (from + i * w) mid ++ (row ++ drop (from + i * w + w) mid) = c.put_row.ensures ∙ ap (λ (n : ℕ). take n mid ++ (row ++ drop (n + w) mid)) here in
    let next : (i + 1) * w ≤ c.args.n * w = mul-le-mul (let t = c.loop-i-test.true in omega (arith, t)) (omega arith) in
    let workspace : from + (i + 1) * w ≤ length line = (let r = c.requires.workspace in omega (arith, next, r)) in
    record {
      put = row_put from i w line rows row mid c.put_row.new.line (span_long strip cut k i plate) (row_long strip cut (k + i) plate) workspace c.loop-i.invariant.put put
          ∙ ap (λ (t : List ℕ). take from line ++ (t ++ drop (from + (i + 1) * w) line)) (span_more strip cut k i plate);
    }

pub returns : goal.returns
returns c =
    let strip = c.args.strip.now in
    let line : List ℕ = c.args.line.now in
    let from : ℕ = c.args.from in
    let end : c.loop-i.i ≡ c.args.n = omega arith in
    subst (λ (n : ℕ). c.loop-i.line ≡ take from line ++ (core_span_of strip c.args.cut.now c.args.k n c.args.c ++ drop (from + n * width strip) line)) end c.loop-i.invariant.put

pub overflow_add-from : goal.overflow_add-from
overflow_add-from c = grind (arith, common_steps)
