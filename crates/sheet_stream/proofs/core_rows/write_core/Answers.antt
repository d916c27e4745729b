-- write_core: writes the rows of the core of the strip that was trapped in the room last, each
-- plate by the rack of its number: as many rows of all plates at once as there is room for.
use Rattle.std.proofs.lemmas.Result.{err_from_is_err_and}
use Rattle.std.proofs.lemmas.Grind.{common_steps}
use Rattle.std.proofs.Common.{◌≡◌, ℕ, ◌+◌, ◌*◌, ◌≤◌, List, ◌++◌, drop, length, map, length-append, length-drop, length-take, Err, sym, subst, arith}
use Rattle.std.specs.List.{All}
use Rattle.page_model.specs.Page.{maxval, plates, width}
use Rattle.plate_rows.specs.Images.{HaveWritten, WritesNext, part_at}
use Rattle.sheet_stream.specs.Cores.{core_rows_of}
use Rattle.sheet_stream.proofs.RowLemmas.{core_stops, line_fits, none_written, open_on, rows_inside, rows_written}
use Rattle.sheet_stream.proofs.SheetTints.{row_fits}
use Rattle.sheet_stream.proofs.core_rows.write_core.Goals as goal

pub loop-k-init : goal.loop-k-init
loop-k-init g c = record {
  inside = omega arith;
  line_long = omega arith;
  workspace_left = c.requires.bytes;
  racks_same = omega arith;
  are_open = c.requires.open;
  written = λ names tints start have. none_written names c.args.header (plates c.args.strip.now) c.args.strip.now c.args.cut.now tints start (map g.R.Rack.state c.args.racks.now) have;
}

pub write_next-requires-clause-fits : goal.write_next-requires-clause-fits
write_next-requires-clause-fits g c =
    let strip = c.args.strip.now in
    let cut = c.args.cut.now in
    let k : ℕ = c.loop-k.k in
    let n : ℕ = c.rows_at_once-n.result in
    let each : ℕ = n * width strip in
    let line : List ℕ = c.put_rows.new.line in
    let valid = c.width-valid.ensures.valid.ranges in
    let test = c.loop-k-test.true in
    let few = c.rows_at_once-n.ensures.few in
    let inside = rows_inside strip cut c.args.workspace.now k n c.requires.cut (omega (arith, test, few)) in
    let fit : n * (plates strip * width strip) ≤ length c.loop-k.line = rw (c.width-wide.ensures.value, c.plates-count.ensures.value) at c.rows_at_once-n.ensures.fits in
    let here : c.plates-count.result * (n * c.width-wide.result) ≡ plates strip * each = (λ i. c.plates-count.ensures.value i * (n * c.width-wide.ensures.value i)) in
    let part = length-take (c.plates-count.result * (n * c.width-wide.result)) c.loop-k.line in
    let same = c.put_rows.ensures.long in
    let long : length line ≡ plates strip * each = omega (arith, fit, here, part, same) in
    let fits : All (λ (t : ℕ). t ≤ maxval strip) line =
    line_fits (maxval strip) each (plates strip) line long
    (λ j l. subst (λ (rows : List ℕ). All (λ (t : ℕ). t ≤ maxval strip) rows) (sym (c.put_rows.ensures.rows j l)) (row_fits strip valid j ((cut.row.skip + k) * width strip) each l inside)) in
    subst (λ (m : ℕ). All (λ (t : ℕ). t ≤ m) line) (sym c.requires.maxval) fits

pub returns-in_err-write_next : goal.returns-in_err-write_next
returns-in_err-write_next g c =
    let p = err_from_is_err_and c.from_residual.result c.from_residual.ensures.1 in
    rw (p.1, p.2) (
    let strip = c.args.strip.now in
    let cut = c.args.cut.now in
    let n : ℕ = c.rows_at_once-n.result in
    let line : List ℕ = c.put_rows.new.line in
    let a = map g.R.Rack.state c.loop-k.racks in
    let b = map g.R.Rack.state c.write_next.new.racks in
    let test = c.loop-k-test.true in
    let few = c.rows_at_once-n.ensures.few in
    let writes = subst (λ (m : ℕ). WritesNext m c.args.header (part_at (n * width strip) line) a b (Err c.in_err-write_next.field-0.0)) c.plates-count.ensures.value (subst (λ (w : ℕ). WritesNext c.plates-count.result c.args.header (part_at (n * w) line) a b (Err c.in_err-write_next.field-0.0)) c.width-wide.ensures.value c.in_err-write_next.ensures) in
    core_stops (plates strip) c.args.header strip cut c.loop-k.k n line (map g.R.Rack.state c.args.racks.now) a b c.in_err-write_next.field-0.0 c.rows_at_once-n.ensures.some (omega (arith, test, few)) c.loop-k.invariant.written c.put_rows.ensures.rows writes
    )

pub loop-k-preserved : goal.loop-k-preserved
loop-k-preserved g c =
    let strip = c.args.strip.now in
    let cut = c.args.cut.now in
    let n : ℕ = c.rows_at_once-n.result in
    let a = map g.R.Rack.state c.loop-k.racks in
    let b = map g.R.Rack.state c.write_next.new.racks in
    let line : List ℕ = c.put_rows.new.line in
    let rest : List ℕ = drop (c.plates-count.result * (n * c.width-wide.result)) c.loop-k.line in
    let test = c.loop-k-test.true in
    let few = c.rows_at_once-n.ensures.few in
    let writes = rw (c.width-wide.ensures.value, c.plates-count.ensures.value) at c.in_ok-write_next.ensures in
    record {
      inside = omega (arith, test, few);
      line_long = (let fit = c.rows_at_once-n.ensures.fits in
          let size : ℕ = c.plates-count.result * (n * c.width-wide.result) in
          let all : size ≤ length c.loop-k.line = omega (arith, fit) in
          let both = length-append line rest in
          let kept = c.put_rows.ensures.long in
          let part = length-take size c.loop-k.line in
          let left = length-drop size c.loop-k.line in
          let before = c.loop-k.invariant.line_long in
          omega (arith, all, both, kept, part, left, before));
      workspace_left = (let same = c.write_next.auto.bytes in let before = c.loop-k.invariant.workspace_left in omega (arith, same, before));
      racks_same = (let same = c.write_next.auto.racks in let before = c.loop-k.invariant.racks_same in omega (arith, same, before));
      are_open = open_on (plates strip) c.args.header (part_at (n * width strip) line) a b c.loop-k.invariant.are_open writes;
      written = λ names tints start have. rows_written names c.args.header (plates strip) strip cut tints start c.loop-k.k n line a b (c.loop-k.invariant.written names tints start have) c.put_rows.ensures.rows writes;
    }

pub returns : goal.returns
returns g c names tints start have =
    let strip = c.args.strip.now in
    let end : c.loop-k.k ≡ c.args.cut.now.row.core = (let inside = c.loop-k.invariant.inside in omega (arith, inside)) in
    subst (λ (n : ℕ). HaveWritten names c.args.header (plates strip) (λ j. tints j ++ core_rows_of strip c.args.cut.now n j) start (map g.R.Rack.state c.loop-k.racks)) end (c.loop-k.invariant.written names tints start have)

pub put_rows-requires-clause-line : goal.put_rows-requires-clause-line
put_rows-requires-clause-line g c =
    let strip = c.args.strip.now in
    let n : ℕ = c.rows_at_once-n.result in
    let fit : n * (plates strip * width strip) ≤ length c.loop-k.line = rw (c.width-wide.ensures.value, c.plates-count.ensures.value) at c.rows_at_once-n.ensures.fits in
    let here : c.plates-count.result * (n * c.width-wide.result) ≡ plates strip * (n * width strip) = (λ i. c.plates-count.ensures.value i * (n * c.width-wide.ensures.value i)) in
    let part = length-take (c.plates-count.result * (n * c.width-wide.result)) c.loop-k.line in
    omega (arith, fit, here, part)

pub put_rows-requires-clause-rows : goal.put_rows-requires-clause-rows
put_rows-requires-clause-rows g c = (let test = c.loop-k-test.true in let few = c.rows_at_once-n.ensures.few in omega (arith, test, few))

pub rows_at_once-n-requires-clause-workspace : goal.rows_at_once-n-requires-clause-workspace
rows_at_once-n-requires-clause-workspace g c = rw (c.plates-count.ensures.value, c.width-wide.ensures.value) (let long = c.loop-k.invariant.line_long in let workspace = c.requires.line in omega (arith, long, workspace))

pub overflow_mul-each : goal.overflow_mul-each
overflow_mul-each g c = grind (arith, common_steps)

pub rows_at_once-n-requires-clause-some : goal.rows_at_once-n-requires-clause-some
rows_at_once-n-requires-clause-some g c = grind (arith, common_steps)

pub write_next-requires-clause-tints : goal.write_next-requires-clause-tints
write_next-requires-clause-tints g c = grind (arith, common_steps)

pub write_next-requires-clause-maxval : goal.write_next-requires-clause-maxval
write_next-requires-clause-maxval g c = grind (arith, common_steps)

pub slice_bounds-rows-end-in-loop-k : goal.slice_bounds-rows-end-in-loop-k
slice_bounds-rows-end-in-loop-k g c = grind (arith, common_steps)

pub loop-k-smaller : goal.loop-k-smaller
loop-k-smaller g c = grind (arith, common_steps)

pub write_next-requires-clause-open : goal.write_next-requires-clause-open
write_next-requires-clause-open g c = grind (arith, common_steps)
