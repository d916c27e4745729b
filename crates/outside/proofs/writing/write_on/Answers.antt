-- write_on: writes a piece at the end of the open file.
use Rattle.std.proofs.lemmas.Result.{err_from_is_err_and}
use Rattle.std.proofs.Common.{rules, IsTrue, take, drop, length, ◌-◌, refl, ◌∙◌, arith}
use Rattle.outside.proofs.Files.{grows_none, grows_more, grows_all}
use Rattle.outside.proofs.Steps.{write_failed}
use Rattle.outside.proofs.writing.write_on.Goals as goal

pub loop-done-init : goal.loop-done-init
loop-done-init g c = record {
  keeps = search rules;
  asked = search rules;
  finished = search rules;
  reported = search rules;
  is_open = search rules;
  current = search rules;
  files = λ tells. grows_none c.args.piece.now (g.R.Rack.state c.args.rack.now);
  well = refl;
  within = search rules;
}

pub loop-done-preserved : goal.loop-done-preserved
loop-done-preserved g c =
    let write = c.in_ok-count.ensures in
    record {
      keeps = search rules;
      asked = search rules;
      finished = search rules;
      reported = search rules;
      is_open = search rules;
      current = search rules;
      files = λ tells.
          let tells_here : IsTrue (g.R.Rack.state c.loop-done.rack).tells = cc in
          grows_more c.args.piece.now c.loop-done.done c.in_ok-count.count (g.R.Rack.state c.args.rack.now) (g.R.Rack.state c.loop-done.rack) (g.R.Rack.state c.write.new.self) (c.loop-done.invariant.current tells) (c.loop-done.invariant.files tells) (write.files tells_here);
      well = write.fails.well ∙ c.loop-done.invariant.well;
      within = search rules;
    }

pub returns-in_err-count : goal.returns-in_err-count
returns-in_err-count g c =
    let here = c.loop-done.invariant in
    let p = err_from_is_err_and c.from_residual.result c.from_residual.ensures.1 in
    rw p.1 (write_failed c.args.piece.now (take (length c.args.piece.now - c.loop-done.done) (drop c.loop-done.done c.args.piece.now)) c.loop-done.done (g.R.Rack.state c.args.rack.now) (g.R.Rack.state c.loop-done.rack) (g.R.Rack.state c.write.new.self) _ _ here.keeps here.asked here.finished here.well here.reported here.is_open here.current here.files c.in_err-count.ensures)

pub returns : goal.returns
returns g c =
    let here = c.loop-done.invariant in
    record {
      keeps = here.keeps;
      asked = here.asked;
      finished = here.finished;
      reported = here.reported;
      is_open = here.is_open;
      current = here.current;
      files = λ tells. grows_all c.args.piece.now c.loop-done.done (g.R.Rack.state c.args.rack.now) (g.R.Rack.state c.loop-done.rack) (omega arith) (here.files tells);
      part = tt;
      well = here.well;
      reason = tt;
      once = tt;
    }
