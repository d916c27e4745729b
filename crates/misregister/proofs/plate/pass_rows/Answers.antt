-- pass_rows: asks plate c for each row that is left, and closes the row that lies `radius` above
-- it.
use Rattle.std.proofs.Common.{◌+◌, ◌≤◌, ◌∙◌, min, refl, arith}
use Rattle.page_model.specs.Shapes.{tall}
use Rattle.misregister.proofs.PlateLemmas.{way_at}
use Rattle.misregister.proofs.plate.pass_rows.Goals as goal

pub loop-y-preserved : goal.loop-y-preserved
loop-y-preserved g c =
    let planes = c.args.sheet.now in
    let r = c.args.radius in
    let y = c.loop-y.y in
    let short : r ≤ tall planes = omega arith in
    record {
      workspace = c.leave_row.ensures.workspace;
      memory = record {
        row = c.leave_row.ensures.memory.row ∙ c.enter_row.ensures.memory.row ∙ c.loop-y.invariant.memory.row;
        until = c.leave_row.ensures.memory.until ∙ c.enter_row.ensures.memory.until ∙ c.loop-y.invariant.memory.until;
        shades = c.leave_row.ensures.memory.shades ∙ c.enter_row.ensures.memory.shades ∙ c.loop-y.invariant.memory.shades;
      };
      way = λ older began.
          (let before = way_at planes r c.args.c older c.loop-y.workspace (y + min r (tall planes)) y (y + r) y (omega arith) refl (c.loop-y.invariant.way older began) in
          let entered = c.enter_row.ensures.entered older y (omega arith) before in
          let left = c.leave_row.ensures.left r c.args.c older (y + r + 1) (omega arith) entered in
          way_at planes r c.args.c older c.leave_row.new.workspace (y + r + 1) (y + 1) (y + 1 + min r (tall planes)) (y + 1) (omega arith) refl left);
      steps = omega arith;
    }
