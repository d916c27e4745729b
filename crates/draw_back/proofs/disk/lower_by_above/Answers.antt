use Rattle.std.proofs.Common.{◌≡◌, ◌+◌, ◌-◌, arith}
use Rattle.draw_back.specs.Lowers.{places_of}
use Rattle.draw_back.proofs.DiskLemmas.{no_rows, rows_of_places}
use Rattle.draw_back.proofs.disk.lower_by_above.Goals as goal

pub returns-then-h-y : goal.returns-then-h-y
returns-then-h-y c = rows_of_places c.args.field.now c.args.best.now c.lower_places.new.best (places_of c.args.window) c.args.window.from c.args.window.halo (c.args.y - c.args.h) c.tints.result.now c.marks.result.now (λ k. k + c.args.h ≡ c.args.y) (omega arith) (omega arith) (λ row e. omega arith) c.tints.ensures.len c.tints.ensures.each c.marks.ensures.each c.lower_places.ensures

pub returns-else-h-y : goal.returns-else-h-y
returns-else-h-y c = no_rows c.args.field.now c.args.best.now (places_of c.args.window) c.args.window.from c.args.window.halo (λ k. k + c.args.h ≡ c.args.y) (λ row l e. absurd (omega arith))
