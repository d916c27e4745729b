use Rattle.std.proofs.Common.{◌≡◌, ◌+◌, ◌<◌, ◌≤◌, arith}
use Rattle.draw_back.specs.Lowers.{places_of}
use Rattle.draw_back.proofs.DiskLemmas.{no_rows, rows_of_places}
use Rattle.draw_back.proofs.disk.lower_by_below.Goals as goal

pub returns-then-is_below : goal.returns-then-is_below
returns-then-is_below c =
    let yes = c.is_below.ensures.yes c.if-is_below.true in
    rows_of_places c.args.field.now c.args.best.now c.lower_places.new.best (places_of c.args.window) c.args.window.from c.args.window.halo (c.args.y + c.args.h) c.tints.result.now c.marks.result.now (λ k. (0 < c.args.h) × (k ≡ c.args.y + c.args.h)) (yes.0, omega arith) (omega (arith, yes.1, c.height.ensures.height)) (λ row p. p.1) c.tints.ensures.len c.tints.ensures.each c.marks.ensures.each c.lower_places.ensures

pub returns-else-is_below : goal.returns-else-is_below
returns-else-is_below c = no_rows c.args.field.now c.args.best.now (places_of c.args.window) c.args.window.from c.args.window.halo (λ k. (0 < c.args.h) × (k ≡ c.args.y + c.args.h))
    (λ row l p. let past : c.height.result ≤ c.args.y + c.args.h = c.is_below.ensures.no c.if-is_below.false p.0 in absurd (omega (arith, p.1, past, c.height.ensures.height)))
