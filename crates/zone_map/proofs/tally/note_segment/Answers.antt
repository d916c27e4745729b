-- note_segment: counts the segment from a to b where it crosses the row at height y, upwards or
-- downwards.
use Rattle.std.proofs.Common.{◌∙◌, sym, ap, pos, ℕ, if◌then◌else◌, Bool}
use Rattle.std.specs.Prelude.{◌-ℤ◌, nat_lt}
use Rattle.zone_map.specs.PagePoints.{middle, point}
use Rattle.zone_map.specs.Tallies.{past}
use Rattle.zone_map.proofs.Leans.{left-turned}
use Rattle.zone_map.proofs.TallyLemmas.{up-noted, down-noted, none-noted}
use Rattle.zone_map.proofs.Widths.{near_64}
use Rattle.zone_map.proofs.TurnTests.{turn-up, turn-down, turn-none}
use Rattle.zone_map.proofs.tally.note_segment.Goals as goal

abbrev one_if : Bool → ℕ
one_if b = if b then 1 else 0

pub returns-then-rises_through-clause-turned : goal.returns-then-rises_through-clause-turned
returns-then-rises_through-clause-turned c = λ x l.
    let p = middle x c.args.y in
    let a = point c.args.a in
    let b = point c.args.b in
    let e = near_64 c.args.y c.requires.y in
    let risen = rw e at (sym c.rises_through.ensures.value ∙ c.if-rises_through.true) in
    let known = rw e at (c.samples_left_of.ensures.left x l) in
    up-noted (past c.add_at.new.counts x) (past c.args.ups.now x) (past c.args.downs.now x) (one_if (nat_lt x c.samples_left_of.result)) _ (c.add_at.ensures.past x)
    (turn-up p a b risen ∙ ap (λ (t : Bool). pos (one_if t)) (sym known))

pub returns-then-rises_through-2-clause-turned : goal.returns-then-rises_through-2-clause-turned
returns-then-rises_through-2-clause-turned c = λ x l.
    let p = middle x c.args.y in
    let a = point c.args.a in
    let b = point c.args.b in
    let e = near_64 c.args.y c.requires.y in
    let fallen = rw e at (sym c.rises_through-else-rises_through.ensures.value ∙ c.if-rises_through-2.true) in
    let known = rw e at (c.samples_left_of-then-rises_through-2.ensures.left x l) in
    down-noted (past c.args.ups.now x) (past c.add_at-then-rises_through-2.new.counts x) (past c.args.downs.now x) (one_if (nat_lt x c.samples_left_of-then-rises_through-2.result)) _ (c.add_at-then-rises_through-2.ensures.past x)
    (turn-down p a b fallen ∙ ap (λ (t : Bool). pos 0 -ℤ pos (one_if t)) (sym (known ∙ left-turned a b p)))

pub returns-else-rises_through-2-clause-turned : goal.returns-else-rises_through-2-clause-turned
returns-else-rises_through-2-clause-turned c = λ x l.
    let e = near_64 c.args.y c.requires.y in
    let not_up = rw e at (sym c.rises_through.ensures.value ∙ c.if-rises_through.false) in
    let not_down = rw e at (sym c.rises_through-else-rises_through.ensures.value ∙ c.if-rises_through-2.false) in
    none-noted _ _ (turn-none (middle x c.args.y) (point c.args.a) (point c.args.b) not_up not_down)
