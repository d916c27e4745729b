-- put_thin: thin ink is drawn back by less, and what the width does not change stays.
use Rattle.std.proofs.Common.{◌≡◌, ◌*◌, ◌/◌, ℕ, true, nat_lt, slice_index, sym, ap, ◌∙◌}
use Rattle.lists.specs.Words.{square}
use Rattle.page_model.specs.Page.{tint}
use Rattle.keepaway.specs.Keepaway.{pixel}
use Rattle.underprint.specs.Underprint.{drawn_to, thickness}
use Rattle.underprint.proofs.UnderLemmas.{field_drawn, kept_at, kept_stays, limit_thin}
use Rattle.underprint.proofs.plate.put_thin.Goals as goal

pub returns-then-is_thin-clause-there : goal.returns-then-is_thin-clause-there
returns-then-is_thin-clause-there c =
    let page = c.args.page.now in
    let whites = c.args.whites.now in
    let p = c.args.p in
    let reach = 3 * (c.args.wide * page.resolution) in
    let is : c.thickness-thick.result ≡ thickness page c.args.wide c.args.c p = c.thickness-thick.ensures.value in
    let thin : nat_lt (thickness page c.args.wide c.args.c p * pixel) reach ≡ true = sym (ap (λ (n : ℕ). nat_lt (n * pixel) reach) is) ∙ sym c.is_thin.ensures ∙ c.if-is_thin.true in
    kept_at page whites c.args.c c.args.wide (square (thickness page c.args.wide c.args.c p / 3)) (slice_index c.draw_column.new.out p.x) p (limit_thin c.args.wide page.resolution (thickness page c.args.wide c.args.c p) thin)
    (c.draw_column.ensures.there
    ∙ field_drawn c.window_law.ensures page whites c.args.c c.args.field.now c.thin_reach.result.limit c.thin_reach.result.radius p.x p.y c.thin_reach.result.beyond c.requires.field c.requires.column c.requires.row
    ∙ ap (λ (n : ℕ). drawn_to page whites c.args.c n p) (c.thin_reach.ensures ∙ ap (λ (n : ℕ). square (n / 3)) is))

pub returns-else-out-column-clause-there : goal.returns-else-out-column-clause-there
returns-else-out-column-clause-there c =
    let same : slice_index c.args.out.now c.args.p.x ≡ tint c.args.page.now c.args.c c.args.p = c.if-out-column.false ∙ c.tint-tint.ensures.value in
    same ∙ sym (kept_stays c.drawn_law.ensures c.args.page.now c.args.whites.now c.args.c c.args.wide c.args.p (sym c.requires.old ∙ same))
