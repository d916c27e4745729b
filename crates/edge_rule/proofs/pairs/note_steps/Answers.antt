-- note_steps: notes at which pairs plate c falls by a step, and at which it rises by one.
use Rattle.std.proofs.Common.{◌-◌, ◌||◌, ◌∙◌, ℕ, Bool, false, ap, arith, nat_le, slice_index_or}
use Rattle.page_model.specs.Apart.{falls}
use Rattle.page_model.specs.Page.{InPage, tint}
use Rattle.edge_rule.specs.Pairs.{along}
use Rattle.edge_rule.proofs.PairLemmas.{falls-never, falls-step}
use Rattle.edge_rule.proofs.pairs.note_steps.Goals as goal

pub returns-in-Some-clause-fallen : goal.returns-in-Some-clause-fallen
returns-in-Some-clause-fallen c = λ k l.
    let page = c.args.page.now in
    let p = along c.args.p k in
    let q = along c.args.q k in
    let one : InPage page p = record { x = omega (arith, c.requires.p_inside, l); y = c.requires.p_row } in
    let two : InPage page q = record { x = omega (arith, c.requires.q_inside, l); y = c.requires.q_row } in
    let step = falls-step c.in-Some.step (tint page c.args.c p) (tint page c.args.c q) c.least_step.result (falls page c.args.zone p q c.args.c) c.in-Some.is (c.least_step.ensures.falls p q one two) in
    c.note_both.ensures.fallen k (omega (arith, c.tints_from-here.ensures.len, l)) ∙ ap (λ (b : Bool). slice_index_or c.args.fallen.now k false || b) (ap (λ (n : ℕ). nat_le c.in-Some.step (n - slice_index_or c.tints_from-there.result.now k 0)) (c.tints_from-here.ensures.each k l) ∙ ap (λ (n : ℕ). nat_le c.in-Some.step (tint page c.args.c p - n)) (c.tints_from-there.ensures.each k l) ∙ step)

pub returns-in-Some-clause-risen : goal.returns-in-Some-clause-risen
returns-in-Some-clause-risen c = λ k l.
    let page = c.args.page.now in
    let p = along c.args.p k in
    let q = along c.args.q k in
    let one : InPage page p = record { x = omega (arith, c.requires.p_inside, l); y = c.requires.p_row } in
    let two : InPage page q = record { x = omega (arith, c.requires.q_inside, l); y = c.requires.q_row } in
    let step = falls-step c.in-Some.step (tint page c.args.c q) (tint page c.args.c p) c.least_step.result (falls page c.args.zone q p c.args.c) c.in-Some.is (c.least_step.ensures.falls q p two one) in
    c.note_both.ensures.risen k (omega (arith, c.tints_from-here.ensures.len, l)) ∙ ap (λ (b : Bool). slice_index_or c.args.risen.now k false || b) (ap (λ (n : ℕ). nat_le c.in-Some.step (n - slice_index_or c.tints_from-here.result.now k 0)) (c.tints_from-there.ensures.each k l) ∙ ap (λ (n : ℕ). nat_le c.in-Some.step (tint page c.args.c q - n)) (c.tints_from-here.ensures.each k l) ∙ step)

pub returns-in-None-clause-fallen : goal.returns-in-None-clause-fallen
returns-in-None-clause-fallen c = λ k l.
    let page = c.args.page.now in
    let p = along c.args.p k in
    let q = along c.args.q k in
    let one : InPage page p = record { x = omega (arith, c.requires.p_inside, l); y = c.requires.p_row } in
    let two : InPage page q = record { x = omega (arith, c.requires.q_inside, l); y = c.requires.q_row } in
    falls-never (tint page c.args.c p) (tint page c.args.c q) c.least_step.result (slice_index_or c.args.fallen.now k false) (falls page c.args.zone p q c.args.c) c.in-None.is (c.least_step.ensures.falls p q one two)

pub returns-in-None-clause-risen : goal.returns-in-None-clause-risen
returns-in-None-clause-risen c = λ k l.
    let page = c.args.page.now in
    let p = along c.args.p k in
    let q = along c.args.q k in
    let one : InPage page p = record { x = omega (arith, c.requires.p_inside, l); y = c.requires.p_row } in
    let two : InPage page q = record { x = omega (arith, c.requires.q_inside, l); y = c.requires.q_row } in
    falls-never (tint page c.args.c q) (tint page c.args.c p) c.least_step.result (slice_index_or c.args.risen.now k false) (falls page c.args.zone q p c.args.c) c.in-None.is (c.least_step.ensures.falls q p two one)
