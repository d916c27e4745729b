-- open_table: a table whose words are all 0.
use Rattle.std.proofs.lemmas.Grind.{common_steps}
use Rattle.std.proofs.Common.{ap, ◌∙◌, arith, replicate, ℕ}
use Rattle.page_model.specs.Bands.{pieces_of}
use Rattle.band_claims.proofs.Steps.{opens}
use Rattle.band_claims.proofs.shared.open_table.Goals as goal

pub of_words-requires : goal.of_words-requires
of_words-requires c =
    opens c.args.table_key.now c.requires.fit c.as_slice.result.now (c.as_slice.ensures.value ∙ (c.in-Ok.ensures.items_if_clones_equal (λ y e. e)
    ∙ ap (λ (n : ℕ). replicate n 0) (let n = c.pieces.ensures.value ∙ ap pieces_of c.bands.ensures.value in omega (arith, n, c.cells.ensures.value))))

pub returns-clause-words : goal.returns-clause-words
returns-clause-words c = grind (arith, common_steps)

pub returns-clause-slots : goal.returns-clause-slots
returns-clause-slots c = grind (arith, common_steps)

pub returns-clause-seat : goal.returns-clause-seat
returns-clause-seat c = grind (arith, common_steps)

pub returns-clause-reported : goal.returns-clause-reported
returns-clause-reported c = grind (arith, common_steps)
