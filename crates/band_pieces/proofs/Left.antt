-- What the passes left was left for a need.
use Rattle.std.proofs.Common.{◌≡◌, ◌≢◌, ◌<◌, ◌≤◌, ℕ, zero, suc, List, refl, subst, ◌++◌, ap, sym, ◌∙◌, ⊎_elim, inl, inr, arith}
use Rattle.std.proofs.lemmas.Bool.{cases_eq}
use Rattle.page_model.specs.declared.parts.PageParts.{PageParts}
use Rattle.band_claims.specs.Receipt.{Receipt}
use Rattle.band_claims.specs.Rule.{piece_word}
use Rattle.band_claims.specs.TableKeys.{cell, shape_of}
use Rattle.band_claims.specs.Views.{Knows}
use Rattle.band_claims.proofs.Steps.{fit_shape, steps_are_run}
use Rattle.band_claims.proofs.Readable.{kept}
use Rattle.band_claims.proofs.Past.{looks_are_past, looks_are_reported as run_looks_are_reported, looks_rise}
use Rattle.band_claims.specs.Accounts.{Shows}
use Rattle.band_pieces.specs.Finished.{IsFinished}
use Rattle.band_pieces.specs.Left.{LeftForNeeds, FirstAreDone, LooksAreReported}

-- a word is 0, 1 or 2
word_zero : (n : ℕ) → n ≤ 2 → n ≢ 1 → n ≢ 2 → n ≡ 0
word_zero zero few not_claimed not_done = refl
word_zero (suc zero) few not_claimed not_done = absurd (not_claimed refl)
word_zero (suc (suc n)) few not_claimed not_done = absurd (not_done (omega (arith, few)))

few_states : (page : PageParts) (receipt : Receipt) → (f : IsFinished page receipt) → (i : ℕ) → i < (shape_of receipt.table_key).pieces → piece_word receipt.left i ≤ 2
few_states page receipt f i l =
    let run = f.run in
    let few = (steps_are_run receipt.table_key f.fit run.kinds run.left run.steps).0.words.states i l in
    subst (λ (ws : List ℕ). piece_word ws i ≤ 2) run.words few

pub left_for_needs : LeftForNeeds
left_for_needs page receipt f i l undone =
    let key = receipt.table_key in let k = shape_of key in let run = f.run in
    let was = ap (λ (ws : List ℕ). piece_word ws i) run.words in
    let free = word_zero (piece_word receipt.left i) (few_states page receipt f i l) (run.settled i l) undone in
    ⊎_elim (λ (h : Knows f.run.view i).
    let rule = (steps_are_run key f.fit run.kinds run.left run.steps).0 in
    let done = (((kept k (fit_shape key f.fit) (cell key) key run.left rule).seats run.seat run.view run.sees).known i h).1 in
    absurd (omega (arith, done, was, free)))
    (λ (h : Shows key.layout.bands f.run.view i).
    let past = looks_are_past key f.fit run.kinds run.left run.steps run.seat run.view run.sees h.before h.after h.shown h.stands in
    elim h.reason [
      | inl need ↦ record { before = h.before; shown = h.shown; after = h.after; stands = sym run.looked ∙ h.stands; need = need.0; not_done = need.1 }
      | inr own ↦ absurd (own.1 (let e = ap (piece_word run.left.words) own.0 in omega (arith, past, e, was, free)))
    ])
    (f.accounted i l)

pub first_are_done : FirstAreDone
first_are_done page receipt f i l none = elim (cases_eq (piece_word receipt.left i) 2) [
  | inl done ↦ done
  | inr undone ↦ absurd (let t = left_for_needs page receipt f i l undone in none t.shown.piece t.need)
]

pub looks_are_reported : LooksAreReported
looks_are_reported page receipt f =
    let run = f.run in
    let ends = run_looks_are_reported receipt.table_key f.fit run.kinds run.left run.steps run.seat run.view run.sees in record {
      earlier = ends.0;
      looks = sym run.reported ∙ (ends.1 ∙ ap (λ z. ends.0 ++ z) run.looked);
      rise = λ before mid after shown later stands. looks_rise receipt.table_key f.fit run.kinds run.left run.steps run.seat run.view run.sees before mid after shown later (run.reported ∙ stands);
    }
