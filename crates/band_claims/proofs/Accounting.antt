-- What a visit does to the account.
use Rattle.std.proofs.Common.{◌≡◌, ℕ, ◌+◌, ◌≤◌, List, [], ◌∷◌, ◌++◌, length, sym, ap, ◌∙◌, inl, inr, arith, append_assoc, length-append, Some, None}
use Rattle.page_model.specs.declared.bands.Bands.{Bands}
use Rattle.band_claims.specs.declared.view.View.{View}
use Rattle.band_claims.specs.declared.view.Look.{Look}
use Rattle.band_claims.specs.Views.{look, finished, joined, times, Knows, Lost, Won}
use Rattle.band_claims.proofs.Totals.{times_append}
use Rattle.band_claims.specs.Accounts.{Shows, IsAccounted, Publishes, Recalls, Made}
use Rattle.band_claims.specs.Filled.{filled_to}

module _ (bands : Bands) (piece : ℕ) (v w : View) (h : Lost bands piece v w) where
  shows_more : (i : ℕ) → Shows bands v i → Shows bands w i
  shows_more i s = record {
    before = s.before;
    shown = s.shown;
    after = s.after ++ h.looks.more_looked.0;
    stands = h.looks.more_looked.1 ∙ (ap (λ (z : List Look). z ++ h.looks.more_looked.0) s.stands ∙ append_assoc s.before (s.shown ∷ s.after) h.looks.more_looked.0);
    reason = s.reason;
  }

  knows_on : (i : ℕ) → Knows v i → Knows w i
  knows_on i k = omega (arith, k, ap (times i) h.looks.same_published, ap (times i) h.looks.more_seen.1, times_append i v.seen h.looks.more_seen.0)

  pub accounted_on : (i : ℕ) → IsAccounted bands v i → IsAccounted bands w i
  accounted_on i (inl k) = inl (knows_on i k)
  accounted_on i (inr s) = inr (shows_more i s)

  pub accounted_here : IsAccounted bands w piece
  accounted_here = inr record {
    before = v.looked ++ h.found.0;
    shown = h.last;
    after = [];
    stands = h.found.1 ∙ sym (append_assoc v.looked h.found.0 (h.last ∷ []));
    reason = h.reason;
  }

  pub still : w.published ≡ v.published
  still = h.looks.same_published

  pub still_idle : v.stored ≡ None → w.stored ≡ None
  still_idle e = h.looks.same_stored ∙ e

-- a piece that was won, filled and published
pub made_by : (bands : Bands) (piece n p : ℕ) (u v w x : View) → Won bands piece u v → w ≡ filled_to n v → w.stored ≡ Some p → x ≡ finished p w → Made piece u x
made_by bands piece n p u v w x won filled stored done =
    let same : Some p ≡ Some piece = sym stored ∙ (ap (λ (z : View). z.stored) filled ∙ won.holding) in
    let here : p ≡ piece = cc in record {
      idle = ap (λ (z : View). z.stored) done;
      published = ap (λ (z : View). z.published) done ∙ (ap (λ (z : View). z.published ++ p ∷ []) filled ∙ (ap (λ (q : ℕ). v.published ++ q ∷ []) here ∙ ap (λ (z : List ℕ). z ++ piece ∷ []) won.same_published));
      reported = (won.more_reported.0 ++ look p 2 ∷ [], ap (λ (z : View). z.reported) done ∙ (ap (λ (z : View). z.reported ++ look p 2 ∷ []) filled ∙ (ap (λ (z : List Look). z ++ look p 2 ∷ []) won.more_reported.1 ∙ append_assoc u.reported won.more_reported.0 (look p 2 ∷ []))));
      share = ap (λ (z : View). z.share) done ∙ (ap (λ (z : View). z.share) filled ∙ won.same_share);
    }

pub recalls_more : (u v w : View) → Recalls u v → Recalls v w → Recalls u w
recalls_more u v w a b = (a.0 ++ b.0, b.1 ∙ (ap (λ (z : List Look). z ++ b.0) a.1 ∙ append_assoc u.reported a.0 b.0))

pub publishes_made : (piece : ℕ) (u v w : View) → Publishes u v → Made piece v w → Publishes u w
publishes_made piece u v w p m = (p.0 ++ piece ∷ [], m.published ∙ (ap (λ (z : List ℕ). z ++ piece ∷ []) p.1 ∙ append_assoc u.published p.0 (piece ∷ [])))

pub longer_made : (piece : ℕ) (u v w : View) → Publishes u v → Made piece v w → length u.published + 1 ≤ length w.published
longer_made piece u v w p m =
    omega (arith, ap length p.1, length-append u.published p.0, ap length m.published, length-append v.published (piece ∷ []))

-- what one pass accounts for, the joined pass does
pub accounted_joined : (bands : Bands) (v w : View) (i : ℕ) → IsAccounted bands v i → IsAccounted bands (joined v w) i
accounted_joined bands v w i (inl k) = inl (omega (arith, k, times_append i v.published w.published, times_append i v.seen w.seen))
accounted_joined bands v w i (inr s) = inr record { before = s.before; shown = s.shown; after = s.after; stands = s.stands; reason = s.reason }

-- what one pass published, the joined pass did
pub publishes_joined : (u v w : View) → Publishes u v → Publishes u (joined v w)
publishes_joined u v w p = (p.0 ++ w.published, ap (λ (z : List ℕ). z ++ w.published) p.1 ∙ append_assoc u.published p.0 w.published)
