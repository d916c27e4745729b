-- What a pass knows after some loads.
use Rattle.std.proofs.Common.{◌+◌, ◌≡◌, ◌≢◌, ℕ, true, subst, ◌≤◌, ◌<◌, ◌==◌, List, [], ◌∷◌, ◌++◌, refl, ap, ◌∙◌, inl, inr, arith, append_assoc, eq-eqb, ne_eqb}
use Rattle.std.specs.Prelude.{if◌then◌else◌}
use Rattle.std.proofs.lemmas.Bool.{cases_eq}
use Rattle.page_model.specs.declared.bands.Bands.{Bands}
use Rattle.page_model.specs.Bands.{AreBands, pieces_of}
use Rattle.lists.specs.Words.{count_below}
use Rattle.band_core.specs.Needs.{is_need}
use Rattle.band_core.proofs.CountLemmas.{count-less, count-same}
use Rattle.band_core.proofs.NeedLemmas.{need_less}
use Rattle.band_claims.specs.declared.view.View.{View}
use Rattle.band_claims.specs.declared.view.Look.{Look}
use Rattle.band_claims.specs.Views.{Knows, look, looked_at, claimed, Looks, Won, Lost}
use Rattle.band_claims.proofs.Totals.{times_append}
use Rattle.band_claims.proofs.Boards.{same_one}

seen_after : (v w : View) (i n : ℕ) → Looks v w → (more : List ℕ) × ((if n == 2 then w.seen ++ i ∷ [] else w.seen) ≡ v.seen ++ more)
seen_after v w i n h = elim (cases_eq n 2) [
  | inl e ↦ (h.more_seen.0 ++ i ∷ [], rw (eq-eqb n 2 e) (ap (λ (z : List ℕ). z ++ i ∷ []) h.more_seen.1 ∙ append_assoc v.seen h.more_seen.0 (i ∷ [])))
  | inr ne ↦ (h.more_seen.0, rw (ne_eqb n 2 ne) h.more_seen.1)
]

reported_more : (v w : View) (x : Look) → Looks v w → (more : List Look) × ((w.reported ++ x ∷ []) ≡ v.reported ++ more)
reported_more v w x h = (h.more_reported.0 ++ x ∷ [], ap (λ (z : List Look). z ++ x ∷ []) h.more_reported.1 ∙ append_assoc v.reported h.more_reported.0 (x ∷ []))

pub looks_more : (v w : View) (i n : ℕ) → Looks v w → Looks v (looked_at i n w)
looks_more v w i n h = record {
  same_table_key = h.same_table_key;
  same_stored = h.same_stored;
  same_filled = h.same_filled;
  same_published = h.same_published;
  more_seen = seen_after v w i n h;
  more_looked = (h.more_looked.0 ++ look i n ∷ [], ap (λ (z : List Look). z ++ look i n ∷ []) h.more_looked.1 ∙ append_assoc v.looked h.more_looked.0 (look i n ∷ []));
  more_reported = reported_more v w (look i n) h;
  same_share = h.same_share;
}

pub knows_more : (w : View) (i n j : ℕ) → Knows w j → Knows (looked_at i n w) j
knows_more w i n j h = elim (cases_eq n 2) [
  | inl e ↦ rw (eq-eqb n 2 e) (omega (arith, h, times_append j w.seen (i ∷ [])))
  | inr ne ↦ rw (ne_eqb n 2 ne) h
]

pub knows_here : (w : View) (i n : ℕ) → n ≡ 2 → Knows (looked_at i n w) i
knows_here w i n e = rw (eq-eqb n 2 e) (omega (arith, times_append i w.seen (i ∷ []), same_one i i refl))

pub won_by : (bands : Bands) (piece : ℕ) (v w : View) (n : ℕ) → Looks v w → ((j : ℕ) → is_need bands piece j ≡ true → Knows w j) → n ≡ 0 → Won bands piece v (claimed piece n w)
won_by bands piece v w n h known e = rw (eq-eqb n 0 e) record {
  same_table_key = h.same_table_key;
  holding = refl;
  none_filled = refl;
  same_published = h.same_published;
  more_seen = h.more_seen;
  no_looks = refl;
  more_reported = reported_more v w (look piece 1) h;
  same_share = h.same_share;
  known = known;
}

-- a lost exchange: the look is noted, and nothing is seen
pub lost_exchange : (bands : Bands) (piece : ℕ) (v w : View) (n : ℕ) → Looks v w → n ≢ 0 → Lost bands piece v (claimed piece n w)
lost_exchange bands piece v w n h ne = rw (ne_eqb n 0 ne) record {
  looks = record {
    same_table_key = h.same_table_key;
    same_stored = h.same_stored;
    same_filled = h.same_filled;
    same_published = h.same_published;
    more_seen = h.more_seen;
    more_looked = (h.more_looked.0 ++ look piece n ∷ [], ap (λ (z : List Look). z ++ look piece n ∷ []) h.more_looked.1 ∙ append_assoc v.looked h.more_looked.0 (look piece n ∷ []));
    more_reported = reported_more v w (look piece n) h;
    same_share = h.same_share;
  };
  last = look piece n;
  found = (h.more_looked.0, ap (λ (z : List Look). z ++ look piece n ∷ []) h.more_looked.1 ∙ append_assoc v.looked h.more_looked.0 (look piece n ∷ []));
  reason = inr (refl, ne);
}

-- a view knows the needs of a piece that stand before its k-th
abbrev pub KnowsBefore : Bands → ℕ → ℕ → View → Type 0
KnowsBefore bands i k w = (n : ℕ) → is_need bands i n ≡ true → count_below (is_need bands i) n < k → Knows w n

-- one that knows them all knows each need
pub all_known : (bands : Bands) (i k : ℕ) (w : View) → AreBands bands → i < pieces_of bands → count_below (is_need bands i) (pieces_of bands) ≤ k → KnowsBefore bands i k w → (n : ℕ) → is_need bands i n ≡ true → Knows w n
all_known bands i k w is l m known n need =
    let less = need_less bands i n is need in let before = count-less (is_need bands i) n (pieces_of bands) need (omega (arith, less, l)) in
    known n need (omega (arith, before, m))

-- the k-th need was seen done
pub knows_next : (bands : Bands) (i k n found : ℕ) (w : View) → is_need bands i n ≡ true → count_below (is_need bands i) n ≡ k → found ≡ 2 → KnowsBefore bands i k w → KnowsBefore bands i (k + 1) (looked_at n found w)
knows_next bands i k n found w need order two known m other less = elim (cases_eq (count_below (is_need bands i) m) k) [
  | inl same ↦ subst (Knows (looked_at n found w)) (count-same (is_need bands i) n m need other (omega (arith, same, order))) (knows_here w n found two)
  | inr ne ↦ knows_more w n found m (known m other (omega (arith, less, ne)))
]
