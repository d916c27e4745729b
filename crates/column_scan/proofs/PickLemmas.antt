-- Of the last number up to a place that passes and the first one after it, the nearer is the
-- nearest that passes.
use Rattle.std.proofs.Common.{◌≡◌, ℕ, ◌+◌, ◌-◌, ◌<◌, ◌≤◌, Bool, true, nat_le, inl, inr, arith, Option, Some, None, if◌then◌else◌}
use Rattle.std.specs.Option.{MatchOption}
use Rattle.std.proofs.lemmas.Bool.{cases_lt, cases_Bool, leb-true, leb-false, false_from_ne_true}
use Rattle.lists.specs.Words.{gap, first_least, IsFirstLeast}
use Rattle.lists.proofs.FirstLeast.{first_least-from, first_least-none}

-- the last number up to c that passes, and the first one after it below n
abbrev pub UpFact : (ℕ → Bool) → ℕ → Option ℕ → Type 0
UpFact t c o = MatchOption o ((i : ℕ) → i ≤ c → t i ≡ true → ⊥) (λ u. (u ≤ c) × (t u ≡ true) × ((i : ℕ) → u < i → i ≤ c → t i ≡ true → ⊥))

abbrev pub DownFact : (ℕ → Bool) → ℕ → ℕ → Option ℕ → Type 0
DownFact t c n o = MatchOption o ((i : ℕ) → c < i → i < n → t i ≡ true → ⊥) (λ d. (c < d) × (d < n) × (t d ≡ true) × ((i : ℕ) → c < i → i < d → t i ≡ true → ⊥))

-- the nearer one, the upper one where both are as near
abbrev pub pick : ℕ → Option ℕ → Option ℕ → Option ℕ
pick c None down = down
pick c (Some u) None = Some u
pick c (Some u) (Some d) = if nat_le (c + c) (u + d) then Some u else Some d

up_wins : (t : ℕ → Bool) (c n u : ℕ) → c < n → u ≤ c → t u ≡ true → ((i : ℕ) → u < i → i ≤ c → t i ≡ true → ⊥) → ((i : ℕ) → c < i → i < n → t i ≡ true → c - u ≤ i - c) → IsFirstLeast (λ i. gap i c) t n u
up_wins t c n u inside le tu none far = record {
  below = omega arith;
  passes = tu;
  least = λ j l p. elim (cases_lt c j) [
    | inl after ↦ omega (arith, far j after l p)
    | inr upto ↦ elim (cases_lt u j) [ inl past ↦ absurd (none j past upto p) | inr before ↦ omega arith ]
  ];
  first = λ j l p. omega (arith, l);
}

down_wins : (t : ℕ → Bool) (c n d : ℕ) → c < d → d < n → t d ≡ true → ((i : ℕ) → c < i → i < d → t i ≡ true → ⊥) → ((i : ℕ) → i ≤ c → t i ≡ true → d - c < c - i) → IsFirstLeast (λ i. gap i c) t n d
down_wins t c n d past inside td none far = record {
  below = inside;
  passes = td;
  least = λ j l p. elim (cases_lt c j) [
    | inl after ↦ elim (cases_lt j d) [ inl before ↦ absurd (none j after before p) | inr from ↦ omega arith ]
    | inr upto ↦ omega (arith, far j upto p)
  ];
  first = λ j l p. elim (cases_lt c j) [ inl after ↦ absurd (none j after l p) | inr upto ↦ omega (arith, far j upto p) ];
}

pub picked : (t : ℕ → Bool) (c n : ℕ) (up down : Option ℕ) → c < n → UpFact t c up → DownFact t c n down → first_least (λ i. gap i c) t n ≡ pick c up down
picked t c n None None inside u d = first_least-none (λ i. gap i c) t n (λ j l. false_from_ne_true (t j) (λ p. elim (cases_lt c j) [ inl after ↦ d j after l p | inr upto ↦ u j upto p ]))
picked t c n (Some a) None inside u d = first_least-from (λ i. gap i c) t n a (up_wins t c n a inside u.0 u.1 u.2 (λ i after l p. absurd (d i after l p)))
picked t c n None (Some b) inside u d = first_least-from (λ i. gap i c) t n b (down_wins t c n b d.0 d.1 d.2 d.3 (λ i upto p. absurd (u i upto p)))
picked t c n (Some a) (Some b) inside u d = elim (cases_Bool (nat_le (c + c) (a + b))) [
  | inl near ↦ rw near (first_least-from (λ i. gap i c) t n a (up_wins t c n a inside u.0 u.1 u.2 (λ i after l p. elim (cases_lt i b) [ inl before ↦ absurd (d.3 i after before p) | inr from ↦ omega (arith, leb-true _ _ near, u.0, d.0) ])))
  | inr far ↦ rw far (first_least-from (λ i. gap i c) t n b (down_wins t c n b d.0 d.1 d.2 d.3 (λ i upto p. elim (cases_lt a i) [ inl past ↦ absurd (u.2 i past upto p) | inr before ↦ omega (arith, leb-false _ _ far, u.0, d.0) ])))
]
