-- Words that mean no command.
use Rattle.std.proofs.Common.{◌≡◌, ℕ, ◌<◌, ◌&&◌, not, map, max, Bool, true, false, List, [], ◌∷◌, length, Option, None, refl, sym, ap, subst, arith, if◌then◌else◌}
use Rattle.keep_words.specs.Words.{KeepWords, OptionWords, are_options, are_whites, is_white, keep_by, keep_of, number_or, options_of, rest_of, values_after, white_of, white_width, wider, widest_in, widest_of}
use Rattle.plain_words.specs.Parts.{PlateNames}

-- a job and a report are wanted
short : (options : List OptionWords) (rest : List (List ℕ)) → length rest < 2 → keep_by options rest ≡ None
short options [] l = refl
short options (job ∷ []) l = refl
short options (job ∷ report ∷ words) l = absurd (omega arith)

-- too few words have no option
pub values_short : (wanted : List ℕ) (words : List (List ℕ)) → length words < 2 → values_after wanted (options_of words) ≡ []
values_short wanted [] l = refl
values_short wanted (x ∷ []) l = refl
values_short wanted (x ∷ y ∷ more) l = absurd (omega arith)

-- the widest underprint has the greatest width of the words
pub widest_same : (words : List (List ℕ)) → widest_in words ≡ widest_of (map white_of words)
unfolding wider
widest_same [] = refl
widest_same (w ∷ ws) = ap (λ (n : ℕ). max (number_or (white_width w)) n) (widest_same ws)

pub whites_next : (v : List ℕ) (vs : List (List ℕ)) (plates : List PlateNames) → are_whites (v ∷ vs) plates ≡ (is_white v vs plates && are_whites vs plates)
whites_next v vs plates = refl

-- the last of three tests, of which the first two pass
pub last_of_three : (a b c x y z : Bool) → a ≡ x → b ≡ y → c ≡ z → a ≡ true → b ≡ true → not c ≡ (x && y && not z)
last_of_three a b c true true z p q r s t = ap not r
last_of_three a b c true false z p q r s t = absurd (cc)
last_of_three a b c false y z p q r s t = absurd (cc)

either : (b : Bool) (x : Option KeepWords) → x ≡ None → None ≡ (if b then x else None)
either true x e = sym e
either false x e = refl

pub too_short : (words rest : List (List ℕ)) → rest ≡ rest_of words → length rest < 2 → None ≡ keep_of words
too_short words rest is l = either (are_options (options_of words)) (keep_by (options_of words) (rest_of words)) (short (options_of words) (rest_of words) (subst (λ (r : List (List ℕ)). length r < 2) is l))
