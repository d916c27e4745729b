-- The first byte and the rest; a string, one byte after the other.
use Rattle.std.proofs.Common.{[], ◌∷◌, refl, arith, ◌≡◌, ℕ, ◌+◌, ◌-◌, ◌<◌, ◌≤◌, Bool, true, false, cond, eqb, List, length, drop, get_or, Some}
use Rattle.std.specs.List.{prefix_len}
use Rattle.std.proofs.lemmas.List.{at_drop_more}
use Rattle.ps_tokens.specs.Texts.{text_end}

-- a list that is not empty is its first element and the rest
pub first_and_rest : (xs : List ℕ) → 0 < length xs → get_or xs 0 0 ∷ drop 1 xs ≡ xs
first_and_rest [] some = absurd (omega arith)
first_and_rest (x ∷ xs) some = refl

-- a prefix whose first element passes is not empty
pub prefix_len-first : (p : ℕ → Bool) (xs : List ℕ) → 0 < length xs → p (get_or xs 0 0) ≡ true → 1 ≤ prefix_len p xs
prefix_len-first p [] some passes = absurd (omega arith)
prefix_len-first p (x ∷ xs) some passes = rw passes (omega arith)

-- those laws, for tactics
pub ruleset prefixes = (first_and_rest, prefix_len-first)

-- one byte of a string
pub text_end-drop : (escaped : Bool) (depth at : ℕ) (bytes : List ℕ) (i : ℕ) → i < length bytes
    → text_end escaped depth at (drop i bytes)
    ≡ cond escaped (text_end false depth (at + 1) (drop (i + 1) bytes))
    (cond (eqb (get_or bytes i 0) 92) (text_end true depth (at + 1) (drop (i + 1) bytes))
    (cond (eqb (get_or bytes i 0) 40) (text_end false (depth + 1) (at + 1) (drop (i + 1) bytes))
    (cond (eqb (get_or bytes i 0) 41) (cond (eqb depth 0) (Some (at + 1)) (text_end false (depth - 1) (at + 1) (drop (i + 1) bytes)))
    (text_end false depth (at + 1) (drop (i + 1) bytes)))))
text_end-drop true depth at bytes i lt = at_drop_more (text_end true depth at) bytes i 0 lt
text_end-drop false depth at bytes i lt = at_drop_more (text_end false depth at) bytes i 0 lt
