-- What may stand in a string in parentheses.
use Rattle.std.specs.Prelude.{◌≡◌, ℕ, Bool, false, List, [], ◌∷◌, ◌++◌, ◌||◌, ◌==◌, ◌+◌, length}

-- ( ) and \
abbrev pub is_special : ℕ → Bool
is_special b = (b == 92) || (b == 40) || (b == 41)

-- Nothing; a plain byte, or `\` and any byte, and then more; or parentheses about more, and then
-- more.
pub data IsBalanced : List ℕ → Type 0 where
  nothing : IsBalanced []
  plain : (b : ℕ) (rest : List ℕ) → is_special b ≡ false → IsBalanced rest → IsBalanced (b ∷ rest)
  escaped : (b c : ℕ) (rest : List ℕ) → b ≡ 92 → IsBalanced rest → IsBalanced (b ∷ c ∷ rest)
  nested : (inner rest bytes : List ℕ) → IsBalanced inner → IsBalanced rest
      → bytes ≡ 40 ∷ (inner ++ 41 ∷ rest) → IsBalanced bytes

-- the bytes of a string after its first parenthesis: what may stand in it, and the parenthesis
-- that closes it
abbrev pub ClosesText : List ℕ → Type 0
ClosesText bytes = (inner : List ℕ) × IsBalanced inner × (bytes ≡ inner ++ 41 ∷ [])

-- the bytes after a string's first parenthesis begin so, and the whole string has n bytes
abbrev pub Closes : List ℕ → ℕ → Type 0
Closes bytes n = (inner : List ℕ) × (after : List ℕ) × IsBalanced inner
    × (bytes ≡ inner ++ 41 ∷ after) × (n ≡ length inner + 2)
