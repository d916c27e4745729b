-- What may stand between tokens.
use Rattle.std.specs.Prelude.{◌≡◌, ◌⊎◌, ℕ, true, false, List, [], ◌∷◌, ◌++◌}
use Rattle.std.specs.List.{list_all}
use Rattle.ps_tokens.specs.Bytes.{is_whitespace, is_in_comment}

-- Whitespace, and whole comments: a `%`, bytes that end no line, and the line end after them.
pub data IsGap : List ℕ → Type 0 where
  nothing : IsGap []
  blank : (b : ℕ) (rest : List ℕ) → is_whitespace b ≡ true → IsGap rest → IsGap (b ∷ rest)
  comment : (text : List ℕ) (ending : ℕ) (rest bytes : List ℕ) → list_all is_in_comment text ≡ true
      → is_in_comment ending ≡ false → IsGap rest
      → bytes ≡ 37 ∷ (text ++ ending ∷ rest) → IsGap bytes

-- nothing, or a comment that the end of the job ends
abbrev pub IsEnd : List ℕ → Type 0
IsEnd bytes =
    (bytes ≡ []) ⊎ ((text : List ℕ) × (list_all is_in_comment text ≡ true) × (bytes ≡ 37 ∷ text))
