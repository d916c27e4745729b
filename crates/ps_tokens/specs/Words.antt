-- The spellings of tokens, and which words are values.
use Rattle.std.specs.Prelude.{ℕ, Bool, List, take, drop, ◌||◌, codes}
use Rattle.std.specs.Str.{bytes_eq}
use Rattle.ps_tokens.specs.declared.token.Token.{Token}

-- a token's bytes
abbrev pub spelling : List ℕ → Token → List ℕ
spelling bytes token = take token.len (drop token.at bytes)

-- true, false or null
unfoldable pub is_value_word : List ℕ → Bool
is_value_word word =
    bytes_eq word (codes "true") || bytes_eq word (codes "false") || bytes_eq word (codes "null")
