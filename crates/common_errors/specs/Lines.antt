-- What a line of text is.
use Rattle.std.specs.Prelude.{ℕ, List, [], ◌∷◌, ◌++◌}

-- a text, ended by LF
abbrev pub line : List ℕ → List ℕ
line text = text ++ 10 ∷ []
