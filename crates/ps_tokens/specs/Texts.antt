-- Strings in parentheses.
use Rattle.std.specs.Prelude.{ℕ, Bool, true, false, List, [], ◌∷◌, Option, Some, None, ◌==◌, ◌+◌}
use Rattle.std.specs.Prelude.{◌-◌, if◌then◌else◌}

-- The place after the parenthesis that closes the string, where inner parentheses balance and
-- `\` takes the next byte
-- with it: `depth` inner ones are open at this place, and a `\` stands before it or not.
abbrev pub text_end : Bool → ℕ → ℕ → List ℕ → Option ℕ
text_end escaped depth at [] = None
text_end true depth at (b ∷ bs) = text_end false depth (at + 1) bs
text_end false depth at (b ∷ bs) =
    if b == 92 then text_end true depth (at + 1) bs
    else (if b == 40 then text_end false (depth + 1) (at + 1) bs
    else (if b == 41 then (if depth == 0 then Some (at + 1)
    else text_end false (depth - 1) (at + 1) bs)
    else text_end false depth (at + 1) bs))
