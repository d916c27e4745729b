-- What stands at the beginning of bytes: whitespace or a comment, a token, or neither.
use Rattle.std.specs.Prelude.{ℕ, false, List, ◌∷◌, length, drop, Option, Some, None, ◌==◌, ◌+◌, ◌≤◌}
use Rattle.std.specs.Prelude.{nat_lt, if◌then◌else◌}
use Rattle.std.specs.List.{prefix_len, take_while}
use Rattle.ps_tokens.specs.declared.faults.FaultKind.TheVariants.{BadToken, NumberTooLarge}
use Rattle.ps_tokens.specs.declared.token.TokenKind.TheVariants.{OpenDict, CloseDict, OpenArray}
use Rattle.ps_tokens.specs.declared.token.TokenKind.TheVariants.{CloseArray, Literal, Word, Number}
use Rattle.ps_tokens.specs.declared.token.TokenKind.TheVariants.{Text}
use Rattle.ps_tokens.specs.declared.pieces.Piece.{Piece}
use Rattle.ps_tokens.specs.declared.pieces.Piece.TheVariants.{Blank, Spelled, Broken}
use Rattle.ps_tokens.specs.Bytes.{is_whitespace, is_regular, is_hexadecimal, is_in_comment}
use Rattle.ps_tokens.specs.Bytes.{begins_with}
use Rattle.ps_tokens.specs.Limits.{largest_whole}
use Rattle.ps_tokens.specs.Numbers.{whole_digits, is_number, begins_like_number, decimal, value_of}
use Rattle.ps_tokens.specs.Texts.{text_end}

-- a run that is a number; its whole part is at most 1,000,000
unfoldable pub number_piece : List ℕ → Piece
number_piece run = if nat_lt largest_whole (decimal (whole_digits run)) then Broken NumberTooLarge
    else Spelled (Number (value_of run)) (length run)

-- a run of regular bytes: a number, or a word that does not begin like one
unfoldable pub run_piece : List ℕ → Piece
run_piece run = if is_number run then number_piece run
    else (if begins_like_number run then Broken BadToken else Spelled Word (length run))

-- after `/`: a name, and no other `/` at once
unfoldable pub literal_piece : List ℕ → Piece
literal_piece bs =
    if begins_with 47 bs then Broken BadToken else Spelled Literal (1 + prefix_len is_regular bs)

-- a string that ends at this place, if it ends
abbrev pub ended_text : Option ℕ → Piece
ended_text None = Broken BadToken
ended_text (Some len) = Spelled Text len

-- after `<`: another `<`, or hexadecimal digits and whitespace up to `>`
unfoldable pub angle_piece : List ℕ → Piece
angle_piece bs =
    if begins_with 60 bs then Spelled OpenDict 2
    else (if begins_with 62 (drop (prefix_len is_hexadecimal bs) bs)
    then Spelled Text (2 + prefix_len is_hexadecimal bs)
    else Broken BadToken)

-- a byte that is no regular one and no whitespace, and what follows
unfoldable pub mark_piece : ℕ → List ℕ → Piece
mark_piece b bs =
    if b == 37 then Blank (1 + prefix_len is_in_comment bs)
    else (if b == 47 then literal_piece bs
    else (if b == 40 then ended_text (text_end false 0 1 bs)
    else (if b == 60 then angle_piece bs
    else (if b == 62 then (if begins_with 62 bs then Spelled CloseDict 2 else Broken BadToken)
    else (if b == 91 then Spelled OpenArray 1
    else (if b == 93 then Spelled CloseArray 1
    else Broken BadToken))))))

-- what stands at the beginning of b and the bytes after it
unfoldable pub piece_at : ℕ → List ℕ → Piece
piece_at b bs =
    if is_whitespace b then Blank 1
    else (if is_regular b then run_piece (take_while is_regular (b ∷ bs))
    else mark_piece b bs)

-- whitespace or a token has at least one byte, and at most `most`
abbrev pub IsWithin : Piece → ℕ → Type 0
IsWithin (Blank len) most = (1 ≤ len) × (len ≤ most)
IsWithin (Spelled kind len) most = (1 ≤ len) × (len ≤ most)
IsWithin (Broken kind) most = Unit {0}
