-- Which brackets are open after some tokens, and the first token that no further tokens could mend.
use Rattle.std.specs.Prelude.{◌≡◌, ℕ, Bool, true, false, List, [], ◌∷◌, length, fold, Result, Ok}
use Rattle.std.specs.Prelude.{Err, ◌==◌, if◌then◌else◌}
use Rattle.ps_tokens.specs.declared.faults.FaultKind.{FaultKind}
use Rattle.ps_tokens.specs.declared.faults.FaultKind.TheVariants.{Unmatched, OddDictionary}
use Rattle.ps_tokens.specs.declared.faults.FaultKind.TheVariants.{KeyNotName, NameInside, TooDeep}
use Rattle.ps_tokens.specs.declared.faults.JobFault.{JobFault}
use Rattle.ps_tokens.specs.declared.token.Token.{Token}
use Rattle.ps_tokens.specs.declared.token.TokenKind.{TokenKind}
use Rattle.ps_tokens.specs.declared.token.TokenKind.TheVariants.{OpenDict, CloseDict, OpenArray}
use Rattle.ps_tokens.specs.declared.token.TokenKind.TheVariants.{CloseArray, Literal, Word, Number}
use Rattle.ps_tokens.specs.declared.token.TokenKind.TheVariants.{Text}
use Rattle.ps_tokens.specs.declared.brackets.Expects.{Expects}
use Rattle.ps_tokens.specs.declared.brackets.Expects.TheVariants.{Item, Key, Value}
use Rattle.ps_tokens.specs.declared.brackets.Bracket.{Bracket}
use Rattle.ps_tokens.specs.Limits.{deepest}
use Rattle.ps_tokens.specs.Words.{spelling, is_value_word}

-- what a bracket expects after one more object
abbrev pub next_expected : Expects → Expects
next_expected Item = Item
next_expected Key = Value
next_expected Value = Key

-- the open brackets, the innermost first, after one more object in the innermost
abbrev pub after_object : List Bracket → List Bracket
after_object [] = []
after_object (innermost ∷ outer) =
    record innermost { expects = next_expected innermost.expects } ∷ outer

-- whether a bracket is a dictionary where a key is due
abbrev pub is_key : Expects → Bool
is_key Item = false
is_key Key = true
is_key Value = false

-- whether a key is due in the innermost bracket
abbrev pub is_key_due : List Bracket → Bool
is_key_due [] = false
is_key_due (innermost ∷ outer) = is_key innermost.expects

-- after an opening token: no bracket may stand in a key's place, or within 16 others
unfoldable pub after_opening : ℕ → Expects → List Bracket → Result (List Bracket) FaultKind
after_opening at expects brackets =
    if is_key_due brackets then Err KeyNotName
    else (if length brackets == deepest then Err TooDeep
    else Ok (record { at = at; expects = expects } ∷ after_object brackets))

-- what `]` leaves open of a bracket and those around it
abbrev pub array_end : Expects → List Bracket → Result (List Bracket) FaultKind
array_end Item outer = Ok outer
array_end Key outer = Err Unmatched
array_end Value outer = Err Unmatched

-- after `]`
unfoldable pub after_array_end : List Bracket → Result (List Bracket) FaultKind
after_array_end [] = Err Unmatched
after_array_end (innermost ∷ outer) = array_end innermost.expects outer

-- what `>>` leaves open of a bracket and those around it
abbrev pub dict_end : Expects → List Bracket → Result (List Bracket) FaultKind
dict_end Item outer = Err Unmatched
dict_end Key outer = Ok outer
dict_end Value outer = Err OddDictionary

-- after `>>`
unfoldable pub after_dict_end : List Bracket → Result (List Bracket) FaultKind
after_dict_end [] = Err Unmatched
after_dict_end (innermost ∷ outer) = dict_end innermost.expects outer

-- after a number, a string, `true`, `false` or `null`
unfoldable pub after_value : List Bracket → Result (List Bracket) FaultKind
after_value brackets = if is_key_due brackets then Err KeyNotName else Ok (after_object brackets)

-- after any other word
unfoldable pub after_operator : List Bracket → Result (List Bracket) FaultKind
after_operator brackets =
    if is_key_due brackets then Err KeyNotName
    else (if length brackets == 0 then Ok [] else Err NameInside)

-- after a token of a kind at an offset; a word is a value or not
abbrev pub after_kind : TokenKind → ℕ → Bool → List Bracket → Result (List Bracket) FaultKind
after_kind OpenDict at is_value brackets = after_opening at Key brackets
after_kind CloseDict at is_value brackets = after_dict_end brackets
after_kind OpenArray at is_value brackets = after_opening at Item brackets
after_kind CloseArray at is_value brackets = after_array_end brackets
after_kind Literal at is_value brackets = Ok (after_object brackets)
after_kind Word at is_value brackets =
    if is_value then after_value brackets else after_operator brackets
after_kind (Number n) at is_value brackets = after_value brackets
after_kind Text at is_value brackets = after_value brackets

-- after one more token
abbrev pub after_token : List ℕ → Token → List Bracket → Result (List Bracket) FaultKind
after_token bytes token brackets =
    after_kind token.kind token.at (is_value_word (spelling bytes token)) brackets

-- a fault at its token
abbrev pub at_token : ℕ → Result (List Bracket) FaultKind → Result (List Bracket) JobFault
at_token at (Ok brackets) = Ok brackets
at_token at (Err kind) = Err (record { kind = kind; at = at })

-- the same after tokens that may have had a fault
abbrev pub after_next : List ℕ → Result (List Bracket) JobFault → Token
    → Result (List Bracket) JobFault
after_next bytes (Ok brackets) token = at_token token.at (after_token bytes token brackets)
after_next bytes (Err fault) token = Err fault

-- the brackets that are open after all tokens, or the first fault
abbrev pub brackets_after : List ℕ → List Token → Result (List Bracket) JobFault
brackets_after bytes tokens = fold (after_next bytes) (Ok []) tokens

-- a call leaves the brackets that a definition leaves, or gives its fault
abbrev pub Becomes : Result (Unit {0}) FaultKind → List Bracket → Result (List Bracket) FaultKind
    → Type 0
Becomes (Ok done) new meant = meant ≡ Ok new
Becomes (Err kind) new meant = meant ≡ Err kind
