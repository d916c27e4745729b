-- What objects the tokens of a job write out, or the first fault.
use Rattle.std.specs.Prelude.{◌≡◌, ℕ, Bool, true, false, List, [], ◌∷◌, drop, Result, Ok, Err, ◌==◌}
use Rattle.std.specs.Prelude.{◌+◌, ◌-◌, slice_index, codes, if◌then◌else◌}
use Rattle.std.specs.Str.{bytes_eq}
use Rattle.ps_tokens.specs.declared.faults.FaultKind.TheVariants.{Unclosed}
use Rattle.ps_tokens.specs.declared.faults.JobFault.{JobFault}
use Rattle.ps_tokens.specs.declared.token.Token.{Token}
use Rattle.ps_tokens.specs.declared.token.TokenKind.{TokenKind}
use Rattle.ps_tokens.specs.declared.token.TokenKind.TheVariants as kinds
use Rattle.ps_tokens.specs.declared.brackets.Bracket.{Bracket}
use Rattle.ps_tokens.specs.declared.object.Body.{Body}
use Rattle.ps_tokens.specs.declared.object.Body.TheVariants.{Number, Truth, Null, Text, Literal}
use Rattle.ps_tokens.specs.declared.object.Body.TheVariants.{Operator, Array, Dict}
use Rattle.ps_tokens.specs.declared.object.Object.{Object}
use Rattle.ps_tokens.specs.Words.{spelling}
use Rattle.ps_tokens.specs.Brackets.{brackets_after}

-- whether a token opens a bracket
abbrev pub is_opening : TokenKind → Bool
is_opening kinds.OpenDict = true
is_opening kinds.CloseDict = false
is_opening kinds.OpenArray = true
is_opening kinds.CloseArray = false
is_opening kinds.Literal = false
is_opening kinds.Word = false
is_opening (kinds.Number n) = false
is_opening kinds.Text = false

-- whether a token closes a bracket; every other one begins an object
abbrev pub is_closing : TokenKind → Bool
is_closing kinds.OpenDict = false
is_closing kinds.CloseDict = true
is_closing kinds.OpenArray = false
is_closing kinds.CloseArray = true
is_closing kinds.Literal = false
is_closing kinds.Word = false
is_closing (kinds.Number n) = false
is_closing kinds.Text = false

-- how many objects these tokens begin before the bracket closes that is `outside` brackets outside
-- the innermost open one
abbrev pub count_inside : ℕ → List Token → ℕ
count_inside outside [] = 0
count_inside outside (token ∷ tokens) =
    if is_closing token.kind then (if outside == 0 then 0 else count_inside (outside - 1) tokens)
    else (if is_opening token.kind then 1 + count_inside (outside + 1) tokens
    else 1 + count_inside outside tokens)

-- For each bracket that these tokens leave to be closed, the innermost first, how many of their
-- count objects stand
-- after its closing token.
abbrev pub AreEnds : List ℕ → ℕ → List Token → Type 0
AreEnds ends count tokens =
    (outside : ℕ) → count_inside outside tokens + slice_index ends outside ≡ count

-- whether an object is a dictionary
abbrev pub is_dict : Body → Bool
is_dict (Number n) = false
is_dict (Truth b) = false
is_dict Null = false
is_dict Text = false
is_dict (Literal name) = false
is_dict (Operator name) = false
is_dict Array = false
is_dict Dict = true

-- what a word is
unfoldable pub word_body : List ℕ → Body
word_body word =
    if bytes_eq word (codes "true") then Truth true
    else (if bytes_eq word (codes "false") then Truth false
    else (if bytes_eq word (codes "null") then Null
    else Operator word))

-- what a token of this kind and spelling begins
abbrev pub body_as : TokenKind → List ℕ → Body
body_as kinds.OpenDict bytes = Dict
body_as kinds.CloseDict bytes = Null
body_as kinds.OpenArray bytes = Array
body_as kinds.CloseArray bytes = Null
body_as kinds.Literal bytes = Literal (drop 1 bytes)
body_as kinds.Word bytes = word_body bytes
body_as (kinds.Number n) bytes = Number n
body_as kinds.Text bytes = Text

-- the object that a token begins, with those after it up to its closing token
abbrev pub object_of : List ℕ → Token → List Token → Object
object_of bytes token tokens = record {
  at = token.at;
  inside = if is_opening token.kind then count_inside 0 tokens else 0;
  body = body_as token.kind (spelling bytes token);
}

-- the objects that tokens begin
abbrev pub objects_in : List ℕ → List Token → List Object
objects_in bytes [] = []
objects_in bytes (token ∷ tokens) =
    if is_closing token.kind then objects_in bytes tokens
    else object_of bytes token tokens ∷ objects_in bytes tokens

-- where no bracket is left open
abbrev pub unless_open : List ℕ → List Token → Result (List Bracket) JobFault
    → Result (List Object) JobFault
unless_open bytes tokens (Ok []) = Ok (objects_in bytes tokens)
unless_open bytes tokens (Ok (innermost ∷ outer)) =
    Err (record { kind = Unclosed; at = innermost.at })
unless_open bytes tokens (Err fault) = Err fault

-- the objects that a job's tokens write out, or the fault at the first token that no further
-- ones could mend
abbrev pub objects_of : List ℕ → List Token → Result (List Object) JobFault
objects_of bytes tokens = unless_open bytes tokens (brackets_after bytes tokens)
