-- The kinds of the tokens that objects are written with.
use Rattle.std.specs.Prelude.{ℕ, zero, suc, List, [], ◌∷◌, ◌++◌, length, take, drop, map, filter}
use Rattle.std.specs.Prelude.{not}
use Rattle.ps_tokens.specs.declared.token.Token.{Token}
use Rattle.ps_tokens.specs.declared.token.TokenKind.{TokenKind}
use Rattle.ps_tokens.specs.declared.token.TokenKind.TheVariants as kinds
use Rattle.ps_tokens.specs.declared.object.Body.{Body}
use Rattle.ps_tokens.specs.declared.object.Body.TheVariants.{Number, Truth, Null, Text, Literal}
use Rattle.ps_tokens.specs.declared.object.Body.TheVariants.{Operator, Array, Dict}
use Rattle.ps_tokens.specs.declared.object.Object.{Object}
use Rattle.ps_tokens.specs.Objects.{is_closing, body_as}
use Rattle.ps_tokens.specs.Words.{spelling}

-- the kind of the token that such an object begins with
abbrev pub first_kind : Body → TokenKind
first_kind (Number n) = kinds.Number n
first_kind (Truth b) = kinds.Word
first_kind Null = kinds.Word
first_kind Text = kinds.Text
first_kind (Literal name) = kinds.Literal
first_kind (Operator name) = kinds.Word
first_kind Array = kinds.OpenArray
first_kind Dict = kinds.OpenDict

-- the kind of the token that closes it, where one does
abbrev pub last_kinds : Body → List TokenKind
last_kinds (Number n) = []
last_kinds (Truth b) = []
last_kinds Null = []
last_kinds Text = []
last_kinds (Literal name) = []
last_kinds (Operator name) = []
last_kinds Array = kinds.CloseArray ∷ []
last_kinds Dict = kinds.CloseDict ∷ []

-- the kinds for these objects, of which there are at most as many as the number: the first one's,
-- those for the objects within it, its end's, and those for the objects after it
abbrev pub kinds_of : ℕ → List Object → List TokenKind
kinds_of zero objects = []
kinds_of (suc most) [] = []
kinds_of (suc most) (object ∷ objects) =
    first_kind object.body
    ∷ (kinds_of most (take object.inside objects)
    ++ (last_kinds object.body ++ kinds_of most (drop object.inside objects)))

-- the kinds for these objects
abbrev pub kinds_written : List Object → List TokenKind
kinds_written objects = kinds_of (length objects) objects

-- the offsets of the tokens that begin objects
abbrev pub begun_at : List Token → List ℕ
begun_at tokens = map (λ t. t.at) (filter (λ t. not (is_closing t.kind)) tokens)

-- what the spellings of those tokens give
abbrev pub begun_as : List ℕ → List Token → List Body
begun_as bytes tokens =
    map (λ t. body_as t.kind (spelling bytes t)) (filter (λ t. not (is_closing t.kind)) tokens)
