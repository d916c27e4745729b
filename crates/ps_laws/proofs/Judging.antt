-- Tokens that write objects out have no fault, and leave the brackets as they were.
use Rattle.std.proofs.Common.{◌≡◌, inl, inr, ℕ, suc, ◌<◌, Bool, true, false, ◌||◌, List, [], ◌∷◌, ◌++◌, length, fold, Ok, refl, sym, ap, ◌∙◌, subst, ⊎_elim, arith}
use Rattle.std.specs.Prelude.{codes}
use Rattle.std.specs.Str.{bytes_eq}
use Rattle.std.proofs.lemmas.Bool.{false_from_ne_true, or_cases, or_left, or_right, ne_eqb}
use Rattle.std.proofs.lemmas.Slice.Eq.{bytes_eq-Decides}
use Rattle.std.proofs.lemmas.List.Sums.{fold-append}
use Rattle.ps_tokens.specs.declared.token.Token.{Token}
use Rattle.ps_tokens.specs.declared.token.TokenKind.{TokenKind}
use Rattle.ps_tokens.specs.declared.token.TokenKind.TheVariants as kinds
use Rattle.ps_tokens.specs.declared.brackets.Expects.{Expects}
use Rattle.ps_tokens.specs.declared.brackets.Expects.TheVariants.{Item, Key, Value}
use Rattle.ps_tokens.specs.declared.brackets.Bracket.{Bracket}
use Rattle.ps_tokens.specs.declared.object.Body.{Body}
use Rattle.ps_tokens.specs.declared.object.Body.TheVariants.{Number, Truth, Null, Text, Literal, Operator, Array, Dict}
use Rattle.ps_tokens.specs.declared.object.Object.{Object}
use Rattle.ps_tokens.specs.Words.{spelling, is_value_word}
use Rattle.ps_tokens.specs.Brackets.{after_object, is_key_due, after_opening, after_array_end, after_dict_end, after_value, after_operator, after_kind, after_token, at_token, after_next}
use Rattle.ps_laws.specs.Writes.{IsValueWord, boolean_word, IsBegunBy, IsLiteral, IsPlain, Part, whole, items, entries, Writes, plain, array, dict, no_item, next_item, no_entry, next_entry}

-- the words that are values
pub value_word-from : (word : List ℕ) → IsValueWord word → is_value_word word ≡ true
unfolding is_value_word
value_word-from word (inl is) = or_left (bytes_eq word (codes "true") || bytes_eq word (codes "false")) (bytes_eq word (codes "null")) (or_left (bytes_eq word (codes "true")) (bytes_eq word (codes "false")) ((bytes_eq-Decides word (codes "true")).1 is))
value_word-from word (inr (inl is)) = or_left (bytes_eq word (codes "true") || bytes_eq word (codes "false")) (bytes_eq word (codes "null")) (or_right (bytes_eq word (codes "true")) (bytes_eq word (codes "false")) ((bytes_eq-Decides word (codes "false")).1 is))
value_word-from word (inr (inr is)) = or_right (bytes_eq word (codes "true") || bytes_eq word (codes "false")) (bytes_eq word (codes "null")) ((bytes_eq-Decides word (codes "null")).1 is)

pub is_value-word : (word : List ℕ) → is_value_word word ≡ true → IsValueWord word
unfolding is_value_word
is_value-word word is =
    ⊎_elim
    (λ (t : (bytes_eq word (codes "true") || bytes_eq word (codes "false")) ≡ true).
    ⊎_elim
    (λ (u : bytes_eq word (codes "true") ≡ true). inl ((bytes_eq-Decides word (codes "true")).0 u))
    (λ (u : bytes_eq word (codes "false") ≡ true). inr (inl ((bytes_eq-Decides word (codes "false")).0 u)))
    (or_cases (bytes_eq word (codes "true")) (bytes_eq word (codes "false")) t))
    (λ (t : bytes_eq word (codes "null") ≡ true). inr (inr ((bytes_eq-Decides word (codes "null")).0 t)))
    (or_cases (bytes_eq word (codes "true") || bytes_eq word (codes "false")) (bytes_eq word (codes "null")) is)

-- a token that is an object without brackets
put-value : (brackets : List Bracket) → is_key_due brackets ≡ false → after_value brackets ≡ Ok (after_object brackets)
unfolding after_value
put-value brackets due = rw due refl

put-operator : (brackets : List Bracket) → length brackets ≡ 0 → after_operator brackets ≡ Ok (after_object brackets)
unfolding after_operator
put-operator [] none = refl
put-operator (b ∷ brackets) none = absurd (omega arith)

put-word : (at : ℕ) (brackets : List Bracket) (value : Bool) → value ≡ true → is_key_due brackets ≡ false → after_kind kinds.Word at value brackets ≡ Ok (after_object brackets)
put-word at brackets value is due = rw is (put-value brackets due)

boolean_is_value : (b : Bool) → IsValueWord (boolean_word b)
boolean_is_value true = inl refl
boolean_is_value false = inr (inl refl)

after_token-plain : (body : Body) (kind : TokenKind) (text : List ℕ) (at : ℕ) (brackets : List Bracket) → IsPlain (length brackets) body → IsBegunBy body kind text → is_key_due brackets ≡ false
    → after_kind kind at (is_value_word text) brackets ≡ Ok (after_object brackets)
after_token-plain (Number n) kind text at brackets is by due = ap (λ k. after_kind k at (is_value_word text) brackets) by ∙ put-value brackets due
after_token-plain (Truth b) kind text at brackets is by due =
    ap (λ k. after_kind k at (is_value_word text) brackets) by.0 ∙ put-word at brackets (is_value_word text) (value_word-from text (subst IsValueWord (sym by.1) (boolean_is_value b))) due
after_token-plain Null kind text at brackets is by due =
    ap (λ k. after_kind k at (is_value_word text) brackets) by.0 ∙ put-word at brackets (is_value_word text) (value_word-from text (inr (inr by.1))) due
after_token-plain Text kind text at brackets is by due = ap (λ k. after_kind k at (is_value_word text) brackets) by ∙ put-value brackets due
after_token-plain (Literal name) kind text at brackets is by due = ap (λ k. after_kind k at (is_value_word text) brackets) by.0
after_token-plain (Operator name) kind text at brackets is by due =
    let operator : is_value_word text ≡ false = false_from_ne_true (is_value_word text) (λ t. by.2 (is_value-word text t)) in
    ap (λ k. after_kind k at (is_value_word text) brackets) by.0
    ∙ ap (λ v. after_kind kinds.Word at v brackets) operator
    ∙ put-operator brackets is
after_token-plain Array kind text at brackets is by due = absurd is
after_token-plain Dict kind text at brackets is by due = absurd is

pub after_token-literal : (body : Body) (kind : TokenKind) (text : List ℕ) (at : ℕ) (brackets : List Bracket) → IsLiteral body → IsBegunBy body kind text
    → after_kind kind at (is_value_word text) brackets ≡ Ok (after_object brackets)
after_token-literal body kind text at brackets is by =
    let literal : IsBegunBy (Literal is.0) kind text = subst (λ b. IsBegunBy b kind text) is.1 by in
    ap (λ k. after_kind k at (is_value_word text) brackets) literal.0

-- a token that opens a bracket
pub after_opening-bracket : (at : ℕ) (expects : Expects) (brackets : List Bracket) → is_key_due brackets ≡ false → length brackets < 16
    → after_opening at expects brackets ≡ Ok (record { at = at; expects = expects } ∷ after_object brackets)
unfolding after_opening
after_opening-bracket at expects brackets due few = rw (due, ne_eqb (length brackets) 16 (λ e. omega arith)) refl

unless_open-array : (at : ℕ) (brackets : List Bracket) → after_array_end (record { at = at; expects = Item } ∷ brackets) ≡ Ok brackets
unfolding after_array_end
unless_open-array at brackets = refl

unless_open-dict : (at : ℕ) (brackets : List Bracket) → after_dict_end (record { at = at; expects = Key } ∷ brackets) ≡ Ok brackets
unfolding after_dict_end
unless_open-dict at brackets = refl

pub length-after_object : (brackets : List Bracket) → length (after_object brackets) ≡ length brackets
length-after_object [] = refl
length-after_object (b ∷ brackets) = refl

-- how brackets stand before a part, and after it
abbrev Fits : Part → ℕ → List Bracket → Type 0
Fits whole depth brackets = (length brackets ≡ depth) × (is_key_due brackets ≡ false)
Fits items depth brackets = (length brackets ≡ depth) × (is_key_due brackets ≡ false) × (after_object brackets ≡ brackets)
Fits entries depth brackets = (at : ℕ) × (outer : List Bracket) × (brackets ≡ record { at = at; expects = Key } ∷ outer) × (suc (length outer) ≡ depth)

abbrev left : Part → List Bracket → List Bracket
left whole brackets = after_object brackets
left items brackets = brackets
left entries brackets = brackets

-- one token, and then more
pub after_token-first : (bytes : List ℕ) (brackets new : List Bracket) (token : Token) (tokens : List Token) → after_token bytes token brackets ≡ Ok new
    → fold (after_next bytes) (Ok brackets) (token ∷ tokens) ≡ fold (after_next bytes) (Ok new) tokens
after_token-first bytes brackets new token tokens is = ap (λ r. fold (after_next bytes) (at_token token.at r) tokens) is

pub after_token-last : (bytes : List ℕ) (brackets new : List Bracket) (token : Token) → after_token bytes token brackets ≡ Ok new → fold (after_next bytes) (Ok brackets) (token ∷ []) ≡ Ok new
after_token-last bytes brackets new token is = after_token-first bytes brackets new token [] is

pub after_token-append : (bytes : List ℕ) (brackets middle : List Bracket) (prefix suffix : List Token) → fold (after_next bytes) (Ok brackets) prefix ≡ Ok middle
    → fold (after_next bytes) (Ok brackets) (prefix ++ suffix) ≡ fold (after_next bytes) (Ok middle) suffix
after_token-append bytes brackets middle prefix suffix is = fold-append (after_next bytes) (Ok brackets) prefix suffix ∙ ap (λ r. fold (after_next bytes) r suffix) is

-- a bracket, what stands within it, and its end
after_token-bracket : (bytes : List ℕ) (brackets : List Bracket) (expects : Expects) (opening closing : Token) (between : List Token)
    → after_token bytes opening brackets ≡ Ok (record { at = opening.at; expects = expects } ∷ after_object brackets)
    → fold (after_next bytes) (Ok (record { at = opening.at; expects = expects } ∷ after_object brackets)) between ≡ Ok (record { at = opening.at; expects = expects } ∷ after_object brackets)
    → after_token bytes closing (record { at = opening.at; expects = expects } ∷ after_object brackets) ≡ Ok (after_object brackets)
    → fold (after_next bytes) (Ok brackets) (opening ∷ (between ++ closing ∷ [])) ≡ Ok (after_object brackets)
after_token-bracket bytes brackets expects opening closing between first within last =
    let inner = record { at = opening.at; expects = expects } ∷ after_object brackets in
    after_token-first bytes brackets inner opening (between ++ closing ∷ []) first
    ∙ after_token-append bytes inner inner between (closing ∷ []) within
    ∙ after_token-last bytes inner (after_object brackets) closing last

kind-array : (body : Body) (kind : TokenKind) (text : List ℕ) → body ≡ Array → IsBegunBy body kind text → kind ≡ kinds.OpenArray
kind-array body kind text is by = subst (λ b. IsBegunBy b kind text) is by

kind-dict : (body : Body) (kind : TokenKind) (text : List ℕ) → body ≡ Dict → IsBegunBy body kind text → kind ≡ kinds.OpenDict
kind-dict body kind text is by = subst (λ b. IsBegunBy b kind text) is by

-- what is written out leaves no bracket open
pub writes-after_token : (bytes : List ℕ) {part : Part} {depth : ℕ} {objects : List Object} {tokens : List Token} → Writes bytes part depth objects tokens
    → (brackets : List Bracket) → Fits part depth brackets → fold (after_next bytes) (Ok brackets) tokens ≡ Ok (left part brackets)
writes-after_token bytes (plain depth object token is begins) brackets fits =
    let simple : IsPlain (length brackets) object.body = subst (λ d. IsPlain d object.body) (sym fits.0) is in
    after_token-last bytes brackets (after_object brackets) token (after_token-plain object.body token.kind (spelling bytes token) token.at brackets simple begins.meaning fits.1)
writes-after_token bytes (array depth object opening closing inner between tokens is begins ends few within are) brackets fits =
    let open_kind = kind-array object.body opening.kind (spelling bytes opening) is begins.meaning in
    let few_open : length brackets < 16 = omega (arith, fits.0) in
    let first : after_token bytes opening brackets ≡ Ok (record { at = opening.at; expects = Item } ∷ after_object brackets) =
    ap (λ k. after_kind k opening.at (is_value_word (spelling bytes opening)) brackets) open_kind ∙ after_opening-bracket opening.at Item brackets fits.1 few_open in
    let new = record { at = opening.at; expects = Item } ∷ after_object brackets in
    let last : after_token bytes closing new ≡ Ok (after_object brackets) =
    ap (λ k. after_kind k closing.at (is_value_word (spelling bytes closing)) new) ends ∙ unless_open-array opening.at (after_object brackets) in
    let count : suc (length (after_object brackets)) ≡ suc depth = ap (λ n. suc n) (length-after_object brackets ∙ fits.0) in
    ap (fold (after_next bytes) (Ok brackets)) are
    ∙ after_token-bracket bytes brackets Item opening closing between first (writes-after_token bytes within new (count, refl, refl)) last
writes-after_token bytes (dict depth object opening closing inner between tokens is begins ends few within are) brackets fits =
    let open_kind = kind-dict object.body opening.kind (spelling bytes opening) is begins.meaning in
    let few_open : length brackets < 16 = omega (arith, fits.0) in
    let first : after_token bytes opening brackets ≡ Ok (record { at = opening.at; expects = Key } ∷ after_object brackets) =
    ap (λ k. after_kind k opening.at (is_value_word (spelling bytes opening)) brackets) open_kind ∙ after_opening-bracket opening.at Key brackets fits.1 few_open in
    let new = record { at = opening.at; expects = Key } ∷ after_object brackets in
    let last : after_token bytes closing new ≡ Ok (after_object brackets) =
    ap (λ k. after_kind k closing.at (is_value_word (spelling bytes closing)) new) ends ∙ unless_open-dict opening.at (after_object brackets) in
    let count : suc (length (after_object brackets)) ≡ suc depth = ap (λ n. suc n) (length-after_object brackets ∙ fits.0) in
    ap (fold (after_next bytes) (Ok brackets)) are
    ∙ after_token-bracket bytes brackets Key opening closing between first (writes-after_token bytes within new (opening.at, after_object brackets, refl, count)) last
writes-after_token bytes (no_item depth) brackets fits = refl
writes-after_token bytes (next_item depth first rest objects prefix suffix tokens one more is are) brackets fits =
    ap (fold (after_next bytes) (Ok brackets)) are
    ∙ after_token-append bytes brackets (after_object brackets) prefix suffix (writes-after_token bytes one brackets (fits.0, fits.1))
    ∙ ap (λ b. fold (after_next bytes) (Ok b) suffix) fits.2
    ∙ writes-after_token bytes more brackets fits
writes-after_token bytes (no_entry depth) brackets fits = refl
writes-after_token bytes (next_entry depth key token value rest objects prefix suffix tokens named begins one more is are) brackets fits =
    let at = fits.0 in
    let outer = fits.1 in
    let due = record { at = at; expects = Key } ∷ outer in
    let after_key = record { at = at; expects = Value } ∷ outer in
    ap (fold (after_next bytes) (Ok brackets)) are
    ∙ ap (λ b. fold (after_next bytes) (Ok b) (token ∷ (prefix ++ suffix))) fits.2
    ∙ after_token-first bytes due after_key token (prefix ++ suffix) (after_token-literal key.body token.kind (spelling bytes token) token.at due named begins.meaning)
    ∙ after_token-append bytes after_key due prefix suffix (writes-after_token bytes one after_key (fits.3, refl))
    ∙ writes-after_token bytes more due (at, outer, refl, fits.3)
    ∙ ap (λ b. Ok b) (sym fits.2)
