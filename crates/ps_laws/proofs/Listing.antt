-- The objects that tokens begin, and how many stand within a bracket.
use Rattle.std.proofs.Common.{◌≡◌, inl, inr, ℕ, suc, ◌+◌, ◌-◌, Bool, true, false, cond, eqb, List, [], ◌∷◌, ◌++◌, length, refl, sym, ap, ◌∙◌, subst, arith, append_assoc, length-append}
use Rattle.std.specs.Prelude.{codes}
use Rattle.std.specs.Str.{bytes_eq}
use Rattle.std.proofs.lemmas.Bool.{false_from_ne_true, ne_eqb}
use Rattle.std.proofs.lemmas.Slice.Eq.{bytes_eq-Decides}
use Rattle.ps_tokens.specs.declared.token.Token.{Token}
use Rattle.ps_tokens.specs.declared.token.TokenKind.{TokenKind}
use Rattle.ps_tokens.specs.declared.token.TokenKind.TheVariants as kinds
use Rattle.ps_tokens.specs.declared.object.Body.{Body}
use Rattle.ps_tokens.specs.declared.object.Body.TheVariants.{Number, Truth, Null, Text, Literal, Operator, Array, Dict}
use Rattle.ps_tokens.specs.declared.object.Object.{Object}
use Rattle.ps_tokens.specs.Words.{spelling}
use Rattle.ps_tokens.specs.Objects.{is_opening, is_closing, count_inside, word_body, body_as, objects_in}
use Rattle.ps_laws.specs.Writes.{IsValueWord, boolean_word, IsBegunBy, Begins, IsLiteral, IsPlain, Part, Writes, plain, array, dict, no_item, next_item, no_entry, next_entry}

-- the body of a word
differs : (word other : List ℕ) → (word ≡ other → ⊥) → bytes_eq word other ≡ false
differs word other apart = false_from_ne_true (bytes_eq word other) (λ t. apart ((bytes_eq-Decides word other).0 t))

boolean-body : (b : Bool) → word_body (boolean_word b) ≡ Truth b
unfolding word_body
boolean-body true = refl
boolean-body false = refl

null-body : word_body (codes "null") ≡ Null
unfolding word_body
null-body = refl

operator-body : (word : List ℕ) → (IsValueWord word → ⊥) → word_body word ≡ Operator word
unfolding word_body
operator-body word none =
    let a = differs word (codes "true") (λ e. none (inl e)) in
    let b = differs word (codes "false") (λ e. none (inr (inl e))) in
    let c = differs word (codes "null") (λ e. none (inr (inr e))) in
    rw (a, b, c) refl

-- what a token begins is what is read of it
pub body-is : (body : Body) (kind : TokenKind) (text : List ℕ) → IsBegunBy body kind text → body_as kind text ≡ body
body-is (Number n) kind text by = ap (λ k. body_as k text) by
body-is (Truth b) kind text by = ap (λ k. body_as k text) by.0 ∙ ap word_body by.1 ∙ boolean-body b
body-is Null kind text by = ap (λ k. body_as k text) by.0 ∙ ap word_body by.1 ∙ null-body
body-is Text kind text by = ap (λ k. body_as k text) by
body-is (Literal name) kind text by = ap (λ k. body_as k text) by.0 ∙ ap (λ n. Literal n) (sym by.1)
body-is (Operator name) kind text by = ap (λ k. body_as k text) by.0 ∙ operator-body text by.2 ∙ ap (λ n. Operator n) (sym by.1)
body-is Array kind text by = ap (λ k. body_as k text) by
body-is Dict kind text by = ap (λ k. body_as k text) by

abbrev made : ℕ → ℕ → Body → Object
made at inside body = record { at = at; inside = inside; body = body }

object-is : (object : Object) (at inside : ℕ) (body : Body) → object.at ≡ at → object.inside ≡ inside → object.body ≡ body → record { at = at; inside = inside; body = body } ≡ object
object-is object at inside body a b c = ap (λ x. made x inside body) (sym a) ∙ ap (λ x. made object.at x body) (sym b) ∙ ap (λ x. made object.at object.inside x) (sym c)

-- a token without brackets neither opens nor closes one
pub record IsSimple (kind : TokenKind) : Type 0 where
  pub opens_none : is_opening kind ≡ false
  pub closes_none : is_closing kind ≡ false

at-kind : (k kind : TokenKind) → kind ≡ k → IsSimple k → IsSimple kind
at-kind k kind is simple = subst IsSimple (sym is) simple

pub simple-plain : (depth : ℕ) (body : Body) (kind : TokenKind) (text : List ℕ) → IsPlain depth body → IsBegunBy body kind text → IsSimple kind
simple-plain depth (Number n) kind text is by = at-kind (kinds.Number n) kind by (record { opens_none = refl; closes_none = refl })
simple-plain depth (Truth b) kind text is by = at-kind kinds.Word kind by.0 (record { opens_none = refl; closes_none = refl })
simple-plain depth Null kind text is by = at-kind kinds.Word kind by.0 (record { opens_none = refl; closes_none = refl })
simple-plain depth Text kind text is by = at-kind kinds.Text kind by (record { opens_none = refl; closes_none = refl })
simple-plain depth (Literal name) kind text is by = at-kind kinds.Literal kind by.0 (record { opens_none = refl; closes_none = refl })
simple-plain depth (Operator name) kind text is by = at-kind kinds.Word kind by.0 (record { opens_none = refl; closes_none = refl })
simple-plain depth Array kind text is by = absurd is
simple-plain depth Dict kind text is by = absurd is

pub simple-literal : (body : Body) (kind : TokenKind) (text : List ℕ) → IsLiteral body → IsBegunBy body kind text → IsSimple kind
simple-literal body kind text is by = simple-plain 0 (Literal is.0) kind text tt (subst (λ b. IsBegunBy b kind text) is.1 by)

-- how many objects tokens begin
count-simple : (outside : ℕ) (token : Token) (tokens : List Token) → IsSimple token.kind → count_inside outside (token ∷ tokens) ≡ 1 + count_inside outside tokens
count-simple outside token tokens simple = rw (simple.closes_none, simple.opens_none) refl

count-opening : (outside : ℕ) (token : Token) (tokens : List Token) → is_opening token.kind ≡ true → is_closing token.kind ≡ false → count_inside outside (token ∷ tokens) ≡ 1 + count_inside (suc outside) tokens
count-opening outside token tokens opens closes =
    let e : outside + 1 ≡ suc outside = omega arith in
    rw (closes, opens, e) refl

count-closing : (outside : ℕ) (token : Token) (tokens : List Token) → is_closing token.kind ≡ true → count_inside (suc outside) (token ∷ tokens) ≡ count_inside outside tokens
count-closing outside token tokens closes =
    let e : suc outside - 1 ≡ outside = omega arith in
    let n : eqb (suc outside) 0 ≡ false = ne_eqb (suc outside) 0 (λ e. omega arith) in
    rw (closes, n, e) refl

pub count-end : (token : Token) (tokens : List Token) → is_closing token.kind ≡ true → count_inside 0 (token ∷ tokens) ≡ 0
count-end token tokens closes = rw closes refl

-- the kinds of brackets
pub record IsBracket (open_kind close_kind : TokenKind) : Type 0 where
  pub opens : is_opening open_kind ≡ true
  pub opening_is_no_end : is_closing open_kind ≡ false
  pub closes : is_closing close_kind ≡ true

pub array-bracket : (body : Body) (kind close_kind : TokenKind) (text : List ℕ) → body ≡ Array → IsBegunBy body kind text → close_kind ≡ kinds.CloseArray → IsBracket kind close_kind
array-bracket body kind close_kind text is by ends =
    let k : kind ≡ kinds.OpenArray = subst (λ b. IsBegunBy b kind text) is by in
    record { opens = ap is_opening k; opening_is_no_end = ap is_closing k; closes = ap is_closing ends }

pub dict-bracket : (body : Body) (kind close_kind : TokenKind) (text : List ℕ) → body ≡ Dict → IsBegunBy body kind text → close_kind ≡ kinds.CloseDict → IsBracket kind close_kind
dict-bracket body kind close_kind text is by ends =
    let k : kind ≡ kinds.OpenDict = subst (λ b. IsBegunBy b kind text) is by in
    record { opens = ap is_opening k; opening_is_no_end = ap is_closing k; closes = ap is_closing ends }

count-bracket : (outside n : ℕ) (opening closing : Token) (between after : List Token) → IsBracket opening.kind closing.kind
    → count_inside (suc outside) (between ++ closing ∷ after) ≡ n + count_inside (suc outside) (closing ∷ after)
    → count_inside outside ((opening ∷ (between ++ closing ∷ [])) ++ after) ≡ suc n + count_inside outside after
count-bracket outside n opening closing between after bracket within =
    let e : 1 + (n + count_inside outside after) ≡ suc n + count_inside outside after = omega arith in
    ap (λ ts. count_inside outside (opening ∷ ts)) (append_assoc between (closing ∷ []) after)
    ∙ count-opening outside opening (between ++ closing ∷ after) bracket.opens bracket.opening_is_no_end
    ∙ ap (λ k. 1 + k) (within ∙ ap (λ k. n + k) (count-closing outside closing after bracket.closes))
    ∙ e

pub writes-count : (bytes : List ℕ) {part : Part} {depth : ℕ} {objects : List Object} {tokens : List Token} → Writes bytes part depth objects tokens
    → (outside : ℕ) (after : List Token) → count_inside outside (tokens ++ after) ≡ length objects + count_inside outside after
writes-count bytes (plain depth object token is begins) outside after =
    count-simple outside token after (simple-plain depth object.body token.kind (spelling bytes token) is begins.meaning)
writes-count bytes (array depth object opening closing inner between tokens is begins ends few within are) outside after =
    ap (λ ts. count_inside outside (ts ++ after)) are
    ∙ count-bracket outside (length inner) opening closing between after (array-bracket object.body opening.kind closing.kind (spelling bytes opening) is begins.meaning ends)
    (writes-count bytes within (suc outside) (closing ∷ after))
writes-count bytes (dict depth object opening closing inner between tokens is begins ends few within are) outside after =
    ap (λ ts. count_inside outside (ts ++ after)) are
    ∙ count-bracket outside (length inner) opening closing between after (dict-bracket object.body opening.kind closing.kind (spelling bytes opening) is begins.meaning ends)
    (writes-count bytes within (suc outside) (closing ∷ after))
writes-count bytes (no_item depth) outside after = omega arith
writes-count bytes (next_item depth first rest objects prefix suffix tokens one more is are) outside after =
    let n : length first + (length rest + count_inside outside after) ≡ length objects + count_inside outside after = omega (arith, ap length is, length-append first rest) in
    ap (count_inside outside) (ap (λ ts. ts ++ after) are ∙ append_assoc prefix suffix after)
    ∙ writes-count bytes one outside (suffix ++ after)
    ∙ ap (λ k. length first + k) (writes-count bytes more outside after)
    ∙ n
writes-count bytes (no_entry depth) outside after = omega arith
writes-count bytes (next_entry depth key token value rest objects prefix suffix tokens named begins one more is are) outside after =
    let n : 1 + (length value + (length rest + count_inside outside after)) ≡ length objects + count_inside outside after = omega (arith, ap length is, length-append value rest) in
    ap (count_inside outside) (ap (λ ts. ts ++ after) are ∙ ap (λ ts. token ∷ ts) (append_assoc prefix suffix after))
    ∙ count-simple outside token (prefix ++ (suffix ++ after)) (simple-literal key.body token.kind (spelling bytes token) named begins.meaning)
    ∙ ap (λ k. 1 + k) (writes-count bytes one outside (suffix ++ after) ∙ ap (λ k. length value + k) (writes-count bytes more outside after))
    ∙ n

-- the objects that tokens begin
listed-simple : (bytes : List ℕ) (object : Object) (token : Token) (tokens : List Token) → IsSimple token.kind → Begins bytes object token 0 → objects_in bytes (token ∷ tokens) ≡ object ∷ objects_in bytes tokens
listed-simple bytes object token tokens simple begins =
    let none : 0 ≡ cond (is_opening token.kind) (count_inside 0 tokens) 0 = rw (simple.opens_none) refl in
    let o = object-is object token.at (cond (is_opening token.kind) (count_inside 0 tokens) 0) (body_as token.kind (spelling bytes token)) begins.place (begins.count ∙ none) (sym (body-is object.body token.kind (spelling bytes token) begins.meaning)) in
    rw (simple.closes_none) (ap (λ x. x ∷ objects_in bytes tokens) o)

listed-opening : (bytes : List ℕ) (object : Object) (token : Token) (tokens : List Token) → is_opening token.kind ≡ true → is_closing token.kind ≡ false → Begins bytes object token (count_inside 0 tokens)
    → objects_in bytes (token ∷ tokens) ≡ object ∷ objects_in bytes tokens
listed-opening bytes object token tokens opens closes begins =
    let some : count_inside 0 tokens ≡ cond (is_opening token.kind) (count_inside 0 tokens) 0 = rw opens refl in
    let o = object-is object token.at (cond (is_opening token.kind) (count_inside 0 tokens) 0) (body_as token.kind (spelling bytes token)) begins.place (begins.count ∙ some) (sym (body-is object.body token.kind (spelling bytes token) begins.meaning)) in
    rw closes (ap (λ x. x ∷ objects_in bytes tokens) o)

listed-closing : (bytes : List ℕ) (token : Token) (tokens : List Token) → is_closing token.kind ≡ true → objects_in bytes (token ∷ tokens) ≡ objects_in bytes tokens
listed-closing bytes token tokens closes = rw closes refl

listed-bracket : (bytes : List ℕ) (object : Object) (opening closing : Token) (inner : List Object) (between after : List Token) → IsBracket opening.kind closing.kind → Begins bytes object opening (length inner)
    → count_inside 0 (between ++ closing ∷ after) ≡ length inner + count_inside 0 (closing ∷ after)
    → objects_in bytes (between ++ closing ∷ after) ≡ inner ++ objects_in bytes (closing ∷ after)
    → objects_in bytes ((opening ∷ (between ++ closing ∷ [])) ++ after) ≡ object ∷ (inner ++ objects_in bytes after)
listed-bracket bytes object opening closing inner between after bracket begins count within =
    let end = count-end closing after bracket.closes in
    let n : length inner ≡ count_inside 0 (between ++ closing ∷ after) = omega (arith, count, end) in
    let counted : Begins bytes object opening (count_inside 0 (between ++ closing ∷ after)) = subst (Begins bytes object opening) n begins in
    ap (λ ts. objects_in bytes (opening ∷ ts)) (append_assoc between (closing ∷ []) after)
    ∙ listed-opening bytes object opening (between ++ closing ∷ after) bracket.opens bracket.opening_is_no_end counted
    ∙ ap (λ os. object ∷ os) (within ∙ ap (λ os. inner ++ os) (listed-closing bytes closing after bracket.closes))

pub writes-listed : (bytes : List ℕ) {part : Part} {depth : ℕ} {objects : List Object} {tokens : List Token} → Writes bytes part depth objects tokens
    → (after : List Token) → objects_in bytes (tokens ++ after) ≡ objects ++ objects_in bytes after
writes-listed bytes (plain depth object token is begins) after =
    listed-simple bytes object token after (simple-plain depth object.body token.kind (spelling bytes token) is begins.meaning) begins
writes-listed bytes (array depth object opening closing inner between tokens is begins ends few within are) after =
    ap (λ ts. objects_in bytes (ts ++ after)) are
    ∙ listed-bracket bytes object opening closing inner between after (array-bracket object.body opening.kind closing.kind (spelling bytes opening) is begins.meaning ends) begins
    (writes-count bytes within 0 (closing ∷ after)) (writes-listed bytes within (closing ∷ after))
writes-listed bytes (dict depth object opening closing inner between tokens is begins ends few within are) after =
    ap (λ ts. objects_in bytes (ts ++ after)) are
    ∙ listed-bracket bytes object opening closing inner between after (dict-bracket object.body opening.kind closing.kind (spelling bytes opening) is begins.meaning ends) begins
    (writes-count bytes within 0 (closing ∷ after)) (writes-listed bytes within (closing ∷ after))
writes-listed bytes (no_item depth) after = refl
writes-listed bytes (next_item depth first rest objects prefix suffix tokens one more is are) after =
    ap (objects_in bytes) (ap (λ ts. ts ++ after) are ∙ append_assoc prefix suffix after)
    ∙ writes-listed bytes one (suffix ++ after)
    ∙ ap (λ os. first ++ os) (writes-listed bytes more after)
    ∙ sym (append_assoc first rest (objects_in bytes after))
    ∙ ap (λ os. os ++ objects_in bytes after) (sym is)
writes-listed bytes (no_entry depth) after = refl
writes-listed bytes (next_entry depth key token value rest objects prefix suffix tokens named begins one more is are) after =
    ap (objects_in bytes) (ap (λ ts. ts ++ after) are ∙ ap (λ ts. token ∷ ts) (append_assoc prefix suffix after))
    ∙ listed-simple bytes key token (prefix ++ (suffix ++ after)) (simple-literal key.body token.kind (spelling bytes token) named begins.meaning) begins
    ∙ ap (λ os. key ∷ os) (writes-listed bytes one (suffix ++ after) ∙ ap (λ os. value ++ os) (writes-listed bytes more after) ∙ sym (append_assoc value rest (objects_in bytes after)))
    ∙ ap (λ os. os ++ objects_in bytes after) (sym is)
