-- The kinds that objects are written with are those of their tokens.
use Rattle.std.proofs.Common.{◌≡◌, ℕ, zero, suc, ◌≤◌, Bool, true, false, not, List, [], ◌∷◌, ◌++◌, length, take, drop, Ok, refl, sym, ap, ◌∙◌, arith, append_assoc, length-append, length-drop, length-take}
use Rattle.std.specs.Prelude.{map, filter}
use Rattle.std.proofs.lemmas.List.Elements.{filter-append}
use Rattle.std.proofs.lemmas.List.{append-nil, map-append, take_at, drop_at}
use Rattle.ps_tokens.specs.declared.token.Token.{Token}
use Rattle.ps_tokens.specs.declared.token.TokenKind.{TokenKind}
use Rattle.ps_tokens.specs.declared.object.Body.{Body}
use Rattle.ps_tokens.specs.declared.object.Body.TheVariants.{Number, Truth, Null, Text, Literal, Operator, Array, Dict}
use Rattle.ps_tokens.specs.declared.object.Object.{Object}
use Rattle.ps_tokens.specs.Words.{spelling}
use Rattle.ps_tokens.specs.Objects.{is_closing, body_as, objects_of}
use Rattle.ps_laws.specs.Writes.{IsBegunBy, Begins, IsPlain, Part, Writes, plain, array, dict, no_item, next_item, no_entry, next_entry}
use Rattle.ps_laws.specs.Kinds.{first_kind, last_kinds, kinds_of, kinds_written, begun_at, begun_as}
use Rattle.ps_laws.proofs.Listing.{body-is, simple-plain, simple-literal, IsBracket, array-bracket, dict-bracket}
use Rattle.ps_laws.proofs.Parsing.{objects-written}

-- more than the objects that there are changes nothing
kinds_of-same : (a b : ℕ) (objects : List Object) → length objects ≤ a → length objects ≤ b → kinds_of a objects ≡ kinds_of b objects
kinds_of-same zero zero objects fits other = refl
kinds_of-same zero (suc b) [] fits other = refl
kinds_of-same zero (suc b) (object ∷ objects) fits other = absurd (omega arith)
kinds_of-same (suc a) zero [] fits other = refl
kinds_of-same (suc a) zero (object ∷ objects) fits other = absurd (omega arith)
kinds_of-same (suc a) (suc b) [] fits other = refl
kinds_of-same (suc a) (suc b) (object ∷ objects) fits other =
    let n = object.inside in
    let inner = kinds_of-same a b (take n objects) (omega (arith, length-take n objects)) (omega (arith, length-take n objects)) in
    let outer = kinds_of-same a b (drop n objects) (omega (arith, length-drop n objects)) (omega (arith, length-drop n objects)) in
    ap (λ ks. first_kind object.body ∷ (ks ++ (last_kinds object.body ++ kinds_of a (drop n objects)))) inner
    ∙ ap (λ ks. first_kind object.body ∷ (kinds_of b (take n objects) ++ (last_kinds object.body ++ ks))) outer

-- an object, what stands within it, and what stands after
pub written-first : (object : Object) (inner rest : List Object) → object.inside ≡ length inner
    → kinds_written (object ∷ (inner ++ rest)) ≡ first_kind object.body ∷ (kinds_written inner ++ (last_kinds object.body ++ kinds_written rest))
written-first object inner rest count =
    let most = length (inner ++ rest) in
    let a : take object.inside (inner ++ rest) ≡ inner = take_at inner rest object.inside (sym count) in
    let b : drop object.inside (inner ++ rest) ≡ rest = drop_at inner rest object.inside (sym count) in
    let within = kinds_of-same most (length inner) inner (omega (arith, length-append inner rest)) (omega arith) in
    let suffix = kinds_of-same most (length rest) rest (omega (arith, length-append inner rest)) (omega arith) in
    rw (a, b, within, suffix) refl

-- the kinds at the ends of objects
first-kind : (body : Body) (kind : TokenKind) (text : List ℕ) → IsBegunBy body kind text → kind ≡ first_kind body
first-kind (Number n) kind text by = by
first-kind (Truth b) kind text by = by.0
first-kind Null kind text by = by.0
first-kind Text kind text by = by
first-kind (Literal name) kind text by = by.0
first-kind (Operator name) kind text by = by.0
first-kind Array kind text by = by
first-kind Dict kind text by = by

pub no-last-kind : (depth : ℕ) (body : Body) → IsPlain depth body → last_kinds body ≡ []
no-last-kind depth (Number n) is = refl
no-last-kind depth (Truth b) is = refl
no-last-kind depth Null is = refl
no-last-kind depth Text is = refl
no-last-kind depth (Literal name) is = refl
no-last-kind depth (Operator name) is = refl
no-last-kind depth Array is = absurd is
no-last-kind depth Dict is = absurd is

abbrev pub kinds_in : List Token → List TokenKind
kinds_in tokens = map (λ t. t.kind) tokens

kinds_in-append : (prefix suffix : List Token) → kinds_in (prefix ++ suffix) ≡ kinds_in prefix ++ kinds_in suffix
kinds_in-append prefix suffix = map-append (λ (t : Token). t.kind) prefix suffix

written-plain : (bytes : List ℕ) (object : Object) (token : Token) (rest : List Object) → last_kinds object.body ≡ [] → Begins bytes object token 0
    → kinds_written (object ∷ rest) ≡ token.kind ∷ kinds_written rest
written-plain bytes object token rest ends begins =
    written-first object [] rest begins.count
    ∙ ap (λ ks. first_kind object.body ∷ (ks ++ kinds_written rest)) ends
    ∙ ap (λ k. k ∷ kinds_written rest) (sym (first-kind object.body token.kind (spelling bytes token) begins.meaning))

written-bracket : (bytes : List ℕ) (object : Object) (opening closing : Token) (inner rest : List Object) (between : List Token) → last_kinds object.body ≡ closing.kind ∷ []
    → Begins bytes object opening (length inner) → kinds_written (inner ++ []) ≡ kinds_in between ++ []
    → kinds_written (object ∷ (inner ++ rest)) ≡ kinds_in (opening ∷ (between ++ closing ∷ [])) ++ kinds_written rest
written-bracket bytes object opening closing inner rest between ends begins within =
    let k = kinds_written rest in
    let same : kinds_written inner ≡ kinds_in between = ap kinds_written (sym (append-nil inner)) ∙ within ∙ append-nil (kinds_in between) in
    written-first object inner rest begins.count
    ∙ ap (λ ks. first_kind object.body ∷ (ks ++ (last_kinds object.body ++ k))) same
    ∙ ap (λ ks. first_kind object.body ∷ (kinds_in between ++ (ks ++ k))) ends
    ∙ ap (λ f. f ∷ (kinds_in between ++ (closing.kind ∷ k))) (sym (first-kind object.body opening.kind (spelling bytes opening) begins.meaning))
    ∙ ap (λ ks. opening.kind ∷ ks) (sym (append_assoc (kinds_in between) (closing.kind ∷ []) k) ∙ ap (λ ks. ks ++ k) (sym (kinds_in-append between (closing ∷ []))))

writes-kinds : (bytes : List ℕ) {part : Part} {depth : ℕ} {objects : List Object} {tokens : List Token} → Writes bytes part depth objects tokens
    → (rest : List Object) → kinds_written (objects ++ rest) ≡ kinds_in tokens ++ kinds_written rest
writes-kinds bytes (plain depth object token is begins) rest = written-plain bytes object token rest (no-last-kind depth object.body is) begins
writes-kinds bytes (array depth object opening closing inner between tokens is begins ends few within are) rest =
    let last : last_kinds object.body ≡ closing.kind ∷ [] = ap last_kinds is ∙ ap (λ k. k ∷ []) (sym ends) in
    written-bracket bytes object opening closing inner rest between last begins (writes-kinds bytes within [])
    ∙ ap (λ ts. kinds_in ts ++ kinds_written rest) (sym are)
writes-kinds bytes (dict depth object opening closing inner between tokens is begins ends few within are) rest =
    let last : last_kinds object.body ≡ closing.kind ∷ [] = ap last_kinds is ∙ ap (λ k. k ∷ []) (sym ends) in
    written-bracket bytes object opening closing inner rest between last begins (writes-kinds bytes within [])
    ∙ ap (λ ts. kinds_in ts ++ kinds_written rest) (sym are)
writes-kinds bytes (no_item depth) rest = refl
writes-kinds bytes (next_item depth first more objects prefix suffix tokens one others is are) rest =
    ap kinds_written (ap (λ os. os ++ rest) is ∙ append_assoc first more rest)
    ∙ writes-kinds bytes one (more ++ rest)
    ∙ ap (λ ks. kinds_in prefix ++ ks) (writes-kinds bytes others rest)
    ∙ sym (append_assoc (kinds_in prefix) (kinds_in suffix) (kinds_written rest))
    ∙ ap (λ ks. ks ++ kinds_written rest) (sym (kinds_in-append prefix suffix) ∙ ap kinds_in (sym are))
writes-kinds bytes (no_entry depth) rest = refl
writes-kinds bytes (next_entry depth key token value more objects prefix suffix tokens named begins one others is are) rest =
    ap kinds_written (ap (λ os. os ++ rest) is ∙ ap (λ os. key ∷ os) (append_assoc value more rest))
    ∙ written-plain bytes key token (value ++ (more ++ rest)) (ap last_kinds named.1) begins
    ∙ ap (λ ks. token.kind ∷ ks) (writes-kinds bytes one (more ++ rest)
    ∙ ap (λ ks. kinds_in prefix ++ ks) (writes-kinds bytes others rest)
    ∙ sym (append_assoc (kinds_in prefix) (kinds_in suffix) (kinds_written rest))
    ∙ ap (λ ks. ks ++ kinds_written rest) (sym (kinds_in-append prefix suffix)))
    ∙ ap (λ ts. kinds_in ts ++ kinds_written rest) (sym are)

-- where objects begin
abbrev pub begins_object : Token → Bool
begins_object token = not (is_closing token.kind)

pub begun_at-append : (prefix suffix : List Token) → begun_at (prefix ++ suffix) ≡ begun_at prefix ++ begun_at suffix
begun_at-append prefix suffix =
    ap (map (λ (t : Token). t.at)) (filter-append begins_object prefix suffix) ∙ map-append (λ (t : Token). t.at) (filter begins_object prefix) (filter begins_object suffix)

pub begun_at-first : (token : Token) (tokens : List Token) → is_closing token.kind ≡ false → begun_at (token ∷ tokens) ≡ token.at ∷ begun_at tokens
begun_at-first token tokens opens = rw opens refl

pub begun_at-end : (token : Token) → is_closing token.kind ≡ true → begun_at (token ∷ []) ≡ []
begun_at-end token closes = rw closes refl

abbrev pub places : List Object → List ℕ
places objects = map (λ o. o.at) objects

pub places-append : (prefix suffix : List Object) → places (prefix ++ suffix) ≡ places prefix ++ places suffix
places-append prefix suffix = map-append (λ (o : Object). o.at) prefix suffix

begun_at-bracket : (bytes : List ℕ) (object : Object) (opening closing : Token) (inner : List Object) (between : List Token) → IsBracket opening.kind closing.kind → Begins bytes object opening (length inner)
    → begun_at between ≡ places inner → begun_at (opening ∷ (between ++ closing ∷ [])) ≡ places (object ∷ inner)
begun_at-bracket bytes object opening closing inner between bracket begins within =
    begun_at-first opening (between ++ closing ∷ []) bracket.opening_is_no_end
    ∙ ap (λ ps. opening.at ∷ ps) (begun_at-append between (closing ∷ []) ∙ ap (λ ps. begun_at between ++ ps) (begun_at-end closing bracket.closes) ∙ append-nil (begun_at between) ∙ within)
    ∙ ap (λ p. p ∷ places inner) (sym begins.place)

writes-places : (bytes : List ℕ) {part : Part} {depth : ℕ} {objects : List Object} {tokens : List Token} → Writes bytes part depth objects tokens → begun_at tokens ≡ places objects
writes-places bytes (plain depth object token is begins) =
    begun_at-first token [] (simple-plain depth object.body token.kind (spelling bytes token) is begins.meaning).closes_none ∙ ap (λ p. p ∷ []) (sym begins.place)
writes-places bytes (array depth object opening closing inner between tokens is begins ends few within are) =
    ap begun_at are ∙ begun_at-bracket bytes object opening closing inner between (array-bracket object.body opening.kind closing.kind (spelling bytes opening) is begins.meaning ends) begins (writes-places bytes within)
writes-places bytes (dict depth object opening closing inner between tokens is begins ends few within are) =
    ap begun_at are ∙ begun_at-bracket bytes object opening closing inner between (dict-bracket object.body opening.kind closing.kind (spelling bytes opening) is begins.meaning ends) begins (writes-places bytes within)
writes-places bytes (no_item depth) = refl
writes-places bytes (next_item depth first more objects prefix suffix tokens one others is are) =
    ap begun_at are ∙ begun_at-append prefix suffix
    ∙ ap (λ ps. ps ++ begun_at suffix) (writes-places bytes one)
    ∙ ap (λ ps. places first ++ ps) (writes-places bytes others)
    ∙ sym (places-append first more)
    ∙ ap places (sym is)
writes-places bytes (no_entry depth) = refl
writes-places bytes (next_entry depth key token value more objects prefix suffix tokens named begins one others is are) =
    ap begun_at are ∙ begun_at-first token (prefix ++ suffix) (simple-literal key.body token.kind (spelling bytes token) named begins.meaning).closes_none
    ∙ ap (λ ps. token.at ∷ ps) (begun_at-append prefix suffix
    ∙ ap (λ ps. ps ++ begun_at suffix) (writes-places bytes one)
    ∙ ap (λ ps. places value ++ ps) (writes-places bytes others)
    ∙ sym (places-append value more))
    ∙ ap (λ p. p ∷ places (value ++ more)) (sym begins.place)
    ∙ ap places (sym is)

pub read-places : (bytes : List ℕ) (tokens : List Token) (objects : List Object) → objects_of bytes tokens ≡ Ok objects → begun_at tokens ≡ map (λ o. o.at) objects
read-places bytes tokens objects is = writes-places bytes (objects-written bytes tokens objects is)

-- what they are
abbrev bodies : List Object → List Body
bodies objects = map (λ o. o.body) objects

bodies-append : (prefix suffix : List Object) → bodies (prefix ++ suffix) ≡ bodies prefix ++ bodies suffix
bodies-append prefix suffix = map-append (λ (o : Object). o.body) prefix suffix

begun_as-append : (bytes : List ℕ) (prefix suffix : List Token) → begun_as bytes (prefix ++ suffix) ≡ begun_as bytes prefix ++ begun_as bytes suffix
begun_as-append bytes prefix suffix =
    ap (map (λ (t : Token). body_as t.kind (spelling bytes t))) (filter-append begins_object prefix suffix)
    ∙ map-append (λ (t : Token). body_as t.kind (spelling bytes t)) (filter begins_object prefix) (filter begins_object suffix)

begun_as-first : (bytes : List ℕ) (object : Object) (token : Token) (tokens : List Token) (n : ℕ) → is_closing token.kind ≡ false → Begins bytes object token n → begun_as bytes (token ∷ tokens) ≡ object.body ∷ begun_as bytes tokens
begun_as-first bytes object token tokens n opens begins = rw opens (ap (λ b. b ∷ begun_as bytes tokens) (body-is object.body token.kind (spelling bytes token) begins.meaning))

begun_as-end : (bytes : List ℕ) (token : Token) → is_closing token.kind ≡ true → begun_as bytes (token ∷ []) ≡ []
begun_as-end bytes token closes = rw closes refl

begun_as-bracket : (bytes : List ℕ) (object : Object) (opening closing : Token) (inner : List Object) (between : List Token) → IsBracket opening.kind closing.kind → Begins bytes object opening (length inner)
    → begun_as bytes between ≡ bodies inner → begun_as bytes (opening ∷ (between ++ closing ∷ [])) ≡ bodies (object ∷ inner)
begun_as-bracket bytes object opening closing inner between bracket begins within =
    begun_as-first bytes object opening (between ++ closing ∷ []) (length inner) bracket.opening_is_no_end begins
    ∙ ap (λ bs. object.body ∷ bs) (begun_as-append bytes between (closing ∷ []) ∙ ap (λ bs. begun_as bytes between ++ bs) (begun_as-end bytes closing bracket.closes) ∙ append-nil (begun_as bytes between) ∙ within)

writes-bodies : (bytes : List ℕ) {part : Part} {depth : ℕ} {objects : List Object} {tokens : List Token} → Writes bytes part depth objects tokens → begun_as bytes tokens ≡ bodies objects
writes-bodies bytes (plain depth object token is begins) =
    begun_as-first bytes object token [] 0 (simple-plain depth object.body token.kind (spelling bytes token) is begins.meaning).closes_none begins
writes-bodies bytes (array depth object opening closing inner between tokens is begins ends few within are) =
    ap (begun_as bytes) are ∙ begun_as-bracket bytes object opening closing inner between (array-bracket object.body opening.kind closing.kind (spelling bytes opening) is begins.meaning ends) begins (writes-bodies bytes within)
writes-bodies bytes (dict depth object opening closing inner between tokens is begins ends few within are) =
    ap (begun_as bytes) are ∙ begun_as-bracket bytes object opening closing inner between (dict-bracket object.body opening.kind closing.kind (spelling bytes opening) is begins.meaning ends) begins (writes-bodies bytes within)
writes-bodies bytes (no_item depth) = refl
writes-bodies bytes (next_item depth first more objects prefix suffix tokens one others is are) =
    ap (begun_as bytes) are ∙ begun_as-append bytes prefix suffix
    ∙ ap (λ bs. bs ++ begun_as bytes suffix) (writes-bodies bytes one)
    ∙ ap (λ bs. bodies first ++ bs) (writes-bodies bytes others)
    ∙ sym (bodies-append first more)
    ∙ ap bodies (sym is)
writes-bodies bytes (no_entry depth) = refl
writes-bodies bytes (next_entry depth key token value more objects prefix suffix tokens named begins one others is are) =
    ap (begun_as bytes) are ∙ begun_as-first bytes key token (prefix ++ suffix) 0 (simple-literal key.body token.kind (spelling bytes token) named begins.meaning).closes_none begins
    ∙ ap (λ bs. key.body ∷ bs) (begun_as-append bytes prefix suffix
    ∙ ap (λ bs. bs ++ begun_as bytes suffix) (writes-bodies bytes one)
    ∙ ap (λ bs. bodies value ++ bs) (writes-bodies bytes others)
    ∙ sym (bodies-append value more))
    ∙ ap bodies (sym is)

pub read-bodies : (bytes : List ℕ) (tokens : List Token) (objects : List Object) → objects_of bytes tokens ≡ Ok objects → begun_as bytes tokens ≡ map (λ o. o.body) objects
read-bodies bytes tokens objects is = writes-bodies bytes (objects-written bytes tokens objects is)

pub read-kinds : (bytes : List ℕ) (tokens : List Token) (objects : List Object) → objects_of bytes tokens ≡ Ok objects → map (λ t. t.kind) tokens ≡ kinds_written objects
read-kinds bytes tokens objects is =
    sym (append-nil (kinds_in tokens)) ∙ sym (writes-kinds bytes (objects-written bytes tokens objects is) []) ∙ ap kinds_written (append-nil objects)
