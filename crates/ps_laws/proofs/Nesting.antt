-- Tokens of the kinds that nested objects are written with write these objects out.
use Rattle.std.proofs.Common.{◌≡◌, ℕ, suc, true, false, List, [], ◌∷◌, ◌++◌, length, Ok, refl, sym, ap, ◌∙◌, subst, append_assoc}
use Rattle.std.specs.Prelude.{map}
use Rattle.std.proofs.lemmas.List.{append-nil, map-append}
use Rattle.ps_tokens.specs.declared.token.Token.{Token}
use Rattle.ps_tokens.specs.declared.token.TokenKind.{TokenKind}
use Rattle.ps_tokens.specs.declared.token.TokenKind.TheVariants as kinds
use Rattle.ps_tokens.specs.declared.object.Body.{Body}
use Rattle.ps_tokens.specs.declared.object.Body.TheVariants.{Number, Truth, Null, Text, Literal, Operator, Array, Dict}
use Rattle.ps_tokens.specs.declared.object.Object.{Object}
use Rattle.ps_tokens.specs.Words.{spelling}
use Rattle.ps_tokens.specs.Objects.{is_closing, body_as, objects_of}
use Rattle.ps_laws.specs.Writes as writes
use Rattle.ps_laws.specs.Writes.{IsBegunBy, Begins, IsLiteral, IsPlain, Part, whole, items, entries, Writes, WritesOut}
use Rattle.ps_laws.specs.Kinds.{first_kind, last_kinds, kinds_written, begun_at, begun_as}
use Rattle.ps_laws.specs.Nests.{Nests, plain, array, dict, no_item, next_item, no_entry, next_entry, AreNested}
use Rattle.ps_laws.proofs.TokenKinds.{written-first, no-last-kind, kinds_in, places}
use Rattle.ps_laws.proofs.Parsing.{begun, written-objects, objects-written}

-- what objects are
abbrev bodies : List Object → List Body
bodies objects = map (λ o. o.body) objects

-- these tokens have the kinds of these objects and then others, and begin these objects and then more
record Go (bytes : List ℕ) (tokens : List Token) (here : List TokenKind) (ats : List ℕ) (names : List Body) : Type 0 where
  are_kinds : kinds_in tokens ≡ here
  are_places : begun_at tokens ≡ ats
  are_bodies : begun_as bytes tokens ≡ names

-- one token that begins an object
record GoesFirst (bytes : List ℕ) (tokens : List Token) (kind : TokenKind) (later : List TokenKind) (at : ℕ) (ats : List ℕ) (body : Body) (names : List Body) : Type 0 where
  token : Token
  suffix : List Token
  whole_list : tokens ≡ token ∷ suffix
  is_kind : token.kind ≡ kind
  is_place : token.at ≡ at
  is_body : body_as token.kind (spelling bytes token) ≡ body
  go : Go bytes suffix later ats names

same_head : {X : Type 0} (x y : X) (xs ys : List X) → x ∷ xs ≡ y ∷ ys → x ≡ y
same_head x y xs ys e = cc

same_tail : {X : Type 0} (x y : X) (xs ys : List X) → x ∷ xs ≡ y ∷ ys → xs ≡ ys
same_tail x y xs ys e = cc

none_is_some : {X : Type 0} (x : X) (xs : List X) → [] ≡ x ∷ xs → ⊥
none_is_some x xs e = cc

begun_at-opens : (token : Token) (tokens : List Token) → is_closing token.kind ≡ false → token.at ∷ begun_at tokens ≡ begun_at (token ∷ tokens)
begun_at-opens token tokens opens = rw opens refl

begun_as-opens : (bytes : List ℕ) (token : Token) (tokens : List Token) → is_closing token.kind ≡ false → body_as token.kind (spelling bytes token) ∷ begun_as bytes tokens ≡ begun_as bytes (token ∷ tokens)
begun_as-opens bytes token tokens opens = rw opens refl

begun_at-closes : (token : Token) (tokens : List Token) → is_closing token.kind ≡ true → begun_at tokens ≡ begun_at (token ∷ tokens)
begun_at-closes token tokens closes = rw closes refl

begun_as-closes : (bytes : List ℕ) (token : Token) (tokens : List Token) → is_closing token.kind ≡ true → begun_as bytes tokens ≡ begun_as bytes (token ∷ tokens)
begun_as-closes bytes token tokens closes = rw closes refl

goes-first : (bytes : List ℕ) (tokens : List Token) (kind : TokenKind) (later : List TokenKind) (at : ℕ) (ats : List ℕ) (body : Body) (names : List Body) → is_closing kind ≡ false
    → Go bytes tokens (kind ∷ later) (at ∷ ats) (body ∷ names) → GoesFirst bytes tokens kind later at ats body names
goes-first bytes [] kind later at ats body names opens go = absurd (none_is_some kind later go.are_kinds)
goes-first bytes (token ∷ tokens) kind later at ats body names opens go =
    let k = same_head token.kind kind (kinds_in tokens) later go.are_kinds in
    let open_token : is_closing token.kind ≡ false = ap is_closing k ∙ opens in
    let ps = begun_at-opens token tokens open_token ∙ go.are_places in
    let bs = begun_as-opens bytes token tokens open_token ∙ go.are_bodies in
    record {
      token = token;
      suffix = tokens;
      whole_list = refl;
      is_kind = k;
      is_place = same_head token.at at (begun_at tokens) ats ps;
      is_body = same_head (body_as token.kind (spelling bytes token)) body (begun_as bytes tokens) names bs;
      go = record {
        are_kinds = same_tail token.kind kind (kinds_in tokens) later go.are_kinds;
        are_places = same_tail token.at at (begun_at tokens) ats ps;
        are_bodies = same_tail (body_as token.kind (spelling bytes token)) body (begun_as bytes tokens) names bs;
      };
    }

-- one token that closes a bracket
record GoesLast (bytes : List ℕ) (tokens : List Token) (kind : TokenKind) (later : List TokenKind) (ats : List ℕ) (names : List Body) : Type 0 where
  token : Token
  suffix : List Token
  whole_list : tokens ≡ token ∷ suffix
  is_kind : token.kind ≡ kind
  go : Go bytes suffix later ats names

goes-last : (bytes : List ℕ) (tokens : List Token) (kind : TokenKind) (later : List TokenKind) (ats : List ℕ) (names : List Body) → is_closing kind ≡ true
    → Go bytes tokens (kind ∷ later) ats names → GoesLast bytes tokens kind later ats names
goes-last bytes [] kind later ats names closes go = absurd (none_is_some kind later go.are_kinds)
goes-last bytes (token ∷ tokens) kind later ats names closes go =
    let k = same_head token.kind kind (kinds_in tokens) later go.are_kinds in
    let close_token : is_closing token.kind ≡ true = ap is_closing k ∙ closes in
    record {
      token = token;
      suffix = tokens;
      whole_list = refl;
      is_kind = k;
      go = record {
        are_kinds = same_tail token.kind kind (kinds_in tokens) later go.are_kinds;
        are_places = begun_at-closes token tokens close_token ∙ go.are_places;
        are_bodies = begun_as-closes bytes token tokens close_token ∙ go.are_bodies;
      };
    }

-- a first token opens no end
first_kind-opens : (body : Body) → is_closing (first_kind body) ≡ false
first_kind-opens (Number n) = refl
first_kind-opens (Truth b) = refl
first_kind-opens Null = refl
first_kind-opens Text = refl
first_kind-opens (Literal name) = refl
first_kind-opens (Operator name) = refl
first_kind-opens Array = refl
first_kind-opens Dict = refl

-- a part that is written out, and what goes on after it
record Written (bytes : List ℕ) (part : Part) (depth : ℕ) (objects : List Object) (tokens : List Token) (later : List TokenKind) (ats : List ℕ) (names : List Body) : Type 0 where
  prefix : List Token
  suffix : List Token
  whole_list : tokens ≡ prefix ++ suffix
  written : Writes bytes part depth objects prefix
  go : Go bytes suffix later ats names

abbrev Goes : List ℕ → List Token → List Object → List TokenKind → List ℕ → List Body → Type 0
Goes bytes tokens objects later ats names = Go bytes tokens (kinds_written objects ++ later) (places objects ++ ats) (bodies objects ++ names)

-- the object that a token begins
begins-from : (bytes : List ℕ) (object : Object) (token : Token) (inside : ℕ) → token.kind ≡ first_kind object.body → token.at ≡ object.at → body_as token.kind (spelling bytes token) ≡ object.body
    → object.inside ≡ inside → Begins bytes object token inside
begins-from bytes object token inside kind at body count =
    let opens : is_closing token.kind ≡ false = ap is_closing kind ∙ first_kind-opens object.body in
    record { place = sym at; count = count; meaning = subst (λ b. IsBegunBy b token.kind (spelling bytes token)) body (begun token.kind (spelling bytes token) opens) }

-- the kinds of one object and those within it, and then of others
kinds-first : (object : Object) (inner rest : List Object) → object.inside ≡ length inner → kinds_written (object ∷ (inner ++ rest)) ≡ kinds_written (object ∷ inner) ++ kinds_written rest
kinds-first object inner rest count =
    let k = kinds_written rest in
    let last = last_kinds object.body in
    let alone : kinds_written (object ∷ inner) ≡ first_kind object.body ∷ (kinds_written inner ++ last) =
    ap (λ os. kinds_written (object ∷ os)) (sym (append-nil inner)) ∙ written-first object inner [] count ∙ ap (λ ks. first_kind object.body ∷ (kinds_written inner ++ ks)) (append-nil last) in
    written-first object inner rest count
    ∙ ap (λ ks. first_kind object.body ∷ ks) (sym (append_assoc (kinds_written inner) last k))
    ∙ ap (λ ks. ks ++ k) (sym alone)

kinds-whole : {part : Part} {depth : ℕ} {objects : List Object} → Nests part depth objects → (rest : List Object) → kinds_written (objects ++ rest) ≡ kinds_written objects ++ kinds_written rest
kinds-whole (plain depth object is count) rest = kinds-first object [] rest count
kinds-whole (array depth object inner is count few within) rest = kinds-first object inner rest count
kinds-whole (dict depth object inner is count few within) rest = kinds-first object inner rest count
kinds-whole (no_item depth) rest = refl
kinds-whole (next_item depth first more objects one others is) rest =
    ap kinds_written (ap (λ os. os ++ rest) is ∙ append_assoc first more rest)
    ∙ kinds-whole one (more ++ rest)
    ∙ ap (λ ks. kinds_written first ++ ks) (kinds-whole others rest)
    ∙ sym (append_assoc (kinds_written first) (kinds_written more) (kinds_written rest))
    ∙ ap (λ ks. ks ++ kinds_written rest) (sym (kinds-whole one more) ∙ ap kinds_written (sym is))
kinds-whole (no_entry depth) rest = refl
kinds-whole (next_entry depth key value more objects named count one others is) rest =
    ap kinds_written (ap (λ os. os ++ rest) is ∙ ap (λ os. key ∷ os) (append_assoc value more rest))
    ∙ kinds-first key [] (value ++ (more ++ rest)) count
    ∙ ap (λ ks. kinds_written (key ∷ []) ++ ks) (kinds-whole one (more ++ rest) ∙ ap (λ ks. kinds_written value ++ ks) (kinds-whole others rest) ∙ sym (append_assoc (kinds_written value) (kinds_written more) (kinds_written rest)))
    ∙ sym (append_assoc (kinds_written (key ∷ [])) (kinds_written value ++ kinds_written more) (kinds_written rest))
    ∙ ap (λ ks. ks ++ kinds_written rest) (ap (λ ks. kinds_written (key ∷ []) ++ ks) (sym (kinds-whole one more)) ∙ sym (kinds-first key [] (value ++ more) count) ∙ ap kinds_written (sym is))

-- a token that begins an object within which others stand, or none
kinds-ahead : (object : Object) (inner : List Object) (later : List TokenKind) → object.inside ≡ length inner
    → kinds_written (object ∷ inner) ++ later ≡ first_kind object.body ∷ (kinds_written inner ++ (last_kinds object.body ++ later))
kinds-ahead object inner later count =
    let last = last_kinds object.body in
    ap (λ os. kinds_written (object ∷ os) ++ later) (sym (append-nil inner))
    ∙ ap (λ ks. ks ++ later) (written-first object inner [] count ∙ ap (λ ks. first_kind object.body ∷ (kinds_written inner ++ ks)) (append-nil last))
    ∙ ap (λ ks. first_kind object.body ∷ ks) (append_assoc (kinds_written inner) last later)

first-goes : (bytes : List ℕ) (object : Object) (inner : List Object) (tokens : List Token) (later : List TokenKind) (ats : List ℕ) (names : List Body) → object.inside ≡ length inner
    → Goes bytes tokens (object ∷ inner) later ats names
    → GoesFirst bytes tokens (first_kind object.body) (kinds_written inner ++ (last_kinds object.body ++ later)) object.at (places inner ++ ats) object.body (bodies inner ++ names)
first-goes bytes object inner tokens later ats names count goes =
    goes-first bytes tokens (first_kind object.body) (kinds_written inner ++ (last_kinds object.body ++ later)) object.at (places inner ++ ats) object.body (bodies inner ++ names) (first_kind-opens object.body)
    (record { are_kinds = goes.are_kinds ∙ kinds-ahead object inner later count; are_places = goes.are_places; are_bodies = goes.are_bodies })

-- an object without brackets
simple-written : (bytes : List ℕ) (object : Object) (tokens : List Token) (later : List TokenKind) (ats : List ℕ) (names : List Body) → object.inside ≡ 0 → last_kinds object.body ≡ []
    → Go bytes tokens (kinds_written (object ∷ []) ++ later) (object.at ∷ ats) (object.body ∷ names)
    → GoesFirst bytes tokens (first_kind object.body) later object.at ats object.body names
simple-written bytes object tokens later ats names count ends goes =
    let g = first-goes bytes object [] tokens later ats names count goes in
    record {
      token = g.token;
      suffix = g.suffix;
      whole_list = g.whole_list;
      is_kind = g.is_kind;
      is_place = g.is_place;
      is_body = g.is_body;
      go = record { are_kinds = g.go.are_kinds ∙ ap (λ ks. ks ++ later) ends; are_places = g.go.are_places; are_bodies = g.go.are_bodies };
    }

-- what stands in brackets, and their end
record Enclosed (bytes : List ℕ) (part : Part) (depth : ℕ) (object : Object) (inner : List Object) (closing_kind : TokenKind) (tokens : List Token) (later : List TokenKind) (ats : List ℕ) (names : List Body) : Type 0 where
  opening : Token
  closing : Token
  between : List Token
  suffix : List Token
  whole_list : tokens ≡ (opening ∷ (between ++ closing ∷ [])) ++ suffix
  begins : Begins bytes object opening (length inner)
  ends : closing.kind ≡ closing_kind
  within : Writes bytes part depth inner between
  go : Go bytes suffix later ats names

enclosed : (bytes : List ℕ) (part : Part) (depth : ℕ) (object : Object) (inner : List Object) (closing_kind : TokenKind) (tokens : List Token) (later : List TokenKind) (ats : List ℕ) (names : List Body)
    → object.inside ≡ length inner → last_kinds object.body ≡ closing_kind ∷ [] → is_closing closing_kind ≡ true
    → ((suffix : List Token) → Goes bytes suffix inner (closing_kind ∷ later) ats names → Written bytes part depth inner suffix (closing_kind ∷ later) ats names)
    → Goes bytes tokens (object ∷ inner) later ats names → Enclosed bytes part depth object inner closing_kind tokens later ats names
enclosed bytes part depth object inner closing_kind tokens later ats names count last closes write goes =
    let g = first-goes bytes object inner tokens later ats names count goes in
    let next : Goes bytes g.suffix inner (closing_kind ∷ later) ats names =
    record { are_kinds = g.go.are_kinds ∙ ap (λ ks. kinds_written inner ++ (ks ++ later)) last; are_places = g.go.are_places; are_bodies = g.go.are_bodies } in
    let w = write g.suffix next in
    let c = goes-last bytes w.suffix closing_kind later ats names closes w.go in
    record {
      opening = g.token;
      closing = c.token;
      between = w.prefix;
      suffix = c.suffix;
      whole_list = g.whole_list ∙ ap (λ ts. g.token ∷ ts) (w.whole_list ∙ ap (λ ts. w.prefix ++ ts) c.whole_list ∙ sym (append_assoc w.prefix (c.token ∷ []) c.suffix));
      begins = begins-from bytes object g.token (length inner) g.is_kind g.is_place g.is_body count;
      ends = c.is_kind;
      within = w.written;
      go = c.go;
    }

places-append : (prefix suffix : List Object) (ats : List ℕ) → places (prefix ++ suffix) ++ ats ≡ places prefix ++ (places suffix ++ ats)
places-append prefix suffix ats = ap (λ ps. ps ++ ats) (map-append (λ (o : Object). o.at) prefix suffix) ∙ append_assoc (places prefix) (places suffix) ats

bodies-append : (prefix suffix : List Object) (names : List Body) → bodies (prefix ++ suffix) ++ names ≡ bodies prefix ++ (bodies suffix ++ names)
bodies-append prefix suffix names = ap (λ bs. bs ++ names) (map-append (λ (o : Object). o.body) prefix suffix) ∙ append_assoc (bodies prefix) (bodies suffix) names

kinds-append : {part : Part} {depth : ℕ} {prefix : List Object} → Nests part depth prefix → (suffix : List Object) (later : List TokenKind) → kinds_written (prefix ++ suffix) ++ later ≡ kinds_written prefix ++ (kinds_written suffix ++ later)
kinds-append {prefix = prefix} nests suffix later = ap (λ ks. ks ++ later) (kinds-whole nests suffix) ∙ append_assoc (kinds_written prefix) (kinds_written suffix) later

-- two parts after one another
rejoined : (tokens prefix middle between suffix : List Token) → tokens ≡ prefix ++ middle → middle ≡ between ++ suffix → tokens ≡ (prefix ++ between) ++ suffix
rejoined tokens prefix middle between suffix first second = first ∙ ap (λ ts. prefix ++ ts) second ∙ sym (append_assoc prefix between suffix)

item-written : (bytes : List ℕ) (depth : ℕ) (first more objects : List Object) (prefix suffix : List Token) → Writes bytes whole depth first prefix → Writes bytes items depth more suffix → objects ≡ first ++ more
    → Writes bytes items depth objects (prefix ++ suffix)
item-written bytes depth first more objects prefix suffix one others is = writes.next_item depth first more objects prefix suffix (prefix ++ suffix) one others is refl

entry-written : (bytes : List ℕ) (depth : ℕ) (key : Object) (token : Token) (value more objects : List Object) (prefix suffix : List Token) → IsLiteral key.body → Begins bytes key token 0
    → Writes bytes whole depth value prefix → Writes bytes entries depth more suffix → objects ≡ key ∷ (value ++ more) → Writes bytes entries depth objects (token ∷ (prefix ++ suffix))
entry-written bytes depth key token value more objects prefix suffix named begins one others is = writes.next_entry depth key token value more objects prefix suffix (token ∷ (prefix ++ suffix)) named begins one others is refl

suffix-first : (tokens middle prefix suffix : List Token) (token : Token) → tokens ≡ token ∷ middle → middle ≡ prefix ++ suffix → tokens ≡ (token ∷ prefix) ++ suffix
suffix-first tokens middle prefix suffix token first rest = first ∙ ap (λ ts. token ∷ ts) rest

nests-written : (bytes : List ℕ) {part : Part} {depth : ℕ} {objects : List Object} → Nests part depth objects → (tokens : List Token) (later : List TokenKind) (ats : List ℕ) (names : List Body)
    → Goes bytes tokens objects later ats names → Written bytes part depth objects tokens later ats names
nests-written bytes (plain depth object is count) tokens later ats names goes =
    let g = simple-written bytes object tokens later ats names count (no-last-kind depth object.body is) goes in
    record {
      prefix = g.token ∷ [];
      suffix = g.suffix;
      whole_list = g.whole_list;
      written = writes.plain depth object g.token is (begins-from bytes object g.token 0 g.is_kind g.is_place g.is_body count);
      go = g.go;
    }
nests-written bytes (array depth object inner is count few within) tokens later ats names goes =
    let e = enclosed bytes items (suc depth) object inner kinds.CloseArray tokens later ats names count (ap last_kinds is) refl (λ suffix next. nests-written bytes within suffix (kinds.CloseArray ∷ later) ats names next) goes in
    record {
      prefix = e.opening ∷ (e.between ++ e.closing ∷ []);
      suffix = e.suffix;
      whole_list = e.whole_list;
      written = writes.array depth object e.opening e.closing inner e.between (e.opening ∷ (e.between ++ e.closing ∷ [])) is e.begins e.ends few e.within refl;
      go = e.go;
    }
nests-written bytes (dict depth object inner is count few within) tokens later ats names goes =
    let e = enclosed bytes entries (suc depth) object inner kinds.CloseDict tokens later ats names count (ap last_kinds is) refl (λ suffix next. nests-written bytes within suffix (kinds.CloseDict ∷ later) ats names next) goes in
    record {
      prefix = e.opening ∷ (e.between ++ e.closing ∷ []);
      suffix = e.suffix;
      whole_list = e.whole_list;
      written = writes.dict depth object e.opening e.closing inner e.between (e.opening ∷ (e.between ++ e.closing ∷ [])) is e.begins e.ends few e.within refl;
      go = e.go;
    }
nests-written bytes (no_item depth) tokens later ats names goes = record { prefix = []; suffix = tokens; whole_list = refl; written = writes.no_item depth; go = goes }
nests-written bytes (next_item depth first more objects one others is) tokens later ats names goes =
    let next : Go bytes tokens (kinds_written first ++ (kinds_written more ++ later)) (places first ++ (places more ++ ats)) (bodies first ++ (bodies more ++ names)) = record {
      are_kinds = goes.are_kinds ∙ ap (λ os. kinds_written os ++ later) is ∙ kinds-append one more later;
      are_places = goes.are_places ∙ ap (λ os. places os ++ ats) is ∙ places-append first more ats;
      are_bodies = goes.are_bodies ∙ ap (λ os. bodies os ++ names) is ∙ bodies-append first more names;
    } in
    let a = nests-written bytes one tokens (kinds_written more ++ later) (places more ++ ats) (bodies more ++ names) next in
    let b = nests-written bytes others a.suffix later ats names a.go in
    record {
      prefix = a.prefix ++ b.prefix;
      suffix = b.suffix;
      whole_list = rejoined tokens a.prefix a.suffix b.prefix b.suffix a.whole_list b.whole_list;
      written = item-written bytes depth first more objects a.prefix b.prefix a.written b.written is;
      go = b.go;
    }
nests-written bytes (no_entry depth) tokens later ats names goes = record { prefix = []; suffix = tokens; whole_list = refl; written = writes.no_entry depth; go = goes }
nests-written bytes (next_entry depth key value more objects named count one others is) tokens later ats names goes =
    let keys_later = kinds_written value ++ (kinds_written more ++ later) in
    let next : Go bytes tokens (kinds_written (key ∷ []) ++ keys_later) (key.at ∷ (places value ++ (places more ++ ats))) (key.body ∷ (bodies value ++ (bodies more ++ names))) = record {
      are_kinds = goes.are_kinds
          ∙ ap (λ os. kinds_written os ++ later) is
          ∙ ap (λ ks. ks ++ later) (kinds-first key [] (value ++ more) count)
          ∙ append_assoc (kinds_written (key ∷ [])) (kinds_written (value ++ more)) later
          ∙ ap (λ ks. kinds_written (key ∷ []) ++ ks) (kinds-append one more later);
      are_places = goes.are_places ∙ ap (λ os. places os ++ ats) is ∙ ap (λ ps. key.at ∷ ps) (places-append value more ats);
      are_bodies = goes.are_bodies ∙ ap (λ os. bodies os ++ names) is ∙ ap (λ bs. key.body ∷ bs) (bodies-append value more names);
    } in
    let k = simple-written bytes key tokens keys_later (places value ++ (places more ++ ats)) (bodies value ++ (bodies more ++ names)) count (ap last_kinds named.1) next in
    let a = nests-written bytes one k.suffix (kinds_written more ++ later) (places more ++ ats) (bodies more ++ names) k.go in
    let b = nests-written bytes others a.suffix later ats names a.go in
    record {
      prefix = k.token ∷ (a.prefix ++ b.prefix);
      suffix = b.suffix;
      whole_list = suffix-first tokens k.suffix (a.prefix ++ b.prefix) b.suffix k.token k.whole_list (rejoined k.suffix a.prefix a.suffix b.prefix b.suffix a.whole_list b.whole_list);
      written = entry-written bytes depth key k.token value more objects a.prefix b.prefix named (begins-from bytes key k.token 0 k.is_kind k.is_place k.is_body count) a.written b.written is;
      go = b.go;
    }

-- no token is left
none-left : (tokens : List Token) → kinds_in tokens ≡ [] → tokens ≡ []
none-left [] none = refl
none-left (token ∷ tokens) none = absurd (none_is_some token.kind (kinds_in tokens) (sym none))

pub nested-read : (bytes : List ℕ) (tokens : List Token) (objects : List Object) → AreNested objects → map (λ t. t.kind) tokens ≡ kinds_written objects
    → begun_at tokens ≡ map (λ o. o.at) objects → begun_as bytes tokens ≡ map (λ o. o.body) objects → objects_of bytes tokens ≡ Ok objects
nested-read bytes tokens objects nests ks ps bs =
    let goes : Goes bytes tokens objects [] [] [] = record {
      are_kinds = ks ∙ sym (append-nil (kinds_written objects));
      are_places = ps ∙ sym (append-nil (places objects));
      are_bodies = bs ∙ sym (append-nil (bodies objects));
    } in
    let w = nests-written bytes nests tokens [] [] [] goes in
    let all : w.prefix ≡ tokens = sym (append-nil w.prefix) ∙ ap (λ ts. w.prefix ++ ts) (sym (none-left w.suffix w.go.are_kinds)) ∙ sym w.whole_list in
    written-objects bytes tokens objects (subst (WritesOut bytes objects) all w.written)

-- what is written out is nested
writes-nests : (bytes : List ℕ) {part : Part} {depth : ℕ} {objects : List Object} {tokens : List Token} → Writes bytes part depth objects tokens → Nests part depth objects
writes-nests bytes (writes.plain depth object token is begins) = plain depth object is begins.count
writes-nests bytes (writes.array depth object opening closing inner between tokens is begins ends few within are) = array depth object inner is begins.count few (writes-nests bytes within)
writes-nests bytes (writes.dict depth object opening closing inner between tokens is begins ends few within are) = dict depth object inner is begins.count few (writes-nests bytes within)
writes-nests bytes (writes.no_item depth) = no_item depth
writes-nests bytes (writes.next_item depth first rest objects prefix suffix tokens one more is are) = next_item depth first rest objects (writes-nests bytes one) (writes-nests bytes more) is
writes-nests bytes (writes.no_entry depth) = no_entry depth
writes-nests bytes (writes.next_entry depth key token value rest objects prefix suffix tokens named begins one more is are) =
    next_entry depth key value rest objects named begins.count (writes-nests bytes one) (writes-nests bytes more) is

pub read-nested : (bytes : List ℕ) (tokens : List Token) (objects : List Object) → objects_of bytes tokens ≡ Ok objects → AreNested objects
read-nested bytes tokens objects is = writes-nests bytes (objects-written bytes tokens objects is)
