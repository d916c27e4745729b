-- The brackets that tokens leave open.
use Rattle.std.proofs.Common.{◌≡◌, ◌⊎◌, inl, inr, ℕ, suc, ◌<◌, ◌≤◌, true, false, List, [], ◌∷◌, ◌++◌, length, drop, fold, Result, Ok, Err, refl, sym, ap, ◌∙◌, subst, ⊎_elim, arith, append_assoc}
use Rattle.std.proofs.lemmas.Bool.{cases_Bool, false≢true}
use Rattle.std.proofs.lemmas.List.{append-nil}
use Rattle.ps_tokens.specs.declared.faults.FaultKind.{FaultKind}
use Rattle.ps_tokens.specs.declared.faults.FaultKind.TheVariants.{Unmatched, OddDictionary}
use Rattle.ps_tokens.specs.declared.faults.JobFault.{JobFault}
use Rattle.ps_tokens.specs.declared.token.Token.{Token}
use Rattle.ps_tokens.specs.declared.token.TokenKind.{TokenKind}
use Rattle.ps_tokens.specs.declared.token.TokenKind.TheVariants as kinds
use Rattle.ps_tokens.specs.declared.brackets.Expects.{Expects}
use Rattle.ps_tokens.specs.declared.brackets.Expects.TheVariants.{Item, Key, Value}
use Rattle.ps_tokens.specs.declared.brackets.Bracket.{Bracket}
use Rattle.ps_tokens.specs.declared.object.Body.{Body}
use Rattle.ps_tokens.specs.declared.object.Body.TheVariants.{Array, Dict}
use Rattle.ps_tokens.specs.declared.object.Object.{Object}
use Rattle.ps_tokens.specs.Words.{spelling, is_value_word}
use Rattle.ps_tokens.specs.Brackets.{next_expected, after_object, is_key, is_key_due, array_end, after_array_end, dict_end, after_dict_end, after_kind, after_token, at_token, after_next, brackets_after}
use Rattle.ps_tokens.specs.Objects.{is_closing, word_body, body_as}
use Rattle.ps_tokens.proofs.Judgements.{fold-err}
use Rattle.ps_laws.specs.Writes.{Begins, IsLiteral, IsPlain, Part, whole, items, entries, Writes, plain, array, dict, no_item, next_item, no_entry, next_entry}
use Rattle.ps_laws.specs.Firsts.{StandsIn, LeavesOpen, none, inside}
use Rattle.ps_laws.proofs.Judging.{length-after_object, after_opening-bracket, after_token-first, after_token-last, after_token-append, after_token-literal, writes-after_token}
use Rattle.ps_laws.proofs.Parsing.{bracket_of, err_is_no_ok, same_ok, below-16, IsPut, IsOpened, put-value, put-operator, open-bracket, begun, plain-word, plain-literal, few}

-- items after items, and entries after entries
one-item : (bytes : List ℕ) (depth : ℕ) (objects : List Object) (tokens : List Token) → Writes bytes whole depth objects tokens → Writes bytes items depth objects tokens
one-item bytes depth objects tokens one = next_item depth objects [] objects tokens [] tokens one (no_item depth) (sym (append-nil objects)) (sym (append-nil tokens))

abbrev IsRun : Part → Type 0
IsRun whole = ⊥
IsRun items = Unit {0}
IsRun entries = Unit {0}

runs-append : (bytes : List ℕ) {part : Part} {depth : ℕ} {objects : List Object} {tokens : List Token} → Writes bytes part depth objects tokens
    → IsRun part → (more : List Object) (suffix : List Token) → Writes bytes part depth more suffix → Writes bytes part depth (objects ++ more) (tokens ++ suffix)
runs-append bytes (plain depth object token is begins) run more suffix others = absurd run
runs-append bytes (array depth object opening closing inner between tokens is begins ends few within are) run more suffix others = absurd run
runs-append bytes (dict depth object opening closing inner between tokens is begins ends few within are) run more suffix others = absurd run
runs-append bytes (no_item depth) run more suffix others = others
runs-append bytes (next_item depth first rest objects prefix back tokens one next is are) run more suffix others =
    next_item depth first (rest ++ more) (objects ++ more) prefix (back ++ suffix) (tokens ++ suffix) one (runs-append bytes next tt more suffix others)
    (ap (λ os. os ++ more) is ∙ append_assoc first rest more) (ap (λ ts. ts ++ suffix) are ∙ append_assoc prefix back suffix)
runs-append bytes (no_entry depth) run more suffix others = others
runs-append bytes (next_entry depth key token value rest objects prefix back tokens named begins one next is are) run more suffix others =
    next_entry depth key token value (rest ++ more) (objects ++ more) prefix (back ++ suffix) (tokens ++ suffix) named begins one (runs-append bytes next tt more suffix others)
    (ap (λ os. os ++ more) is ∙ ap (λ os. key ∷ os) (append_assoc value rest more)) (ap (λ ts. ts ++ suffix) are ∙ ap (λ ts. token ∷ ts) (append_assoc prefix back suffix))

-- an entry that its value ends
one-entry : (bytes : List ℕ) (depth : ℕ) (key : Object) (token : Token) (value : List Object) (tokens : List Token) → IsLiteral key.body → Begins bytes key token 0
    → Writes bytes whole depth value tokens → Writes bytes entries depth (key ∷ value) (token ∷ tokens)
one-entry bytes depth key token value tokens named begins one =
    next_entry depth key token value [] (key ∷ value) tokens [] (token ∷ tokens) named begins one (no_entry depth) (ap (λ os. key ∷ os) (sym (append-nil value))) (ap (λ ts. token ∷ ts) (sym (append-nil tokens)))

-- one object more, with all that stands within it
stands-whole : (bytes : List ℕ) (expects : Expects) (depth : ℕ) (opening : Token) (within : List Token) (objects : List Object) (tokens : List Token) → is_key expects ≡ false
    → StandsIn bytes expects depth opening within → Writes bytes whole depth objects tokens → StandsIn bytes (next_expected expects) depth opening (within ++ tokens)
stands-whole bytes Item depth opening within objects tokens due s one = (s.0, s.1 ++ objects, runs-append bytes s.2 tt objects tokens (one-item bytes depth objects tokens one))
stands-whole bytes Key depth opening within objects tokens due s one = absurd (false≢true (sym due))
stands-whole bytes Value depth opening within objects tokens due s one =
    let both = runs-append bytes s.5 tt (s.3 ∷ objects) (s.4 ∷ tokens) (one-entry bytes depth s.3 s.4 objects tokens s.6 s.7 one) in
    let e : s.2 ++ s.4 ∷ tokens ≡ within ++ tokens = sym (append_assoc s.2 (s.4 ∷ []) tokens) ∙ ap (λ w. w ++ tokens) (sym s.8) in
    (s.0, s.1 ++ s.3 ∷ objects, subst (Writes bytes entries depth (s.1 ++ s.3 ∷ objects)) e both)

deeper : (brackets outer : List Bracket) (at : ℕ) (expects : Expects) → brackets ≡ bracket_of at expects ∷ after_object outer → length brackets ≡ suc (length outer)
deeper brackets outer at expects is = ap length is ∙ ap (λ n. suc n) (length-after_object outer)

leaves-whole : (bytes : List ℕ) {brackets : List Bracket} {tokens : List Token} → LeavesOpen bytes brackets tokens → is_key_due brackets ≡ false
    → (objects : List Object) (more : List Token) → Writes bytes whole (length brackets) objects more → LeavesOpen bytes (after_object brackets) (tokens ++ more)
leaves-whole bytes (none found tokens written) due objects more one = none (found ++ objects) (tokens ++ more) (runs-append bytes written tt objects more (one-item bytes 0 objects more one))
leaves-whole bytes (inside outer brackets expects opening prefix within tokens before free few s is are) due objects more one =
    let no_key : is_key expects ≡ false = sym (ap is_key_due is) ∙ due in
    let placed_one : Writes bytes whole (suc (length outer)) objects more = subst (λ n. Writes bytes whole n objects more) (deeper brackets outer opening.at expects is) one in
    inside outer (after_object brackets) (next_expected expects) opening prefix (within ++ more) (tokens ++ more) before free few
    (stands-whole bytes expects (suc (length outer)) opening within objects more no_key s placed_one)
    (ap after_object is)
    (ap (λ ts. ts ++ more) are ∙ append_assoc prefix (opening ∷ within) more)

-- a literal more
leaves-key : (bytes : List ℕ) (outer brackets : List Bracket) (expects : Expects) (opening : Token) (prefix within tokens : List Token)
    → LeavesOpen bytes outer prefix → is_key_due outer ≡ false → length outer < 16 → StandsIn bytes expects (suc (length outer)) opening within
    → brackets ≡ bracket_of opening.at expects ∷ after_object outer → tokens ≡ prefix ++ opening ∷ within
    → (object : Object) (token : Token) → IsLiteral object.body → Begins bytes object token 0 → LeavesOpen bytes (after_object brackets) (tokens ++ token ∷ [])
leaves-key bytes outer brackets Item opening prefix within tokens before free few s is are object token named begins =
    leaves-whole bytes (inside outer brackets Item opening prefix within tokens before free few s is are) (ap is_key_due is) (object ∷ []) (token ∷ []) (plain-literal bytes (length brackets) object token named begins)
leaves-key bytes outer brackets Key opening prefix within tokens before free few s is are object token named begins =
    inside outer (after_object brackets) Value opening prefix (within ++ token ∷ []) (tokens ++ token ∷ []) before free few
    (s.0, s.1, within, object, token, s.2, named, begins, refl)
    (ap after_object is)
    (ap (λ ts. ts ++ token ∷ []) are ∙ append_assoc prefix (opening ∷ within) (token ∷ []))
leaves-key bytes outer brackets Value opening prefix within tokens before free few s is are object token named begins =
    leaves-whole bytes (inside outer brackets Value opening prefix within tokens before free few s is are) (ap is_key_due is) (object ∷ []) (token ∷ []) (plain-literal bytes (length brackets) object token named begins)

leaves-literal : (bytes : List ℕ) {brackets : List Bracket} {tokens : List Token} → LeavesOpen bytes brackets tokens → (object : Object) (token : Token) → IsLiteral object.body → Begins bytes object token 0
    → LeavesOpen bytes (after_object brackets) (tokens ++ token ∷ [])
leaves-literal bytes (none found tokens written) object token named begins =
    leaves-whole bytes (none found tokens written) refl (object ∷ []) (token ∷ []) (plain-literal bytes 0 object token named begins)
leaves-literal bytes (inside outer brackets expects opening prefix within tokens before free few s is are) object token named begins =
    leaves-key bytes outer brackets expects opening prefix within tokens before free few s is are object token named begins

-- a closing token ends the innermost bracket
abbrev bracket_object : Token → Body → List Object → Object
bracket_object opening body inner = record { at = opening.at; inside = length inner; body = body }

ended-array : (bytes : List ℕ) (outer : List Bracket) (opening closing : Token) (prefix within : List Token) → LeavesOpen bytes outer prefix → is_key_due outer ≡ false → length outer < 16
    → StandsIn bytes Item (suc (length outer)) opening within → closing.kind ≡ kinds.CloseArray → LeavesOpen bytes (after_object outer) (prefix ++ (opening ∷ (within ++ closing ∷ [])))
ended-array bytes outer opening closing prefix within before free few s ends =
    let object = bracket_object opening Array s.1 in
    leaves-whole bytes before free (object ∷ s.1) (opening ∷ (within ++ closing ∷ []))
    (array (length outer) object opening closing s.1 within (opening ∷ (within ++ closing ∷ [])) refl (record { place = refl; count = refl; meaning = s.0 }) ends few s.2 refl)

ended-dict : (bytes : List ℕ) (outer : List Bracket) (opening closing : Token) (prefix within : List Token) → LeavesOpen bytes outer prefix → is_key_due outer ≡ false → length outer < 16
    → StandsIn bytes Key (suc (length outer)) opening within → closing.kind ≡ kinds.CloseDict → LeavesOpen bytes (after_object outer) (prefix ++ (opening ∷ (within ++ closing ∷ [])))
ended-dict bytes outer opening closing prefix within before free few s ends =
    let object = bracket_object opening Dict s.1 in
    leaves-whole bytes before free (object ∷ s.1) (opening ∷ (within ++ closing ∷ []))
    (dict (length outer) object opening closing s.1 within (opening ∷ (within ++ closing ∷ [])) refl (record { place = refl; count = refl; meaning = s.0 }) ends few s.2 refl)

close-expects : (bytes : List ℕ) (outer : List Bracket) (expects : Expects) (opening closing : Token) (prefix within : List Token) (new : List Bracket) → LeavesOpen bytes outer prefix → is_key_due outer ≡ false
    → length outer < 16 → StandsIn bytes expects (suc (length outer)) opening within
    → ((closing.kind ≡ kinds.CloseArray) × (array_end expects (after_object outer) ≡ Ok new)) ⊎ ((closing.kind ≡ kinds.CloseDict) × (dict_end expects (after_object outer) ≡ Ok new))
    → LeavesOpen bytes new (prefix ++ (opening ∷ (within ++ closing ∷ [])))
close-expects bytes outer Item opening closing prefix within new before free few s (inl both) =
    subst (λ b. LeavesOpen bytes b (prefix ++ (opening ∷ (within ++ closing ∷ [])))) (same_ok (after_object outer) new both.1) (ended-array bytes outer opening closing prefix within before free few s both.0)
close-expects bytes outer Item opening closing prefix within new before free few s (inr both) = absurd (err_is_no_ok Unmatched new both.1)
close-expects bytes outer Key opening closing prefix within new before free few s (inl both) = absurd (err_is_no_ok Unmatched new both.1)
close-expects bytes outer Key opening closing prefix within new before free few s (inr both) =
    subst (λ b. LeavesOpen bytes b (prefix ++ (opening ∷ (within ++ closing ∷ [])))) (same_ok (after_object outer) new both.1) (ended-dict bytes outer opening closing prefix within before free few s both.0)
close-expects bytes outer Value opening closing prefix within new before free few s (inl both) = absurd (err_is_no_ok Unmatched new both.1)
close-expects bytes outer Value opening closing prefix within new before free few s (inr both) = absurd (err_is_no_ok OddDictionary new both.1)

leaves-closing : (bytes : List ℕ) {brackets : List Bracket} {tokens : List Token} → LeavesOpen bytes brackets tokens → (closing : Token) (new : List Bracket)
    → ((closing.kind ≡ kinds.CloseArray) × (after_array_end brackets ≡ Ok new)) ⊎ ((closing.kind ≡ kinds.CloseDict) × (after_dict_end brackets ≡ Ok new))
    → LeavesOpen bytes new (tokens ++ closing ∷ [])
unfolding after_array_end after_dict_end
leaves-closing bytes (none found tokens written) closing new (inl both) = absurd (err_is_no_ok Unmatched new both.1)
leaves-closing bytes (none found tokens written) closing new (inr both) = absurd (err_is_no_ok Unmatched new both.1)
leaves-closing bytes (inside outer brackets expects opening prefix within tokens before free few s is are) closing new (inl both) =
    let e : prefix ++ (opening ∷ (within ++ closing ∷ [])) ≡ tokens ++ closing ∷ [] = sym (append_assoc prefix (opening ∷ within) (closing ∷ [])) ∙ ap (λ ts. ts ++ closing ∷ []) (sym are) in
    subst (LeavesOpen bytes new) e (close-expects bytes outer expects opening closing prefix within new before free few s (inl (both.0, sym (ap after_array_end is) ∙ both.1)))
leaves-closing bytes (inside outer brackets expects opening prefix within tokens before free few s is are) closing new (inr both) =
    let e : prefix ++ (opening ∷ (within ++ closing ∷ [])) ≡ tokens ++ closing ∷ [] = sym (append_assoc prefix (opening ∷ within) (closing ∷ [])) ∙ ap (λ ts. ts ++ closing ∷ []) (sym are) in
    subst (LeavesOpen bytes new) e (close-expects bytes outer expects opening closing prefix within new before free few s (inr (both.0, sym (ap after_dict_end is) ∙ both.1)))

-- an opening token begins one more
leaves-array : (bytes : List ℕ) (brackets new : List Bracket) (tokens : List Token) (token : Token) → LeavesOpen bytes brackets tokens → length brackets ≤ 16 → token.kind ≡ kinds.OpenArray
    → IsOpened token.at Item brackets new → LeavesOpen bytes new (tokens ++ token ∷ [])
leaves-array bytes brackets new tokens token before most is o =
    inside brackets new Item token tokens [] (tokens ++ token ∷ []) before o.due (below-16 (length brackets) most o.few) (is, [], no_item (suc (length brackets))) (sym o.are) refl

leaves-dict : (bytes : List ℕ) (brackets new : List Bracket) (tokens : List Token) (token : Token) → LeavesOpen bytes brackets tokens → length brackets ≤ 16 → token.kind ≡ kinds.OpenDict
    → IsOpened token.at Key brackets new → LeavesOpen bytes new (tokens ++ token ∷ [])
leaves-dict bytes brackets new tokens token before most is o =
    inside brackets new Key token tokens [] (tokens ++ token ∷ []) before o.due (below-16 (length brackets) most o.few) (is, [], no_entry (suc (length brackets))) (sym o.are) refl

-- a token without brackets
abbrev plain_object : List ℕ → Token → Object
plain_object bytes token = record { at = token.at; inside = 0; body = body_as token.kind (spelling bytes token) }

leaves-plain : (bytes : List ℕ) (brackets new : List Bracket) (tokens : List Token) (token : Token) → LeavesOpen bytes brackets tokens → is_closing token.kind ≡ false
    → IsPlain (length brackets) (body_as token.kind (spelling bytes token)) → IsPut brackets new → LeavesOpen bytes new (tokens ++ token ∷ [])
leaves-plain bytes brackets new tokens token before closes simple put =
    let object = plain_object bytes token in
    subst (λ b. LeavesOpen bytes b (tokens ++ token ∷ [])) put.are
    (leaves-whole bytes before put.due (object ∷ []) (token ∷ [])
    (plain (length brackets) object token simple (record { place = refl; count = refl; meaning = begun token.kind (spelling bytes token) closes })))

leaves-word : (bytes : List ℕ) (brackets new : List Bracket) (tokens : List Token) (token : Token) → LeavesOpen bytes brackets tokens → token.kind ≡ kinds.Word
    → after_kind kinds.Word token.at (is_value_word (spelling bytes token)) brackets ≡ Ok new → LeavesOpen bytes new (tokens ++ token ∷ [])
leaves-word bytes brackets new tokens token before is put =
    let word = spelling bytes token in
    let closes : is_closing token.kind ≡ false = ap is_closing is in
    let body : word_body word ≡ body_as token.kind word = ap (λ k. body_as k word) (sym is) in
    ⊎_elim
    (λ (t : is_value_word word ≡ true).
    let simple = plain-word (length brackets) word (λ f. absurd (false≢true (sym f ∙ t))) in
    leaves-plain bytes brackets new tokens token before closes (subst (IsPlain (length brackets)) body simple) (put-value brackets new (rw t at put)))
    (λ (f : is_value_word word ≡ false).
    let both = put-operator brackets new (rw f at put) in
    let simple = plain-word (length brackets) word (λ g. both.1) in
    leaves-plain bytes brackets new tokens token before closes (subst (IsPlain (length brackets)) body simple) both.0)
    (cases_Bool (is_value_word word))

leaves-next : (bytes : List ℕ) (brackets new : List Bracket) (tokens : List Token) (token : Token) → LeavesOpen bytes brackets tokens → length brackets ≤ 16 → (kind : TokenKind) → token.kind ≡ kind
    → after_kind kind token.at (is_value_word (spelling bytes token)) brackets ≡ Ok new → LeavesOpen bytes new (tokens ++ token ∷ [])
leaves-next bytes brackets new tokens token before most kinds.OpenDict is put = leaves-dict bytes brackets new tokens token before most is (open-bracket token.at Key brackets new put)
leaves-next bytes brackets new tokens token before most kinds.CloseDict is put = leaves-closing bytes before token new (inr (is, put))
leaves-next bytes brackets new tokens token before most kinds.OpenArray is put = leaves-array bytes brackets new tokens token before most is (open-bracket token.at Item brackets new put)
leaves-next bytes brackets new tokens token before most kinds.CloseArray is put = leaves-closing bytes before token new (inl (is, put))
leaves-next bytes brackets new tokens token before most kinds.Literal is put =
    let object = plain_object bytes token in
    let named : IsLiteral object.body = (drop 1 (spelling bytes token), ap (λ k. body_as k (spelling bytes token)) is) in
    subst (λ b. LeavesOpen bytes b (tokens ++ token ∷ [])) (same_ok (after_object brackets) new put)
    (leaves-literal bytes before object token named (record { place = refl; count = refl; meaning = begun token.kind (spelling bytes token) (ap is_closing is) }))
leaves-next bytes brackets new tokens token before most kinds.Word is put = leaves-word bytes brackets new tokens token before is put
leaves-next bytes brackets new tokens token before most (kinds.Number n) is put =
    leaves-plain bytes brackets new tokens token before (ap is_closing is) (subst (IsPlain (length brackets)) (ap (λ k. body_as k (spelling bytes token)) (sym is)) tt) (put-value brackets new put)
leaves-next bytes brackets new tokens token before most kinds.Text is put =
    leaves-plain bytes brackets new tokens token before (ap is_closing is) (subst (IsPlain (length brackets)) (ap (λ k. body_as k (spelling bytes token)) (sym is)) tt) (put-value brackets new put)

abbrev all_put : List Bracket → Result (List Bracket) JobFault
all_put brackets = Ok brackets

same_all : (a b : List Bracket) → all_put a ≡ all_put b → a ≡ b
same_all a b e = cc

fault_is_no_ok : (fault : JobFault) (last : List Bracket) → Err fault ≡ all_put last → ⊥
fault_is_no_ok fault last e = cc

-- tokens, one after the other
left-next : (bytes : List ℕ) (done : List Token) (token : Token) (tokens : List Token) (brackets last : List Bracket) → LeavesOpen bytes brackets done → length brackets ≤ 16
    → ((new : List Bracket) → LeavesOpen bytes new (done ++ token ∷ []) → length new ≤ 16 → fold (after_next bytes) (Ok new) tokens ≡ Ok last → LeavesOpen bytes last ((done ++ token ∷ []) ++ tokens))
    → (result : Result (List Bracket) FaultKind) → after_token bytes token brackets ≡ result → fold (after_next bytes) (at_token token.at result) tokens ≡ Ok last
    → LeavesOpen bytes last (done ++ token ∷ tokens)
left-next bytes done token tokens brackets last before most later (Ok new) put is =
    subst (LeavesOpen bytes last) (append_assoc done (token ∷ []) tokens)
    (later new (leaves-next bytes brackets new done token before most token.kind refl put) (few token.kind token.at (is_value_word (spelling bytes token)) brackets new most put) is)
left-next bytes done token tokens brackets last before most later (Err kind) put is =
    let fault : JobFault = record { kind = kind; at = token.at } in
    absurd (fault_is_no_ok fault last (sym (fold-err bytes fault tokens) ∙ is))

left : (bytes : List ℕ) (tokens done : List Token) (brackets last : List Bracket) → LeavesOpen bytes brackets done → length brackets ≤ 16 → fold (after_next bytes) (Ok brackets) tokens ≡ Ok last
    → LeavesOpen bytes last (done ++ tokens)
left bytes [] done brackets last before most is =
    subst (λ b. LeavesOpen bytes b (done ++ [])) (same_all brackets last is) (subst (LeavesOpen bytes brackets) (sym (append-nil done)) before)
left bytes (token ∷ tokens) done brackets last before most is =
    left-next bytes done token tokens brackets last before most (λ new more fits go. left bytes tokens (done ++ token ∷ []) new last more fits go) (after_token bytes token brackets) refl is

-- the brackets that are open are left open
pub brackets-left : (bytes : List ℕ) (tokens : List Token) (brackets : List Bracket) → brackets_after bytes tokens ≡ Ok brackets → LeavesOpen bytes brackets tokens
brackets-left bytes tokens brackets is = left bytes tokens [] [] brackets (none [] [] (no_item 0)) (omega arith) is

-- what a bracket expects when it opens
abbrev first_expected : Expects → Expects
first_expected Item = Item
first_expected Key = Key
first_expected Value = Key

-- the brackets that are left open are open
within-after_token : (bytes : List ℕ) (expects : Expects) (depth : ℕ) (opening : Token) (within : List Token) (outer : List Bracket) → suc (length outer) ≡ depth → StandsIn bytes expects depth opening within
    → fold (after_next bytes) (Ok (bracket_of opening.at (first_expected expects) ∷ outer)) within ≡ Ok (bracket_of opening.at expects ∷ outer)
within-after_token bytes Item depth opening within outer count s = writes-after_token bytes s.2 (bracket_of opening.at Item ∷ outer) (count, refl, refl)
within-after_token bytes Key depth opening within outer count s = writes-after_token bytes s.2 (bracket_of opening.at Key ∷ outer) (opening.at, outer, refl, count)
within-after_token bytes Value depth opening within outer count s =
    let due = bracket_of opening.at Key ∷ outer in
    ap (fold (after_next bytes) (Ok due)) s.8
    ∙ after_token-append bytes due due s.2 (s.4 ∷ []) (writes-after_token bytes s.5 due (opening.at, outer, refl, count))
    ∙ after_token-last bytes due (bracket_of opening.at Value ∷ outer) s.4 (after_token-literal s.3.body s.4.kind (spelling bytes s.4) s.4.at due s.6 s.7.meaning)

opening-after_token : (bytes : List ℕ) (expects : Expects) (depth : ℕ) (opening : Token) (within : List Token) (brackets : List Bracket) → is_key_due brackets ≡ false → length brackets < 16
    → StandsIn bytes expects depth opening within → after_token bytes opening brackets ≡ Ok (bracket_of opening.at (first_expected expects) ∷ after_object brackets)
opening-after_token bytes Item depth opening within brackets free few s = ap (λ k. after_kind k opening.at (is_value_word (spelling bytes opening)) brackets) s.0 ∙ after_opening-bracket opening.at Item brackets free few
opening-after_token bytes Key depth opening within brackets free few s = ap (λ k. after_kind k opening.at (is_value_word (spelling bytes opening)) brackets) s.0 ∙ after_opening-bracket opening.at Key brackets free few
opening-after_token bytes Value depth opening within brackets free few s = ap (λ k. after_kind k opening.at (is_value_word (spelling bytes opening)) brackets) s.0 ∙ after_opening-bracket opening.at Key brackets free few

left-after_token : (bytes : List ℕ) {brackets : List Bracket} {tokens : List Token} → LeavesOpen bytes brackets tokens → fold (after_next bytes) (Ok []) tokens ≡ Ok brackets
left-after_token bytes (none found tokens written) = writes-after_token bytes written [] (refl, refl, refl)
left-after_token bytes (inside outer brackets expects opening prefix within tokens before free few s is are) =
    let fresh = bracket_of opening.at (first_expected expects) ∷ after_object outer in
    ap (fold (after_next bytes) (Ok [])) are
    ∙ after_token-append bytes [] outer prefix (opening ∷ within) (left-after_token bytes before)
    ∙ after_token-first bytes outer fresh opening within (opening-after_token bytes expects (suc (length outer)) opening within outer free few s)
    ∙ within-after_token bytes expects (suc (length outer)) opening within (after_object outer) (ap (λ n. suc n) (length-after_object outer)) s
    ∙ ap (λ b. Ok b) (sym is)

pub left-brackets : (bytes : List ℕ) (tokens : List Token) (brackets : List Bracket) → LeavesOpen bytes brackets tokens → brackets_after bytes tokens ≡ Ok brackets
left-brackets bytes tokens brackets are = left-after_token bytes are
