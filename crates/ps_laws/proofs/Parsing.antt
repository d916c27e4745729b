-- Tokens without a fault write objects out.
use Rattle.std.proofs.Common.{◌≡◌, ◌⊎◌, inl, inr, ℕ, suc, ◌+◌, ◌<◌, ◌≤◌, Bool, true, false, cond, eqb, List, [], ◌∷◌, ◌++◌, length, drop, fold, Result, Ok, Err, refl, sym, ap, ◌∙◌, subst, ⊎_elim, arith, append_assoc, add-zero}
use Rattle.std.specs.Prelude.{codes}
use Rattle.std.specs.Str.{bytes_eq}
use Rattle.std.proofs.lemmas.Bool.{cases_Bool, false≢true, false_from_ne_true, cond_both, cases_lt, ne_eqb, eqb-false}
use Rattle.std.proofs.lemmas.List.{append-nil}
use Rattle.std.proofs.lemmas.Slice.Eq.{bytes_eq-Decides}
use Rattle.ps_tokens.specs.declared.faults.FaultKind.{FaultKind}
use Rattle.ps_tokens.specs.declared.faults.FaultKind.TheVariants.{Unmatched, OddDictionary, KeyNotName, NameInside, TooDeep}
use Rattle.ps_tokens.specs.declared.faults.JobFault.{JobFault}
use Rattle.ps_tokens.specs.declared.token.Token.{Token}
use Rattle.ps_tokens.specs.declared.token.TokenKind.{TokenKind}
use Rattle.ps_tokens.specs.declared.token.TokenKind.TheVariants as kinds
use Rattle.ps_tokens.specs.declared.brackets.Expects.{Expects}
use Rattle.ps_tokens.specs.declared.brackets.Expects.TheVariants.{Item, Key, Value}
use Rattle.ps_tokens.specs.declared.brackets.Bracket.{Bracket}
use Rattle.ps_tokens.specs.declared.object.Body.{Body}
use Rattle.ps_tokens.specs.declared.object.Body.TheVariants.{Array, Dict}
use Rattle.ps_tokens.specs.declared.object.Object.{Object}
use Rattle.ps_tokens.specs.Words.{spelling, is_value_word}
use Rattle.ps_tokens.specs.Brackets.{next_expected, after_object, is_key, is_key_due, after_opening, array_end, after_array_end, dict_end, after_dict_end, after_value, after_operator, after_kind, after_token, at_token, after_next, brackets_after}
use Rattle.ps_tokens.specs.Objects.{is_opening, is_closing, count_inside, word_body, body_as, object_of, objects_in, unless_open, objects_of}
use Rattle.ps_tokens.proofs.Judgements.{fold-err}
use Rattle.ps_laws.specs.Writes.{IsValueWord, IsBegunBy, Begins, IsLiteral, IsPlain, whole, items, entries, Writes, plain, array, dict, no_item, next_item, no_entry, next_entry, WritesOut}
use Rattle.ps_laws.proofs.Judging.{is_value-word, length-after_object, writes-after_token}
use Rattle.ps_laws.proofs.Listing.{writes-count, writes-listed, count-end}

-- what is left of an open bracket: items, entries, or a value and then entries
abbrev Within : List ℕ → Expects → ℕ → List Object → List Token → Type 0
Within bytes Item depth objects tokens = Writes bytes items depth objects tokens
Within bytes Key depth objects tokens = Writes bytes entries depth objects tokens
Within bytes Value depth objects tokens =
    (value : List Object) × (rest : List Object) × (prefix : List Token) × (suffix : List Token)
    × Writes bytes whole depth value prefix × Writes bytes entries depth rest suffix × (objects ≡ value ++ rest) × (tokens ≡ prefix ++ suffix)

-- the token that closes a bracket
abbrev IsEndOf : Expects → TokenKind → Type 0
IsEndOf Item kind = kind ≡ kinds.CloseArray
IsEndOf Key kind = kind ≡ kinds.CloseDict
IsEndOf Value kind = kind ≡ kinds.CloseDict

-- What tokens write out that leave no bracket open: for each bracket that is open before them what is left of it, and
-- its end.
abbrev Rest : List ℕ → List Bracket → List Object → List Token → Type 0
Rest bytes [] objects tokens = Writes bytes items 0 objects tokens
Rest bytes (bracket ∷ outer) objects tokens =
    (inner : List Object) × (more : List Object) × (between : List Token) × (closing : Token) × (after : List Token)
    × Within bytes bracket.expects (suc (length outer)) inner between × IsEndOf bracket.expects closing.kind × Rest bytes outer more after
    × (objects ≡ inner ++ more) × (tokens ≡ between ++ closing ∷ after)

-- one object more, with all that stands within it
within-whole : (bytes : List ℕ) (expects : Expects) (depth : ℕ) (first objects : List Object) (prefix tokens : List Token) → is_key expects ≡ false
    → Writes bytes whole depth first prefix → Within bytes (next_expected expects) depth objects tokens → Within bytes expects depth (first ++ objects) (prefix ++ tokens)
within-whole bytes Item depth first objects prefix tokens due one more = next_item depth first objects (first ++ objects) prefix tokens (prefix ++ tokens) one more refl refl
within-whole bytes Key depth first objects prefix tokens due one more = absurd (false≢true (sym due))
within-whole bytes Value depth first objects prefix tokens due one more = (first, objects, prefix, tokens, one, more, refl, refl)

end-whole : (expects : Expects) (kind : TokenKind) → is_key expects ≡ false → IsEndOf (next_expected expects) kind → IsEndOf expects kind
end-whole Item kind due is = is
end-whole Key kind due is = absurd (false≢true (sym due))
end-whole Value kind due is = is

rest-whole : (bytes : List ℕ) (brackets : List Bracket) (first objects : List Object) (prefix tokens : List Token) → is_key_due brackets ≡ false
    → Writes bytes whole (length brackets) first prefix → Rest bytes (after_object brackets) objects tokens → Rest bytes brackets (first ++ objects) (prefix ++ tokens)
rest-whole bytes [] first objects prefix tokens due one more = next_item 0 first objects (first ++ objects) prefix tokens (prefix ++ tokens) one more refl refl
rest-whole bytes (bracket ∷ outer) first objects prefix tokens due one more = (
  first ++ more.0,
  more.1,
  prefix ++ more.2,
  more.3,
  more.4,
  within-whole bytes bracket.expects (suc (length outer)) first more.0 prefix more.2 due one more.5,
  end-whole bracket.expects more.3.kind due more.6,
  more.7,
  ap (λ os. first ++ os) more.8 ∙ sym (append_assoc first more.0 more.1),
  ap (λ ts. prefix ++ ts) more.9 ∙ sym (append_assoc prefix more.2 (more.3 ∷ more.4)),
)

-- a literal more
plain-body : (depth : ℕ) (body : Body) → IsLiteral body → IsPlain depth body
plain-body depth body is = subst (IsPlain depth) (sym is.1) tt

pub plain-literal : (bytes : List ℕ) (depth : ℕ) (object : Object) (token : Token) → IsLiteral object.body → Begins bytes object token 0 → Writes bytes whole depth (object ∷ []) (token ∷ [])
plain-literal bytes depth object token is begins = plain depth object token (plain-body depth object.body is) begins

abbrev pub bracket_of : ℕ → Expects → Bracket
bracket_of at expects = record { at = at; expects = expects }

-- a key opens an entry, which its value ends
key-within : (bytes : List ℕ) (depth : ℕ) (object : Object) (objects : List Object) (token : Token) (tokens : List Token) → IsLiteral object.body → Begins bytes object token 0
    → Within bytes Value depth objects tokens → Within bytes Key depth (object ∷ objects) (token ∷ tokens)
key-within bytes depth object objects token tokens named begins more =
    next_entry depth object token more.0 more.1 (object ∷ objects) more.2 more.3 (token ∷ tokens) named begins more.4 more.5 (ap (λ os. object ∷ os) more.6) (ap (λ ts. token ∷ ts) more.7)

literal-within : (bytes : List ℕ) (at : ℕ) (expects : Expects) (outer : List Bracket) (object : Object) (objects : List Object) (token : Token) (tokens : List Token) → IsLiteral object.body → Begins bytes object token 0
    → Rest bytes (bracket_of at (next_expected expects) ∷ outer) objects tokens → Rest bytes (bracket_of at expects ∷ outer) (object ∷ objects) (token ∷ tokens)
literal-within bytes at Item outer object objects token tokens named begins more =
    rest-whole bytes (bracket_of at Item ∷ outer) (object ∷ []) objects (token ∷ []) tokens refl (plain-literal bytes (suc (length outer)) object token named begins) more
literal-within bytes at Key outer object objects token tokens named begins more = (
  object ∷ more.0,
  more.1,
  token ∷ more.2,
  more.3,
  more.4,
  key-within bytes (suc (length outer)) object more.0 token more.2 named begins more.5,
  more.6,
  more.7,
  ap (λ os. object ∷ os) more.8,
  ap (λ ts. token ∷ ts) more.9,
)
literal-within bytes at Value outer object objects token tokens named begins more =
    rest-whole bytes (bracket_of at Value ∷ outer) (object ∷ []) objects (token ∷ []) tokens refl (plain-literal bytes (suc (length outer)) object token named begins) more

rest-literal : (bytes : List ℕ) (brackets : List Bracket) (object : Object) (objects : List Object) (token : Token) (tokens : List Token) → IsLiteral object.body → Begins bytes object token 0
    → Rest bytes (after_object brackets) objects tokens → Rest bytes brackets (object ∷ objects) (token ∷ tokens)
rest-literal bytes [] object objects token tokens named begins more =
    rest-whole bytes [] (object ∷ []) objects (token ∷ []) tokens refl (plain-literal bytes 0 object token named begins) more
rest-literal bytes (bracket ∷ outer) object objects token tokens named begins more = literal-within bytes bracket.at bracket.expects outer object objects token tokens named begins more

-- a bracket more, up to its end
rest-array : (bytes : List ℕ) (brackets : List Bracket) (at : ℕ) (object : Object) (objects : List Object) (token : Token) (tokens : List Token) → is_key_due brackets ≡ false → length brackets < 16
    → object.body ≡ Array → Begins bytes object token (count_inside 0 tokens)
    → Rest bytes (record { at = at; expects = Item } ∷ after_object brackets) objects tokens → Rest bytes brackets (object ∷ objects) (token ∷ tokens)
rest-array bytes brackets at object objects token tokens due few is begins more =
    let closes : is_closing more.3.kind ≡ true = ap is_closing more.6 in
    let within : Writes bytes items (suc (length brackets)) more.0 more.2 = subst (λ n. Writes bytes items (suc n) more.0 more.2) (length-after_object brackets) more.5 in
    let n : count_inside 0 tokens ≡ length more.0 =
    ap (count_inside 0) more.9 ∙ writes-count bytes within 0 (more.3 ∷ more.4) ∙ ap (λ k. length more.0 + k) (count-end more.3 more.4 closes) ∙ add-zero (length more.0) in
    let prefix = token ∷ (more.2 ++ more.3 ∷ []) in
    let one : Writes bytes whole (length brackets) (object ∷ more.0) prefix =
    array (length brackets) object token more.3 more.0 more.2 prefix is (subst (Begins bytes object token) n begins) more.6 few within refl in
    subst (λ os. Rest bytes brackets os (token ∷ tokens)) (ap (λ os. object ∷ os) (sym more.8))
    (subst (λ ts. Rest bytes brackets (object ∷ (more.0 ++ more.1)) ts) (ap (λ ts. token ∷ ts) (append_assoc more.2 (more.3 ∷ []) more.4 ∙ sym more.9))
    (rest-whole bytes brackets (object ∷ more.0) more.1 prefix more.4 due one more.7))

rest-dict : (bytes : List ℕ) (brackets : List Bracket) (at : ℕ) (object : Object) (objects : List Object) (token : Token) (tokens : List Token) → is_key_due brackets ≡ false → length brackets < 16
    → object.body ≡ Dict → Begins bytes object token (count_inside 0 tokens)
    → Rest bytes (record { at = at; expects = Key } ∷ after_object brackets) objects tokens → Rest bytes brackets (object ∷ objects) (token ∷ tokens)
rest-dict bytes brackets at object objects token tokens due few is begins more =
    let closes : is_closing more.3.kind ≡ true = ap is_closing more.6 in
    let within : Writes bytes entries (suc (length brackets)) more.0 more.2 = subst (λ n. Writes bytes entries (suc n) more.0 more.2) (length-after_object brackets) more.5 in
    let n : count_inside 0 tokens ≡ length more.0 =
    ap (count_inside 0) more.9 ∙ writes-count bytes within 0 (more.3 ∷ more.4) ∙ ap (λ k. length more.0 + k) (count-end more.3 more.4 closes) ∙ add-zero (length more.0) in
    let prefix = token ∷ (more.2 ++ more.3 ∷ []) in
    let one : Writes bytes whole (length brackets) (object ∷ more.0) prefix =
    dict (length brackets) object token more.3 more.0 more.2 prefix is (subst (Begins bytes object token) n begins) more.6 few within refl in
    subst (λ os. Rest bytes brackets os (token ∷ tokens)) (ap (λ os. object ∷ os) (sym more.8))
    (subst (λ ts. Rest bytes brackets (object ∷ (more.0 ++ more.1)) ts) (ap (λ ts. token ∷ ts) (append_assoc more.2 (more.3 ∷ []) more.4 ∙ sym more.9))
    (rest-whole bytes brackets (object ∷ more.0) more.1 prefix more.4 due one more.7))

pub err_is_no_ok : (kind : FaultKind) (new : List Bracket) → Err kind ≡ Ok new → ⊥
err_is_no_ok kind new e = cc

-- brackets after a token, and after all tokens
abbrev pub put : List Bracket → Result (List Bracket) FaultKind
put brackets = Ok brackets

abbrev all_put : List Bracket → Result (List Bracket) JobFault
all_put brackets = Ok brackets

pub same_ok : (a b : List Bracket) → put a ≡ put b → a ≡ b
same_ok a b e = cc

fault_is_no_ok : (fault : JobFault) → Err fault ≡ all_put [] → ⊥
fault_is_no_ok fault e = cc

some_is_no_none : (bracket : Bracket) (outer : List Bracket) → all_put (bracket ∷ outer) ≡ all_put [] → ⊥
some_is_no_none bracket outer e = cc

pub below-16 : (n : ℕ) → n ≤ 16 → (n ≡ 16 → ⊥) → n < 16
below-16 n most other = ⊎_elim (λ (l : n < 16). l) (λ (g : 16 ≤ n). absurd (other (omega arith))) (cases_lt n 16)

no_value_word : (word : List ℕ) → bytes_eq word (codes "true") ≡ false → bytes_eq word (codes "false") ≡ false → bytes_eq word (codes "null") ≡ false → IsValueWord word → ⊥
no_value_word word f g h (inl is) = false≢true (sym f ∙ (bytes_eq-Decides word (codes "true")).1 is)
no_value_word word f g h (inr (inl is)) = false≢true (sym g ∙ (bytes_eq-Decides word (codes "false")).1 is)
no_value_word word f g h (inr (inr is)) = false≢true (sym h ∙ (bytes_eq-Decides word (codes "null")).1 is)

-- what a token that has no fault shows
pub record IsPut (brackets new : List Bracket) : Type 0 where
  pub due : is_key_due brackets ≡ false
  pub are : after_object brackets ≡ new

pub record IsOpened (at : ℕ) (expects : Expects) (brackets new : List Bracket) : Type 0 where
  pub due : is_key_due brackets ≡ false
  pub few : length brackets ≡ 16 → ⊥
  pub are : bracket_of at expects ∷ after_object brackets ≡ new

pub put-value : (brackets new : List Bracket) → after_value brackets ≡ Ok new → IsPut brackets new
unfolding after_value
put-value brackets new is =
    ⊎_elim
    (λ (t : is_key_due brackets ≡ true). absurd (err_is_no_ok KeyNotName new (rw t at is)))
    (λ (f : is_key_due brackets ≡ false). record { due = f; are = same_ok (after_object brackets) new (rw f at is) })
    (cases_Bool (is_key_due brackets))

pub put-operator : (brackets new : List Bracket) → after_operator brackets ≡ Ok new → IsPut brackets new × (length brackets ≡ 0)
unfolding after_operator
put-operator [] new is = (record { due = refl; are = same_ok [] new is }, refl)
put-operator (bracket ∷ outer) new is =
    ⊎_elim
    (λ (t : is_key bracket.expects ≡ true). absurd (err_is_no_ok KeyNotName new (rw t at is)))
    (λ (f : is_key bracket.expects ≡ false).
    let some : eqb (suc (length outer)) 0 ≡ false = ne_eqb (suc (length outer)) 0 (λ e. omega arith) in
    absurd (err_is_no_ok NameInside new (rw (f, some) at is)))
    (cases_Bool (is_key bracket.expects))

pub open-bracket : (at : ℕ) (expects : Expects) (brackets new : List Bracket) → after_opening at expects brackets ≡ Ok new → IsOpened at expects brackets new
unfolding after_opening
open-bracket at expects brackets new is =
    ⊎_elim
    (λ (t : is_key_due brackets ≡ true). absurd (err_is_no_ok KeyNotName new (rw t at is)))
    (λ (f : is_key_due brackets ≡ false).
    ⊎_elim
    (λ (t : eqb (length brackets) 16 ≡ true). absurd (err_is_no_ok TooDeep new (rw (f, t) at is)))
    (λ (g : eqb (length brackets) 16 ≡ false). record { due = f; few = eqb-false (length brackets) 16 g; are = same_ok (bracket_of at expects ∷ after_object brackets) new (rw (f, g) at is) })
    (cases_Bool (eqb (length brackets) 16)))
    (cases_Bool (is_key_due brackets))

-- a closing token ends the innermost bracket
end-array : (bytes : List ℕ) (at : ℕ) (expects : Expects) (outer new : List Bracket) (objects : List Object) (token : Token) (tokens : List Token) → token.kind ≡ kinds.CloseArray → array_end expects outer ≡ Ok new
    → Rest bytes new objects tokens → Rest bytes (bracket_of at expects ∷ outer) objects (token ∷ tokens)
end-array bytes at Item outer new objects token tokens kind is more =
    ([], objects, [], token, tokens, no_item (suc (length outer)), kind, subst (λ b. Rest bytes b objects tokens) (sym (same_ok outer new is)) more, refl, refl)
end-array bytes at Key outer new objects token tokens kind is more = absurd (err_is_no_ok Unmatched new is)
end-array bytes at Value outer new objects token tokens kind is more = absurd (err_is_no_ok Unmatched new is)

end-dict : (bytes : List ℕ) (at : ℕ) (expects : Expects) (outer new : List Bracket) (objects : List Object) (token : Token) (tokens : List Token) → token.kind ≡ kinds.CloseDict → dict_end expects outer ≡ Ok new
    → Rest bytes new objects tokens → Rest bytes (bracket_of at expects ∷ outer) objects (token ∷ tokens)
end-dict bytes at Item outer new objects token tokens kind is more = absurd (err_is_no_ok Unmatched new is)
end-dict bytes at Key outer new objects token tokens kind is more =
    ([], objects, [], token, tokens, no_entry (suc (length outer)), kind, subst (λ b. Rest bytes b objects tokens) (sym (same_ok outer new is)) more, refl, refl)
end-dict bytes at Value outer new objects token tokens kind is more = absurd (err_is_no_ok OddDictionary new is)

close-array : (bytes : List ℕ) (brackets new : List Bracket) (objects : List Object) (token : Token) (tokens : List Token) → token.kind ≡ kinds.CloseArray → after_array_end brackets ≡ Ok new
    → Rest bytes new objects tokens → Rest bytes brackets objects (token ∷ tokens)
unfolding after_array_end
close-array bytes [] new objects token tokens kind is more = absurd (err_is_no_ok Unmatched new is)
close-array bytes (bracket ∷ outer) new objects token tokens kind is more = end-array bytes bracket.at bracket.expects outer new objects token tokens kind is more

close-dict : (bytes : List ℕ) (brackets new : List Bracket) (objects : List Object) (token : Token) (tokens : List Token) → token.kind ≡ kinds.CloseDict → after_dict_end brackets ≡ Ok new
    → Rest bytes new objects tokens → Rest bytes brackets objects (token ∷ tokens)
unfolding after_dict_end
close-dict bytes [] new objects token tokens kind is more = absurd (err_is_no_ok Unmatched new is)
close-dict bytes (bracket ∷ outer) new objects token tokens kind is more = end-dict bytes bracket.at bracket.expects outer new objects token tokens kind is more

-- what a token begins
word-begun : (word : List ℕ) → IsBegunBy (word_body word) kinds.Word word
unfolding word_body
word-begun word =
    let P : Body → Type 0 = λ body. IsBegunBy body kinds.Word word in
    cond_both (bytes_eq word (codes "true")) _ _ P (λ t. (refl, (bytes_eq-Decides word (codes "true")).0 t))
    (λ f. cond_both (bytes_eq word (codes "false")) _ _ P (λ t. (refl, (bytes_eq-Decides word (codes "false")).0 t))
    (λ g. cond_both (bytes_eq word (codes "null")) _ _ P (λ t. (refl, (bytes_eq-Decides word (codes "null")).0 t))
    (λ h. (refl, refl, no_value_word word f g h))))

pub begun : (kind : TokenKind) (text : List ℕ) → is_closing kind ≡ false → IsBegunBy (body_as kind text) kind text
begun kinds.OpenDict text opens = refl
begun kinds.CloseDict text opens = absurd (false≢true (sym opens))
begun kinds.OpenArray text opens = refl
begun kinds.CloseArray text opens = absurd (false≢true (sym opens))
begun kinds.Literal text opens = (refl, refl)
begun kinds.Word text opens = word-begun text
begun (kinds.Number n) text opens = refl
begun kinds.Text text opens = refl

object-begun : (bytes : List ℕ) (token : Token) (tokens : List Token) → is_closing token.kind ≡ false → Begins bytes (object_of bytes token tokens) token (cond (is_opening token.kind) (count_inside 0 tokens) 0)
object-begun bytes token tokens opens = record { place = refl; count = refl; meaning = begun token.kind (spelling bytes token) opens }

simple-begun : (bytes : List ℕ) (token : Token) (tokens : List Token) → is_closing token.kind ≡ false → is_opening token.kind ≡ false → Begins bytes (object_of bytes token tokens) token 0
simple-begun bytes token tokens closes opens = subst (Begins bytes (object_of bytes token tokens) token) (rw opens refl) (object-begun bytes token tokens closes)

bracket-begun : (bytes : List ℕ) (token : Token) (tokens : List Token) → is_closing token.kind ≡ false → is_opening token.kind ≡ true → Begins bytes (object_of bytes token tokens) token (count_inside 0 tokens)
bracket-begun bytes token tokens closes opens = subst (Begins bytes (object_of bytes token tokens) token) (rw opens refl) (object-begun bytes token tokens closes)

-- a word stands in brackets only as a value
pub plain-word : (depth : ℕ) (word : List ℕ) → (is_value_word word ≡ false → depth ≡ 0) → IsPlain depth (word_body word)
unfolding word_body
plain-word depth word outside =
    let P : Body → Type 0 = IsPlain depth in
    cond_both (bytes_eq word (codes "true")) _ _ P (λ t. tt)
    (λ f. cond_both (bytes_eq word (codes "false")) _ _ P (λ t. tt)
    (λ g. cond_both (bytes_eq word (codes "null")) _ _ P (λ t. tt)
    (λ h. outside (false_from_ne_true (is_value_word word) (λ t. no_value_word word f g h (is_value-word word t))))))

-- one token, where what is after it is known
abbrev Steps : List ℕ → Token → List Token → List Bracket → List Bracket → Type 0
Steps bytes token tokens brackets new = Rest bytes new (objects_in bytes tokens) tokens → Rest bytes brackets (objects_in bytes (token ∷ tokens)) (token ∷ tokens)

listed-first : (bytes : List ℕ) (token : Token) (tokens : List Token) → is_closing token.kind ≡ false → object_of bytes token tokens ∷ objects_in bytes tokens ≡ objects_in bytes (token ∷ tokens)
listed-first bytes token tokens closes = rw closes refl

listed-closing : (bytes : List ℕ) (token : Token) (tokens : List Token) → is_closing token.kind ≡ true → objects_in bytes tokens ≡ objects_in bytes (token ∷ tokens)
listed-closing bytes token tokens closes = rw closes refl

step-plain : (bytes : List ℕ) (token : Token) (tokens : List Token) (brackets new : List Bracket) → is_closing token.kind ≡ false → is_opening token.kind ≡ false
    → IsPlain (length brackets) (body_as token.kind (spelling bytes token)) → IsPut brackets new → Steps bytes token tokens brackets new
step-plain bytes token tokens brackets new closes opens simple put more =
    let object = object_of bytes token tokens in
    let objects = objects_in bytes tokens in
    subst (λ os. Rest bytes brackets os (token ∷ tokens)) (listed-first bytes token tokens closes)
    (rest-whole bytes brackets (object ∷ []) objects (token ∷ []) tokens put.due
    (plain (length brackets) object token simple (simple-begun bytes token tokens closes opens))
    (subst (λ b. Rest bytes b objects tokens) (sym put.are) more))

step-literal : (bytes : List ℕ) (token : Token) (tokens : List Token) (brackets : List Bracket) → token.kind ≡ kinds.Literal → Steps bytes token tokens brackets (after_object brackets)
step-literal bytes token tokens brackets is more =
    let object = object_of bytes token tokens in
    let closes : is_closing token.kind ≡ false = ap is_closing is in
    let named : IsLiteral object.body = (drop 1 (spelling bytes token), ap (λ k. body_as k (spelling bytes token)) is) in
    subst (λ os. Rest bytes brackets os (token ∷ tokens)) (listed-first bytes token tokens closes)
    (rest-literal bytes brackets object (objects_in bytes tokens) token tokens named (simple-begun bytes token tokens closes (ap is_opening is)) more)

step-array : (bytes : List ℕ) (token : Token) (tokens : List Token) (brackets new : List Bracket) → length brackets ≤ 16 → token.kind ≡ kinds.OpenArray → IsOpened token.at Item brackets new → Steps bytes token tokens brackets new
step-array bytes token tokens brackets new most is o more =
    let object = object_of bytes token tokens in
    let objects = objects_in bytes tokens in
    let closes : is_closing token.kind ≡ false = ap is_closing is in
    let opens : is_opening token.kind ≡ true = ap is_opening is in
    let few : length brackets < 16 = below-16 (length brackets) most o.few in
    subst (λ os. Rest bytes brackets os (token ∷ tokens)) (listed-first bytes token tokens closes)
    (rest-array bytes brackets token.at object objects token tokens o.due few (ap (λ k. body_as k (spelling bytes token)) is) (bracket-begun bytes token tokens closes opens)
    (subst (λ b. Rest bytes b objects tokens) (sym o.are) more))

step-dict : (bytes : List ℕ) (token : Token) (tokens : List Token) (brackets new : List Bracket) → length brackets ≤ 16 → token.kind ≡ kinds.OpenDict → IsOpened token.at Key brackets new → Steps bytes token tokens brackets new
step-dict bytes token tokens brackets new most is o more =
    let object = object_of bytes token tokens in
    let objects = objects_in bytes tokens in
    let closes : is_closing token.kind ≡ false = ap is_closing is in
    let opens : is_opening token.kind ≡ true = ap is_opening is in
    let few : length brackets < 16 = below-16 (length brackets) most o.few in
    subst (λ os. Rest bytes brackets os (token ∷ tokens)) (listed-first bytes token tokens closes)
    (rest-dict bytes brackets token.at object objects token tokens o.due few (ap (λ k. body_as k (spelling bytes token)) is) (bracket-begun bytes token tokens closes opens)
    (subst (λ b. Rest bytes b objects tokens) (sym o.are) more))

step-word : (bytes : List ℕ) (token : Token) (tokens : List Token) (brackets new : List Bracket) → token.kind ≡ kinds.Word
    → after_kind kinds.Word token.at (is_value_word (spelling bytes token)) brackets ≡ Ok new → Steps bytes token tokens brackets new
step-word bytes token tokens brackets new is put =
    let word = spelling bytes token in
    let closes : is_closing token.kind ≡ false = ap is_closing is in
    let opens : is_opening token.kind ≡ false = ap is_opening is in
    let body : word_body word ≡ body_as token.kind word = ap (λ k. body_as k word) (sym is) in
    ⊎_elim
    (λ (t : is_value_word word ≡ true).
    let simple = plain-word (length brackets) word (λ f. absurd (false≢true (sym f ∙ t))) in
    step-plain bytes token tokens brackets new closes opens (subst (IsPlain (length brackets)) body simple) (put-value brackets new (rw t at put)))
    (λ (f : is_value_word word ≡ false).
    let both = put-operator brackets new (rw f at put) in
    let simple = plain-word (length brackets) word (λ g. both.1) in
    step-plain bytes token tokens brackets new closes opens (subst (IsPlain (length brackets)) body simple) both.0)
    (cases_Bool (is_value_word word))

step : (bytes : List ℕ) (token : Token) (tokens : List Token) (brackets new : List Bracket) → length brackets ≤ 16 → (kind : TokenKind) → token.kind ≡ kind
    → after_kind kind token.at (is_value_word (spelling bytes token)) brackets ≡ Ok new → Steps bytes token tokens brackets new
step bytes token tokens brackets new most kinds.OpenDict is put = step-dict bytes token tokens brackets new most is (open-bracket token.at Key brackets new put)
step bytes token tokens brackets new most kinds.CloseDict is put =
    λ more. subst (λ os. Rest bytes brackets os (token ∷ tokens)) (listed-closing bytes token tokens (ap is_closing is)) (close-dict bytes brackets new (objects_in bytes tokens) token tokens is put more)
step bytes token tokens brackets new most kinds.OpenArray is put = step-array bytes token tokens brackets new most is (open-bracket token.at Item brackets new put)
step bytes token tokens brackets new most kinds.CloseArray is put =
    λ more. subst (λ os. Rest bytes brackets os (token ∷ tokens)) (listed-closing bytes token tokens (ap is_closing is)) (close-array bytes brackets new (objects_in bytes tokens) token tokens is put more)
step bytes token tokens brackets new most kinds.Literal is put =
    λ more. step-literal bytes token tokens brackets is (subst (λ b. Rest bytes b (objects_in bytes tokens) tokens) (sym (same_ok (after_object brackets) new put)) more)
step bytes token tokens brackets new most kinds.Word is put = step-word bytes token tokens brackets new is put
step bytes token tokens brackets new most (kinds.Number n) is put =
    step-plain bytes token tokens brackets new (ap is_closing is) (ap is_opening is) (subst (IsPlain (length brackets)) (ap (λ k. body_as k (spelling bytes token)) (sym is)) tt) (put-value brackets new put)
step bytes token tokens brackets new most kinds.Text is put =
    step-plain bytes token tokens brackets new (ap is_closing is) (ap is_opening is) (subst (IsPlain (length brackets)) (ap (λ k. body_as k (spelling bytes token)) (sym is)) tt) (put-value brackets new put)

-- never more than 16 brackets are open
few-put : (brackets new : List Bracket) → length brackets ≤ 16 → IsPut brackets new → length new ≤ 16
few-put brackets new most put = omega (arith, length-after_object brackets, ap length put.are)

few-ended-array : (expects : Expects) (outer new : List Bracket) → length outer ≤ 16 → array_end expects outer ≡ Ok new → length new ≤ 16
few-ended-array Item outer new most is = omega (arith, ap length (same_ok outer new is))
few-ended-array Key outer new most is = absurd (err_is_no_ok Unmatched new is)
few-ended-array Value outer new most is = absurd (err_is_no_ok Unmatched new is)

few-ended-dict : (expects : Expects) (outer new : List Bracket) → length outer ≤ 16 → dict_end expects outer ≡ Ok new → length new ≤ 16
few-ended-dict Item outer new most is = absurd (err_is_no_ok Unmatched new is)
few-ended-dict Key outer new most is = omega (arith, ap length (same_ok outer new is))
few-ended-dict Value outer new most is = absurd (err_is_no_ok OddDictionary new is)

few-unless_open : (brackets new : List Bracket) → length brackets ≤ 16 → (after_array_end brackets ≡ Ok new) ⊎ (after_dict_end brackets ≡ Ok new) → length new ≤ 16
unfolding after_array_end after_dict_end
few-unless_open [] new most (inl is) = absurd (err_is_no_ok Unmatched new is)
few-unless_open [] new most (inr is) = absurd (err_is_no_ok Unmatched new is)
few-unless_open (bracket ∷ outer) new most (inl is) = few-ended-array bracket.expects outer new (omega arith) is
few-unless_open (bracket ∷ outer) new most (inr is) = few-ended-dict bracket.expects outer new (omega arith) is

few-after_opening : (at : ℕ) (expects : Expects) (brackets new : List Bracket) → length brackets ≤ 16 → IsOpened at expects brackets new → length new ≤ 16
few-after_opening at expects brackets new most o =
    let few = below-16 (length brackets) most o.few in
    omega (arith, length-after_object brackets, ap length o.are)

pub few : (kind : TokenKind) (at : ℕ) (value : Bool) (brackets new : List Bracket) → length brackets ≤ 16 → after_kind kind at value brackets ≡ Ok new → length new ≤ 16
few kinds.OpenDict at value brackets new most put = few-after_opening at Key brackets new most (open-bracket at Key brackets new put)
few kinds.CloseDict at value brackets new most put = few-unless_open brackets new most (inr put)
few kinds.OpenArray at value brackets new most put = few-after_opening at Item brackets new most (open-bracket at Item brackets new put)
few kinds.CloseArray at value brackets new most put = few-unless_open brackets new most (inl put)
few kinds.Literal at value brackets new most put = omega (arith, length-after_object brackets, ap length (same_ok (after_object brackets) new put))
few kinds.Word at true brackets new most put = few-put brackets new most (put-value brackets new put)
few kinds.Word at false brackets new most put = few-put brackets new most (put-operator brackets new put).0
few (kinds.Number n) at value brackets new most put = few-put brackets new most (put-value brackets new put)
few kinds.Text at value brackets new most put = few-put brackets new most (put-value brackets new put)

-- tokens, one after the other
abbrev Parses : List ℕ → List Token → Type 0
Parses bytes tokens = (brackets : List Bracket) → length brackets ≤ 16 → fold (after_next bytes) (Ok brackets) tokens ≡ Ok [] → Rest bytes brackets (objects_in bytes tokens) tokens

parse-next : (bytes : List ℕ) (token : Token) (tokens : List Token) (brackets : List Bracket) → length brackets ≤ 16 → Parses bytes tokens
    → (result : Result (List Bracket) FaultKind) → after_token bytes token brackets ≡ result → fold (after_next bytes) (at_token token.at result) tokens ≡ Ok []
    → Rest bytes brackets (objects_in bytes (token ∷ tokens)) (token ∷ tokens)
parse-next bytes token tokens brackets most suffix (Ok new) put is =
    step bytes token tokens brackets new most token.kind refl put (suffix new (few token.kind token.at (is_value_word (spelling bytes token)) brackets new most put) is)
parse-next bytes token tokens brackets most suffix (Err kind) put is =
    let fault : JobFault = record { kind = kind; at = token.at } in
    absurd (fault_is_no_ok fault (sym (fold-err bytes fault tokens) ∙ is))

parse : (bytes : List ℕ) (tokens : List Token) → Parses bytes tokens
parse bytes [] [] most is = no_item 0
parse bytes [] (bracket ∷ outer) most is = absurd (some_is_no_none bracket outer is)
parse bytes (token ∷ tokens) brackets most is = parse-next bytes token tokens brackets most (parse bytes tokens) (after_token bytes token brackets) refl is

-- objects that are read are written out
abbrev IsMeant : List ℕ → List Token → Result (List Object) JobFault → Type 0
IsMeant bytes tokens (Ok objects) = (brackets_after bytes tokens ≡ Ok []) × (objects ≡ objects_in bytes tokens)
IsMeant bytes tokens (Err fault) = Unit {0}

unless_open-meant : (bytes : List ℕ) (tokens : List Token) (result : Result (List Bracket) JobFault) → brackets_after bytes tokens ≡ result → IsMeant bytes tokens (unless_open bytes tokens result)
unless_open-meant bytes tokens (Ok []) is = (is, refl)
unless_open-meant bytes tokens (Ok (bracket ∷ outer)) is = tt
unless_open-meant bytes tokens (Err fault) is = tt

pub objects-written : (bytes : List ℕ) (tokens : List Token) (objects : List Object) → objects_of bytes tokens ≡ Ok objects → WritesOut bytes objects tokens
objects-written bytes tokens objects is =
    let m : IsMeant bytes tokens (Ok objects) = subst (IsMeant bytes tokens) is (unless_open-meant bytes tokens (brackets_after bytes tokens) refl) in
    subst (λ os. WritesOut bytes os tokens) (sym m.1) (parse bytes tokens [] (omega arith) m.0)

-- objects that are written out are read
pub written-objects : (bytes : List ℕ) (tokens : List Token) (objects : List Object) → WritesOut bytes objects tokens → objects_of bytes tokens ≡ Ok objects
written-objects bytes tokens objects written =
    let balanced : brackets_after bytes tokens ≡ Ok [] = writes-after_token bytes written [] (refl, refl, refl) in
    let listed : objects_in bytes tokens ≡ objects = ap (objects_in bytes) (sym (append-nil tokens)) ∙ writes-listed bytes written [] ∙ append-nil objects in
    ap (unless_open bytes tokens) balanced ∙ ap (λ os. Ok os) listed

pub one-list : (bytes : List ℕ) (tokens : List Token) (a b : List Object) → WritesOut bytes a tokens → WritesOut bytes b tokens → a ≡ b
one-list bytes tokens a b first second =
    let p : objects_of bytes tokens ≡ Ok a = written-objects bytes tokens a first in
    let q : objects_of bytes tokens ≡ Ok b = written-objects bytes tokens b second in
    cc
