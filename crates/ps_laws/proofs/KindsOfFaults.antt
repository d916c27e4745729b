-- The fault of a token among the open brackets is the first that it has, in the order of the list.
use Rattle.std.proofs.Common.{◌≡◌, ℕ, ◌<◌, Bool, true, false, eqb, List, [], ◌∷◌, length, Result, Ok, Err, refl, sym, ap, ◌∙◌, subst, ⊎_elim, arith}
use Rattle.std.proofs.lemmas.Bool.{cases_Bool, false≢true, eqb-true, eq-eqb, ne_eqb, false_from_ne_true}
use Rattle.ps_tokens.specs.declared.faults.FaultKind.{FaultKind}
use Rattle.ps_tokens.specs.declared.faults.FaultKind.TheVariants.{Unmatched, OddDictionary, KeyNotName, NameInside, TooDeep}
use Rattle.ps_tokens.specs.declared.token.TokenKind.{TokenKind}
use Rattle.ps_tokens.specs.declared.token.TokenKind.TheVariants as kinds
use Rattle.ps_tokens.specs.declared.brackets.Expects.{Expects}
use Rattle.ps_tokens.specs.declared.brackets.Expects.TheVariants.{Item, Key, Value}
use Rattle.ps_tokens.specs.declared.brackets.Bracket.{Bracket}
use Rattle.ps_tokens.specs.Words.{is_value_word}
use Rattle.ps_tokens.specs.Brackets.{is_key_due, after_opening, array_end, after_array_end, dict_end, after_dict_end, after_value, after_operator, after_kind}
use Rattle.ps_tokens.specs.Limits.{deepest}
use Rattle.ps_tokens.specs.Objects.{is_opening, is_closing}
use Rattle.ps_laws.specs.Firsts.{Mismatches, closes_nothing, closes_dict, closes_array, LacksValue, no_value, IsNoKey, IsInside, IsTooDeep, HasFault, is_unmatched, is_odd, is_no_key, is_inside, is_too_deep}
use Rattle.ps_laws.proofs.Judging.{is_value-word, value_word-from}

-- results that are faults
abbrev Faulty : FaultKind → Result (List Bracket) FaultKind
Faulty kind = Err kind

abbrev Put : List Bracket → Result (List Bracket) FaultKind
Put brackets = Ok brackets

same_kind : (a b : FaultKind) → Faulty a ≡ Faulty b → a ≡ b
same_kind a b e = cc

put_is_none : (brackets : List Bracket) (kind : FaultKind) → Put brackets ≡ Faulty kind → ⊥
put_is_none brackets kind e = cc

-- no closing token
mismatches-closing : {kind : TokenKind} {brackets : List Bracket} → Mismatches kind brackets → is_closing kind ≡ false → ⊥
mismatches-closing (closes_nothing kind is) never = false≢true (sym never ∙ is)
mismatches-closing (closes_dict innermost outer is) never = false≢true (sym never)
mismatches-closing (closes_array innermost outer is) never = false≢true (sym never)

lacks-closing : {kind : TokenKind} {brackets : List Bracket} → LacksValue kind brackets → is_closing kind ≡ false → ⊥
lacks-closing (no_value innermost outer is) never = false≢true (sym never)

-- no key is due
key-due : (kind : TokenKind) (brackets : List Bracket) → is_key_due brackets ≡ false → IsNoKey kind brackets → ⊥
key-due kind brackets free never = false≢true (sym free ∙ never.due)

-- A fault that is told is the first one.

-- a token that neither closes a bracket nor is a literal
record IsOther (kind : TokenKind) : Type 0 where
  no_end : is_closing kind ≡ false
  no_literal : kind ≡ kinds.Literal → ⊥

no-key : (kind : TokenKind) (text : List ℕ) (brackets : List Bracket) (k : FaultKind) → IsOther kind → is_key_due brackets ≡ true → Faulty KeyNotName ≡ Faulty k → HasFault kind text brackets k
no-key kind text brackets k other due is =
    subst (λ (f : FaultKind). HasFault kind text brackets f) (same_kind KeyNotName k is)
    (is_no_key (λ m. mismatches-closing m other.no_end) (λ l. lacks-closing l other.no_end) (record { due = due; no_literal = other.no_literal; no_end = other.no_end }))

opening-had : (kind : TokenKind) (at : ℕ) (expects : Expects) (text : List ℕ) (brackets : List Bracket) (k : FaultKind) → IsOther kind → is_opening kind ≡ true → (kind ≡ kinds.Word → ⊥)
    → after_opening at expects brackets ≡ Err k → HasFault kind text brackets k
unfolding after_opening
opening-had kind at expects text brackets k other opens no_word is =
    ⊎_elim
    (λ (t : is_key_due brackets ≡ true). no-key kind text brackets k other t (rw t at is))
    (λ (f : is_key_due brackets ≡ false).
    ⊎_elim
    (λ (t : eqb (length brackets) 16 ≡ true).
    subst (λ (f : FaultKind). HasFault kind text brackets f) (same_kind TooDeep k (rw (f, t) at is))
    (is_too_deep (λ m. mismatches-closing m other.no_end) (λ l. lacks-closing l other.no_end) (key-due kind brackets f) (λ i. no_word i.word) (record { opens = opens; deep = eqb-true (length brackets) 16 t })))
    (λ (g : eqb (length brackets) 16 ≡ false). absurd (put_is_none _ k (rw (f, g) at is)))
    (cases_Bool (eqb (length brackets) 16)))
    (cases_Bool (is_key_due brackets))

value-had : (kind : TokenKind) (text : List ℕ) (brackets : List Bracket) (k : FaultKind) → IsOther kind → after_value brackets ≡ Err k → HasFault kind text brackets k
unfolding after_value
value-had kind text brackets k other is =
    ⊎_elim
    (λ (t : is_key_due brackets ≡ true). no-key kind text brackets k other t (rw t at is))
    (λ (f : is_key_due brackets ≡ false). absurd (put_is_none _ k (rw f at is)))
    (cases_Bool (is_key_due brackets))

some : (brackets : List Bracket) → eqb (length brackets) 0 ≡ false → 0 < length brackets
some [] none = absurd (false≢true (sym none))
some (b ∷ bs) none = omega arith

operator-had : (text : List ℕ) (brackets : List Bracket) (k : FaultKind) → is_value_word text ≡ false → after_operator brackets ≡ Err k → HasFault kinds.Word text brackets k
unfolding after_operator
operator-had text brackets k never is =
    let other : IsOther kinds.Word = record { no_end = refl; no_literal = λ e. cc } in
    ⊎_elim
    (λ (t : is_key_due brackets ≡ true). no-key kinds.Word text brackets k other t (rw t at is))
    (λ (f : is_key_due brackets ≡ false).
    ⊎_elim
    (λ (t : eqb (length brackets) 0 ≡ true). absurd (put_is_none _ k (rw (f, t) at is)))
    (λ (g : eqb (length brackets) 0 ≡ false).
    subst (λ (f : FaultKind). HasFault kinds.Word text brackets f) (same_kind NameInside k (rw (f, g) at is))
    (is_inside (λ m. mismatches-closing m refl) (λ l. lacks-closing l refl) (key-due kinds.Word brackets f)
    (record { word = refl; no_value = λ v. false≢true (sym never ∙ value_word-from text v); within = some brackets g })))
    (cases_Bool (eqb (length brackets) 0)))
    (cases_Bool (is_key_due brackets))

array-had : (expects : Expects) (text : List ℕ) (innermost : Bracket) (outer : List Bracket) (k : FaultKind) → innermost.expects ≡ expects → array_end expects outer ≡ Err k → HasFault kinds.CloseArray text (innermost ∷ outer) k
array-had Item text innermost outer k is fails = absurd (put_is_none outer k fails)
array-had Key text innermost outer k is fails =
    subst (λ (f : FaultKind). HasFault kinds.CloseArray text (innermost ∷ outer) f) (same_kind Unmatched k fails) (is_unmatched (closes_dict innermost outer (λ item. let e : Key ≡ Item = sym is ∙ item in cc)))
array-had Value text innermost outer k is fails =
    subst (λ (f : FaultKind). HasFault kinds.CloseArray text (innermost ∷ outer) f) (same_kind Unmatched k fails) (is_unmatched (closes_dict innermost outer (λ item. let e : Value ≡ Item = sym is ∙ item in cc)))

-- a `>>` in a dictionary closes no array
abbrev AwaitsNoItem : List Bracket → Type 0
AwaitsNoItem [] = ⊥
AwaitsNoItem (innermost ∷ outer) = innermost.expects ≡ Item → ⊥

ends-dict : {kind : TokenKind} {brackets : List Bracket} → Mismatches kind brackets → kind ≡ kinds.CloseDict → AwaitsNoItem brackets → ⊥
ends-dict (closes_nothing kind is) same awaits = awaits
ends-dict (closes_dict innermost outer never) same awaits = cc
ends-dict (closes_array innermost outer is) same awaits = awaits is

dict-had : (expects : Expects) (text : List ℕ) (innermost : Bracket) (outer : List Bracket) (k : FaultKind) → innermost.expects ≡ expects → dict_end expects outer ≡ Err k → HasFault kinds.CloseDict text (innermost ∷ outer) k
dict-had Item text innermost outer k is fails =
    subst (λ (f : FaultKind). HasFault kinds.CloseDict text (innermost ∷ outer) f) (same_kind Unmatched k fails) (is_unmatched (closes_array innermost outer is))
dict-had Key text innermost outer k is fails = absurd (put_is_none outer k fails)
dict-had Value text innermost outer k is fails =
    subst (λ (f : FaultKind). HasFault kinds.CloseDict text (innermost ∷ outer) f) (same_kind OddDictionary k fails)
    (is_odd (λ m. ends-dict m refl (λ item. let e : Value ≡ Item = sym is ∙ item in cc)) (no_value innermost outer is))

array_closing-had : (text : List ℕ) (brackets : List Bracket) (k : FaultKind) → after_array_end brackets ≡ Err k → HasFault kinds.CloseArray text brackets k
unfolding after_array_end
array_closing-had text [] k fails = subst (λ (f : FaultKind). HasFault kinds.CloseArray text [] f) (same_kind Unmatched k fails) (is_unmatched (closes_nothing kinds.CloseArray refl))
array_closing-had text (innermost ∷ outer) k fails = array-had innermost.expects text innermost outer k refl fails

dict_closing-had : (text : List ℕ) (brackets : List Bracket) (k : FaultKind) → after_dict_end brackets ≡ Err k → HasFault kinds.CloseDict text brackets k
unfolding after_dict_end
dict_closing-had text [] k fails = subst (λ (f : FaultKind). HasFault kinds.CloseDict text [] f) (same_kind Unmatched k fails) (is_unmatched (closes_nothing kinds.CloseDict refl))
dict_closing-had text (innermost ∷ outer) k fails = dict-had innermost.expects text innermost outer k refl fails

word-had : (text : List ℕ) (at : ℕ) (brackets : List Bracket) (k : FaultKind) (value : Bool) → is_value_word text ≡ value → after_kind kinds.Word at value brackets ≡ Err k → HasFault kinds.Word text brackets k
word-had text at brackets k true is fails = value-had kinds.Word text brackets k (record { no_end = refl; no_literal = λ e. cc }) fails
word-had text at brackets k false is fails = operator-had text brackets k is fails

pub fault-had : (kind : TokenKind) (at : ℕ) (text : List ℕ) (brackets : List Bracket) (k : FaultKind) → after_kind kind at (is_value_word text) brackets ≡ Err k → HasFault kind text brackets k
fault-had kinds.OpenDict at text brackets k fails = opening-had kinds.OpenDict at Key text brackets k (record { no_end = refl; no_literal = λ e. cc }) refl (λ e. cc) fails
fault-had kinds.CloseDict at text brackets k fails = dict_closing-had text brackets k fails
fault-had kinds.OpenArray at text brackets k fails = opening-had kinds.OpenArray at Item text brackets k (record { no_end = refl; no_literal = λ e. cc }) refl (λ e. cc) fails
fault-had kinds.CloseArray at text brackets k fails = array_closing-had text brackets k fails
fault-had kinds.Literal at text brackets k fails = absurd (put_is_none _ k fails)
fault-had kinds.Word at text brackets k fails = word-had text at brackets k (is_value_word text) refl fails
fault-had (kinds.Number n) at text brackets k fails = value-had (kinds.Number n) text brackets k (record { no_end = refl; no_literal = λ e. cc }) fails
fault-had kinds.Text at text brackets k fails = value-had kinds.Text text brackets k (record { no_end = refl; no_literal = λ e. cc }) fails

-- The first one is told.

closing-none : (kind : TokenKind) (at : ℕ) (value : Bool) → is_closing kind ≡ true → after_kind kind at value [] ≡ Err Unmatched
unfolding after_array_end after_dict_end
closing-none kinds.OpenDict at value is = absurd (false≢true is)
closing-none kinds.CloseDict at value is = refl
closing-none kinds.OpenArray at value is = absurd (false≢true is)
closing-none kinds.CloseArray at value is = refl
closing-none kinds.Literal at value is = absurd (false≢true is)
closing-none kinds.Word at value is = absurd (false≢true is)
closing-none (kinds.Number n) at value is = absurd (false≢true is)
closing-none kinds.Text at value is = absurd (false≢true is)

no-array : (expects : Expects) (outer : List Bracket) → (expects ≡ Item → ⊥) → array_end expects outer ≡ Err Unmatched
no-array Item outer never = absurd (never refl)
no-array Key outer never = refl
no-array Value outer never = refl

unmatched-reported : {kind : TokenKind} {brackets : List Bracket} → Mismatches kind brackets → (at : ℕ) (value : Bool) → after_kind kind at value brackets ≡ Err Unmatched
unfolding after_array_end after_dict_end
unmatched-reported (closes_nothing kind is) at value = closing-none kind at value is
unmatched-reported (closes_dict innermost outer never) at value = no-array innermost.expects outer never
unmatched-reported (closes_array innermost outer is) at value = ap (λ e. dict_end e outer) is

odd-reported : {kind : TokenKind} {brackets : List Bracket} → LacksValue kind brackets → (at : ℕ) (value : Bool) → after_kind kind at value brackets ≡ Err OddDictionary
unfolding after_dict_end
odd-reported (no_value innermost outer is) at value = ap (λ e. dict_end e outer) is

opening-due : (at : ℕ) (expects : Expects) (brackets : List Bracket) → is_key_due brackets ≡ true → after_opening at expects brackets ≡ Err KeyNotName
unfolding after_opening
opening-due at expects brackets due = rw due refl

value-due : (brackets : List Bracket) → is_key_due brackets ≡ true → after_value brackets ≡ Err KeyNotName
unfolding after_value
value-due brackets due = rw due refl

operator-due : (brackets : List Bracket) → is_key_due brackets ≡ true → after_operator brackets ≡ Err KeyNotName
unfolding after_operator
operator-due brackets due = rw due refl

word-due : (at : ℕ) (value : Bool) (brackets : List Bracket) → is_key_due brackets ≡ true → after_kind kinds.Word at value brackets ≡ Err KeyNotName
word-due at true brackets due = value-due brackets due
word-due at false brackets due = operator-due brackets due

no_key-reported : (kind : TokenKind) (at : ℕ) (value : Bool) (brackets : List Bracket) → IsNoKey kind brackets → after_kind kind at value brackets ≡ Err KeyNotName
no_key-reported kinds.OpenDict at value brackets never = opening-due at Key brackets never.due
no_key-reported kinds.CloseDict at value brackets never = absurd (false≢true (sym never.no_end))
no_key-reported kinds.OpenArray at value brackets never = opening-due at Item brackets never.due
no_key-reported kinds.CloseArray at value brackets never = absurd (false≢true (sym never.no_end))
no_key-reported kinds.Literal at value brackets never = absurd (never.no_literal refl)
no_key-reported kinds.Word at value brackets never = word-due at value brackets never.due
no_key-reported (kinds.Number n) at value brackets never = value-due brackets never.due
no_key-reported kinds.Text at value brackets never = value-due brackets never.due

-- a key that is not due
due-free : (kind : TokenKind) (brackets : List Bracket) → IsOther kind → (IsNoKey kind brackets → ⊥) → is_key_due brackets ≡ false
due-free kind brackets other never = false_from_ne_true (is_key_due brackets) (λ t. never (record { due = t; no_literal = other.no_literal; no_end = other.no_end }))

operator-inside : (brackets : List Bracket) → is_key_due brackets ≡ false → 0 < length brackets → after_operator brackets ≡ Err NameInside
unfolding after_operator
operator-inside brackets free within = rw (free, ne_eqb (length brackets) 0 (λ e. omega arith)) refl

inside-reported : (kind : TokenKind) (at : ℕ) (text : List ℕ) (brackets : List Bracket) → (IsNoKey kind brackets → ⊥) → IsInside kind text brackets → after_kind kind at (is_value_word text) brackets ≡ Err NameInside
inside-reported kind at text brackets never i =
    let other : IsOther kind = subst IsOther (sym i.word) (record { no_end = refl; no_literal = λ e. cc }) in
    let plain : is_value_word text ≡ false = false_from_ne_true (is_value_word text) (λ t. i.no_value (is_value-word text t)) in
    ap (λ k. after_kind k at (is_value_word text) brackets) i.word ∙ ap (λ v. after_kind kinds.Word at v brackets) plain ∙ operator-inside brackets (due-free kind brackets other never) i.within

opening-deep : (at : ℕ) (expects : Expects) (brackets : List Bracket) → is_key_due brackets ≡ false → length brackets ≡ deepest → after_opening at expects brackets ≡ Err TooDeep
unfolding after_opening
opening-deep at expects brackets free deep = rw (free, eq-eqb (length brackets) 16 deep) refl

deep-reported : (kind : TokenKind) (at : ℕ) (value : Bool) (brackets : List Bracket) → (IsNoKey kind brackets → ⊥) → IsTooDeep kind brackets → after_kind kind at value brackets ≡ Err TooDeep
deep-reported kinds.OpenDict at value brackets never d = opening-deep at Key brackets (due-free kinds.OpenDict brackets (record { no_end = refl; no_literal = λ e. cc }) never) d.deep
deep-reported kinds.CloseDict at value brackets never d = absurd (false≢true d.opens)
deep-reported kinds.OpenArray at value brackets never d = opening-deep at Item brackets (due-free kinds.OpenArray brackets (record { no_end = refl; no_literal = λ e. cc }) never) d.deep
deep-reported kinds.CloseArray at value brackets never d = absurd (false≢true d.opens)
deep-reported kinds.Literal at value brackets never d = absurd (false≢true d.opens)
deep-reported kinds.Word at value brackets never d = absurd (false≢true d.opens)
deep-reported (kinds.Number n) at value brackets never d = absurd (false≢true d.opens)
deep-reported kinds.Text at value brackets never d = absurd (false≢true d.opens)

had : {kind : TokenKind} {text : List ℕ} {brackets : List Bracket} {k : FaultKind} → HasFault kind text brackets k → (at : ℕ) → after_kind kind at (is_value_word text) brackets ≡ Err k
had {kind} {text} {brackets} (is_unmatched m) at = unmatched-reported m at (is_value_word text)
had {kind} {text} {brackets} (is_odd no_m l) at = odd-reported l at (is_value_word text)
had {kind} {text} {brackets} (is_no_key no_m no_l n) at = no_key-reported kind at (is_value_word text) brackets n
had {kind} {text} {brackets} (is_inside no_m no_l no_n i) at = inside-reported kind at text brackets no_n i
had {kind} {text} {brackets} (is_too_deep no_m no_l no_n no_i d) at = deep-reported kind at (is_value_word text) brackets no_n d

pub had-fault : (kind : TokenKind) (at : ℕ) (text : List ℕ) (brackets : List Bracket) (k : FaultKind) → HasFault kind text brackets k → after_kind kind at (is_value_word text) brackets ≡ Err k
had-fault kind at text brackets k fault = had fault at
