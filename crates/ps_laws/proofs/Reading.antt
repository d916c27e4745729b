-- What bytes spell is what is read, and the other way round.
use Rattle.std.proofs.Common.{◌≡◌, inl, inr, ℕ, zero, suc, ◌+◌, ◌<◌, ◌≤◌, Bool, true, false, eqb, ◌||◌, List, [], ◌∷◌, ◌++◌, length, take, drop, Result, Ok, Err, refl, sym, ap, ◌∙◌, subst, ⊎_elim, arith, append_assoc, length-append, add-zero}
use Rattle.std.specs.List.{prefix_len, take_while, list_all}
use Rattle.std.proofs.lemmas.Bool.{cases_Bool, eqb-true, or_cases, not-false}
use Rattle.std.proofs.lemmas.List.{append-nil, drop_all, drop_at, take_at}
use Rattle.ps_tokens.specs.declared.faults.FaultKind.{FaultKind}
use Rattle.ps_tokens.specs.declared.faults.JobFault.{JobFault}
use Rattle.ps_tokens.specs.declared.token.Token.{Token}
use Rattle.ps_tokens.specs.declared.token.TokenKind.{TokenKind}
use Rattle.ps_tokens.specs.declared.token.TokenKind.TheVariants.{OpenDict, CloseDict, OpenArray, CloseArray, Literal, Word, Number, Text}
use Rattle.ps_tokens.specs.declared.pieces.Piece.{Piece}
use Rattle.ps_tokens.specs.declared.pieces.Piece.TheVariants.{Blank, Spelled, Broken}
use Rattle.ps_tokens.specs.Bytes.{is_whitespace, is_regular, is_in_comment, begins_with, first_passes}
use Rattle.ps_tokens.specs.Pieces.{piece_at, mark_piece}
use Rattle.ps_tokens.specs.Tokens.{tokens_then, tokens_from, tokens_of}
use Rattle.ps_tokens.proofs.Scanning.{tokens_from-piece, tokens_from-broken, tokens_then-tokens_then, tokens_then-nil}
use Rattle.ps_tokens.proofs.Moving.{tokens_from-further_on, space-further_on, comment-further_on}
use Rattle.ps_laws.specs.Gaps.{IsGap, nothing, blank, comment, IsEnd}
use Rattle.ps_laws.specs.Shapes.{AreDigits, whole_alone, with_point, IsNumeral, IsString, in_parentheses, hexadecimal, IsToken}
use Rattle.ps_laws.specs.Spells.{MayFollow, Stands, SpellsUntil, Spells, IsKindOf, Breaks}
use Rattle.ps_laws.proofs.Prefixes.{prefix_len-prefix, list_all-take_while, first_passes-drop, prefix_and_rest}
use Rattle.ps_laws.proofs.Pieces.{piece_of, piece-stands, stands-piece, no_blank, broken-kind, same_kind}

-- what ends a comment is whitespace
ends_line : (b : ℕ) → is_in_comment b ≡ false → is_whitespace b ≡ true
unfolding is_in_comment is_whitespace
ends_line b ends =
    ⊎_elim
    (λ (t : (eqb b 10 || eqb b 12) ≡ true).
    ⊎_elim (λ (u : eqb b 10 ≡ true). ap is_whitespace (eqb-true b 10 u)) (λ (u : eqb b 12 ≡ true). ap is_whitespace (eqb-true b 12 u)) (or_cases (eqb b 10) (eqb b 12) t))
    (λ (t : eqb b 13 ≡ true). ap is_whitespace (eqb-true b 13 t))
    (or_cases (eqb b 10 || eqb b 12) (eqb b 13) (not-false (eqb b 10 || eqb b 12 || eqb b 13) ends))

-- a token has at least one byte
some-digits : (text whole fraction : List ℕ) → AreDigits text whole fraction → 1 ≤ length text
some-digits text whole fraction (whole_alone w all some) = some
some-digits text whole fraction (with_point w f t all more some is) = omega (arith, ap length is, length-append w (46 ∷ f))

some-numeral : (text : List ℕ) → IsNumeral text → 1 ≤ length text
some-numeral text n = omega (arith, some-digits n.unsigned n.whole n.fraction n.has_digits, ap length n.written, length-append n.sign n.unsigned)

some-string : (text : List ℕ) → IsString text → 1 ≤ length text
some-string text (in_parentheses inner t balanced is) = omega (arith, ap length is)
some-string text (hexadecimal digits t all is) = omega (arith, ap length is)

some-token : (kind : TokenKind) (text : List ℕ) → IsToken kind text → 1 ≤ length text
some-token OpenDict text is = omega (arith, ap length is)
some-token CloseDict text is = omega (arith, ap length is)
some-token OpenArray text is = omega (arith, ap length is)
some-token CloseArray text is = omega (arith, ap length is)
some-token Literal text name = omega (arith, ap length name.written)
some-token Word text word = word.some
some-token (Number value) text n = some-numeral text n.numeral
some-token Text text string = some-string text string

-- a gap is passed over
space-passed : (at b : ℕ) (rest : List ℕ) → is_whitespace b ≡ true → tokens_from at 0 (b ∷ rest) ≡ tokens_from (at + 1) 0 rest
space-passed at b rest is =
    let e : 1 + at ≡ at + 1 = omega arith in
    space-further_on at b rest is ∙ sym (tokens_from-further_on 1 at rest) ∙ ap (λ n. tokens_from n 0 rest) e

comment-passed : (at ending : ℕ) (text rest : List ℕ) → list_all is_in_comment text ≡ true → is_in_comment ending ≡ false
    → tokens_from at 0 (37 ∷ (text ++ ending ∷ rest)) ≡ tokens_from (at + (length text + 2)) 0 rest
comment-passed at ending text rest all ends =
    let e : length text + 2 + at ≡ at + (length text + 2) = omega arith in
    comment-further_on at ending text rest all ends (ends_line ending ends)
    ∙ sym (tokens_from-further_on (length text + 2) at rest) ∙ ap (λ n. tokens_from n 0 rest) e

gap-passed : (at : ℕ) {gap : List ℕ} → IsGap gap → (after : List ℕ) → tokens_from at 0 (gap ++ after) ≡ tokens_from (at + length gap) 0 after
gap-passed at nothing after = ap (λ n. tokens_from n 0 after) (sym (add-zero at))
gap-passed at (blank b rest white gap) after =
    let e : at + 1 + length rest ≡ at + suc (length rest) = omega arith in
    space-passed at b (rest ++ after) white ∙ gap-passed (at + 1) gap after ∙ ap (λ n. tokens_from n 0 after) e
gap-passed at (comment text ending rest bytes all ends gap is) after =
    let P : List ℕ → Type 0 = λ g. tokens_from at 0 (g ++ after) ≡ tokens_from (at + length g) 0 after in
    let e : at + (length text + 2) + length rest ≡ at + suc (length (text ++ ending ∷ rest)) = omega (arith, length-append text (ending ∷ rest)) in
    subst P (sym is)
    (ap (λ t. tokens_from at 0 (37 ∷ t)) (append_assoc text (ending ∷ rest) after)
    ∙ comment-passed at ending text (rest ++ after) all ends
    ∙ gap-passed (at + (length text + 2)) gap after
    ∙ ap (λ n. tokens_from n 0 after) e)

-- no token stands after the last one
none-left : (at : ℕ) → tokens_from at 0 [] ≡ Ok []
unfolding tokens_from
none-left at = refl

piece-comment : (text : List ℕ) → piece_at 37 text ≡ Blank (1 + prefix_len is_in_comment text)
unfolding piece_at mark_piece is_whitespace is_regular
piece-comment text = refl

prefix_len-all : (p : ℕ → Bool) (xs : List ℕ) → list_all p xs ≡ true → prefix_len p xs ≡ length xs
prefix_len-all p xs all = ap (prefix_len p) (sym (append-nil xs)) ∙ prefix_len-prefix p xs [] all refl

last_comment-passed : (at : ℕ) (text : List ℕ) → list_all is_in_comment text ≡ true → tokens_from at 0 (37 ∷ text) ≡ Ok []
last_comment-passed at text all =
    let n = prefix_len-all is_in_comment text all in
    let len : 1 ≤ 1 + prefix_len is_in_comment text = omega arith in
    let left : drop (1 + prefix_len is_in_comment text) (37 ∷ text) ≡ [] = drop_all (1 + prefix_len is_in_comment text) (37 ∷ text) (omega arith) in
    tokens_from-piece at (37 ∷ text) (Blank (1 + prefix_len is_in_comment text)) (omega arith) (piece-comment text) len
    ∙ ap (λ r. tokens_then (Ok []) (tokens_from (at + (1 + prefix_len is_in_comment text)) 0 r)) left
    ∙ ap (tokens_then (Ok [])) (none-left (at + (1 + prefix_len is_in_comment text)))

end-passed : (at : ℕ) (bytes : List ℕ) → IsEnd bytes → tokens_from at 0 bytes ≡ Ok []
end-passed at bytes (inl is) = ap (tokens_from at 0) is ∙ none-left at
end-passed at bytes (inr last) = ap (tokens_from at 0) last.2 ∙ last_comment-passed at last.0 last.1

-- a token that stands is told
token-piece_tokens : (at : ℕ) (kind : TokenKind) (text after : List ℕ) → Stands kind text after
    → tokens_from at 0 (text ++ after) ≡ tokens_then (Ok (record { at = at; len = length text; kind = kind } ∷ [])) (tokens_from (at + length text) 0 after)
token-piece_tokens at kind text after stands =
    let some = some-token kind text stands.shaped in
    tokens_from-piece at (text ++ after) (Spelled kind (length text)) (omega (arith, length-append text after)) (piece-stands kind text after stands) some
    ∙ ap (λ r. tokens_then (Ok (record { at = at; len = length text; kind = kind } ∷ [])) (tokens_from (at + length text) 0 r)) (drop_at text after (length text) refl)

tokens_then-none : (result : Result (List Token) JobFault) → tokens_then (Ok []) result ≡ result
tokens_then-none (Ok tokens) = refl
tokens_then-none (Err fault) = refl

-- what bytes spell is read, and then what is left
spelled-read : (at : ℕ) (bytes : List ℕ) (tokens : List Token) (end : ℕ) (rest : List ℕ) → SpellsUntil at bytes tokens end rest
    → tokens_from at 0 bytes ≡ tokens_then (Ok tokens) (tokens_from end 0 rest)
spelled-read at bytes [] end rest spelled =
    ap (tokens_from at 0) spelled.2
    ∙ gap-passed at spelled.1 rest
    ∙ ap (λ n. tokens_from n 0 rest) (sym spelled.3)
    ∙ sym (tokens_then-none (tokens_from end 0 rest))
spelled-read at bytes (token ∷ tokens) end rest spelled =
    let after = spelled.0 in
    let first = spelled.1 in
    let e : at + length first.gap + length first.text ≡ token.at + token.len = omega (arith, first.place, first.len) in
    ap (tokens_from at 0) first.whole
    ∙ gap-passed at first.between (first.text ++ after)
    ∙ token-piece_tokens (at + length first.gap) token.kind first.text after first.stands
    ∙ ap (λ n. tokens_then (Ok (record { at = n; len = length first.text; kind = token.kind } ∷ [])) (tokens_from (at + length first.gap + length first.text) 0 after)) (sym first.place)
    ∙ ap (λ n. tokens_then (Ok (record { at = token.at; len = n; kind = token.kind } ∷ [])) (tokens_from (at + length first.gap + length first.text) 0 after)) (sym first.len)
    ∙ ap (λ n. tokens_then (Ok (token ∷ [])) (tokens_from n 0 after)) e
    ∙ ap (tokens_then (Ok (token ∷ []))) (spelled-read (token.at + token.len) after tokens end rest spelled.2)
    ∙ tokens_then-tokens_then (token ∷ []) tokens (tokens_from end 0 rest)

-- gaps one after the other
gap-append : {gap : List ℕ} → IsGap gap → (suffix : List ℕ) → IsGap suffix → IsGap (gap ++ suffix)
gap-append nothing suffix more = more
gap-append (blank b rest white gap) suffix more = blank b (rest ++ suffix) white (gap-append gap suffix more)
gap-append (comment text ending rest bytes all ends gap is) suffix more =
    comment text ending (rest ++ suffix) (bytes ++ suffix) all ends (gap-append gap suffix more)
    (ap (λ t. t ++ suffix) is ∙ ap (λ t. 37 ∷ t) (append_assoc text (ending ∷ rest) suffix))

-- a token that stands before more bytes stands before fewer
follows-prefix : (kind : TokenKind) (text after suffix : List ℕ) → MayFollow kind text (after ++ suffix) → MayFollow kind text after
follows-prefix OpenDict text after suffix follows = tt
follows-prefix CloseDict text after suffix follows = tt
follows-prefix OpenArray text after suffix follows = tt
follows-prefix CloseArray text after suffix follows = tt
follows-prefix Literal text [] suffix follows = λ e. refl
follows-prefix Literal text (b ∷ after) suffix follows = follows
follows-prefix Word text [] suffix follows = refl
follows-prefix Word text (b ∷ after) suffix follows = follows
follows-prefix (Number value) text [] suffix follows = refl
follows-prefix (Number value) text (b ∷ after) suffix follows = follows
follows-prefix Text text after suffix follows = tt

stands-prefix : (kind : TokenKind) (text after suffix : List ℕ) → Stands kind text (after ++ suffix) → Stands kind text after
stands-prefix kind text after suffix stands = record {
  shaped = stands.shaped;
  longest = λ other longer rest shaped e.
      stands.longest other longer (rest ++ suffix) shaped (sym (append_assoc text after suffix) ∙ ap (λ t. t ++ suffix) e ∙ append_assoc longer rest suffix);
  followed = follows-prefix kind text after suffix stands.followed;
}

-- no token stands at the beginning of these bytes, for this reason
record IsFault (kind : FaultKind) (rest : List ℕ) : Type 0 where
  some : 0 < length rest
  no_whitespace : first_passes is_whitespace rest ≡ false
  no_comment : begins_with 37 rest ≡ false
  no_token : (other : TokenKind) (text after : List ℕ) → Stands other text after → rest ≡ text ++ after → ⊥
  kinded : IsKindOf kind rest

-- at the end of the job or at a fault, where this is left
abbrev IsError : Result (List Token) JobFault → ℕ → List ℕ → Type 0
IsError (Ok tokens) end rest = IsEnd rest
IsError (Err fault) end rest = (end ≡ fault.at) × IsFault fault.kind rest

-- the tokens that are read, where no fault is
abbrev Ends : Result (List Token) JobFault → List Token → Type 0
Ends (Ok found) tokens = found ≡ tokens
Ends (Err fault) tokens = Unit {0}

-- what a reading says of bytes
record Meant (at : ℕ) (bytes : List ℕ) (result : Result (List Token) JobFault) : Type 0 where
  tokens : List Token
  end : ℕ
  rest : List ℕ
  spelled : SpellsUntil at bytes tokens end rest
  are : Ends result tokens
  stops : IsError result end rest

-- after a gap
spells-gap : (at : ℕ) (gap after : List ℕ) (tokens : List Token) (end : ℕ) (rest : List ℕ) → IsGap gap → SpellsUntil (at + length gap) after tokens end rest
    → SpellsUntil at (gap ++ after) tokens end rest
spells-gap at gap after [] end rest is more = (
  gap ++ more.0,
  gap-append is more.0 more.1,
  ap (λ t. gap ++ t) more.2 ∙ sym (append_assoc gap more.0 rest),
  omega (arith, more.3, length-append gap more.0),
)
spells-gap at gap after (token ∷ tokens) end rest is spelled =
    let first = spelled.1 in (
      spelled.0,
      record {
        gap = gap ++ first.gap;
        text = first.text;
        between = gap-append is first.gap first.between;
        stands = first.stands;
        whole = ap (λ t. gap ++ t) first.whole ∙ sym (append_assoc gap first.gap (first.text ++ spelled.0));
        place = omega (arith, first.place, length-append gap first.gap);
        len = first.len;
      },
      spelled.2,
    )

meant-gap : (at : ℕ) (gap after : List ℕ) (result : Result (List Token) JobFault) → IsGap gap → Meant (at + length gap) after result → Meant at (gap ++ after) result
meant-gap at gap after result is m = record {
  tokens = m.tokens;
  end = m.end;
  rest = m.rest;
  spelled = spells-gap at gap after m.tokens m.end m.rest is m.spelled;
  are = m.are;
  stops = m.stops;
}

-- after a token
abbrev here : ℕ → TokenKind → List ℕ → Token
here at kind text = record { at = at; len = length text; kind = kind }

ends-token : (token : Token) (result : Result (List Token) JobFault) (tokens : List Token) → Ends result tokens → Ends (tokens_then (Ok (token ∷ [])) result) (token ∷ tokens)
ends-token token (Ok found) tokens are = ap (λ ts. token ∷ ts) are
ends-token token (Err fault) tokens are = tt

stops-token : (token : Token) (result : Result (List Token) JobFault) (end : ℕ) (rest : List ℕ) → IsError result end rest → IsError (tokens_then (Ok (token ∷ [])) result) end rest
stops-token token (Ok found) end rest stops = stops
stops-token token (Err fault) end rest stops = stops

meant-token : (at : ℕ) (kind : TokenKind) (text after : List ℕ) (result : Result (List Token) JobFault) → Stands kind text after → Meant (at + length text) after result
    → Meant at (text ++ after) (tokens_then (Ok (here at kind text ∷ [])) result)
meant-token at kind text after result stands m = record {
  tokens = here at kind text ∷ m.tokens;
  end = m.end;
  rest = m.rest;
  spelled = (after, record { gap = []; text = text; between = nothing; stands = stands; whole = refl; place = sym (add-zero at); len = refl }, m.spelled);
  are = ends-token (here at kind text) result m.tokens m.are;
  stops = stops-token (here at kind text) result m.end m.rest m.stops;
}

-- where no token stands
spelled_is_not_broken : (kind : TokenKind) (n : ℕ) (fault : FaultKind) → Spelled kind n ≡ Broken fault → ⊥
spelled_is_not_broken kind n fault e = cc

meant-broken : (at b : ℕ) (bs : List ℕ) (kind : FaultKind) → is_whitespace b ≡ false → eqb b 37 ≡ false → piece_at b bs ≡ Broken kind → Meant at (b ∷ bs) (Err (record { kind = kind; at = at }))
meant-broken at b bs kind white percent is = record {
  tokens = [];
  end = at;
  rest = b ∷ bs;
  spelled = ([], nothing, refl, sym (add-zero at));
  are = tt;
  stops = (
    refl,
    record {
      some = omega arith;
      no_whitespace = white;
      no_comment = percent;
      no_token = λ other text after stands e. spelled_is_not_broken other (length text) kind (sym (piece-stands other text after stands) ∙ ap piece_of (sym e) ∙ is);
      kinded = broken-kind b bs kind is;
    },
  );
}

-- one step, where the steps after it are known
abbrev Known : ℕ → Type 0
Known n = (at : ℕ) (bytes : List ℕ) → length bytes ≤ n → Meant at bytes (tokens_from at 0 bytes)

meant-white : (n at b : ℕ) (bs : List ℕ) → Known n → length bs ≤ n → is_whitespace b ≡ true → Meant at (b ∷ bs) (tokens_from at 0 (b ∷ bs))
meant-white n at b bs known fits white =
    subst (Meant at (b ∷ bs)) (sym (space-passed at b bs white))
    (meant-gap at (b ∷ []) bs (tokens_from (at + 1) 0 bs) (blank b [] white nothing) (known (at + 1) bs fits))

-- the end of the job
meant-end : (at : ℕ) (bytes : List ℕ) → IsEnd bytes → Meant at bytes (Ok [])
meant-end at bytes ends = record { tokens = []; end = at; rest = bytes; spelled = ([], nothing, refl, sym (add-zero at)); are = refl; stops = ends }

-- a comment that a line ends, or the job
meant-comment : (n at : ℕ) (text rest : List ℕ) → Known n → length (text ++ rest) ≤ n → list_all is_in_comment text ≡ true → first_passes is_in_comment rest ≡ false
    → Meant at (37 ∷ (text ++ rest)) (tokens_from at 0 (37 ∷ (text ++ rest)))
meant-comment n at text [] known fits all ends =
    subst (λ t. Meant at (37 ∷ t) (tokens_from at 0 (37 ∷ t))) (sym (append-nil text))
    (subst (Meant at (37 ∷ text)) (sym (last_comment-passed at text all)) (meant-end at (37 ∷ text) (inr (text, all, refl))))
meant-comment n at text (ending ∷ rest) known fits all ends =
    let gap = 37 ∷ (text ++ ending ∷ []) in
    let is : gap ++ rest ≡ 37 ∷ (text ++ ending ∷ rest) = ap (λ t. 37 ∷ t) (append_assoc text (ending ∷ []) rest) in
    let e : at + (length text + 2) ≡ at + length gap = omega (arith, length-append text (ending ∷ [])) in
    subst (λ r. Meant at (37 ∷ (text ++ ending ∷ rest)) r) (sym (comment-passed at ending text rest all ends ∙ ap (λ k. tokens_from k 0 rest) e))
    (subst (λ t. Meant at t (tokens_from (at + length gap) 0 rest)) is
    (meant-gap at gap rest (tokens_from (at + length gap) 0 rest) (comment text ending [] gap all ends nothing refl) (known (at + length gap) rest (omega (arith, length-append text (ending ∷ rest))))))

meant-percent : (n at b : ℕ) (bs : List ℕ) → Known n → length bs ≤ n → eqb b 37 ≡ true → Meant at (b ∷ bs) (tokens_from at 0 (b ∷ bs))
meant-percent n at b bs known fits is =
    let split = prefix_and_rest is_in_comment bs in
    let text = take_while is_in_comment bs in
    let rest = drop (prefix_len is_in_comment bs) bs in
    let fits_parts : length (text ++ rest) ≤ n = subst (λ t. length t ≤ n) split fits in
    subst (λ c. Meant at (c ∷ bs) (tokens_from at 0 (c ∷ bs))) (sym (eqb-true b 37 is))
    (subst (λ t. Meant at (37 ∷ t) (tokens_from at 0 (37 ∷ t))) (sym split)
    (meant-comment n at text rest known fits_parts (list_all-take_while is_in_comment bs) (first_passes-drop is_in_comment bs)))

meant-mark : (n at b : ℕ) (bs : List ℕ) → Known n → length bs ≤ n → is_whitespace b ≡ false → eqb b 37 ≡ false → (piece : Piece) → piece_at b bs ≡ piece → Meant at (b ∷ bs) (tokens_from at 0 (b ∷ bs))
meant-mark n at b bs known fits white percent (Blank len) is = absurd (no_blank b bs len white percent is)
meant-mark n at b bs known fits white percent (Broken fault) is =
    subst (Meant at (b ∷ bs)) (sym (tokens_from-broken at (b ∷ bs) fault (omega arith) is)) (meant-broken at b bs fault white percent is)
meant-mark n at b bs known fits white percent (Spelled kind len) is =
    let s = stands-piece b bs kind len is in
    let some = some-token kind s.text s.stands.shaped in
    subst (λ t. Meant at t (tokens_from at 0 t)) (sym s.whole)
    (subst (Meant at (s.text ++ s.after)) (sym (token-piece_tokens at kind s.text s.after s.stands))
    (meant-token at kind s.text s.after (tokens_from (at + length s.text) 0 s.after) s.stands
    (known (at + length s.text) s.after (omega (arith, ap length s.whole, length-append s.text s.after)))))

meant-first : (n at b : ℕ) (bs : List ℕ) → Known n → length bs ≤ n → Meant at (b ∷ bs) (tokens_from at 0 (b ∷ bs))
meant-first n at b bs known fits =
    ⊎_elim
    (λ (t : is_whitespace b ≡ true). meant-white n at b bs known fits t)
    (λ (f : is_whitespace b ≡ false).
    ⊎_elim
    (λ (t : eqb b 37 ≡ true). meant-percent n at b bs known fits t)
    (λ (g : eqb b 37 ≡ false). meant-mark n at b bs known fits f g (piece_at b bs) refl)
    (cases_Bool (eqb b 37)))
    (cases_Bool (is_whitespace b))

known : (n : ℕ) → Known n
known n at [] fits = subst (Meant at []) (sym (none-left at)) (meant-end at [] (inl refl))
known zero at (b ∷ bs) fits = absurd (omega arith)
known (suc n) at (b ∷ bs) fits = meant-first n at b bs (known n) (omega arith)

meant : (bytes : List ℕ) → Meant 0 bytes (tokens_of bytes)
meant bytes = known (length bytes) 0 bytes (omega arith)

-- the tokens that are read are spelled
pub tokens-spelled : (bytes : List ℕ) (tokens : List Token) → tokens_of bytes ≡ Ok tokens → Spells bytes tokens
tokens-spelled bytes tokens is =
    let m : Meant 0 bytes (Ok tokens) = subst (Meant 0 bytes) is (meant bytes) in
    record { end = m.end; rest = m.rest; spelled = subst (λ ts. SpellsUntil 0 bytes ts m.end m.rest) (sym m.are) m.spelled; ends = m.stops }

-- the tokens that are spelled are read
pub spelled-tokens : (bytes : List ℕ) (tokens : List Token) → Spells bytes tokens → tokens_of bytes ≡ Ok tokens
spelled-tokens bytes tokens s =
    spelled-read 0 bytes tokens s.end s.rest s.spelled
    ∙ ap (tokens_then (Ok tokens)) (end-passed s.end s.rest s.ends)
    ∙ tokens_then-nil tokens

pub one-list : (bytes : List ℕ) (a b : List Token) → Spells bytes a → Spells bytes b → a ≡ b
one-list bytes a b first second =
    let p : tokens_of bytes ≡ Ok a = spelled-tokens bytes a first in
    let q : tokens_of bytes ≡ Ok b = spelled-tokens bytes b second in
    cc

-- the fault that is read is there
pub fault-breaks : (bytes : List ℕ) (fault : JobFault) → tokens_of bytes ≡ Err fault → Breaks bytes fault
fault-breaks bytes fault is =
    let m : Meant 0 bytes (Err fault) = subst (Meant 0 bytes) is (meant bytes) in
    let at = m.stops.1 in
    record {
      tokens = m.tokens;
      rest = m.rest;
      spelled = subst (λ n. SpellsUntil 0 bytes m.tokens n m.rest) m.stops.0 m.spelled;
      some = at.some;
      no_whitespace = at.no_whitespace;
      no_comment = at.no_comment;
      no_token = at.no_token;
      kinded = at.kinded;
    }

-- the fault that is there is read
fault-at : (at b : ℕ) (bs : List ℕ) (kind : FaultKind) → IsFault kind (b ∷ bs) → (piece : Piece) → piece_at b bs ≡ piece → tokens_from at 0 (b ∷ bs) ≡ Err (record { kind = kind; at = at })
fault-at at b bs kind f (Blank len) is = absurd (no_blank b bs len f.no_whitespace f.no_comment is)
fault-at at b bs kind f (Spelled other len) is =
    let s = stands-piece b bs other len is in
    absurd (f.no_token other s.text s.after s.stands s.whole)
fault-at at b bs kind f (Broken other) is =
    tokens_from-broken at (b ∷ bs) other (omega arith) is
    ∙ ap (λ k. Err (record { kind = k; at = at })) (same_kind other kind (b ∷ bs) (broken-kind b bs other is) f.kinded)

fault-from : (at : ℕ) (rest : List ℕ) (kind : FaultKind) → IsFault kind rest → tokens_from at 0 rest ≡ Err (record { kind = kind; at = at })
fault-from at [] kind f = absurd (omega (arith, f.some))
fault-from at (b ∷ bs) kind f = fault-at at b bs kind f (piece_at b bs) refl

pub breaks-fault : (bytes : List ℕ) (fault : JobFault) → Breaks bytes fault → tokens_of bytes ≡ Err fault
breaks-fault bytes fault b =
    let f : IsFault fault.kind b.rest = record { some = b.some; no_whitespace = b.no_whitespace; no_comment = b.no_comment; no_token = b.no_token; kinded = b.kinded } in
    spelled-read 0 bytes b.tokens fault.at b.rest b.spelled
    ∙ ap (tokens_then (Ok b.tokens)) (fault-from fault.at b.rest fault.kind f)

-- what is spelled before a place is spelled by itself
record IsPrefix (at : ℕ) (bytes : List ℕ) (tokens : List Token) (end : ℕ) (rest : List ℕ) : Type 0 where
  prefix : List ℕ
  whole : bytes ≡ prefix ++ rest
  len : end ≡ at + length prefix
  spelled : SpellsUntil at prefix tokens end []

prefix-spelled : (at : ℕ) (bytes : List ℕ) (tokens : List Token) (end : ℕ) (rest : List ℕ) → SpellsUntil at bytes tokens end rest → IsPrefix at bytes tokens end rest
prefix-spelled at bytes [] end rest s = record { prefix = s.0; whole = s.2; len = s.3; spelled = (s.0, s.1, sym (append-nil s.0), s.3) }
prefix-spelled at bytes (token ∷ tokens) end rest s =
    let first = s.1 in
    let f = prefix-spelled (token.at + token.len) s.0 tokens end rest s.2 in
    let prefix = first.gap ++ (first.text ++ f.prefix) in
    record {
      prefix = prefix;
      whole = first.whole
          ∙ ap (λ t. first.gap ++ (first.text ++ t)) f.whole
          ∙ ap (λ t. first.gap ++ t) (sym (append_assoc first.text f.prefix rest))
          ∙ sym (append_assoc first.gap (first.text ++ f.prefix) rest);
      len = omega (arith, f.len, first.place, first.len, length-append first.gap (first.text ++ f.prefix), length-append first.text f.prefix);
      spelled = (
        f.prefix,
        record {
          gap = first.gap;
          text = first.text;
          between = first.between;
          stands = stands-prefix token.kind first.text f.prefix rest (subst (Stands token.kind first.text) f.whole first.stands);
          whole = refl;
          place = first.place;
          len = first.len;
        },
        f.spelled,
      );
    }

pub before_fault-spelled : (bytes : List ℕ) (fault : JobFault) → tokens_of bytes ≡ Err fault → (tokens : List Token) × Spells (take fault.at bytes) tokens
before_fault-spelled bytes fault is =
    let b = fault-breaks bytes fault is in
    let f = prefix-spelled 0 bytes b.tokens fault.at b.rest b.spelled in
    let n : length f.prefix ≡ fault.at = omega (arith, f.len) in
    let e : take fault.at bytes ≡ f.prefix = ap (take fault.at) f.whole ∙ take_at f.prefix b.rest fault.at n in
    (b.tokens, record { end = fault.at; rest = []; spelled = subst (λ t. SpellsUntil 0 t b.tokens fault.at []) (sym e) f.spelled; ends = inl refl })
