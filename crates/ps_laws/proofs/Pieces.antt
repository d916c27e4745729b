-- The piece at the beginning of bytes, and the token that stands there.
use Rattle.std.proofs.Common.{◌≡◌, ◌⊎◌, inl, inr, ℕ, ℤ, suc, ◌+◌, ◌*◌, ◌<◌, ◌≤◌, Bool, true, false, cond, eqb, ltb, ◌||◌, List, [], ◌∷◌, ◌++◌, length, drop, get_or, Option, Some, None, refl, sym, ap, ◌∙◌, subst, ⊎_elim, arith, append_assoc, length-append}
use Rattle.std.specs.List.{prefix_len, take_while, list_all}
use Rattle.std.proofs.lemmas.Bool.{cond_both, false≢true, and_parts, and_from, or_parts, eqb-true, le-ltb, lt-ltb, false_from_ne_true, not-true}
use Rattle.std.proofs.lemmas.List.Folds.{length-prefix_len, list_all-append}
use Rattle.ps_tokens.specs.declared.faults.FaultKind.{FaultKind}
use Rattle.ps_tokens.specs.declared.faults.FaultKind.TheVariants.{BadToken, NumberTooLarge}
use Rattle.ps_tokens.specs.declared.token.TokenKind.{TokenKind}
use Rattle.ps_tokens.specs.declared.token.TokenKind.TheVariants.{OpenDict, CloseDict, OpenArray, CloseArray, Literal, Word, Number, Text}
use Rattle.ps_tokens.specs.declared.pieces.Piece.{Piece}
use Rattle.ps_tokens.specs.declared.pieces.Piece.TheVariants.{Blank, Spelled, Broken}
use Rattle.ps_tokens.specs.Bytes.{is_whitespace, is_regular, is_hexadecimal, is_digit, begins_with, first_passes}
use Rattle.ps_tokens.specs.Numbers.{whole_digits, fraction_digits, is_number, begins_like_number, decimal, fraction_of, signed, value_of}
use Rattle.ps_tokens.specs.Texts.{text_end}
use Rattle.ps_tokens.specs.Pieces.{number_piece, run_piece, literal_piece, ended_text, angle_piece, mark_piece, piece_at}
use Rattle.ps_tokens.proofs.Balancing.{balanced_text, text_balanced}
use Rattle.ps_laws.specs.Shapes.{IsNumber, IsWord, IsName, IsString, in_parentheses, hexadecimal, IsToken}
use Rattle.ps_laws.specs.Spells.{MayFollow, NoneIsLonger, Stands, BeginsTooLarge, IsKindOf}
use Rattle.ps_laws.proofs.Prefixes.{prefix_len-prefix, take_while-prefix, drop-prefix, length-le-prefix_len, list_all-take_while, first_passes-drop, prefix_and_rest}
use Rattle.ps_laws.proofs.Numerals.{IsReadNumber, number-read, number-from, too_large-from, is_number-like}

-- the piece at the beginning of bytes that are not empty
abbrev pub piece_of : List ℕ → Piece
piece_of bytes = piece_at (get_or bytes 0 0) (drop 1 bytes)

-- a byte that passes a test is none that fails it
differs : (p : ℕ → Bool) (b c : ℕ) → p b ≡ true → p c ≡ false → eqb b c ≡ false
differs p b c passes fails = false_from_ne_true (eqb b c) (λ t. false≢true (sym fails ∙ ap p (sym (eqb-true b c t)) ∙ passes))

first_differs : (p : ℕ → Bool) (c : ℕ) (xs ys : List ℕ) → list_all p xs ≡ true → p c ≡ false → begins_with c ys ≡ false → begins_with c (xs ++ ys) ≡ false
first_differs p c [] ys all fails suffix = suffix
first_differs p c (x ∷ xs) ys all fails suffix = differs p x c (and_parts (p x) (list_all p xs) all).0 fails

regular_is_no_whitespace : (b : ℕ) → is_regular b ≡ true → is_whitespace b ≡ false
unfolding is_regular
regular_is_no_whitespace b regular =
    let none = not-true (is_whitespace b || eqb b 40 || eqb b 41 || eqb b 60 || eqb b 62 || eqb b 91 || eqb b 93 || eqb b 123 || eqb b 125 || eqb b 47 || eqb b 37) regular in
    let a = or_parts (is_whitespace b || eqb b 40 || eqb b 41 || eqb b 60 || eqb b 62 || eqb b 91 || eqb b 93 || eqb b 123 || eqb b 125 || eqb b 47) (eqb b 37) none in
    let c = or_parts (is_whitespace b || eqb b 40 || eqb b 41 || eqb b 60 || eqb b 62 || eqb b 91 || eqb b 93 || eqb b 123 || eqb b 125) (eqb b 47) a.0 in
    let d = or_parts (is_whitespace b || eqb b 40 || eqb b 41 || eqb b 60 || eqb b 62 || eqb b 91 || eqb b 93 || eqb b 123) (eqb b 125) c.0 in
    let e = or_parts (is_whitespace b || eqb b 40 || eqb b 41 || eqb b 60 || eqb b 62 || eqb b 91 || eqb b 93) (eqb b 123) d.0 in
    let f = or_parts (is_whitespace b || eqb b 40 || eqb b 41 || eqb b 60 || eqb b 62 || eqb b 91) (eqb b 93) e.0 in
    let g = or_parts (is_whitespace b || eqb b 40 || eqb b 41 || eqb b 60 || eqb b 62) (eqb b 91) f.0 in
    let h = or_parts (is_whitespace b || eqb b 40 || eqb b 41 || eqb b 60) (eqb b 62) g.0 in
    let i = or_parts (is_whitespace b || eqb b 40 || eqb b 41) (eqb b 60) h.0 in
    let j = or_parts (is_whitespace b || eqb b 40) (eqb b 41) i.0 in
    (or_parts (is_whitespace b) (eqb b 40) j.0).0

-- the piece that a regular byte begins is that of its run
piece-run : (b : ℕ) (bs : List ℕ) → is_regular b ≡ true → piece_at b bs ≡ run_piece (take_while is_regular (b ∷ bs))
unfolding piece_at
piece-run b bs regular = rw (regular_is_no_whitespace b regular, regular) refl

-- bytes that begin with regular ones
piece-regular : (text after : List ℕ) → 0 < length text → list_all is_regular text ≡ true → piece_of (text ++ after) ≡ run_piece (take_while is_regular (text ++ after))
piece-regular [] after some all = absurd (omega arith)
piece-regular (b ∷ text) after some all = piece-run b (text ++ after) (and_parts (is_regular b) (list_all is_regular text) all).0

-- a run that does not begin like a number is none
no_number : (run : List ℕ) → begins_like_number run ≡ false → is_number run ≡ false
no_number run unlike = false_from_ne_true (is_number run) (λ t. false≢true (sym unlike ∙ is_number-like run t))

-- the pieces of words, numbers and names
piece-word : (text after : List ℕ) → IsWord text → first_passes is_regular after ≡ false → piece_of (text ++ after) ≡ Spelled Word (length text)
unfolding run_piece
piece-word text after word ends =
    piece-regular text after word.some word.regular
    ∙ ap run_piece (take_while-prefix is_regular text after word.regular ends)
    ∙ (rw (no_number text word.no_number, word.no_number) refl)

number_piece-small : (run : List ℕ) → decimal (whole_digits run) ≤ 1000000 → number_piece run ≡ Spelled (Number (value_of run)) (length run)
unfolding number_piece
number_piece-small run small = rw (le-ltb 1000000 (decimal (whole_digits run)) small) refl

run_piece-number : (run : List ℕ) → is_number run ≡ true → run_piece run ≡ number_piece run
unfolding run_piece
run_piece-number run counts = rw counts refl

some-like : (text : List ℕ) → begins_like_number text ≡ true → 0 < length text
some-like [] like = absurd (false≢true like)
some-like (b ∷ text) like = omega arith

piece-signed : (value : ℤ) (sign digits whole fraction after : List ℕ) → IsReadNumber sign digits whole fraction → decimal whole ≤ 1000000
    → value ≡ signed (begins_with 45 sign) (10000 * decimal whole + fraction_of fraction) → first_passes is_regular after ≡ false
    → piece_of ((sign ++ digits) ++ after) ≡ Spelled (Number value) (length (sign ++ digits))
piece-signed value sign digits whole fraction after read small valued ends =
    let text = sign ++ digits in
    let least : decimal (whole_digits text) ≤ 1000000 = subst (λ w. decimal w ≤ 1000000) (sym read.whole_digits_are) small in
    let is : value_of text ≡ value =
    ap (λ w. signed (begins_with 45 text) (10000 * decimal w + fraction_of (fraction_digits text))) read.whole_digits_are
    ∙ ap (λ f. signed (begins_with 45 text) (10000 * decimal whole + fraction_of f)) read.fraction_is
    ∙ ap (λ m. signed m (10000 * decimal whole + fraction_of fraction)) read.minus_is
    ∙ sym valued in
    piece-regular text after (some-like text read.like) read.regular
    ∙ ap run_piece (take_while-prefix is_regular text after read.regular ends)
    ∙ run_piece-number text read.counts
    ∙ number_piece-small text least
    ∙ ap (λ v. Spelled (Number v) (length text)) is

piece-number : (value : ℤ) (text after : List ℕ) → IsNumber value text → first_passes is_regular after ≡ false → piece_of (text ++ after) ≡ Spelled (Number value) (length text)
piece-number value text after n ends =
    let m = n.numeral in
    subst (λ t. piece_of (t ++ after) ≡ Spelled (Number value) (length t)) (sym m.written)
    (piece-signed value m.sign m.unsigned m.whole m.fraction after (number-read m.sign m.unsigned m.whole m.fraction m.has_sign m.has_digits) n.not_too_large n.valued ends)

-- the piece of a number that is too large
number_piece-large : (run : List ℕ) → 1000000 < decimal (whole_digits run) → number_piece run ≡ Broken NumberTooLarge
unfolding number_piece
number_piece-large run large = rw (lt-ltb 1000000 (decimal (whole_digits run)) large) refl

piece-large : (sign digits whole fraction after : List ℕ) → IsReadNumber sign digits whole fraction → 1000000 < decimal whole → first_passes is_regular after ≡ false
    → piece_of ((sign ++ digits) ++ after) ≡ Broken NumberTooLarge
piece-large sign digits whole fraction after read large ends =
    let text = sign ++ digits in
    piece-regular text after (some-like text read.like) read.regular
    ∙ ap run_piece (take_while-prefix is_regular text after read.regular ends)
    ∙ run_piece-number text read.counts
    ∙ number_piece-large text (subst (λ w. 1000000 < decimal w) (sym read.whole_digits_are) large)

pub piece-too_large : (bytes : List ℕ) → BeginsTooLarge bytes → piece_of bytes ≡ Broken NumberTooLarge
piece-too_large bytes begins =
    let m = begins.2.numeral in
    ap piece_of (begins.4 ∙ ap (λ t. t ++ begins.1) m.written)
    ∙ piece-large m.sign m.unsigned m.whole m.fraction begins.1 (number-read m.sign m.unsigned m.whole m.fraction m.has_sign m.has_digits) begins.2.too_large begins.3

-- after `/`
piece-slash : (bs : List ℕ) → piece_at 47 bs ≡ literal_piece bs
unfolding piece_at mark_piece is_whitespace is_regular
piece-slash bs = refl

slash_is_no_regular : is_regular 47 ≡ false
unfolding is_regular is_whitespace
slash_is_no_regular = refl

no_slash : (name after : List ℕ) → list_all is_regular name ≡ true → MayFollow Literal (47 ∷ name) after → begins_with 47 (name ++ after) ≡ false
no_slash [] after all follows = follows refl
no_slash (b ∷ name) after all follows = differs is_regular b 47 (and_parts (is_regular b) (list_all is_regular name) all).0 slash_is_no_regular

literal_piece-spelled : (bs : List ℕ) → begins_with 47 bs ≡ false → literal_piece bs ≡ Spelled Literal (1 + prefix_len is_regular bs)
unfolding literal_piece
literal_piece-spelled bs none = rw none refl

piece-name : (text after : List ℕ) → IsName text → MayFollow Literal text after → first_passes is_regular after ≡ false → piece_of (text ++ after) ≡ Spelled Literal (length text)
piece-name text after n follows ends =
    let P : List ℕ → Type 0 = λ t. MayFollow Literal t after → piece_of (t ++ after) ≡ Spelled Literal (length t) in
    let e : 1 + length n.name ≡ suc (length n.name) = omega arith in
    let here : P (47 ∷ n.name) = λ f.
    piece-slash (n.name ++ after)
    ∙ literal_piece-spelled (n.name ++ after) (no_slash n.name after n.regular f)
    ∙ ap (λ k. Spelled Literal (1 + k)) (prefix_len-prefix is_regular n.name after n.regular ends)
    ∙ ap (λ k. Spelled Literal k) e in
    subst P (sym n.written) here follows

-- strings
piece-parenthesis : (bs : List ℕ) → piece_at 40 bs ≡ ended_text (text_end false 0 1 bs)
unfolding piece_at mark_piece is_whitespace is_regular
piece-parenthesis bs = refl

piece-angle : (bs : List ℕ) → piece_at 60 bs ≡ angle_piece bs
unfolding piece_at mark_piece is_whitespace is_regular
piece-angle bs = refl

angle_is_no_digit : (is_hexadecimal 60 ≡ false) × (is_hexadecimal 62 ≡ false)
unfolding is_hexadecimal is_digit is_whitespace
angle_is_no_digit = (refl, refl)

angle_piece-digits : (digits after : List ℕ) → list_all is_hexadecimal digits ≡ true → angle_piece (digits ++ 62 ∷ after) ≡ Spelled Text (2 + length digits)
unfolding angle_piece
angle_piece-digits digits after all =
    let another = first_differs is_hexadecimal 60 digits (62 ∷ after) all angle_is_no_digit.0 refl in
    let n = prefix_len-prefix is_hexadecimal digits (62 ∷ after) all angle_is_no_digit.1 in
    let d = drop-prefix is_hexadecimal digits (62 ∷ after) all angle_is_no_digit.1 in
    rw (another, d) (ap (λ k. Spelled Text (2 + k)) n)

piece-text : (text after : List ℕ) → IsString text → piece_of (text ++ after) ≡ Spelled Text (length text)
piece-text text after (in_parentheses inner t balanced is) =
    let e : length inner + 2 ≡ suc (length (inner ++ 41 ∷ [])) = omega (arith, length-append inner (41 ∷ [])) in
    subst (λ t. piece_of (t ++ after) ≡ Spelled Text (length t)) (sym is)
    (piece-parenthesis ((inner ++ 41 ∷ []) ++ after)
    ∙ ap (λ bs. ended_text (text_end false 0 1 bs)) (append_assoc inner (41 ∷ []) after)
    ∙ ap ended_text (balanced_text inner after balanced)
    ∙ ap (λ n. Spelled Text n) e)
piece-text text after (hexadecimal digits t all is) =
    let e : 2 + length digits ≡ suc (length (digits ++ 62 ∷ [])) = omega (arith, length-append digits (62 ∷ [])) in
    subst (λ t. piece_of (t ++ after) ≡ Spelled Text (length t)) (sym is)
    (piece-angle ((digits ++ 62 ∷ []) ++ after)
    ∙ ap angle_piece (append_assoc digits (62 ∷ []) after)
    ∙ angle_piece-digits digits after all
    ∙ ap (λ n. Spelled Text n) e)

-- brackets
piece-brackets : (after : List ℕ) → (piece_at 60 (60 ∷ after) ≡ Spelled OpenDict 2) × (piece_at 62 (62 ∷ after) ≡ Spelled CloseDict 2) × (piece_at 91 after ≡ Spelled OpenArray 1) × (piece_at 93 after ≡ Spelled CloseArray 1)
unfolding piece_at mark_piece angle_piece is_whitespace is_regular
piece-brackets after = (refl, refl, refl, refl)

-- a name goes on as long as regular bytes do
abbrev EndsName : TokenKind → List ℕ → Type 0
EndsName OpenDict after = Unit {0}
EndsName CloseDict after = Unit {0}
EndsName OpenArray after = Unit {0}
EndsName CloseArray after = Unit {0}
EndsName Literal after = first_passes is_regular after ≡ false
EndsName Word after = Unit {0}
EndsName (Number value) after = Unit {0}
EndsName Text after = Unit {0}

piece-token : (kind : TokenKind) (text after : List ℕ) → IsToken kind text → EndsName kind after → MayFollow kind text after → piece_of (text ++ after) ≡ Spelled kind (length text)
piece-token OpenDict text after is ends follows = subst (λ t. piece_of (t ++ after) ≡ Spelled OpenDict (length t)) (sym is) (piece-brackets after).0
piece-token CloseDict text after is ends follows = subst (λ t. piece_of (t ++ after) ≡ Spelled CloseDict (length t)) (sym is) (piece-brackets after).1
piece-token OpenArray text after is ends follows = subst (λ t. piece_of (t ++ after) ≡ Spelled OpenArray (length t)) (sym is) (piece-brackets after).2
piece-token CloseArray text after is ends follows = subst (λ t. piece_of (t ++ after) ≡ Spelled CloseArray (length t)) (sym is) (piece-brackets after).3
piece-token Literal text after is ends follows = piece-name text after is follows ends
piece-token Word text after is ends follows = piece-word text after is follows
piece-token (Number value) text after is ends follows = piece-number value text after is follows
piece-token Text text after is ends follows = piece-text text after is

-- after the longest name no regular byte stands
longest_name_ends : (text after : List ℕ) → IsName text → NoneIsLonger (length text) (text ++ after) → first_passes is_regular after ≡ false
longest_name_ends text [] name longest = refl
longest_name_ends text (b ∷ after) name longest =
    false_from_ne_true (is_regular b) (λ t.
    let more : IsName (text ++ b ∷ []) = record {
      name = name.name ++ b ∷ [];
      regular = list_all-append is_regular name.name (b ∷ []) ∙ and_from (list_all is_regular name.name) (list_all is_regular (b ∷ [])) name.regular (and_from (is_regular b) true t refl);
      written = ap (λ t. t ++ b ∷ []) name.written;
    } in
    let bound = longest Literal (text ++ b ∷ []) after more (sym (append_assoc text (b ∷ []) after)) in
    omega (arith, length-append text (b ∷ [])))

stands-ends : (kind : TokenKind) (text after : List ℕ) → IsToken kind text → NoneIsLonger (length text) (text ++ after) → EndsName kind after
stands-ends OpenDict text after is longest = tt
stands-ends CloseDict text after is longest = tt
stands-ends OpenArray text after is longest = tt
stands-ends CloseArray text after is longest = tt
stands-ends Literal text after is longest = longest_name_ends text after is longest
stands-ends Word text after is longest = tt
stands-ends (Number value) text after is longest = tt
stands-ends Text text after is longest = tt

-- a token that stands is read
pub piece-stands : (kind : TokenKind) (text after : List ℕ) → Stands kind text after → piece_of (text ++ after) ≡ Spelled kind (length text)
piece-stands kind text after s = piece-token kind text after s.shaped (stands-ends kind text after s.shaped s.longest) s.followed

-- how many bytes a piece that is a token has
abbrev HasLength : ℕ → Piece → Type 0
HasLength n (Blank len) = Unit {0}
HasLength n (Spelled kind len) = len ≡ n
HasLength n (Broken fault) = Unit {0}

number_piece-length : (run : List ℕ) → HasLength (length run) (number_piece run)
unfolding number_piece
number_piece-length run = cond_both (ltb 1000000 (decimal (whole_digits run))) (Broken NumberTooLarge) (Spelled (Number (value_of run)) (length run)) (HasLength (length run)) (λ t. tt) (λ f. refl)

run_piece-length : (run : List ℕ) → HasLength (length run) (run_piece run)
unfolding run_piece
run_piece-length run =
    cond_both (is_number run) (number_piece run) (cond (begins_like_number run) (Broken BadToken) (Spelled Word (length run))) (HasLength (length run))
    (λ t. number_piece-length run)
    (λ f. cond_both (begins_like_number run) (Broken BadToken) (Spelled Word (length run)) (HasLength (length run)) (λ t. tt) (λ g. refl))

literal_piece-length : (bs : List ℕ) → HasLength (1 + prefix_len is_regular bs) (literal_piece bs)
unfolding literal_piece
literal_piece-length bs = cond_both (begins_with 47 bs) (Broken BadToken) (Spelled Literal (1 + prefix_len is_regular bs)) (HasLength (1 + prefix_len is_regular bs)) (λ t. tt) (λ f. refl)

-- no token is longer than the one that is read
regular-le : (text after : List ℕ) (kind : TokenKind) (n : ℕ) → 0 < length text → list_all is_regular text ≡ true → piece_of (text ++ after) ≡ Spelled kind n → length text ≤ n
regular-le text after kind n some all is =
    let run = take_while is_regular (text ++ after) in
    let len : n ≡ length run = subst (HasLength (length run)) (sym (piece-regular text after some all) ∙ is) (run_piece-length run) in
    omega (arith, length-prefix_len is_regular (text ++ after), length-le-prefix_len is_regular text after all)

name-le : (name after : List ℕ) (kind : TokenKind) (n : ℕ) → list_all is_regular name ≡ true → piece_at 47 (name ++ after) ≡ Spelled kind n → suc (length name) ≤ n
name-le name after kind n all is =
    let len : n ≡ 1 + prefix_len is_regular (name ++ after) = subst (HasLength (1 + prefix_len is_regular (name ++ after))) (sym (piece-slash (name ++ after)) ∙ is) (literal_piece-length (name ++ after)) in
    omega (arith, length-le-prefix_len is_regular name after all)

same-le : (text after : List ℕ) (kind other : TokenKind) (n : ℕ) → piece_of (text ++ after) ≡ Spelled other (length text) → piece_of (text ++ after) ≡ Spelled kind n → length text ≤ n
same-le text after kind other n a b =
    let e : n ≡ length text = subst (HasLength (length text)) (sym a ∙ b) refl in
    omega arith

token-le : (other : TokenKind) (text after : List ℕ) (kind : TokenKind) (n : ℕ) → IsToken other text → piece_of (text ++ after) ≡ Spelled kind n → length text ≤ n
token-le OpenDict text after kind n shaped is = same-le text after kind OpenDict n (piece-token OpenDict text after shaped tt tt) is
token-le CloseDict text after kind n shaped is = same-le text after kind CloseDict n (piece-token CloseDict text after shaped tt tt) is
token-le OpenArray text after kind n shaped is = same-le text after kind OpenArray n (piece-token OpenArray text after shaped tt tt) is
token-le CloseArray text after kind n shaped is = same-le text after kind CloseArray n (piece-token CloseArray text after shaped tt tt) is
token-le Literal text after kind n shaped is =
    subst (λ t. length t ≤ n) (sym shaped.written)
    (name-le shaped.name after kind n shaped.regular (ap (λ t. piece_of (t ++ after)) (sym shaped.written) ∙ is))
token-le Word text after kind n shaped is = regular-le text after kind n shaped.some shaped.regular is
token-le (Number value) text after kind n shaped is =
    let m = shaped.numeral in
    let read = number-read m.sign m.unsigned m.whole m.fraction m.has_sign m.has_digits in
    subst (λ t. length t ≤ n) (sym m.written)
    (regular-le (m.sign ++ m.unsigned) after kind n (some-like (m.sign ++ m.unsigned) read.like) read.regular (ap (λ t. piece_of (t ++ after)) (sym m.written) ∙ is))
token-le Text text after kind n shaped is = same-le text after kind Text n (piece-token Text text after shaped tt tt) is

-- a token of this kind and so many bytes stands at the beginning
record Begins (kind : TokenKind) (n : ℕ) (bytes : List ℕ) : Type 0 where
  text : List ℕ
  after : List ℕ
  whole : bytes ≡ text ++ after
  shaped : IsToken kind text
  len : n ≡ length text
  followed : MayFollow kind text after

-- what a piece says of the bytes that it is the prefix of
abbrev Says : List ℕ → Piece → Type 0
Says bytes (Blank len) = (first_passes is_whitespace bytes ≡ true) ⊎ (begins_with 37 bytes ≡ true)
Says bytes (Spelled kind len) = Begins kind len bytes
Says bytes (Broken fault) = ((fault ≡ NumberTooLarge) × BeginsTooLarge bytes) ⊎ (fault ≡ BadToken)

says-number : (run after : List ℕ) → is_number run ≡ true → first_passes is_regular after ≡ false → Says (run ++ after) (number_piece run)
unfolding number_piece
says-number run after counts ends =
    cond_both (ltb 1000000 (decimal (whole_digits run))) (Broken NumberTooLarge) (Spelled (Number (value_of run)) (length run)) (Says (run ++ after)) (λ t. inl (refl, (run, after, too_large-from run counts t, ends, refl)))
    (λ f. record { text = run; after = after; whole = refl; shaped = number-from run counts f; len = refl; followed = ends })

says-run : (run after : List ℕ) → 0 < length run → list_all is_regular run ≡ true → first_passes is_regular after ≡ false → Says (run ++ after) (run_piece run)
unfolding run_piece
says-run run after some regular ends =
    cond_both (is_number run) (number_piece run) (cond (begins_like_number run) (Broken BadToken) (Spelled Word (length run))) (Says (run ++ after))
    (λ t. says-number run after t ends)
    (λ f. cond_both (begins_like_number run) (Broken BadToken) (Spelled Word (length run)) (Says (run ++ after)) (λ t. inr refl)
    (λ g. record { text = run; after = after; whole = refl; shaped = record { some = some; regular = regular; no_number = g }; len = refl; followed = ends }))

says-regular : (b : ℕ) (bs : List ℕ) → is_regular b ≡ true → Says (b ∷ bs) (run_piece (take_while is_regular (b ∷ bs)))
says-regular b bs regular =
    let bytes = b ∷ bs in
    let run = take_while is_regular bytes in
    let after = drop (prefix_len is_regular bytes) bytes in
    let some : 0 < length run = omega (arith, length-prefix_len is_regular bytes, length-le-prefix_len is_regular (b ∷ []) bs (and_from (is_regular b) true regular refl)) in
    subst (λ t. Says t (run_piece run)) (sym (prefix_and_rest is_regular bytes))
    (says-run run after some (list_all-take_while is_regular bytes) (first_passes-drop is_regular bytes))

says-literal : (bs : List ℕ) → Says (47 ∷ bs) (literal_piece bs)
unfolding literal_piece
says-literal bs =
    let name = take_while is_regular bs in
    let after = drop (prefix_len is_regular bs) bs in
    let is = prefix_and_rest is_regular bs in
    cond_both (begins_with 47 bs) (Broken BadToken) (Spelled Literal (1 + prefix_len is_regular bs)) (Says (47 ∷ bs)) (λ t. inr refl)
    (λ f. record {
      text = 47 ∷ name;
      after = after;
      whole = ap (λ t. 47 ∷ t) is;
      shaped = record { name = name; regular = list_all-take_while is_regular bs; written = refl };
      len = omega (arith, length-prefix_len is_regular bs);
      followed = λ e. ap (begins_with 47) (ap (λ t. drop 1 t ++ after) (sym e) ∙ sym is) ∙ f;
    })

says-text : (bs : List ℕ) (end : Option ℕ) → text_end false 0 1 bs ≡ end → Says (40 ∷ bs) (ended_text end)
says-text bs None is = inr refl
says-text bs (Some n) is =
    let c = text_balanced bs n is in
    record {
      text = 40 ∷ (c.0 ++ 41 ∷ []);
      after = c.1;
      whole = ap (λ t. 40 ∷ t) (c.3 ∙ sym (append_assoc c.0 (41 ∷ []) c.1));
      shaped = in_parentheses c.0 (40 ∷ (c.0 ++ 41 ∷ [])) c.2 refl;
      len = omega (arith, c.4, length-append c.0 (41 ∷ []));
      followed = tt;
    }

first-is : (c : ℕ) (bs : List ℕ) → begins_with c bs ≡ true → bs ≡ c ∷ drop 1 bs
first-is c [] begins = absurd (false≢true begins)
first-is c (b ∷ bs) begins = ap (λ d. d ∷ bs) (eqb-true b c begins)

says-angle : (bs : List ℕ) → Says (60 ∷ bs) (angle_piece bs)
unfolding angle_piece
says-angle bs =
    let digits = take_while is_hexadecimal bs in
    let suffix = drop (prefix_len is_hexadecimal bs) bs in
    cond_both (begins_with 60 bs) (Spelled OpenDict 2) (cond (begins_with 62 suffix) (Spelled Text (2 + prefix_len is_hexadecimal bs)) (Broken BadToken)) (Says (60 ∷ bs))
    (λ t. record { text = 60 ∷ 60 ∷ []; after = drop 1 bs; whole = ap (λ t. 60 ∷ t) (first-is 60 bs t); shaped = refl; len = refl; followed = tt })
    (λ f. cond_both (begins_with 62 suffix) (Spelled Text (2 + prefix_len is_hexadecimal bs)) (Broken BadToken) (Says (60 ∷ bs))
    (λ t. record {
      text = 60 ∷ (digits ++ 62 ∷ []);
      after = drop 1 suffix;
      whole = ap (λ t. 60 ∷ t) (prefix_and_rest is_hexadecimal bs ∙ ap (λ t. digits ++ t) (first-is 62 suffix t) ∙ sym (append_assoc digits (62 ∷ []) (drop 1 suffix)));
      shaped = hexadecimal digits (60 ∷ (digits ++ 62 ∷ [])) (list_all-take_while is_hexadecimal bs) refl;
      len = omega (arith, length-append digits (62 ∷ []), length-prefix_len is_hexadecimal bs);
      followed = tt;
    })
    (λ g. inr refl))

says-closing : (bs : List ℕ) → Says (62 ∷ bs) (cond (begins_with 62 bs) (Spelled CloseDict 2) (Broken BadToken))
says-closing bs =
    cond_both (begins_with 62 bs) (Spelled CloseDict 2) (Broken BadToken) (Says (62 ∷ bs))
    (λ t. record { text = 62 ∷ 62 ∷ []; after = drop 1 bs; whole = ap (λ t. 62 ∷ t) (first-is 62 bs t); shaped = refl; len = refl; followed = tt })
    (λ f. inr refl)

-- a fact of bytes that begin with c, where the first byte is c
abbrev at-byte : (c b : ℕ) (bs : List ℕ) (piece : Piece) → Says (c ∷ bs) piece → eqb b c ≡ true → Says (b ∷ bs) piece
at-byte c b bs piece says t = subst (λ d. Says (d ∷ bs) piece) (sym (eqb-true b c t)) says

says-mark : (b : ℕ) (bs : List ℕ) → Says (b ∷ bs) (mark_piece b bs)
unfolding mark_piece
says-mark b bs =
    let P = Says (b ∷ bs) in
    cond_both (eqb b 37) _ _ P (λ t. inr t)
    (λ f1. cond_both (eqb b 47) _ _ P (at-byte 47 b bs (literal_piece bs) (says-literal bs))
    (λ f2. cond_both (eqb b 40) _ _ P (at-byte 40 b bs (ended_text (text_end false 0 1 bs)) (says-text bs (text_end false 0 1 bs) refl))
    (λ f3. cond_both (eqb b 60) _ _ P (at-byte 60 b bs (angle_piece bs) (says-angle bs))
    (λ f4. cond_both (eqb b 62) _ _ P (at-byte 62 b bs (cond (begins_with 62 bs) (Spelled CloseDict 2) (Broken BadToken)) (says-closing bs))
    (λ f5. cond_both (eqb b 91) _ _ P (at-byte 91 b bs (Spelled OpenArray 1) (record { text = 91 ∷ []; after = bs; whole = refl; shaped = refl; len = refl; followed = tt }))
    (λ f6. cond_both (eqb b 93) _ _ P (at-byte 93 b bs (Spelled CloseArray 1) (record { text = 93 ∷ []; after = bs; whole = refl; shaped = refl; len = refl; followed = tt }))
    (λ f7. inr refl)))))))

says-piece : (b : ℕ) (bs : List ℕ) → Says (b ∷ bs) (piece_at b bs)
unfolding piece_at
says-piece b bs =
    let P = Says (b ∷ bs) in
    cond_both (is_whitespace b) _ _ P (λ t. inl t)
    (λ f. cond_both (is_regular b) _ _ P (λ t. says-regular b bs t) (λ g. says-mark b bs))

-- the piece that is a token, as it stands
pub record StandsAt (kind : TokenKind) (n : ℕ) (bytes : List ℕ) : Type 0 where
  pub text : List ℕ
  pub after : List ℕ
  pub whole : bytes ≡ text ++ after
  pub len : n ≡ length text
  pub stands : Stands kind text after

pub stands-piece : (b : ℕ) (bs : List ℕ) (kind : TokenKind) (n : ℕ) → piece_at b bs ≡ Spelled kind n → StandsAt kind n (b ∷ bs)
stands-piece b bs kind n is =
    let s : Begins kind n (b ∷ bs) = subst (Says (b ∷ bs)) is (says-piece b bs) in
    let at_prefix : piece_of (s.text ++ s.after) ≡ Spelled kind (length s.text) = ap piece_of (sym s.whole) ∙ is ∙ ap (Spelled kind) s.len in
    record {
      text = s.text;
      after = s.after;
      whole = s.whole;
      len = s.len;
      stands = record {
        shaped = s.shaped;
        longest = λ other text after shaped e. token-le other text after kind (length s.text) shaped (ap piece_of (sym e) ∙ at_prefix);
        followed = s.followed;
      };
    }

-- what is neither whitespace nor a comment is no blank piece
pub no_blank : (b : ℕ) (bs : List ℕ) (n : ℕ) → is_whitespace b ≡ false → eqb b 37 ≡ false → piece_at b bs ≡ Blank n → ⊥
no_blank b bs n f g is =
    ⊎_elim
    (λ (t : is_whitespace b ≡ true). false≢true (sym f ∙ t))
    (λ (t : eqb b 37 ≡ true). false≢true (sym g ∙ t))
    (subst (Says (b ∷ bs)) is (says-piece b bs))

broken_differs : {kind : FaultKind} → Broken kind ≡ Broken NumberTooLarge → kind ≡ BadToken → ⊥
broken_differs e is = cc

-- which fault it is that no token stands
pub broken-kind : (b : ℕ) (bs : List ℕ) (kind : FaultKind) → piece_at b bs ≡ Broken kind → IsKindOf kind (b ∷ bs)
broken-kind b bs kind is =
    ⊎_elim
    (λ large. inl large)
    (λ (bad : kind ≡ BadToken). inr (bad, λ begins. broken_differs (sym is ∙ piece-too_large (b ∷ bs) begins) bad))
    (subst (Says (b ∷ bs)) is (says-piece b bs))

pub same_kind : (a b : FaultKind) (bytes : List ℕ) → IsKindOf a bytes → IsKindOf b bytes → a ≡ b
same_kind a b bytes (inl large) (inl other) = large.0 ∙ sym other.0
same_kind a b bytes (inl large) (inr bad) = absurd (bad.1 large.1)
same_kind a b bytes (inr bad) (inl large) = absurd (bad.1 large.1)
same_kind a b bytes (inr bad) (inr other) = bad.0 ∙ sym other.0
