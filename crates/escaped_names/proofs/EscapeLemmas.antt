-- Escaped names: they are apart, they are names of a job, and how long they are.
use Rattle.std.proofs.Common.{◌≡◌, ℕ, suc, ◌+◌, ◌/◌, ◌%◌, ◌<◌, ◌≤◌, Bool, true, false, eqb, leb, List, [], ◌∷◌, ◌++◌, length, take, drop, get_or, Some, None, cond, refl, sym, ap, subst, ◌∙◌, arith}
use Rattle.std.proofs.Math.Seq.{drop-cons}
use Rattle.std.proofs.lemmas.Bool.{agree_below_at, and_from, and_parts, cond-false, cond-true, false≢true, le-leb, lt-leb, ne_eqb, true≢false}
use Rattle.std.proofs.lemmas.Bool.Decides.{nat_tests}
use Rattle.std.proofs.lemmas.List.{length-append, take-append-drop}
use Rattle.std.proofs.lemmas.List.Concat.{flat_map-append}
use Rattle.std.proofs.lemmas.List.Folds.{list_all-append}
use Rattle.std.specs.List.{list_all}
use Rattle.plain_words.specs.Names.{is_name, is_name_byte}
use Rattle.escaped_names.specs.declared.escape.NameFault.TheVariants.{Empty, TooLong}
use Rattle.escaped_names.specs.Escapes.{escaped, escaped_byte, hex_digit, is_plain, name_fault}

hex_apart : (d e : ℕ) → hex_digit d ≡ hex_digit e → d ≡ e
hex_apart d e h = grind (arith, nat_tests)

digits_apart : (x y : ℕ) → hex_digit (x / 16) ≡ hex_digit (y / 16) → hex_digit (x % 16) ≡ hex_digit (y % 16) → x ≡ y
digits_apart x y high low =
    let q : x / 16 ≡ y / 16 = hex_apart (x / 16) (y / 16) high in
    let r : x % 16 ≡ y % 16 = hex_apart (x % 16) (y % 16) low in
    omega arith

-- a byte that stands for itself or not
abbrev piece : Bool → ℕ → List ℕ
piece plain x = cond plain (x ∷ []) (35 ∷ hex_digit (x / 16) ∷ hex_digit (x % 16) ∷ [])

not_hash : (x : ℕ) → is_plain x ≡ true → x ≡ 35 → ⊥
not_hash x plain e = false≢true (subst (λ (n : ℕ). is_plain n ≡ true) e plain)

first_apart : (p q : Bool) (x y : ℕ) (xs ys : List ℕ) → is_plain x ≡ p → is_plain y ≡ q → piece p x ++ xs ≡ piece q y ++ ys → (x ≡ y) × (xs ≡ ys)
first_apart true true x y xs ys px py e = ((cc), (cc))
first_apart true false x y xs ys px py e = absurd (not_hash x px (cc))
first_apart false true x y xs ys px py e = absurd (not_hash y py (cc))
first_apart false false x y xs ys px py e = (digits_apart x y (cc) (cc), (cc))

some_piece : (p : Bool) (x : ℕ) (xs : List ℕ) → [] ≡ piece p x ++ xs → ⊥
some_piece true x xs e = cc
some_piece false x xs e = cc

-- two names with one escaped form are one name
pub apart : (xs ys : List ℕ) → escaped xs ≡ escaped ys → xs ≡ ys
apart [] [] e = refl
apart [] (y ∷ ys) e = absurd (some_piece (is_plain y) y (escaped ys) e)
apart (x ∷ xs) [] e = absurd (some_piece (is_plain x) x (escaped xs) (sym e))
apart (x ∷ xs) (y ∷ ys) e =
    let h = first_apart (is_plain x) (is_plain y) x y (escaped xs) (escaped ys) refl refl e in
    let rest : xs ≡ ys = apart xs ys h.1 in
    cc h.0

-- a name of bytes that stand for themselves is its own escaped form
pub plain : (xs : List ℕ) → list_all is_plain xs ≡ true → escaped xs ≡ xs
plain [] e = refl
plain (x ∷ xs) e =
    let both = and_parts (is_plain x) (list_all is_plain xs) e in
    ap (λ (p : Bool). piece p x ++ escaped xs) both.0 ∙ ap (λ (ys : List ℕ). x ∷ ys) (plain xs both.1)

-- what stands before a byte, the byte itself and the rest
parts : (xs : List ℕ) (i : ℕ) → i < length xs → escaped xs ≡ escaped (take i xs) ++ (escaped_byte (get_or xs i 0) ++ escaped (drop (suc i) xs))
parts xs i l =
    ap escaped (sym (take-append-drop i xs)) ∙ (flat_map-append escaped_byte (take i xs) (drop i xs)
    ∙ ap (λ (ys : List ℕ). escaped (take i xs) ++ escaped ys) (drop-cons xs i 0 l))

longer : (xs : List ℕ) (i : ℕ) → i < length xs → length (escaped (take i xs)) + length (escaped_byte (get_or xs i 0)) ≤ length (escaped xs)
longer xs i l =
    let front = escaped (take i xs) in
    let here = escaped_byte (get_or xs i 0) in
    let back = escaped (drop (suc i) xs) in
    omega (arith, ap length (parts xs i l), length-append front (here ++ back), length-append here back)

-- a name that grows beyond its limit at byte i is too long
pub too_long : (xs have : List ℕ) (i b : ℕ) → i < length xs → b ≡ get_or xs i 0 → have ≡ escaped (take i xs) → (length have + length (escaped_byte b) ≤ 64 → ⊥) → name_fault xs ≡ Some TooLong
too_long xs have i b l is h full =
    let bytes : length (escaped_byte b) ≡ length (escaped_byte (get_or xs i 0)) = ap (λ (x : ℕ). length (escaped_byte x)) is in
    let long : 64 < length (escaped xs) = omega (arith, longer xs i l, ap length h) in
    cond-false (eqb (length xs) 0) (Some Empty) (cond (leb (length (escaped xs)) 64) None (Some TooLong)) (ne_eqb (length xs) 0 (λ e. omega (arith, e)))
    ∙ cond-false (leb (length (escaped xs)) 64) None (Some TooLong) (lt-leb (length (escaped xs)) 64 long)

pub fits : (xs : List ℕ) → 0 < length xs → length (escaped xs) ≤ 64 → name_fault xs ≡ None
fits xs some short =
    cond-false (eqb (length xs) 0) (Some Empty) (cond (leb (length (escaped xs)) 64) None (Some TooLong)) (ne_eqb (length xs) 0 (λ e. omega (arith, e)))
    ∙ cond-true (leb (length (escaped xs)) 64) None (Some TooLong) (le-leb (length (escaped xs)) 64 short)

fits_if : (none long : Bool) → cond none (Some Empty) (cond long None (Some TooLong)) ≡ None → (none ≡ false) × (long ≡ true)
fits_if true long e = cc
fits_if false true e = (refl, refl)
fits_if false false e = cc

digit_byte : (d : ℕ) → d < 16 → is_name_byte (hex_digit d) ≡ true
digit_byte d l = agree_below_at (λ (n : ℕ). is_name_byte (hex_digit n)) (λ (n : ℕ). true) 16 d refl l

piece_bytes : (p : Bool) (x : ℕ) → is_plain x ≡ p → x < 256 → list_all is_name_byte (piece p x) ≡ true
piece_bytes true x e l = and_from (is_name_byte x) true (and_parts (is_name_byte x) _ e).0 refl
piece_bytes false x e l =
    let high = digit_byte (x / 16) (omega arith) in
    let low = digit_byte (x % 16) (omega arith) in
    and_from (is_name_byte (hex_digit (x / 16))) (list_all is_name_byte (hex_digit (x % 16) ∷ [])) high (and_from (is_name_byte (hex_digit (x % 16))) true low refl)

-- each number fits a byte
abbrev pub AreBytes : List ℕ → Type 0
AreBytes xs = (k : ℕ) → k < length xs → get_or xs k 0 < 256

rest_bytes : (x : ℕ) (xs : List ℕ) → AreBytes (x ∷ xs) → AreBytes xs
rest_bytes x xs all = λ k l. all (suc k) (omega arith)

name_bytes : (xs : List ℕ) → AreBytes xs → list_all is_name_byte (escaped xs) ≡ true
name_bytes [] all = refl
name_bytes (x ∷ xs) all =
    list_all-append is_name_byte (escaped_byte x) (escaped xs)
    ∙ and_from (list_all is_name_byte (escaped_byte x)) (list_all is_name_byte (escaped xs)) (piece_bytes (is_plain x) x refl (all 0 (omega arith))) (name_bytes xs (rest_bytes x xs all))

some_bytes : (p : Bool) (x : ℕ) (xs : List ℕ) → 1 ≤ length (piece p x ++ xs)
some_bytes true x xs = omega arith
some_bytes false x xs = omega arith

some_escaped : (xs : List ℕ) → (eqb (length xs) 0 ≡ false) → 1 ≤ length (escaped xs)
some_escaped [] e = absurd (true≢false e)
some_escaped (x ∷ xs) e = some_bytes (is_plain x) x (escaped xs)

-- an escaped name is one of a job
pub is_job_name : (xs : List ℕ) → AreBytes xs → name_fault xs ≡ None → is_name (escaped xs) ≡ true
is_job_name xs all none =
    let h = fits_if (eqb (length xs) 0) (leb (length (escaped xs)) 64) none in
    and_from _ _ (and_from _ _ (le-leb 1 (length (escaped xs)) (some_escaped xs h.0)) h.1) (name_bytes xs all)
