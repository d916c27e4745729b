-- A string ends where what stands in it is balanced.
use Rattle.std.proofs.Common.{◌≡◌, ℕ, zero, suc, ◌+◌, ◌-◌, Bool, true, false, eqb, ◌||◌, List, [], ◌∷◌, ◌++◌, length, Some, refl, sym, ap, ◌∙◌, subst, ⊎_elim, arith, append_assoc, length-append, add-one, add-zero}
use Rattle.std.proofs.lemmas.Bool.{or_parts, or_from, cases_Bool, eqb-true, eq-eqb, ne_eqb}
use Rattle.std.proofs.lemmas.Option.{same_Some}
use Rattle.ps_tokens.specs.Texts.{text_end}
use Rattle.ps_tokens.specs.Balance.{IsBalanced, nothing, plain, escaped, nested, is_special, ClosesText, Closes}

-- what is inside one more parenthesis
text_end-closing : (depth at : ℕ) (bytes : List ℕ) → text_end false (depth + 1) at (41 ∷ bytes) ≡ text_end false depth (at + 1) bytes
text_end-closing depth at bytes =
    let more : eqb (depth + 1) 0 ≡ false = ne_eqb (depth + 1) 0 (λ e. omega arith) in
    let one_less : depth + 1 - 1 ≡ depth = omega arith in
    rw more (ap (λ d. text_end false d (at + 1) bytes) one_less)

-- balanced bytes leave as many parentheses open as there were
pub text_end-balanced : {inner : List ℕ} → IsBalanced inner → (depth at : ℕ) (after : List ℕ) → text_end false depth at (inner ++ after) ≡ text_end false depth (at + length inner) after
text_end-balanced nothing depth at after = ap (λ p. text_end false depth p after) (sym (add-zero at))
text_end-balanced (plain b rest ordinary balanced) depth at after =
    let tests = or_parts (eqb b 92 || eqb b 40) (eqb b 41) ordinary in
    let both = or_parts (eqb b 92) (eqb b 40) tests.0 in
    let e : at + 1 + length rest ≡ at + suc (length rest) = omega arith in
    rw (both.0, both.1, tests.1) (text_end-balanced balanced depth (at + 1) after ∙ ap (λ p. text_end false depth p after) e)
text_end-balanced (escaped b c rest is balanced) depth at after =
    let e : at + 1 + 1 + length rest ≡ at + suc (suc (length rest)) = omega arith in
    let test : eqb b 92 ≡ true = eq-eqb b 92 is in
    rw test (text_end-balanced balanced depth (at + 1 + 1) after ∙ ap (λ p. text_end false depth p after) e)
text_end-balanced (nested inner rest bytes in_it suffix is) depth at after =
    let P : List ℕ → Type 0 = λ bs. text_end false depth at (bs ++ after) ≡ text_end false depth (at + length bs) after in
    let e : at + 1 + length inner + 1 + length rest ≡ at + suc (length (inner ++ 41 ∷ rest)) = omega (arith, length-append inner (41 ∷ rest)) in
    subst P (sym is)
    (ap (text_end false (depth + 1) (at + 1)) (append_assoc inner (41 ∷ rest) after)
    ∙ text_end-balanced in_it (depth + 1) (at + 1) (41 ∷ (rest ++ after))
    ∙ text_end-closing depth (at + 1 + length inner) (rest ++ after)
    ∙ text_end-balanced suffix depth (at + 1 + length inner + 1) after
    ∙ ap (λ p. text_end false depth p after) e)

-- a string that is balanced up to its closing parenthesis ends there
pub balanced_text : (inner after : List ℕ) → IsBalanced inner → text_end false 0 1 (inner ++ 41 ∷ after) ≡ Some (length inner + 2)
balanced_text inner after balanced =
    let e : 1 + length inner + 1 ≡ length inner + 2 = omega arith in
    text_end-balanced balanced 0 1 (41 ∷ after) ∙ ap (λ n. Some n) e

-- bytes that close so many parentheses more than they open, the last of them with the last byte
abbrev IsClosing : ℕ → List ℕ → Type 0
IsClosing zero prefix = ClosesText prefix
IsClosing (suc depth) prefix = (inner : List ℕ) × (rest : List ℕ) × IsBalanced inner × IsClosing depth rest × (prefix ≡ inner ++ 41 ∷ rest)

-- a prefix of the bytes is such, and ends at n
record Ends (depth at n : ℕ) (bytes : List ℕ) : Type 0 where
  prefix : List ℕ
  after : List ℕ
  whole : bytes ≡ prefix ++ after
  place : n ≡ at + length prefix
  closes : IsClosing depth prefix

closing-prefix : (depth : ℕ) (prefix : List ℕ) (add : List ℕ → List ℕ) → ((xs ys : List ℕ) → add (xs ++ ys) ≡ add xs ++ ys) → ((xs : List ℕ) → IsBalanced xs → IsBalanced (add xs)) → IsClosing depth prefix → IsClosing depth (add prefix)
closing-prefix zero prefix add through keeps c = (add c.0, keeps c.0 c.1, ap add c.2 ∙ through c.0 (41 ∷ []))
closing-prefix (suc depth) prefix add through keeps c = (add c.0, c.1, keeps c.0 c.2, c.3, ap add c.4 ∙ through c.0 (41 ∷ c.1))

closing-nested : (depth : ℕ) (prefix : List ℕ) → IsClosing (suc depth) prefix → IsClosing depth (40 ∷ prefix)
closing-nested zero prefix c =
    let d = c.3 in (
      40 ∷ (c.0 ++ 41 ∷ d.0),
      nested c.0 d.0 (40 ∷ (c.0 ++ 41 ∷ d.0)) c.2 d.1 refl,
      ap (λ xs. 40 ∷ xs) (c.4 ∙ ap (λ r. c.0 ++ 41 ∷ r) d.2 ∙ sym (append_assoc c.0 (41 ∷ d.0) (41 ∷ []))),
    )
closing-nested (suc depth) prefix c =
    let d = c.3 in (
      40 ∷ (c.0 ++ 41 ∷ d.0),
      d.1,
      nested c.0 d.0 (40 ∷ (c.0 ++ 41 ∷ d.0)) c.2 d.2 refl,
      d.3,
      ap (λ xs. 40 ∷ xs) (c.4 ∙ ap (λ r. c.0 ++ 41 ∷ r) d.4 ∙ sym (append_assoc c.0 (41 ∷ d.0) (41 ∷ d.1))),
    )

ends-more : (depth at n : ℕ) (b : ℕ) (bytes : List ℕ) (e : Ends depth (at + 1) n bytes) (new : ℕ) → IsClosing new (b ∷ e.prefix) → Ends new at n (b ∷ bytes)
ends-more depth at n b bytes e new closes = record {
  prefix = b ∷ e.prefix;
  after = e.after;
  whole = ap (λ xs. b ∷ xs) e.whole;
  place = omega (arith, e.place);
  closes = closes;
}

-- the same after a backslash, which takes the first byte with it
abbrev EndsIf : Bool → ℕ → ℕ → ℕ → List ℕ → Type 0
EndsIf false depth at n bytes = Ends depth at n bytes
EndsIf true depth at n bytes = (c : ℕ) × (rest : List ℕ) × (bytes ≡ c ∷ rest) × Ends depth (at + 1) n rest

ends-escaped : (depth at n b : ℕ) (bytes : List ℕ) → b ≡ 92 → EndsIf true depth (at + 1) n bytes → Ends depth at n (b ∷ bytes)
ends-escaped depth at n b bytes is r =
    let e = r.3 in
    record {
      prefix = b ∷ r.0 ∷ e.prefix;
      after = e.after;
      whole = ap (λ xs. b ∷ xs) (r.2 ∙ ap (λ xs. r.0 ∷ xs) e.whole);
      place = omega (arith, e.place);
      closes = closing-prefix depth e.prefix (λ xs. b ∷ r.0 ∷ xs) (λ _ _. refl) (λ xs h. escaped b r.0 xs is h) e.closes;
    }

ends-nested : (depth at n b : ℕ) (bytes : List ℕ) → b ≡ 40 → Ends (depth + 1) (at + 1) n bytes → Ends depth at n (b ∷ bytes)
ends-nested depth at n b bytes is e =
    let more : IsClosing (suc depth) e.prefix = subst (λ d. IsClosing d e.prefix) (add-one depth) e.closes in
    ends-more (depth + 1) at n b bytes e depth (subst (λ x. IsClosing depth (x ∷ e.prefix)) (sym is) (closing-nested depth e.prefix more))

ends-plain : (depth at n b : ℕ) (bytes : List ℕ) → is_special b ≡ false → Ends depth (at + 1) n bytes → Ends depth at n (b ∷ bytes)
ends-plain depth at n b bytes is e = ends-more depth at n b bytes e depth (closing-prefix depth e.prefix (λ xs. b ∷ xs) (λ _ _. refl) (λ xs h. plain b xs is h) e.closes)

ends-here : (at n b : ℕ) (bytes : List ℕ) → b ≡ 41 → n ≡ at + 1 → Ends 0 at n (b ∷ bytes)
ends-here at n b bytes is place = record {
  prefix = b ∷ [];
  after = bytes;
  whole = refl;
  place = place;
  closes = ([], nothing, ap (λ x. x ∷ []) is);
}

ends-closing : (depth at n b : ℕ) (bytes : List ℕ) → b ≡ 41 → Ends depth (at + 1) n bytes → Ends (suc depth) at n (b ∷ bytes)
ends-closing depth at n b bytes is e = ends-more depth at n b bytes e (suc depth) ([], e.prefix, nothing, e.closes, ap (λ x. x ∷ e.prefix) is)

closed_at : (depth at n b : ℕ) (bytes : List ℕ) → b ≡ 41 → text_end false depth at (b ∷ bytes) ≡ Some n → ((d : ℕ) → text_end false d (at + 1) bytes ≡ Some n → Ends d (at + 1) n bytes) → Ends depth at n (b ∷ bytes)
closed_at zero at n b bytes is e rest = ends-here at n b bytes is (sym (same_Some (at + 1) n (ap (λ x. text_end false 0 at (x ∷ bytes)) (sym is) ∙ e)))
closed_at (suc d) at n b bytes is e rest =
    ends-closing d at n b bytes is
    (rest d (sym (text_end-closing d at bytes) ∙ ap (λ k. text_end false k at (41 ∷ bytes)) (add-one d) ∙ ap (λ x. text_end false (suc d) at (x ∷ bytes)) (sym is) ∙ e))

text_ends : (suffix : Bool) (depth at n : ℕ) (bytes : List ℕ) → text_end suffix depth at bytes ≡ Some n → EndsIf suffix depth at n bytes
text_ends false depth at n [] is = cc
text_ends true depth at n [] is = cc
text_ends true depth at n (c ∷ bytes) is = (c, bytes, refl, text_ends false depth (at + 1) n bytes is)
text_ends false depth at n (b ∷ bytes) is =
    ⊎_elim
    (λ (t : eqb b 92 ≡ true). ends-escaped depth at n b bytes (eqb-true b 92 t) (text_ends true depth (at + 1) n bytes (rw t at is)))
    (λ (f : eqb b 92 ≡ false).
    ⊎_elim
    (λ (t : eqb b 40 ≡ true). ends-nested depth at n b bytes (eqb-true b 40 t) (text_ends false (depth + 1) (at + 1) n bytes (rw (f, t) at is)))
    (λ (g : eqb b 40 ≡ false).
    ⊎_elim
    (λ (t : eqb b 41 ≡ true). closed_at depth at n b bytes (eqb-true b 41 t) is (λ d e. text_ends false d (at + 1) n bytes e))
    (λ (h : eqb b 41 ≡ false). ends-plain depth at n b bytes (or_from (eqb b 92 || eqb b 40) (eqb b 41) (or_from (eqb b 92) (eqb b 40) f g) h) (text_ends false depth (at + 1) n bytes (rw (f, g, h) at is)))
    (cases_Bool (eqb b 41)))
    (cases_Bool (eqb b 40)))
    (cases_Bool (eqb b 92))

-- where a string ends, what stands in it is balanced
pub text_balanced : (bytes : List ℕ) (n : ℕ) → text_end false 0 1 bytes ≡ Some n → Closes bytes n
text_balanced bytes n is =
    let e = text_ends false 0 1 n bytes is in
    let c = e.closes in (
      c.0,
      e.after,
      c.1,
      e.whole ∙ ap (λ xs. xs ++ e.after) c.2 ∙ append_assoc c.0 (41 ∷ []) e.after,
      omega (arith, e.place, ap length c.2, length-append c.0 (41 ∷ [])),
    )
