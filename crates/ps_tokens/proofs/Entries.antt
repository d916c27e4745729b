-- The entries of a dictionary, one after the other.
use Rattle.std.proofs.Common.{◌≡◌, ℕ, zero, suc, ◌+◌, ◌-◌, ◌<◌, ◌≤◌, List, [], ◌∷◌, true, false, cond, length, drop, Result, Ok, Err, refl, sym, ap, ◌∙◌, ⊎_elim, arith, add-zero, length-drop}
use Rattle.std.proofs.lemmas.Bool.{cases_lt}
use Rattle.std.specs.Prelude.{slice_get}
use Rattle.ps_tokens.specs.declared.faults.JobFault.{JobFault}
use Rattle.ps_tokens.specs.declared.token.Token.{Token}
use Rattle.ps_tokens.specs.declared.brackets.Bracket.{Bracket}
use Rattle.ps_tokens.specs.declared.object.Object.{Object}
use Rattle.ps_tokens.specs.Brackets.{brackets_after}
use Rattle.ps_tokens.specs.Objects.{is_closing, objects_in, object_of, unless_open}
use Rattle.ps_tokens.specs.Limits.{longest_job}
use Rattle.ps_tokens.specs.Dictionaries.{AreObjects, inside_of, keys_from}
use Rattle.ps_tokens.proofs.Counting.{length-tokens}

-- the objects of the entry before are passed over
pub keys_from-before : (place n : ℕ) (objects : List Object) → keys_from place n objects ≡ keys_from (place + n) 0 (drop n objects)
keys_from-before place zero [] = refl
keys_from-before place (suc n) [] = refl
keys_from-before place zero (o ∷ os) = ap (λ p. keys_from p 0 (o ∷ os)) (sym (add-zero place))
keys_from-before place (suc n) (o ∷ os) =
    let e : place + 1 + n ≡ place + suc n = omega arith in
    keys_from-before (place + 1) n os ∙ ap (λ p. keys_from p 0 (drop n os)) e

-- nothing is left, whatever its place
pub keys_from-end : (place : ℕ) (objects : List Object) → length objects ≡ 0 → keys_from place 0 objects ≡ []
keys_from-end place [] none = refl
keys_from-end place (o ∷ os) none = absurd (omega arith)

-- a key, and then the entries after its own; the place of these is told by how many objects are left
pub keys_from-entry : (end : ℕ) (rest suffix : List Object) → 0 < length rest → length rest ≤ end → suffix ≡ drop (2 + inside_of (slice_get rest 1)) rest
    → keys_from (end - length rest) 0 rest ≡ (end - length rest) ∷ keys_from (end - length suffix) 0 suffix
keys_from-entry end [] suffix some fits is = absurd (omega arith)
keys_from-entry end (key ∷ os) suffix some fits is =
    let n = 1 + inside_of (slice_get os 0) in
    let two : 2 + inside_of (slice_get os 0) ≡ suc n = omega arith in
    let rest : suffix ≡ drop n os = is ∙ ap (λ k. drop k (key ∷ os)) two in
    let left : length suffix ≡ length os - n = ap length rest ∙ length-drop n os in
    ap (λ ks. (end - suc (length os)) ∷ ks)
    (keys_from-before (end - suc (length os) + 1) n os
    ∙ ap (keys_from (end - suc (length os) + 1 + n) 0) (sym rest)
    ∙ ⊎_elim
    (λ lt. let e : end - suc (length os) + 1 + n ≡ end - length suffix = omega arith in ap (λ p. keys_from p 0 suffix) e)
    (λ le. let none : length suffix ≡ 0 = omega arith in keys_from-end _ suffix none ∙ sym (keys_from-end _ suffix none))
    (cases_lt n (length os)))

objects_in-length : (bytes : List ℕ) (tokens : List Token) → length (objects_in bytes tokens) ≤ length tokens
objects_in-length bytes [] = omega arith
objects_in-length bytes (token ∷ tokens) =
    elim (is_closing token.kind) as (λ b. length (cond b (objects_in bytes tokens) (object_of bytes token tokens ∷ objects_in bytes tokens)) ≤ suc (length tokens)) [
      | true ↦ let h = objects_in-length bytes tokens in omega arith
      | false ↦ let h = objects_in-length bytes tokens in omega arith
    ]

unless_open-length : (bytes : List ℕ) (tokens : List Token) (after : Result (List Bracket) JobFault) (objects : List Object) → unless_open bytes tokens after ≡ Ok objects → length objects ≤ length tokens
unless_open-length bytes tokens (Ok []) objects is = let e : objects_in bytes tokens ≡ objects = cc in omega (arith, ap length e, objects_in-length bytes tokens)
unless_open-length bytes tokens (Ok (b ∷ bs)) objects is = cc
unless_open-length bytes tokens (Err fault) objects is = cc

-- a job has at most as many objects as bytes
pub length-objects : (objects : List Object) → AreObjects objects → length objects ≤ longest_job
length-objects objects are =
    omega (arith, unless_open-length are.bytes are.tokens (brackets_after are.bytes are.tokens) objects are.written, length-tokens are.bytes are.tokens are.spelled, are.size)
