-- Where the statements are cut that a path and a zone are of.
use Rattle.std.proofs.Common.{◌≡◌, ℕ, suc, ◌+◌, Bool, true, false, cond, List, [], ◌∷◌, ◌++◌, map, length, All, Some, None, unwrap_or, refl, sym, ap, ap₂, arith, ◌∙◌, append_assoc, append-nil, count_by, zero-add}
use Rattle.std.specs.Prelude.{slice_get}
use Rattle.std.specs.Option.{option_or}
use Rattle.std.proofs.lemmas.List.Elements.{All-head, All-tail}
use Rattle.std.proofs.lemmas.List.Sums.{sum_by-cons}
use Rattle.page_model.specs.declared.parts.Zone.{Zone}
use Rattle.ps_tokens.specs.declared.object.Object.{Object}
use Rattle.job_reader.specs.declared.operators.Operator.{Operator}
use Rattle.job_reader.specs.Calls.{Statement}
use Rattle.job_reader.specs.InForce.{is_by}
use Rattle.job_laws.specs.Paths.{empties_path, after_last, since_emptied}
use Rattle.job_laws.specs.Zones.{is_settrapzone, before_each, zone_after, zones_in_force}

-- whether a statement is by one of these operators
abbrev stands : (Operator → Bool) → Statement → Bool
stands test s = is_by test s.call.operator

-- The last one.

none-suffix : (test : Operator → Bool) (ss : List Statement) → All (λ (s : Statement). is_by test s.call.operator ≡ false) ss → after_last test ss ≡ None
none-suffix test [] none = refl
none-suffix test (s ∷ ss) none =
    let Not : Statement → Type 0 = λ s. is_by test s.call.operator ≡ false in
    ap₂ (λ o b. option_or o (cond b (Some ss) None)) (none-suffix test ss (All-tail Not s ss none)) (All-head Not s ss none)

one-suffix : (test : Operator → Bool) (before later : List Statement) (last : Statement) → is_by test last.call.operator ≡ true → All (λ (s : Statement). is_by test s.call.operator ≡ false) later → after_last test (before ++ last ∷ later) ≡ Some later
one-suffix test [] later last is none = ap₂ (λ o b. option_or o (cond b (Some later) None)) (none-suffix test later none) is
one-suffix test (b ∷ bs) later last is none = ap (λ o. option_or o (cond (is_by test b.call.operator) (Some (bs ++ last ∷ later)) None)) (one-suffix test bs later last is none)

pub since-last : (before later : List Statement) (last : Statement) → is_by empties_path last.call.operator ≡ true → All (λ (s : Statement). is_by empties_path s.call.operator ≡ false) later → since_emptied (before ++ last ∷ later) ≡ later
since-last before later last is none = ap (λ o. unwrap_or o (before ++ last ∷ later)) (one-suffix empties_path before later last is none)

pub since-start : (earlier : List Statement) → All (λ (s : Statement). is_by empties_path s.call.operator ≡ false) earlier → since_emptied earlier ≡ earlier
since-start earlier none = ap (λ o. unwrap_or o earlier) (none-suffix empties_path earlier none)

-- Each one.

counted-cons : (test : Operator → Bool) (s : Statement) (ss : List Statement) → count_by (stands test) (s ∷ ss) ≡ cond (stands test s) 1 0 + count_by (stands test) ss
counted-cons test s ss = sum_by-cons (λ s. cond (stands test s) 1 0) s ss

past-one : (zone : List Statement → Zone) (b : Bool) (start : List Statement) (rest : List (List Statement)) (n : ℕ) → slice_get (map zone (cond b (start ∷ rest) rest)) (cond b 1 0 + n) ≡ slice_get (map zone rest) n
past-one zone true start rest n = let more : 1 + n ≡ suc n = omega arith in ap (slice_get (zone start ∷ map zone rest)) more
past-one zone false start rest n = ap (slice_get (map zone rest)) (zero-add n)

at-one : (zone : List Statement → Zone) (test : Operator → Bool) (start before later : List Statement) (s : Statement) → is_by test s.call.operator ≡ true
    → slice_get (map zone (before_each test start (before ++ s ∷ later))) (count_by (stands test) before) ≡ Some (zone (start ++ before))
at-one zone test start [] later s is =
    let rest = before_each test (start ++ s ∷ []) later in
    ap (λ b. slice_get (map zone (cond b (start ∷ rest) rest)) 0) is ∙ ap (λ l. Some (zone l)) (sym (append-nil start))
at-one zone test start (b ∷ bs) later s is =
    ap (slice_get (map zone (before_each test start (b ∷ bs ++ s ∷ later)))) (counted-cons test b bs)
    ∙ past-one zone (is_by test b.call.operator) start (before_each test (start ++ b ∷ []) (bs ++ s ∷ later)) (count_by (stands test) bs)
    ∙ at-one zone test (start ++ b ∷ []) bs later s is
    ∙ ap (λ l. Some (zone l)) (append_assoc start (b ∷ []) bs)

pub zone-at : (objects : List Object) (before later : List Statement) (s : Statement) → is_by is_settrapzone s.call.operator ≡ true
    → slice_get (zones_in_force objects (before ++ s ∷ later)) (count_by (λ (s : Statement). is_by is_settrapzone s.call.operator) before) ≡ Some (zone_after objects before)
zone-at objects before later s is = at-one (zone_after objects) is_settrapzone [] before later s is

chosen-length : (zone : List Statement → Zone) (b : Bool) (start : List Statement) (rest : List (List Statement)) (n : ℕ) → length (map zone rest) ≡ n → length (map zone (cond b (start ∷ rest) rest)) ≡ cond b 1 0 + n
chosen-length zone true start rest n is = omega (arith, is)
chosen-length zone false start rest n is = omega (arith, is)

each-counted : (zone : List Statement → Zone) (test : Operator → Bool) (start ss : List Statement) → length (map zone (before_each test start ss)) ≡ count_by (stands test) ss
each-counted zone test start [] = refl
each-counted zone test start (s ∷ ss) =
    chosen-length zone (is_by test s.call.operator) start (before_each test (start ++ s ∷ []) ss) (count_by (stands test) ss) (each-counted zone test (start ++ s ∷ []) ss)
    ∙ sym (counted-cons test s ss)

pub zones-counted : (objects : List Object) (earlier : List Statement) → length (zones_in_force objects earlier) ≡ count_by (λ (s : Statement). is_by is_settrapzone s.call.operator) earlier
zones-counted objects earlier = each-counted (zone_after objects) is_settrapzone [] earlier
