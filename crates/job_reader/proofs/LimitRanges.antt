-- Step limits are in range, and each colorant has one at most.
use Rattle.std.proofs.Common.{◌≡◌, ◌≢◌, ℕ, zero, suc, ◌≤◌, ◌<◌, Bool, true, false, cond, List, [], ◌∷◌, ◌++◌, get_or, Option, Some, None, Result, Ok, Err, refl, sym, ap, ◌∙◌, subst, arith, All}
use Rattle.std.specs.Prelude.{AllPairs, nat_le, length, slice_get, codes, map}
use Rattle.std.specs.Cmp.Lexicographic.{slice_cmp}
use Rattle.std.specs.Ordering.{nat_cmp}
use Rattle.std.specs.declared.cmp.Ordering.TheVariants.{Equal}
use Rattle.std.proofs.lemmas.Cmp.{nat_list_cmp_total, tied_itself}
use Rattle.std.proofs.lemmas.List.Elements.{All-nil, All-cons}
use Rattle.page_model.specs.declared.parts.Limit.{Limit}
use Rattle.page_model.specs.Conditions.{AreLimits}
use Rattle.ps_tokens.specs.declared.faults.FaultKind.{FaultKind}
use Rattle.ps_tokens.specs.declared.faults.FaultKind.TheVariants.{NotDictionary}
use Rattle.ps_tokens.specs.declared.parameters.Key.TheVariants.{StepLimit}
use Rattle.ps_tokens.specs.declared.entry_errors.EntryError.{EntryError}
use Rattle.ps_tokens.specs.declared.object.Body.{Body}
use Rattle.ps_tokens.specs.declared.object.Object.{Object}
use Rattle.ps_tokens.specs.Dictionaries.{IsBefore, last_of, last_keys_of, name_of}
use Rattle.ps_tokens.specs.EntryErrors.{unless}
use Rattle.ps_tokens.specs.Objects.{is_dict}
use Rattle.ps_tokens.specs.Values.{by_body}
use Rattle.ps_tokens.proofs.Judged.{Reads, value_at-reads, entry_at-reads}
use Rattle.job_parts.specs.Settings.{number_of}
use Rattle.job_parts.specs.Limits.{AscendByName, step_given, step_by, step_in, step_of, limit_if_short, limits_of, first_error, limits_in, limits_at, limits_after}
use Rattle.job_parts.proofs.Ascending.{limits-ascend}
use Rattle.job_reader.proofs.ParamRanges.{unless-is, number_of-within}
use Rattle.page_model.specs.Limits.{longest_name}

-- Steps.

-- a step in range, where there is one
abbrev StepIn : Option ℕ → Type 0
StepIn None = Unit {0}
StepIn (Some n) = n ≤ 10000

step_given-small : (r : Result ℕ FaultKind) → ((n : ℕ) → r ≡ Ok n → n ≤ 10000) → Reads StepIn (step_given r)
step_given-small (Ok n) small o is = let same : Some n ≡ o = cc in subst StepIn same (small n refl)
step_given-small (Err kind) small o is = absurd (cc)

step_by-small : (body : Body) → Reads StepIn (step_by body)
step_by-small body = step_given-small (number_of StepLimit body) (λ n is. (number_of-within StepLimit body n is).most)

step_of-small : (objects : List Object) (key : ℕ) → Reads StepIn (step_of objects key)
unfolding step_of
step_of-small objects key =
    entry_at-reads StepIn (λ dict at. step_in objects dict) objects None key
    (λ dict at. value_at-reads StepIn (by_body step_by) objects None (last_of objects dict (codes "StepLimit")) (λ place object. step_by-small object.body) tt) tt

-- One limit more.

all_kept : (P : Limit → Type 0) (name : List ℕ) (r : Result (Option ℕ) EntryError) (rest : List Limit) → ((n : ℕ) → r ≡ Ok (Some n) → P (record { name = name; step = n })) → All P rest → All P (limit_if_short name r ++ rest)
all_kept P name (Err error) rest first others = others
all_kept P name (Ok None) rest first others = others
all_kept P name (Ok (Some n)) rest first others =
    elim (nat_le (length name) longest_name) as (λ b. All P (cond b (record { name = name; step = n } ∷ []) [] ++ rest)) [
      | true ↦ All-cons P (record { name = name; step = n }) rest (first n refl) others
      | false ↦ others
    ]

limits_of-steps : (objects : List Object) (keys : List ℕ) → All (λ (l : Limit). l.step ≤ 10000) (limits_of objects keys)
limits_of-steps objects [] = All-nil (λ (l : Limit). l.step ≤ 10000)
limits_of-steps objects (key ∷ keys) =
    all_kept (λ (l : Limit). l.step ≤ 10000) (name_of (slice_get objects key)) (step_of objects key) (limits_of objects keys) (λ n is. step_of-small objects key (Some n) is) (limits_of-steps objects keys)

-- Names that ascend differ.

before-differs : (a b : List ℕ) → IsBefore a b → a ≢ b
before-differs a b lt same = let tied : slice_cmp nat_cmp a b ≡ Equal = ap (slice_cmp nat_cmp a) (sym same) ∙ tied_itself nat_list_cmp_total a in absurd (cc)

get-name : (limits : List Limit) (i : ℕ) (d : Limit) → get_or (map (λ (l : Limit). l.name) limits) i d.name ≡ (get_or limits i d).name
get-name [] i d = refl
get-name (l ∷ ls) zero d = refl
get-name (l ∷ ls) (suc i) d = get-name ls i d

length-names : (limits : List Limit) → length (map (λ (l : Limit). l.name) limits) ≡ length limits
length-names [] = refl
length-names (l ∷ ls) = ap (λ n. suc n) (length-names ls)

once-ascending : (limits : List Limit) → AscendByName limits → AllPairs (λ (a b : Limit). a.name ≢ b.name) limits
once-ascending limits ascend i j d lt within same =
    let below : j < length (map (λ (l : Limit). l.name) limits) = omega (arith, length-names limits) in
    before-differs _ _ (ascend i j d.name lt below) (get-name limits i d ∙ same ∙ sym (get-name limits j d))

last_keys-limits : (objects : List Object) (dict : ℕ) → AreLimits (limits_of objects (last_keys_of objects dict))
last_keys-limits objects dict = record { once = once-ascending (limits_of objects (last_keys_of objects dict)) (limits-ascend objects dict); steps = limits_of-steps objects (last_keys_of objects dict) }

no_limits : AreLimits []
no_limits = record { once = λ i j d lt within. absurd (omega arith); steps = All-nil (λ (l : Limit). l.step ≤ 10000) }

limits_if : (b : Bool) (objects : List Object) (place at : ℕ) (after : List Limit)
    → cond b (unless (first_error objects (last_keys_of objects place)) (limits_of objects (last_keys_of objects place))) (Err (record { kind = NotDictionary; at = at })) ≡ Ok after → AreLimits after
limits_if true objects place at after is =
    let P : List Limit → Type 0 = λ ls. AreLimits ls in
    subst P (unless-is (first_error objects (last_keys_of objects place)) (limits_of objects (last_keys_of objects place)) after is) (last_keys-limits objects place)
limits_if false objects place at after is = absurd (cc)

limits_in-limits : (objects : List Object) (place : ℕ) (o : Option Object) (after : List Limit) → limits_in objects place o ≡ Ok after → AreLimits after
limits_in-limits objects place None after is = let same : [] ≡ after = cc in subst (λ (ls : List Limit). AreLimits ls) same no_limits
limits_in-limits objects place (Some object) after is = limits_if (is_dict object.body) objects place object.at after is

limits_at-limits : (now : List Limit) (objects : List Object) (place : Option ℕ) (after : List Limit) → AreLimits now → limits_at now objects place ≡ Ok after → AreLimits after
limits_at-limits now objects None after here is = let same : now ≡ after = cc in subst (λ (ls : List Limit). AreLimits ls) same here
limits_at-limits now objects (Some place) after here is = limits_in-limits objects place (slice_get objects place) after is

-- the limits after a dictionary
pub limits_after-limits : (now : List Limit) (objects : List Object) (dict : ℕ) (after : List Limit) → AreLimits now → limits_after now objects dict ≡ Ok after → AreLimits after
limits_after-limits now objects dict after here is = limits_at-limits now objects (last_of objects dict (codes "ColorantZoneDetails")) after here is
