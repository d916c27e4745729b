-- The parameters stay in range, whatever a dictionary names.
use Rattle.std.proofs.Common.{◌≡◌, ℕ, ℤ, pos, negsuc, Bool, true, false, cond, List, Option, Some, None, Ok, Err, refl, subst, sym, arith}
use Rattle.std.specs.Prelude.{nat_le, ◌&&◌}
use Rattle.std.specs.Result.{result_unwrap_or}
use Rattle.std.proofs.lemmas.Bool.{and_parts}
use Rattle.std.proofs.lemmas.Bool.Decides.{nat_tests}
use Rattle.page_model.specs.declared.parts.TrapParams.{TrapParams}
use Rattle.page_model.specs.Parameters.{InRange}
use Rattle.ps_tokens.specs.declared.faults.FaultKind.TheVariants.{OutOfRange}
use Rattle.ps_tokens.specs.declared.parameters.Key.{Key}
use Rattle.ps_tokens.specs.declared.entry_errors.EntryError.{EntryError}
use Rattle.ps_tokens.specs.declared.object.Body.{Body}
use Rattle.ps_tokens.specs.declared.object.Body.TheVariants.{Number, Truth, Null, Text, Literal, Operator, Array, Dict}
use Rattle.ps_tokens.specs.declared.object.Object.{Object}
use Rattle.ps_tokens.specs.Dictionaries.{last_of}
use Rattle.ps_tokens.specs.EntryErrors.{unless}
use Rattle.ps_tokens.specs.Parameters.{name_of, least_of, most_of}
use Rattle.ps_tokens.specs.Values.{by_body, value_at}
use Rattle.ps_tokens.proofs.Judged.{value_at-reads, unwrap-reads}
use Rattle.job_parts.specs.Settings.{in_range, number_of, number_after}
use Rattle.job_parts.specs.Applied.{number_set, enabled_set, params_after, first_error_of, params_set}
use Rattle.job_parts.specs.Fields.{number_at, params_by}
use Rattle.job_parts.proofs.FieldLemmas.{IsWithin, number_at-by, number_at-within, in_range-from}

-- what is read unless there is a fault is that
pub unless-is : {X : Type 0} (m : Option EntryError) (x y : X) → unless m x ≡ Ok y → x ≡ y
unless-is None x y is = cc
unless-is (Some error) x y is = absurd (cc)

passed : (b : Bool) (key : Key) (m n : ℕ) → (nat_le (least_of key) m && nat_le m (most_of key)) ≡ b → cond b (Ok m) (Err (OutOfRange key)) ≡ Ok n → IsWithin key n
passed true key m n tests is =
    let same : m ≡ n = cc in
    let both = and_parts (nat_le (least_of key) m) (nat_le m (most_of key)) tests in
    let low : nat_le (least_of key) m ≡ true = both.0 in
    let high : nat_le m (most_of key) ≡ true = both.1 in
    record { least = grind (arith, nat_tests); most = grind (arith, nat_tests) }
passed false key m n tests is = absurd (cc)

in_range-within : (key : Key) (z : ℤ) (n : ℕ) → in_range key z ≡ Ok n → IsWithin key n
in_range-within key (pos m) n is = passed (nat_le (least_of key) m && nat_le m (most_of key)) key m n refl is
in_range-within key (negsuc m) n is = absurd (cc)

-- the number that a value sets
pub number_of-within : (key : Key) (body : Body) (n : ℕ) → number_of key body ≡ Ok n → IsWithin key n
number_of-within key (Number z) n is = in_range-within key z n is
number_of-within key (Truth b) n is = absurd (cc)
number_of-within key Null n is = absurd (cc)
number_of-within key Text n is = absurd (cc)
number_of-within key (Literal name) n is = absurd (cc)
number_of-within key (Operator name) n is = absurd (cc)
number_of-within key Array n is = absurd (cc)
number_of-within key Dict n is = absurd (cc)

number_after-within : (key : Key) (objects : List Object) (dict now : ℕ) → IsWithin key now → IsWithin key (result_unwrap_or (number_after objects dict key now) now)
unfolding number_after
number_after-within key objects dict now here =
    let P : ℕ → Type 0 = λ n. IsWithin key n in
    unwrap-reads P (value_at (by_body (number_of key)) objects now (last_of objects dict (name_of key))) now
    (value_at-reads P (by_body (number_of key)) objects now (last_of objects dict (name_of key)) (λ place object. number_of-within key object.body) here) here

params_set-in_range : (now : TrapParams) (objects : List Object) (dict : ℕ) → InRange now → InRange (params_set now objects dict)
params_set-in_range now objects dict here =
    let given : Key → ℕ = λ key. result_unwrap_or (number_set now objects dict key) (number_at key now) in
    let enabled = result_unwrap_or (enabled_set now objects dict) now.enabled in
    in_range-from (params_by given enabled) (λ key is.
    subst (IsWithin key) (sym (number_at-by given enabled key is))
    (number_after-within key objects dict (number_at key now) (number_at-within now here key is)))

-- the parameters after a dictionary
pub params_after-in_range : (now after : TrapParams) (objects : List Object) (dict : ℕ) → InRange now → params_after now objects dict ≡ Ok after → InRange after
params_after-in_range now after objects dict here is =
    let P : TrapParams → Type 0 = λ p. InRange p in
    subst P (unless-is (first_error_of now objects dict) (params_set now objects dict) after is) (params_set-in_range now objects dict here)
