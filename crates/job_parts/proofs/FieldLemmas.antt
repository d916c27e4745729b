-- The table of trapping parameters read by its keys: what holds of each key holds of each field.
use Rattle.std.proofs.Common.{◌≡◌, ℕ, ◌≤◌, Bool, true, List, [], ◌∷◌, All, refl, subst, sym, arith}
use Rattle.page_model.specs.declared.parts.TrapParams.{TrapParams}
use Rattle.page_model.specs.Parameters.{InRange}
use Rattle.ps_tokens.specs.declared.parameters.Key.{Key}
use Rattle.ps_tokens.specs.Parameters.{least_of, most_of}
use Rattle.job_parts.specs.Fields.{number_keys, number_at, params_by, is_number}

-- each number is among the keys
pub each_number : (P : Key → Type 0) → All P number_keys → (key : Key) → is_number key ≡ true → P key
each_number P all key is = grind (arith, all)

-- a number of parameters that are given by their keys
pub number_at-by : (f : Key → ℕ) (enabled : Bool) (key : Key) → is_number key ≡ true → number_at key (params_by f enabled) ≡ f key
number_at-by f enabled key is = grind arith

-- two functions of the keys that agree on each number
abbrev pub Agree : (Key → ℕ) → (Key → ℕ) → Type 0
Agree f g = (key : Key) → is_number key ≡ true → f key ≡ g key

-- they give the same parameters
pub params_by-same : (f g : Key → ℕ) (a b : Bool) → Agree f g → a ≡ b → params_by f a ≡ params_by g b
params_by-same f g a b agree same = grind (arith, agree)

-- parameters are given by their own numbers
pub params_by-own : (params : TrapParams) → params_by (λ key. number_at key params) params.enabled ≡ params
params_by-own params = refl

-- a number from the least to the greatest that a parameter may be
pub record IsWithin (key : Key) (n : ℕ) : Type 0 where
  pub least : least_of key ≤ n
  pub most : n ≤ most_of key

-- parameters in range have each number within
pub number_at-within : (params : TrapParams) → InRange params → (key : Key) → is_number key ≡ true → IsWithin key (number_at key params)
number_at-within params here key is = grind arith

-- what holds of each key of a list
abbrev Each : (Key → Type 0) → List Key → Type 0
Each P [] = Unit
Each P (key ∷ keys) = P key × Each P keys

each-of : (P : Key → Type 0) → ((key : Key) → is_number key ≡ true → P key) → (keys : List Key) → Each (λ key. is_number key ≡ true) keys → Each P keys
each-of P each [] numbers = tt
each-of P each (key ∷ keys) numbers = (each key numbers.0, each-of P each keys numbers.1)

-- and parameters with each number within are in range
pub in_range-from : (params : TrapParams) → ((key : Key) → is_number key ≡ true → IsWithin key (number_at key params)) → InRange params
in_range-from params each =
    let numbers : Each (λ key. is_number key ≡ true) number_keys = grind arith in
    let all : Each (λ key. IsWithin key (number_at key params)) number_keys =
    each-of (λ key. IsWithin key (number_at key params)) each number_keys numbers in
    grind (arith, all)

-- so are those of a zone that is switched on or off
pub switched-in_range : (params : TrapParams) (enabled : Bool) → InRange params → InRange (record params { enabled = enabled })
switched-in_range params enabled here =
    let f : Key → ℕ = λ key. number_at key params in
    in_range-from (record params { enabled = enabled })
    (λ key is. subst (IsWithin key) (sym (number_at-by f enabled key is)) (number_at-within params here key is))
