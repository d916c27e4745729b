-- The limits of a dictionary stand in ascending order of their names, each once.
use Rattle.std.proofs.Common.{◌≡◌, inl, inr, ℕ, true, false, cond, List, [], ◌∷◌, length, Option, Some, None, Result, Ok, Err, refl, subst}
use Rattle.std.specs.Prelude.{nat_le, slice_get}
use Rattle.page_model.specs.declared.parts.Limit.{Limit}
use Rattle.ps_tokens.specs.declared.entry_errors.EntryError.{EntryError}
use Rattle.ps_tokens.specs.declared.object.Object.{Object}
use Rattle.ps_tokens.specs.Dictionaries.{last_keys_of, name_of}
use Rattle.ps_tokens.specs.EntryErrors.{unless}
use Rattle.ps_tokens.proofs.Ascending.{GivesOne, ascend-given}
use Rattle.job_parts.specs.Limits.{AscendByName, limit_if_short, limits_of, step_of}
use Rattle.page_model.specs.Limits.{longest_name}

one-limit : (name : List ℕ) (r : Result (Option ℕ) EntryError) → GivesOne (λ (l : Limit). l.name) name (limit_if_short name r)
one-limit name (Err error) = inl refl
one-limit name (Ok None) = inl refl
one-limit name (Ok (Some n)) =
    let limit : Limit = record { name = name; step = n } in
    elim (nat_le (length name) longest_name) as (λ b. GivesOne (λ (l : Limit). l.name) name (cond b (limit ∷ []) [])) [ true ↦ inr (limit, refl, refl) | false ↦ inl refl ]

pub limits-ascend : (objects : List Object) (place : ℕ) → AscendByName (limits_of objects (last_keys_of objects place))
limits-ascend objects place =
    ascend-given objects place (λ (l : Limit). l.name) (λ key. limit_if_short (name_of (slice_get objects key)) (step_of objects key)) (λ key. one-limit (name_of (slice_get objects key)) (step_of objects key))

pub unless-ascend : (m : Option EntryError) (limits after : List Limit) → AscendByName limits → unless m limits ≡ Ok after → AscendByName after
unless-ascend None limits after ascend is = let same : limits ≡ after = cc in subst (λ (ls : List Limit). AscendByName ls) same ascend
unless-ascend (Some error) limits after ascend is = absurd (cc)
