-- What holds of no inks and of those of any ColorantDetails dictionary holds of those of trapping details.
use Rattle.std.proofs.Common.{◌≡◌, ℕ, Bool, true, false, cond, List, [], Option, Some, None, Result, Ok, Err, subst}
use Rattle.std.specs.Prelude.{slice_get, codes}
use Rattle.page_model.specs.declared.parts.Ink.{Ink}
use Rattle.ps_tokens.specs.declared.faults.FaultKind.TheVariants.{NotDictionary}
use Rattle.ps_tokens.specs.declared.entry_errors.EntryError.{EntryError}
use Rattle.ps_tokens.specs.declared.object.Object.{Object}
use Rattle.ps_tokens.specs.Dictionaries.{last_of, last_keys_of}
use Rattle.ps_tokens.specs.EntryErrors.{at_place}
use Rattle.ps_tokens.specs.Objects.{is_dict}
use Rattle.job_parts.specs.Colorants.{inks_of, first_error, inks_unless, colorants_in, colorants_at}
use Rattle.job_parts.specs.Details.{type_of, details_from, details_in, details_of}

no_inks : (P : List Ink → Type 0) (inks : List Ink) → P [] → [] ≡ inks → P inks
no_inks P inks none same = subst P same none

unless-inks : (P : List Ink → Type 0) (place : ℕ) (o : Option EntryError) (all inks : List Ink) → P all → inks_unless place o all ≡ Ok inks → P inks
unless-inks P place None all inks are is = let same : all ≡ inks = cc in subst P same are
unless-inks P place (Some error) all inks are is = absurd (cc)

colorants_if : (P : List Ink → Type 0) (b : Bool) (objects : List Object) (place at : ℕ) (inks : List Ink) → P (inks_of objects (last_keys_of objects place))
    → cond b (inks_unless place (first_error objects (last_keys_of objects place)) (inks_of objects (last_keys_of objects place))) (at_place place at (Err NotDictionary)) ≡ Ok inks → P inks
colorants_if P true objects place at inks are is = unless-inks P place (first_error objects (last_keys_of objects place)) (inks_of objects (last_keys_of objects place)) inks are is
colorants_if P false objects place at inks are is = absurd (cc)

colorants_in-inks : (P : List Ink → Type 0) (objects : List Object) (place : ℕ) (o : Option Object) (inks : List Ink) → P [] → P (inks_of objects (last_keys_of objects place)) → colorants_in objects place o ≡ Ok inks → P inks
colorants_in-inks P objects place None inks none are is = no_inks P inks none (cc)
colorants_in-inks P objects place (Some object) inks none are is = colorants_if P (is_dict object.body) objects place object.at inks are is

pub colorants_at-inks : (P : List Ink → Type 0) (objects : List Object) (place : Option ℕ) (inks : List Ink) → P [] → ((dict : ℕ) → P (inks_of objects (last_keys_of objects dict))) → colorants_at objects place ≡ Ok inks → P inks
colorants_at-inks P objects None inks none are is = no_inks P inks none (cc)
colorants_at-inks P objects (Some place) inks none are is = colorants_in-inks P objects place (slice_get objects place) inks none (are place) is

pub details_from-inks : (P : List Ink → Type 0) (at : ℕ) (typed : Result Bool EntryError) (all : Result (List Ink) EntryError) (inks : List Ink) → ((l : List Ink) → all ≡ Ok l → P l) → details_from at typed all ≡ Ok inks → P inks
details_from-inks P at (Ok true) (Ok all) inks are is = are inks (cc)
details_from-inks P at (Ok false) (Ok all) inks are is = absurd (cc)
details_from-inks P at (Ok true) (Err error) inks are is = absurd (cc)
details_from-inks P at (Ok false) (Err error) inks are is = absurd (cc)
details_from-inks P at (Err error) (Ok all) inks are is = absurd (cc)
details_from-inks P at (Err first) (Err second) inks are is = absurd (cc)

details_if : (P : List Ink → Type 0) (b : Bool) (objects : List Object) (place at : ℕ) (inks : List Ink) → P [] → ((dict : ℕ) → P (inks_of objects (last_keys_of objects dict)))
    → cond b (details_from at (type_of objects place) (colorants_at objects (last_of objects place (codes "ColorantDetails")))) (Err (record { kind = NotDictionary; at = at })) ≡ Ok inks → P inks
details_if P true objects place at inks none are is =
    let value = last_of objects place (codes "ColorantDetails") in
    details_from-inks P at (type_of objects place) (colorants_at objects value) inks (λ l. colorants_at-inks P objects value l none are) is
details_if P false objects place at inks none are is = absurd (cc)

details_in-inks : (P : List Ink → Type 0) (objects : List Object) (place : ℕ) (o : Option Object) (inks : List Ink) → P [] → ((dict : ℕ) → P (inks_of objects (last_keys_of objects dict))) → details_in objects place o ≡ Ok inks → P inks
details_in-inks P objects place None inks none are is = no_inks P inks none (cc)
details_in-inks P objects place (Some object) inks none are is = details_if P (is_dict object.body) objects place object.at inks none are is

-- the inks of a value
pub details_of-inks : (P : List Ink → Type 0) (objects : List Object) (place : ℕ) (inks : List Ink) → P [] → ((dict : ℕ) → P (inks_of objects (last_keys_of objects dict))) → details_of objects place ≡ Ok inks → P inks
details_of-inks P objects place inks none are is = details_in-inks P objects place (slice_get objects place) inks none are is
