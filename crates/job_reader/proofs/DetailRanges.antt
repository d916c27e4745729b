-- The inks that a value of TrappingDetails names are in range.
use Rattle.std.proofs.Common.{◌≡◌, ℕ, ℤ, pos, negsuc, ◌≤◌, Bool, true, false, cond, List, [], ◌∷◌, ◌++◌, Option, Some, None, Result, Ok, Err, refl, subst, arith, All}
use Rattle.std.specs.Prelude.{nat_le, ◌&&◌, slice_get, codes}
use Rattle.std.proofs.lemmas.Bool.{and_parts}
use Rattle.std.proofs.lemmas.Bool.Decides.{nat_tests}
use Rattle.std.proofs.lemmas.List.Elements.{All-nil, All-cons}
use Rattle.page_model.specs.declared.parts.Ink.{Ink}
use Rattle.page_model.specs.declared.parts.InkKind.{InkKind}
use Rattle.page_model.specs.Conditions.{IsInk}
use Rattle.ps_tokens.specs.declared.faults.FaultKind.TheVariants.{BadDensity}
use Rattle.ps_tokens.specs.declared.entry_errors.EntryError.{EntryError}
use Rattle.ps_tokens.specs.declared.object.Body.{Body}
use Rattle.ps_tokens.specs.declared.object.Body.TheVariants.{Number, Truth, Null, Text, Literal, Operator, Array, Dict}
use Rattle.ps_tokens.specs.declared.object.Object.{Object}
use Rattle.ps_tokens.specs.Dictionaries.{last_of, last_keys_of, name_of}
use Rattle.ps_tokens.specs.Values.{by_body}
use Rattle.ps_tokens.proofs.Judged.{Reads, value_at-reads, entry_at-reads}
use Rattle.job_parts.specs.declared.ink_details.InkDetails.{InkDetails}
use Rattle.job_parts.specs.InkDetails.{density_in_range, density_in, density_of, kind_of, ink_details_from, ink_details_in, ink_details_of}
use Rattle.job_parts.specs.Colorants.{ink_if_given, inks_of}
use Rattle.job_parts.specs.Details.{details_of}
use Rattle.job_parts.proofs.Reaching.{details_of-inks}

-- a neutral density from 0.001 to 10
record IsDensity (n : ℕ) : Type 0 where
  least : 10 ≤ n
  most : n ≤ 100000

passed : (b : Bool) (m n : ℕ) → (nat_le 10 m && nat_le m 100000) ≡ b → cond b (Ok (Some m)) (Err BadDensity) ≡ Ok (Some n) → IsDensity n
passed true m n tests is =
    let same : m ≡ n = cc in
    let both = and_parts (nat_le 10 m) (nat_le m 100000) tests in
    let low : nat_le 10 m ≡ true = both.0 in
    let high : nat_le m 100000 ≡ true = both.1 in
    record { least = grind (arith, nat_tests); most = grind (arith, nat_tests) }
passed false m n tests is = absurd (cc)

in_range-density : (z : ℤ) (n : ℕ) → density_in_range z ≡ Ok (Some n) → IsDensity n
in_range-density (pos m) n is = passed (nat_le 10 m && nat_le m 100000) m n refl is
in_range-density (negsuc m) n is = absurd (cc)

density_in-density : (body : Body) (n : ℕ) → density_in body ≡ Ok (Some n) → IsDensity n
density_in-density (Number z) n is = in_range-density z n is
density_in-density (Truth b) n is = absurd (cc)
density_in-density Null n is = absurd (cc)
density_in-density Text n is = absurd (cc)
density_in-density (Literal name) n is = absurd (cc)
density_in-density (Operator name) n is = absurd (cc)
density_in-density Array n is = absurd (cc)
density_in-density Dict n is = absurd (cc)

-- a density, where there is one
abbrev DensityIn : Option ℕ → Type 0
DensityIn None = Unit {0}
DensityIn (Some n) = IsDensity n

density-in : (body : Body) → Reads DensityIn (density_in body)
density-in body None is = tt
density-in body (Some n) is = density_in-density body n is

density_of-density : (objects : List Object) (dict : ℕ) → Reads DensityIn (density_of objects dict)
unfolding density_of
density_of-density objects dict = value_at-reads DensityIn (by_body density_in) objects None (last_of objects dict (codes "NeutralDensity")) (λ place object. density-in object.body) tt

-- details with such a density, where there is one
abbrev DetailsIn : Option InkDetails → Type 0
DetailsIn None = Unit {0}
DetailsIn (Some details) = IsDensity details.density

ink_details_from-density : (dict at : ℕ) (density : Result (Option ℕ) EntryError) (kind : Result InkKind EntryError) → Reads DensityIn density → Reads DetailsIn (ink_details_from dict at density kind)
ink_details_from-density dict at (Ok (Some n)) (Ok kind) dense o is =
    let details : Option InkDetails = Some (record { density = n; kind = kind }) in
    let same : details ≡ o = cc in
    subst DetailsIn same (dense (Some n) refl)
ink_details_from-density dict at (Ok None) (Ok kind) dense o is = absurd (cc)
ink_details_from-density dict at (Ok (Some n)) (Err error) dense o is = absurd (cc)
ink_details_from-density dict at (Ok None) (Err error) dense o is = absurd (cc)
ink_details_from-density dict at (Err error) (Ok kind) dense o is = absurd (cc)
ink_details_from-density dict at (Err first) (Err second) dense o is = absurd (cc)

ink_details_of-density : (objects : List Object) (key : ℕ) → Reads DetailsIn (ink_details_of objects key)
unfolding ink_details_of
ink_details_of-density objects key =
    entry_at-reads DetailsIn (ink_details_in objects) objects None key (λ dict at. ink_details_from-density dict at (density_of objects dict) (kind_of objects dict) (density_of-density objects dict)) tt

ink_if_given-inks : (name : List ℕ) (r : Result (Option InkDetails) EntryError) (rest : List Ink) → ((details : InkDetails) → r ≡ Ok (Some details) → IsDensity details.density) → All IsInk rest → All IsInk (ink_if_given name r ++ rest)
ink_if_given-inks name (Err error) rest dense others = others
ink_if_given-inks name (Ok None) rest dense others = others
ink_if_given-inks name (Ok (Some details)) rest dense others =
    let is = dense details refl in
    All-cons IsInk (record { name = name; density = details.density; kind = details.kind }) rest (record { some_density = is.least; most_density = is.most }) others

inks_of-inks : (objects : List Object) (keys : List ℕ) → All IsInk (inks_of objects keys)
inks_of-inks objects [] = All-nil IsInk
inks_of-inks objects (key ∷ keys) =
    ink_if_given-inks (name_of (slice_get objects key)) (ink_details_of objects key) (inks_of objects keys) (λ details is. ink_details_of-density objects key (Some details) is) (inks_of-inks objects keys)

-- the inks of a value
pub details_of-ranges : (objects : List Object) (place : ℕ) (inks : List Ink) → details_of objects place ≡ Ok inks → All IsInk inks
details_of-ranges objects place inks is =
    details_of-inks (λ (l : List Ink). All IsInk l) objects place inks (All-nil IsInk) (λ dict. inks_of-inks objects (last_keys_of objects dict)) is
