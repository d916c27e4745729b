-- The inks of a dictionary stand in ascending order of their names, each once.
use Rattle.std.proofs.Common.{◌≡◌, inl, inr, ℕ, List, [], ◌∷◌, Option, Some, None, Result, Ok, Err, refl, arith}
use Rattle.std.specs.Prelude.{slice_get}
use Rattle.page_model.specs.declared.parts.Ink.{Ink}
use Rattle.ps_tokens.specs.declared.entry_errors.EntryError.{EntryError}
use Rattle.ps_tokens.specs.declared.object.Object.{Object}
use Rattle.ps_tokens.specs.Dictionaries.{last_keys_of, name_of}
use Rattle.ps_tokens.proofs.Ascending.{GivesOne, ascend-given}
use Rattle.job_parts.specs.declared.ink_details.InkDetails.{InkDetails}
use Rattle.job_parts.specs.Colorants.{AscendByName, ink_if_given, inks_of}
use Rattle.job_parts.specs.InkDetails.{ink_details_of}

one-ink : (name : List ℕ) (r : Result (Option InkDetails) EntryError) → GivesOne (λ (ink : Ink). ink.name) name (ink_if_given name r)
one-ink name (Err error) = inl refl
one-ink name (Ok None) = inl refl
one-ink name (Ok (Some details)) = inr (record { name = name; density = details.density; kind = details.kind }, refl, refl)

pub inks-ascend : (objects : List Object) (dict : ℕ) → AscendByName (inks_of objects (last_keys_of objects dict))
inks-ascend objects dict =
    ascend-given objects dict (λ (ink : Ink). ink.name) (λ key. ink_if_given (name_of (slice_get objects key)) (ink_details_of objects key)) (λ key. one-ink (name_of (slice_get objects key)) (ink_details_of objects key))

pub none-ascend : AscendByName []
none-ascend = λ i j d lt within. absurd (omega arith)
