-- Image k of a plate's file: bytes have such an image, or its fault, or no such image.
use Rattle.std.proofs.Common.{◌≡◌, ◌⊎◌, ℕ, zero, suc, ◌<◌, All, List, [], ◌∷◌, ◌++◌, length, drop, inl, inr, refl, sym, ap, ◌∙◌, subst, arith}
use Rattle.std.proofs.Math.Seq.{drop-append_seam}
use Rattle.std.proofs.lemmas.List.{append-nil, append_assoc}
use Rattle.std.proofs.lemmas.List.Elements.{All-drop}
use Rattle.pgm_plates.specs.declared.plate.Plate.{Plate}
use Rattle.pgm_plates.specs.declared.plate.PlateFault.{PlateFault}
use Rattle.pgm_plates.specs.declared.plate.PlateFault.TheVariants.{BadMagic, BadHeader, SideRange, TooManySamples, MaxvalRange, SampleAboveMaxval, Truncated, TrailingBytes}
use Rattle.pgm_plates.specs.Faults.{IsFault}
use Rattle.pgm_plates.specs.Sequences.{IsOfImage, StandsAfter, further}
use Rattle.pgm_plates.proofs.Judging.{plate_or_fault}
use Rattle.traprun_cli.specs.Images.{HasImage, HasImageFault, HasNoImage}
use Rattle.traprun_cli.proofs.PrefixLemmas.{Begins}
use Rattle.traprun_cli.proofs.TrailingLemmas.{trailing_begins}

abbrev pub AreBytes : List ℕ → Type 0
AreBytes bytes = All (λ (b : ℕ). b < 256) bytes

-- There are no bytes, or they begin with a plate file, or they have the fault of one.
data First (bytes : List ℕ) : Type 0 where
  none : bytes ≡ [] → First bytes
  begins : Begins bytes → First bytes
  fails : (fault : PlateFault) → IsFault bytes fault → IsOfImage fault → First bytes

by_fault : (bytes : List ℕ) (fault : PlateFault) → 0 < length bytes → IsFault bytes fault → First bytes
by_fault bytes (TrailingBytes at) some is = begins (trailing_begins bytes at is)
by_fault bytes (Truncated at) some is = fails (Truncated at) is (let place : at ≡ length bytes = is.stands.place in omega (arith, some, place))
by_fault bytes (BadMagic at) some is = fails (BadMagic at) is tt
by_fault bytes (BadHeader at) some is = fails (BadHeader at) is tt
by_fault bytes (SideRange at) some is = fails (SideRange at) is tt
by_fault bytes (TooManySamples at) some is = fails (TooManySamples at) is tt
by_fault bytes (MaxvalRange at) some is = fails (MaxvalRange at) is tt
by_fault bytes (SampleAboveMaxval at) some is = fails (SampleAboveMaxval at) is tt

first : (bytes : List ℕ) → AreBytes bytes → First bytes
first [] byte = none refl
first (b ∷ bs) byte = elim (plate_or_fault (b ∷ bs) byte) [
  | inl plate ↦ begins (record { file = b ∷ bs; plate = plate.0; later = []; whole = sym (append-nil (b ∷ bs)); is_file = plate.1 })
  | inr fault ↦ by_fault (b ∷ bs) fault.0 (omega arith) fault.1
]

-- What the file's bytes are for image k.
abbrev pub Judged : ℕ → List ℕ → Type 0
Judged k bytes = ((plate : Plate) × HasImage k bytes plate) ⊎ (((fault : PlateFault) × HasImageFault k bytes fault) ⊎ HasNoImage k bytes)

-- nothing stands before these bytes
abbrev at_prefix : (k : ℕ) (bytes : List ℕ) → StandsAfter bytes k bytes
at_prefix k bytes = record { prefix = []; plates = []; sequence = refl; few = omega arith; whole = refl }

fails_here : (k : ℕ) (bytes : List ℕ) (fault : PlateFault) → IsFault bytes fault → IsOfImage fault → Judged k bytes
fails_here k bytes fault is of_image = inr (inl (further 0 fault, record { image = bytes; prefix = at_prefix k bytes; found = fault; is_fault = is; of_image = of_image; place = refl }))

none_here : (k : ℕ) (bytes : List ℕ) → bytes ≡ [] → Judged k bytes
none_here k bytes is = inr (inr ([], is, omega arith))

begins_here : (bytes : List ℕ) → Begins bytes → Judged 0 bytes
begins_here bytes begun = inl (
  begun.plate,
  record {
    image = begun.file;
    later = begun.later;
    prefix = subst (λ (x : List ℕ). StandsAfter bytes 0 x) begun.whole (at_prefix 0 bytes);
    counted = refl;
    is_image = begun.is_file;
  },
)

-- one plate file more stands before it
abbrev after_one : (bytes image : List ℕ) (k : ℕ) (begun : Begins bytes) → StandsAfter begun.later k image → StandsAfter bytes (suc k) image
after_one bytes image k begun s = record {
  prefix = begun.file ++ s.prefix;
  plates = begun.plate ∷ s.plates;
  sequence = (begun.file, s.prefix, refl, begun.is_file, s.sequence);
  few = omega (arith, s.few);
  whole = begun.whole ∙ ap (λ (x : List ℕ). begun.file ++ x) s.whole ∙ sym (append_assoc begun.file s.prefix image);
}

one_more : (k : ℕ) (bytes : List ℕ) (begun : Begins bytes) → Judged k begun.later → Judged (suc k) bytes
one_more k bytes begun (inl image) =
    let is = image.1 in
    inl (
      image.0,
      record {
        image = is.image;
        later = is.later;
        prefix = after_one bytes (is.image ++ is.later) k begun is.prefix;
        counted = ap suc is.counted;
        is_image = is.is_image;
      },
    )
one_more k bytes begun (inr (inl fault)) =
    let is = fault.1 in
    let prefix = after_one bytes is.image k begun is.prefix in
    inr (inl (further (length prefix.prefix) is.found, record { image = is.image; prefix = prefix; found = is.found; is_fault = is.is_fault; of_image = is.of_image; place = refl }))
one_more k bytes begun (inr (inr ended)) = inr (inr (begun.plate ∷ ended.0, (begun.file, begun.later, begun.whole, begun.is_file, ended.1), omega (arith, ended.2)))

later_bytes : (bytes : List ℕ) (begun : Begins bytes) → AreBytes bytes → AreBytes begun.later
later_bytes bytes begun byte =
    let suffix : drop (length begun.file) bytes ≡ begun.later = ap (drop (length begun.file)) begun.whole ∙ drop-append_seam begun.file begun.later in
    subst AreBytes suffix (All-drop (λ (b : ℕ). b < 256) (length begun.file) bytes byte)

by_first_0 : (bytes : List ℕ) → First bytes → Judged 0 bytes
by_first_0 bytes (none is) = none_here 0 bytes is
by_first_0 bytes (begins begun) = begins_here bytes begun
by_first_0 bytes (fails fault is of_image) = fails_here 0 bytes fault is of_image

by_first : (k : ℕ) (bytes : List ℕ) → ((later : List ℕ) → AreBytes later → Judged k later) → AreBytes bytes → First bytes → Judged (suc k) bytes
by_first k bytes suffix byte (none is) = none_here (suc k) bytes is
by_first k bytes suffix byte (begins begun) = one_more k bytes begun (suffix begun.later (later_bytes bytes begun byte))
by_first k bytes suffix byte (fails fault is of_image) = fails_here (suc k) bytes fault is of_image

-- Bytes have image k, or its fault, or they end before it.
pub image_judged : (k : ℕ) (bytes : List ℕ) → AreBytes bytes → Judged k bytes
image_judged zero bytes byte = by_first_0 bytes (first bytes byte)
image_judged (suc k) bytes byte = by_first k bytes (image_judged k) byte (first bytes byte)
