-- The file of 17 bytes that six samples have, and the bytes of samples by their maxval.
use Rattle.std.proofs.Common.{◌≡◌, ℕ, List, [], ◌∷◌, ◌++◌, refl, ap, ◌∙◌, arith}
use Rattle.std.proofs.lemmas.Fmt.{decimal-digits_of}
use Rattle.std.specs.Fmt.{decimal}
use Rattle.pgm_plates.specs.declared.plate.Plate.{Plate}
use Rattle.pgm_plates.specs.Plates.{sample_bytes, spelled}

abbrev six : Plate
six = record { width = 6; height = 1; maxval = 255; samples = 0 ∷ 0 ∷ 0 ∷ 255 ∷ 255 ∷ 255 ∷ [] }

abbrev with_numbers : List ℕ → List ℕ → List ℕ → List ℕ
with_numbers w h m = 80 ∷ 53 ∷ 10 ∷ [] ++ (w ++ 32 ∷ []) ++ (h ++ 10 ∷ []) ++ (m ++ 10 ∷ []) ++ (0 ∷ 0 ∷ 0 ∷ 255 ∷ 255 ∷ 255 ∷ [])

width_six : decimal 6 ≡ 54 ∷ []
width_six = decimal-digits_of 6 (omega arith) (omega arith)

height_one : decimal 1 ≡ 49 ∷ []
height_one = decimal-digits_of 1 (omega arith) (omega arith)

maxval_255 : decimal 255 ≡ 50 ∷ 53 ∷ 53 ∷ []
maxval_255 = decimal-digits_of 255 (omega arith) (omega arith)

six_spelled : spelled six ≡ 80 ∷ 53 ∷ 10 ∷ 54 ∷ 32 ∷ 49 ∷ 10 ∷ 50 ∷ 53 ∷ 53 ∷ 10 ∷ 0 ∷ 0 ∷ 0 ∷ 255 ∷ 255 ∷ 255 ∷ []
six_spelled =
    ap (λ (x : List ℕ). with_numbers x (decimal 1) (decimal 255)) width_six
    ∙ ap (λ (x : List ℕ). with_numbers (54 ∷ []) x (decimal 255)) height_one
    ∙ ap (λ (x : List ℕ). with_numbers (54 ∷ []) (49 ∷ []) x) maxval_255

one_byte : sample_bytes 255 200 ≡ 200 ∷ []
one_byte = refl

two_bytes : sample_bytes 256 200 ≡ 0 ∷ 200 ∷ []
two_bytes = refl

high_byte_first : sample_bytes 65535 4660 ≡ 18 ∷ 52 ∷ []
high_byte_first = refl
