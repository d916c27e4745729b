-- Bytes are plate files of one list of plates, one directly after the other.
use Rattle.std.proofs.Common.{◌≡◌, ℕ, ◌<◌, ◌≤◌, ◌+◌, List, [], ◌∷◌, ◌++◌, length, take, drop, refl, sym, ap, ◌∙◌, subst, inl, inr, arith}
use Rattle.std.proofs.Math.Seq.{take-append_seam}
use Rattle.std.proofs.lemmas.Bool.{cases_lt}
use Rattle.std.proofs.lemmas.List.{append-nil, append_cancel_left, length-append, take-append-drop, take-append-le}
use Rattle.pgm_plates.specs.declared.plate.Plate.{Plate}
use Rattle.pgm_plates.specs.Laws.{OneSequence}
use Rattle.pgm_plates.specs.Plates.{IsPlateFile, raster}
use Rattle.pgm_plates.specs.Sequences.{IsSequence}
use Rattle.pgm_plates.proofs.Facts.{no_prefix, one_plate}

-- the shorter of two prefixes of the same bytes is a prefix of the longer
longer : (i l j k : List ℕ) → i ++ l ≡ j ++ k → length i ≤ length j → j ≡ i ++ drop (length i) j
longer i l j k same le =
    let prefix : i ≡ take (length i) j = sym (take-append_seam i l) ∙ ap (take (length i)) same ∙ take-append-le (length i) j k le in
    sym (take-append-drop (length i) j) ∙ ap (λ (x : List ℕ). x ++ drop (length i) j) (sym prefix)

-- two plate files that are prefixes of the same bytes, of which one is no longer, are one
prefix_is : (i l j k : List ℕ) (p q : Plate) → i ++ l ≡ j ++ k → length i ≤ length j → IsPlateFile i p → IsPlateFile j q → i ≡ j
prefix_is i l j k p q same le first second =
    let whole = longer i l j k same le in
    let none : drop (length i) j ≡ [] = no_prefix i (drop (length i) j) p q first (subst (λ (x : List ℕ). IsPlateFile x q) whole second) in
    sym (whole ∙ ap (λ (x : List ℕ). i ++ x) none ∙ append-nil i)

-- two plate files that are prefixes of the same bytes are one
pub one_image : (i l j k : List ℕ) (p q : Plate) → i ++ l ≡ j ++ k → IsPlateFile i p → IsPlateFile j q → i ≡ j
one_image i l j k p q same first second =
    elim (cases_lt (length j) (length i)) [
      | inl less ↦ sym (prefix_is j k i l q p (sym same) (omega arith) second first)
      | inr le ↦ prefix_is i l j k p q same le first second
    ]

-- a plate file has some bytes
pub some_bytes : (bytes : List ℕ) (plate : Plate) → IsPlateFile bytes plate → 0 < length bytes
some_bytes bytes plate file =
    let header = file.is_header in
    let long : length bytes ≡ length header.0 + 1 + length (raster plate.maxval plate.samples) =
    ap length file.whole ∙ length-append file.header (raster plate.maxval plate.samples) ∙ ap (λ (n : ℕ). n + length (raster plate.maxval plate.samples)) (ap length header.4 ∙ length-append header.0 (header.1 ∷ [])) in
    omega (arith, long)

no_bytes : (plate : Plate) (image later : List ℕ) → [] ≡ image ++ later → IsPlateFile image plate → ⊥
no_bytes plate image later none file = omega (arith, some_bytes image plate file, ap length none, length-append image later)

pub one_sequence : OneSequence
one_sequence bytes [] [] first second = refl
one_sequence bytes [] (q ∷ qs) first second = absurd (no_bytes q second.0 second.1 (sym first ∙ second.2) second.3)
one_sequence bytes (p ∷ ps) [] first second = absurd (no_bytes p first.0 first.1 (sym second ∙ first.2) first.3)
one_sequence bytes (p ∷ ps) (q ∷ qs) first second =
    let same : first.0 ++ first.1 ≡ second.0 ++ second.1 = sym first.2 ∙ second.2 in
    let image : first.0 ≡ second.0 = one_image first.0 first.1 second.0 second.1 p q same first.3 second.3 in
    let later : first.1 ≡ second.1 = append_cancel_left first.0 first.1 second.1 (same ∙ ap (λ (x : List ℕ). x ++ second.1) (sym image)) in
    let plate : p ≡ q = one_plate first.0 p q first.3 (subst (λ (x : List ℕ). IsPlateFile x q) (sym image) second.3) in
    let rest : ps ≡ qs = one_sequence first.1 ps qs first.4 (subst (λ (x : List ℕ). IsSequence x qs) (sym later) second.4) in
    ap (λ (x : Plate). x ∷ ps) plate ∙ ap (λ (x : List Plate). q ∷ x) rest
