-- The samples that bytes spell: how many they are, each of them, and that their bytes are these.
use Rattle.std.proofs.Common.{◌≡◌, ℕ, zero, suc, ◌<◌, ◌≤◌, ◌+◌, ◌*◌, ◌/◌, ◌%◌, true, false, cond, ltb, List, [], ◌∷◌, ◌++◌, length, take, set, get_or, refl, sym, ap, ◌∙◌, subst, inl, inr, arith}
use Rattle.std.proofs.lemmas.Bool.{cases_lt, lt-ltb, le-ltb, cond-true, cond-false}
use Rattle.std.proofs.lemmas.List.{take_all, take_more, take_more_set}
use Rattle.std.proofs.lemmas.List.Elements.{All-nil, All-cons, All-head, All-tail}
use Rattle.std.specs.List.{All, flat_map}
use Rattle.pgm_plates.specs.Plates.{sample_size}
use Rattle.pgm_plates.specs.Readers.{Fit, IsDecoded, samples_spelled, wide_samples}
use Rattle.pgm_plates.proofs.Pieces.{decoded_narrow, decoded_wide}

pub wide_size : (bytes : List ℕ) → length (wide_samples bytes) ≡ length bytes / 2
wide_size [] = refl
wide_size (a ∷ []) = refl
wide_size (a ∷ b ∷ bytes) = let e = wide_size bytes in omega (arith, e)

pub wide_nth : (bytes : List ℕ) (k : ℕ) → 2 * k + 1 < length bytes → get_or (wide_samples bytes) k 0 ≡ get_or bytes (2 * k) 0 * 256 + get_or bytes (2 * k + 1) 0
wide_nth [] k within = absurd (omega arith)
wide_nth (a ∷ []) k within = absurd (omega arith)
wide_nth (a ∷ b ∷ bytes) zero within = refl
wide_nth (a ∷ b ∷ bytes) (suc k) within =
    let even : 2 * suc k ≡ suc (suc (2 * k)) = omega arith in
    let odd : suc (suc (2 * k)) + 1 ≡ suc (suc (2 * k + 1)) = omega arith in
    rw (even, odd) (wide_nth bytes k (omega arith))

pub narrow_spelled : (maxval : ℕ) (bytes : List ℕ) → maxval < 256 → samples_spelled maxval bytes ≡ bytes
narrow_spelled maxval bytes narrow = cond-true (ltb maxval 256) bytes (wide_samples bytes) (lt-ltb maxval 256 narrow)

pub wide_spelled : (maxval : ℕ) (bytes : List ℕ) → 256 ≤ maxval → samples_spelled maxval bytes ≡ wide_samples bytes
wide_spelled maxval bytes wide = cond-false (ltb maxval 256) bytes (wide_samples bytes) (le-ltb maxval 256 wide)

-- the bytes of wide samples, and a byte of one more or none
wide_whole : (bytes : List ℕ) → All (λ (b : ℕ). b < 256) bytes → (half : List ℕ) × (bytes ≡ flat_map (λ (s : ℕ). s / 256 ∷ s % 256 ∷ []) (wide_samples bytes) ++ half) × (length half < 2)
wide_whole [] byte = ([], refl, omega arith)
wide_whole (a ∷ []) byte = (a ∷ [], refl, omega arith)
wide_whole (a ∷ b ∷ bytes) byte =
    let tail = All-tail (λ (b : ℕ). b < 256) a (b ∷ bytes) byte in
    let low : b < 256 = All-head (λ (b : ℕ). b < 256) b bytes tail in
    let rest = wide_whole bytes (All-tail (λ (b : ℕ). b < 256) b bytes tail) in
    let over : (a * 256 + b) / 256 ≡ a = omega arith in
    let under : (a * 256 + b) % 256 ≡ b = omega arith in
    (rest.0, rw (over, under) (ap (λ (x : List ℕ). a ∷ b ∷ x) rest.1), rest.2)

pub all_spelled : (maxval : ℕ) (bytes : List ℕ) → All (λ (b : ℕ). b < 256) bytes → IsDecoded maxval bytes (samples_spelled maxval bytes)
all_spelled maxval bytes byte = elim (cases_lt maxval 256) [
  | inl narrow ↦ decoded_narrow maxval bytes (samples_spelled maxval bytes) narrow (narrow_spelled maxval bytes narrow)
  | inr wide ↦
      let whole = wide_whole bytes byte in
      subst (IsDecoded maxval bytes) (sym (wide_spelled maxval bytes wide)) (decoded_wide maxval bytes (wide_samples bytes) whole.0 wide whole.1 whole.2)
]

one_size : (n : ℕ) → n ≡ n / 1
one_size n = omega arith

pub spelled_size : (maxval : ℕ) (bytes : List ℕ) → length (samples_spelled maxval bytes) ≡ length bytes / sample_size maxval
spelled_size maxval bytes =
    elim (ltb maxval 256) as (λ t. length (cond {A = List ℕ} t bytes (wide_samples bytes)) ≡ length bytes / cond {A = ℕ} t 1 2) [ true ↦ one_size (length bytes) | false ↦ wide_size bytes ]

pub wide_below : (bytes : List ℕ) → All (λ (b : ℕ). b < 256) bytes → Fit 65535 (wide_samples bytes)
wide_below [] byte = All-nil (λ (s : ℕ). s ≤ 65535)
wide_below (a ∷ []) byte = All-nil (λ (s : ℕ). s ≤ 65535)
wide_below (a ∷ b ∷ bytes) byte =
    let tail = All-tail (λ (b : ℕ). b < 256) a (b ∷ bytes) byte in
    let high : a < 256 = All-head (λ (b : ℕ). b < 256) a (b ∷ bytes) byte in
    let low : b < 256 = All-head (λ (b : ℕ). b < 256) b bytes tail in
    All-cons (λ (s : ℕ). s ≤ 65535) (a * 256 + b) (wide_samples bytes) (omega arith) (wide_below bytes (All-tail (λ (b : ℕ). b < 256) b bytes tail))

-- One element more is set to that of another list.
pub set_same : (xs ys : List ℕ) (k v : ℕ) → k < length xs → k < length ys → take k xs ≡ take k ys → v ≡ get_or ys k 0 → take (k + 1) (set xs k v) ≡ take (k + 1) ys
set_same xs ys k v here there same is =
    take_more_set xs k v here ∙ ap (λ (l : List ℕ). l ++ v ∷ []) same ∙ ap (λ (n : ℕ). take k ys ++ n ∷ []) is ∙ sym (take_more ys k 0 there)

pub take_same : (xs ys : List ℕ) (k : ℕ) → length xs ≤ k → length ys ≤ k → take k xs ≡ take k ys → xs ≡ ys
take_same xs ys k one two same = sym (take_all k xs one) ∙ same ∙ take_all k ys two
