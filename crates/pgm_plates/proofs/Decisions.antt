-- Samples and their bytes: which bytes decide a fault of the raster.
use Rattle.std.proofs.Common.{◌≡◌, ℕ, suc, ◌<◌, ◌≤◌, ◌+◌, ◌-◌, ◌*◌, ◌/◌, ◌%◌, true, false, cond, ltb, List, [], ◌∷◌, ◌++◌, length, take, drop, refl, sym, ap, ◌∙◌, subst, inl, inr, arith}
use Rattle.std.proofs.lemmas.Grind.{flat_map-append}
use Rattle.std.proofs.lemmas.Bool.{cases_lt}
use Rattle.std.proofs.lemmas.List.{append_assoc, take-append-drop, take-append-le, same_from_push, length-append, length_push, length-take-le}
use Rattle.std.proofs.lemmas.List.Elements.{All-head, All-tail}
use Rattle.std.proofs.Math.Nat.{add-mul, mul-le-mul_right, le-mul_of_pos_right}
use Rattle.std.proofs.Math.Seq.{take-append-add}
use Rattle.pgm_plates.specs.declared.bounds.Bounds.{Bounds}
use Rattle.pgm_plates.specs.declared.plate.PlateFault.{PlateFault}
use Rattle.pgm_plates.specs.declared.plate.PlateFault.TheVariants.{BadMagic, BadHeader, SideRange, TooManySamples, MaxvalRange, SampleAboveMaxval, Truncated, TrailingBytes}
use Rattle.pgm_plates.specs.Header.{IsHeader}
use Rattle.pgm_plates.specs.Plates.{sample_bytes, sample_size, raster}
use Rattle.pgm_plates.specs.Faults.{DecidesWithin, HoldsNoHeader, Breaks}
use Rattle.pgm_plates.specs.Scanning.{IsClean}
use Rattle.pgm_plates.specs.Readers.{Fit}
use Rattle.pgm_plates.proofs.Shapes.{one_header, begun_stops, holds_header}
use Rattle.pgm_plates.proofs.Numbers.{Ends, fault_ends}

pub bytes_size : (maxval sample : ℕ) → length (sample_bytes maxval sample) ≡ sample_size maxval
bytes_size maxval sample =
    elim (ltb maxval 256) as (λ t. length (cond t (sample ∷ []) (sample / 256 ∷ sample % 256 ∷ [])) ≡ cond t 1 2) [ true ↦ refl | false ↦ refl ]

pub some_size : (maxval : ℕ) → (1 ≤ sample_size maxval) × (sample_size maxval ≤ 2)
some_size maxval = elim (ltb maxval 256) as (λ t. (1 ≤ cond t 1 2) × (cond t 1 2 ≤ 2)) [ true ↦ (omega arith, omega arith) | false ↦ (omega arith, omega arith) ]

no_times : (k : ℕ) → 0 ≡ 0 * k
no_times k = omega arith

more_times : (n k : ℕ) → k + n * k ≡ suc n * k
more_times n k = grind arith

pub raster_size : (maxval : ℕ) (samples : List ℕ) → length (raster maxval samples) ≡ length samples * sample_size maxval
raster_size maxval [] = no_times (sample_size maxval)
raster_size maxval (s ∷ samples) =
    let e : length (sample_bytes maxval s ++ raster maxval samples) ≡ sample_size maxval + length samples * sample_size maxval =
    length-append (sample_bytes maxval s) (raster maxval samples) ∙ ap (λ (n : ℕ). n + length (raster maxval samples)) (bytes_size maxval s) ∙ ap (λ (n : ℕ). sample_size maxval + n) (raster_size maxval samples) in
    e ∙ more_times (length samples) (sample_size maxval)

pub raster_both : (maxval : ℕ) (xs ys : List ℕ) → raster maxval (xs ++ ys) ≡ raster maxval xs ++ raster maxval ys
raster_both maxval xs ys = flat_map-append (sample_bytes maxval) xs ys

-- A sample is known by its bytes.
pub record SameSample (y x : ℕ) (u v : List ℕ) : Type 0 where
  pub sample : y ≡ x
  pub rest : u ≡ v

halves : (y x : ℕ) → y / 256 ≡ x / 256 → y % 256 ≡ x % 256 → y ≡ x
halves y x high low = omega arith

narrow_same : (y x : ℕ) (u v : List ℕ) → y ∷ u ≡ x ∷ v → SameSample y x u v
narrow_same y x u v e = record { sample = cc; rest = cc }

wide_same : (y x : ℕ) (u v : List ℕ) → y / 256 ∷ y % 256 ∷ u ≡ x / 256 ∷ x % 256 ∷ v → SameSample y x u v
wide_same y x u v e =
    let high : y / 256 ≡ x / 256 = cc in
    let low : y % 256 ≡ x % 256 = cc in
    record { sample = halves y x high low; rest = cc }

pub one_sample : (maxval y x : ℕ) (u v : List ℕ) → sample_bytes maxval y ++ u ≡ sample_bytes maxval x ++ v → SameSample y x u v
one_sample maxval y x u v =
    elim (ltb maxval 256) as (λ t. cond t (y ∷ []) (y / 256 ∷ y % 256 ∷ []) ++ u ≡ cond t (x ∷ []) (x / 256 ∷ x % 256 ∷ []) ++ v → SameSample y x u v) [
      | true ↦ λ e. narrow_same y x u v e
      | false ↦ λ e. wide_same y x u v e
    ]

-- A sample among those that fit, fits.
pub fits_too : (maxval y : ℕ) (ys xs u half : List ℕ) → Fit maxval xs → length half < sample_size maxval → raster maxval ys ++ (sample_bytes maxval y ++ u) ≡ raster maxval xs ++ half → y ≤ maxval
fits_too maxval y [] [] u half fit short e =
    absurd (let size = bytes_size maxval y in omega (arith, size, ap length e, length-append (sample_bytes maxval y) u))
fits_too maxval y [] (x ∷ xs) u half fit short e =
    let same = one_sample maxval y x u (raster maxval xs ++ half) (e ∙ append_assoc (sample_bytes maxval x) (raster maxval xs) half) in
    subst (λ (s : ℕ). s ≤ maxval) (sym same.sample) (All-head (λ (s : ℕ). s ≤ maxval) x xs fit)
fits_too maxval y (z ∷ zs) [] u half fit short e =
    absurd (let size = bytes_size maxval z in omega (arith, size, ap length e, length-append (sample_bytes maxval z ++ raster maxval zs) (sample_bytes maxval y ++ u), length-append (sample_bytes maxval z) (raster maxval zs)))
fits_too maxval y (z ∷ zs) (x ∷ xs) u half fit short e =
    let same = one_sample maxval z x (raster maxval zs ++ (sample_bytes maxval y ++ u)) (raster maxval xs ++ half)
    (sym (append_assoc (sample_bytes maxval z) (raster maxval zs) (sample_bytes maxval y ++ u)) ∙ e ∙ append_assoc (sample_bytes maxval x) (raster maxval xs) half) in
    fits_too maxval y zs xs u half (All-tail (λ (s : ℕ). s ≤ maxval) x xs fit) short same.rest

-- a list that isn't empty, without its last item
pub record Pushed (xs : List ℕ) : Type 0 where
  pub prefix : List ℕ
  pub last : ℕ
  pub is : xs ≡ prefix ++ last ∷ []

pub unpush : (xs : List ℕ) → 0 < length xs → Pushed xs
unpush [] some = absurd (omega arith)
unpush (x ∷ []) some = record { prefix = []; last = x; is = refl }
unpush (x ∷ y ∷ ys) some =
    let rest = unpush (y ∷ ys) (omega arith) in
    record { prefix = x ∷ rest.prefix; last = rest.last; is = ap (λ (z : List ℕ). x ∷ z) rest.is }

-- The bytes are a header and what begins a raster.
pub record Rastered (bytes header : List ℕ) (width height maxval : ℕ) (samples half : List ℕ) : Type 0 where
  pub is_header : IsHeader header width height maxval
  pub whole : bytes ≡ header ++ (raster maxval samples ++ half)
  pub fit : Fit maxval samples
  pub short : length half < sample_size maxval
  pub few : length samples + length half ≤ width * height

pub no_break : (header t : List ℕ) (w h m at : ℕ) → IsHeader header w h m → 0 < length t → Breaks (header ++ t) at → ⊥
no_break header t w h m at is some broken =
    let end = unpush t some in
    let both = same_from_push (header ++ end.prefix) broken.prefix end.last broken.last
    (append_assoc header end.prefix (end.last ∷ []) ∙ ap (λ (z : List ℕ). header ++ z) (sym end.is) ∙ broken.whole) in
    holds_header header end.prefix w h m is (subst HoldsNoHeader (sym both.0) broken.unended)

no_end : (header t : List ℕ) (w h m : ℕ) → IsHeader header w h m → 0 < length t → Ends (header ++ t) → ⊥
no_end header t w h m is some ends =
    let none : t ≡ [] = begun_stops header t w h m is ends.ends.begun in
    omega (arith, ap length none)

too_long : (n k all size t u : ℕ) → n + k ≤ all → k < size → t ≡ all * size + 1 → t + u ≡ n * size + k → ⊥
too_long n k all size t u few short long within =
    let more : n * size + k * size ≤ all * size = subst (λ (z : ℕ). z ≤ all * size) (add-mul n k size) (mul-le-mul_right size few) in
    let k_size : k ≤ k * size = le-mul_of_pos_right k (let h : 0 < size = omega arith in h) in
    omega arith

module _ (bounds : Bounds) where
  -- no byte of the raster decides a fault
  quiet_at : (bytes header : List ℕ) (w h m : ℕ) (xs half : List ℕ) → Rastered bytes header w h m xs half → (t u : List ℕ) → 0 < length t → t ++ u ≡ raster m xs ++ half → (fault : PlateFault) → DecidesWithin bounds (header ++ t) fault → ⊥
  quiet_at bytes header w h m xs half r t u some part (BadMagic at) d = no_break header t w h m at r.is_header some d.1
  quiet_at bytes header w h m xs half r t u some part (BadHeader at) d =
      elim d [
        | inl broken ↦ no_break header t w h m at r.is_header some broken.1
        | inr long ↦ holds_header header t w h m r.is_header long.1.unended
      ]
  quiet_at bytes header w h m xs half r t u some part (SideRange at) d = no_end header t w h m r.is_header some (fault_ends bounds (header ++ t) (SideRange at) d)
  quiet_at bytes header w h m xs half r t u some part (TooManySamples at) d = no_end header t w h m r.is_header some (fault_ends bounds (header ++ t) (TooManySamples at) d)
  quiet_at bytes header w h m xs half r t u some part (MaxvalRange at) d = no_end header t w h m r.is_header some (fault_ends bounds (header ++ t) (MaxvalRange at) d)
  quiet_at bytes header w h m xs half r t u some part (SampleAboveMaxval at) d =
      let back = raster d.maxval d.samples ++ sample_bytes d.maxval d.sample in
      let same = one_header header t d.header back w h m d.width d.height d.maxval r.is_header d.is_header (d.whole ∙ append_assoc d.header (raster d.maxval d.samples) (sample_bytes d.maxval d.sample)) in
      let e : raster m d.samples ++ (sample_bytes m d.sample ++ u) ≡ raster m xs ++ half =
      sym (append_assoc (raster m d.samples) (sample_bytes m d.sample) u)
      ∙ ap (λ (n : ℕ). raster n d.samples ++ sample_bytes n d.sample ++ u) same.maxval
      ∙ ap (λ (z : List ℕ). z ++ u) (sym same.rest) ∙ part in
      let fits = fits_too m d.sample d.samples xs u half r.fit r.short e in
      omega (arith, d.above, same.maxval)
  quiet_at bytes header w h m xs half r t u some part (TrailingBytes at) d =
      let back = raster d.maxval d.samples ++ d.last ∷ [] in
      let same = one_header header t d.header back w h m d.width d.height d.maxval r.is_header d.is_header (d.whole ∙ append_assoc d.header (raster d.maxval d.samples) (d.last ∷ [])) in
      let size : length (raster m d.samples) ≡ length d.samples * sample_size m = raster_size m d.samples in
      let all : length d.samples ≡ w * h = d.all ∙ ap (λ (n : ℕ). n * d.height) (sym same.width) ∙ ap (λ (n : ℕ). w * n) (sym same.height) in
      let size' : length (raster m d.samples) ≡ (w * h) * sample_size m = size ∙ ap (λ (n : ℕ). n * sample_size m) all in
      let long : length t ≡ length (raster m d.samples) + 1 = ap length same.rest ∙ length_push (raster d.maxval d.samples) d.last ∙ ap (λ (n : ℕ). length (raster n d.samples) + 1) (sym same.maxval) in
      let within : length t + length u ≡ length xs * sample_size m + length half = sym (length-append t u) ∙ ap length part ∙ length-append (raster m xs) half ∙ ap (λ (n : ℕ). n + length half) (raster_size m xs) in
      too_long (length xs) (length half) (w * h) (sample_size m) (length t) (length u) r.few r.short (long ∙ ap (λ (n : ℕ). n + 1) size') within
  quiet_at bytes header w h m xs half r t u some part (Truncated at) d = d

  -- A header without a fault, and a raster that fits so far, have none.
  pub clean_raster : (bytes header : List ℕ) (w h m : ℕ) (xs half : List ℕ) → IsClean bounds header (length header + 1) → Rastered bytes header w h m xs half → IsClean bounds bytes (length bytes + 1)
  clean_raster bytes header w h m xs half clean r n fault less d =
      let back = raster m xs ++ half in
      elim (cases_lt (length header) n) [
        | inr le ↦ clean n fault (omega arith) (subst (λ (z : List ℕ). DecidesWithin bounds z fault) (ap (take n) r.whole ∙ take-append-le n header back le) d)
        | inl past ↦
            let k = n - length header in
            let e : take n bytes ≡ header ++ take k back =
            ap (take n) r.whole ∙ ap (λ (z : ℕ). take z (header ++ back)) (let f : n ≡ length header + k = omega arith in f) ∙ take-append-add header back k in
            let size : length bytes ≡ length header + length back = ap length r.whole ∙ length-append header back in
            let some : length (take k back) ≡ k = length-take-le k back (omega arith) in
            quiet_at bytes header w h m xs half r (take k back) (drop k back) (omega arith) (take-append-drop k back) fault (subst (λ (z : List ℕ). DecidesWithin bounds z fault) e d)
      ]
