-- The scan of a header takes one byte more.
use Rattle.std.proofs.Common.{◌≡◌, ◌⊎◌, ℕ, ◌<◌, ◌≤◌, ◌+◌, ◌-◌, ◌*◌, ◌/◌, ◌%◌, min, true, false, cond, ltb, eqb, List, [], ◌∷◌, ◌++◌, length, Option, Some, None, Result, Ok, Err, refl, sym, ap, ◌∙◌, subst, inl, inr, arith}
use Rattle.std.proofs.lemmas.Bool.Decides.{nat_tests}
use Rattle.std.proofs.lemmas.List.{append_assoc, append-nil, length-append}
use Rattle.pgm_plates.specs.declared.bounds.Bounds.{Bounds}
use Rattle.pgm_plates.specs.declared.bounds.Bounds.TheVariants.{Page}
use Rattle.pgm_plates.specs.declared.header_state.HeaderState.{HeaderState}
use Rattle.pgm_plates.specs.declared.header_state.HeaderState.TheVariants.{Start, Letter, Magic, Gap, Comment, Digits, Ended}
use Rattle.pgm_plates.specs.declared.header.Sides.{Sides}
use Rattle.pgm_plates.specs.declared.header.Sides.TheVariants.{Neither, Width, Both}
use Rattle.pgm_plates.specs.declared.header.Scan.{Scan}
use Rattle.pgm_plates.specs.declared.plate.PlateFault.{PlateFault}
use Rattle.pgm_plates.specs.declared.plate.PlateFault.TheVariants.{BadMagic, BadHeader, SideRange, TooManySamples, MaxvalRange, SampleAboveMaxval, Truncated, TrailingBytes}
use Rattle.pgm_plates.specs.Header.{is_space, is_digit, is_line_end, Numbers, IsBegun}
use Rattle.pgm_plates.specs.Plates.{sample_bytes, raster}
use Rattle.pgm_plates.specs.Faults.{NumberFault, DecidesWithin, Breaks, HoldsNoHeader}
use Rattle.pgm_plates.specs.Steps.{step, gap_step}
use Rattle.pgm_plates.specs.Standing.{Standing, numbers_then}
use Rattle.pgm_plates.specs.Runs.{Reached, run}
use Rattle.pgm_plates.specs.Scanning.{past, number_fault, sides_then, header_fault, digit_more, judged, entered, stepped, scan_step_within, Fits, InRange, IsClean, ScannedWithin}
use Rattle.pgm_plates.proofs.HeaderSound.{chosen, no_step, one_digit, digit_more as number_more}
use Rattle.pgm_plates.proofs.HeaderRun.{reached, run_sound, run_more, runs_begun, unended, breaks, ended_header}
use Rattle.pgm_plates.proofs.Shapes.{begun_stops, holds_header}
use Rattle.pgm_plates.proofs.Moments.{clean_all, clean_push}
use Rattle.pgm_plates.proofs.Numbers.{Ends, ends_run, fault_ends, kept_number, accepted, accepted_maxval, no_fault, faulty}

-- which steps there are, and what they tell of the byte
abbrev pub Lands : HeaderState → HeaderState → ℕ → ℕ → Type 0
Lands Start Letter k b = Unit {0}
Lands Letter Magic k b = Unit {0}
Lands Magic Gap k b = Unit {0}
Lands Magic Comment k b = Unit {0}
Lands Gap Gap k b = Unit {0}
Lands Gap Comment k b = Unit {0}
Lands Gap Digits k b = is_digit b ≡ true
Lands Comment Gap k b = Unit {0}
Lands Comment Comment k b = Unit {0}
Lands Digits Digits k b = is_digit b ≡ true
Lands Digits Gap k b = (is_digit b ≡ false) × (k < 3)
Lands Digits Comment k b = (is_digit b ≡ false) × (k < 3)
Lands Digits Ended k b = (is_digit b ≡ false) × (3 ≤ k)
Lands from to k b = ⊥

gap_lands : (b : ℕ) (to : HeaderState) (P : HeaderState → Type 0) → P Gap → P Comment → gap_step b ≡ Some to → P to
gap_lands b to P gap comment e =
    elim (chosen (is_space b) (Some Gap) (cond (eqb b 35) (Some Comment) None) (Some to) e) [
      | inl h ↦ subst P (let is : Gap ≡ to = cc (h.1) in is) gap
      | inr h ↦ elim (chosen (eqb b 35) (Some Comment) None (Some to) h.1) [
        | inl k ↦ subst P (let is : Comment ≡ to = cc (k.1) in is) comment
        | inr k ↦ absurd (no_step to k.1)
      ]
    ]

pub lands : (from to : HeaderState) (k b : ℕ) → step from k b ≡ Some to → Lands from to k b
lands Start to k b e =
    elim (chosen (eqb b 80) (Some Letter) None (Some to) e) [
      | inl h ↦ subst (λ (s : HeaderState). Lands Start s k b) (let is : Letter ≡ to = cc (h.1) in is) tt
      | inr h ↦ absurd (no_step to h.1)
    ]
lands Letter to k b e =
    elim (chosen (eqb b 53) (Some Magic) None (Some to) e) [
      | inl h ↦ subst (λ (s : HeaderState). Lands Letter s k b) (let is : Magic ≡ to = cc (h.1) in is) tt
      | inr h ↦ absurd (no_step to h.1)
    ]
lands Magic to k b e = gap_lands b to (λ (s : HeaderState). Lands Magic s k b) tt tt e
lands Gap to k b e =
    elim (chosen (is_digit b) (Some Digits) (gap_step b) (Some to) e) [
      | inl h ↦ subst (λ (s : HeaderState). Lands Gap s k b) (let is : Digits ≡ to = cc (h.1) in is) h.0
      | inr h ↦ gap_lands b to (λ (s : HeaderState). Lands Gap s k b) tt tt h.1
    ]
lands Comment to k b e =
    elim (chosen (is_line_end b) (Some Gap) (Some Comment) (Some to) e) [
      | inl h ↦ subst (λ (s : HeaderState). Lands Comment s k b) (let is : Gap ≡ to = cc (h.1) in is) tt
      | inr h ↦ subst (λ (s : HeaderState). Lands Comment s k b) (let is : Comment ≡ to = cc (h.1) in is) tt
    ]
lands Digits to k b e =
    elim (chosen (is_digit b) (Some Digits) (cond (ltb k 3) (gap_step b) (cond (is_space b) (Some Ended) None)) (Some to) e) [
      | inl h ↦ subst (λ (s : HeaderState). Lands Digits s k b) (let is : Digits ≡ to = cc (h.1) in is) h.0
      | inr h ↦ elim (chosen (ltb k 3) (gap_step b) (cond (is_space b) (Some Ended) None) (Some to) h.1) [
        | inl j ↦ let few : k < 3 = grind (arith, nat_tests, j.0) in gap_lands b to (λ (s : HeaderState). Lands Digits s k b) (h.0, few) (h.0, few) j.1
        | inr j ↦ elim (chosen (is_space b) (Some Ended) None (Some to) j.1) [
          | inl i ↦ subst (λ (s : HeaderState). Lands Digits s k b) (let is : Ended ≡ to = cc (i.1) in is) (h.0, grind (arith, nat_tests, j.0))
          | inr i ↦ absurd (no_step to i.1)
        ]
      ]
    ]
lands Ended to k b e = absurd (no_step to e)

-- the number of numbers matters after digits alone
same_step : (stand : HeaderState) (scan : Scan) (ns bytes : List ℕ) (b : ℕ) → Fits stand scan ns bytes → step stand (length ns) b ≡ step stand (length (past scan.sides) + 1) b
same_step Digits scan ns bytes b fits = ap (λ (n : ℕ). step Digits n b) (let e : length ns ≡ length (past scan.sides) + 1 = omega (arith, ap length fits.1) in e)
same_step Start scan ns bytes b fits = refl
same_step Letter scan ns bytes b fits = refl
same_step Magic scan ns bytes b fits = refl
same_step Gap scan ns bytes b fits = refl
same_step Comment scan ns bytes b fits = refl
same_step Ended scan ns bytes b fits = refl

abbrev Step : Type 0
Step = Result Scan PlateFault

ok_same : (x y : Scan) → ◌≡◌ {A = Step} (Ok x) (Ok y) → x ≡ y
ok_same x y e = cc

ok_not_err : (x : Scan) (f : PlateFault) → ◌≡◌ {A = Step} (Ok x) (Err f) → ⊥
ok_not_err x f e = cc

err_same : (x y : PlateFault) → ◌≡◌ {A = Step} (Err x) (Err y) → x ≡ y
err_same x y e = cc

judged_ok : (o : Option PlateFault) (made next : Scan) → judged o made ≡ Ok next → (o ≡ None) × (made ≡ next)
judged_ok None made next e = (refl, ok_same made next e)
judged_ok (Some f) made next e = absurd (ok_not_err next f (sym e))

judged_err : (o : Option PlateFault) (made : Scan) (f : PlateFault) → judged o made ≡ Err f → o ≡ Some f
judged_err None made f e = absurd (ok_not_err made f e)
judged_err (Some g) made f e = ap (λ (x : PlateFault). Some x) (err_same g f e)

abbrev plain : HeaderState → Scan → Scan
plain to scan = record { stand = to; sides = scan.sides; number = scan.number; first = scan.first }

cut_more : (n b : ℕ) → digit_more (min n 1000000) b ≡ min (n * 10 + (b - 48)) 1000000
cut_more n b = omega arith

-- what ends a number that was accepted
past_then : (sides : Sides) (n : ℕ) → length (past sides) + 1 < 3 → n ∷ past sides ≡ past (sides_then sides n)
past_then Neither n few = refl
past_then (Width w) n few = refl
past_then (Both w h) n few = absurd (omega arith)

both_sides : (sides : Sides) → 3 ≤ length (past sides) + 1 → (w h : ℕ) × (sides ≡ Both w h)
both_sides Neither many = absurd (omega arith)
both_sides (Width w) many = absurd (omega arith)
both_sides (Both w h) many = (w, h, refl)

abbrev closed : HeaderState → Scan → Scan
closed to scan = record { stand = to; sides = sides_then scan.sides scan.number; number = scan.number; first = scan.first }

-- What the run says of a number that ends with this byte.
same_number : (from : HeaderState) (ns bytes : List ℕ) (b : ℕ) → run Start [] bytes ≡ Some (reached from ns) → (e : Ends (bytes ++ b ∷ [])) → (from ≡ Digits) × (ns ≡ e.number ∷ e.earlier) × (is_digit b ≡ false)
same_number from ns bytes b ran e =
    let is = ends_run bytes b e.at e.number e.earlier e.ends e.few in
    let some : Some (reached from ns) ≡ Some (reached Digits (e.number ∷ e.earlier)) = sym ran ∙ is.0 in
    let same : reached from ns ≡ reached Digits (e.number ∷ e.earlier) = cc in
    (ap (λ (r : Reached). r.stand) same, ap (λ (r : Reached). r.numbers) same, is.1)

digit_not : (b : ℕ) → is_digit b ≡ true → is_digit b ≡ false → ⊥
digit_not b does isnt = let e : true ≡ false = sym does ∙ isnt in cc

-- a sample's bytes are some
pub some_bytes : (maxval sample : ℕ) → 0 < length (sample_bytes maxval sample)
some_bytes maxval sample = elim (ltb maxval 256) as (λ t. 0 < length (cond t (sample ∷ []) (sample / 256 ∷ sample % 256 ∷ []))) [ true ↦ omega arith | false ↦ omega arith ]

no_err : (f : PlateFault) (x : Scan) → ◌≡◌ {A = Step} (Err f) (Ok x) → ⊥
no_err f x e = cc

module _ (bounds : Bounds) where
  -- what holds after a step
  pub record Moved (to : HeaderState) (next : Scan) (ns bytes : List ℕ) : Type 0 where
    pub stand : next.stand ≡ to
    pub fits : Fits to next ns bytes
    pub ranges : InRange bounds next.sides

  moved_as : (to : HeaderState) (made next : Scan) (ns bytes : List ℕ) → made ≡ next → Moved to made ns bytes → Moved to next ns bytes
  moved_as to made next ns bytes same moved = subst (λ (s : Scan). Moved to s ns bytes) same moved

  goes_on : (scan : Scan) (ns bytes : List ℕ) (b at : ℕ) → Fits Digits scan ns bytes → InRange bounds scan.sides → is_digit b ≡ true → Moved Digits (record { stand = Digits; sides = scan.sides; number = digit_more scan.number b; first = scan.first }) (numbers_then Digits Digits ns b) (bytes ++ b ∷ [])
  goes_on scan ns bytes b at fits range digit =
      let n = fits.0 in
      let here = fits.3 in
      record {
        stand = refl;
        fits = (
          n * 10 + (b - 48),
          ap (λ (x : List ℕ). numbers_then Digits Digits x b) fits.1,
          ap (λ (x : ℕ). digit_more x b) fits.2 ∙ cut_more n b,
          record {
            prefix = here.prefix;
            gap = here.gap;
            digits = here.digits ++ b ∷ [];
            numbers = here.numbers;
            is_gap = here.is_gap;
            is_number = number_more here.digits n b here.is_number digit;
            place = here.place;
            whole = ap (λ (x : List ℕ). x ++ b ∷ []) here.whole ∙ append_assoc (here.prefix ++ here.gap) here.digits (b ∷ []);
          },
        );
        ranges = range;
      }

  begins : (scan : Scan) (ns bytes : List ℕ) (b : ℕ) → Standing Gap ns bytes → ns ≡ past scan.sides → InRange bounds scan.sides → is_digit b ≡ true → Moved Digits (record { stand = Digits; sides = scan.sides; number = digit_more 0 b; first = length bytes }) ((b - 48) ∷ ns) (bytes ++ b ∷ [])
  begins scan ns bytes b standing same range digit = record {
    stand = refl;
    fits = (
      b - 48,
      ap (λ (x : List ℕ). (b - 48) ∷ x) same,
      (let e : digit_more 0 b ≡ min (b - 48) 1000000 = omega arith in e),
      record {
        prefix = standing.0;
        gap = standing.1;
        digits = b ∷ [];
        numbers = subst (λ (x : List ℕ). Numbers standing.0 x) same standing.3;
        is_gap = standing.4;
        is_number = one_digit b digit;
        place = ap length (sym standing.5);
        whole = ap (λ (x : List ℕ). x ++ b ∷ []) standing.5;
      },
    );
    ranges = range;
  }

  kept : (scan : Scan) (ns bytes : List ℕ) (fits : Fits Digits scan ns bytes) → number_fault bounds scan.sides scan.number scan.first ≡ None → scan.number ≡ fits.0
  kept scan ns bytes fits none =
      fits.2 ∙ kept_number bounds scan.sides fits.0 scan.first (ap (λ (n : ℕ). number_fault bounds scan.sides n scan.first) (sym fits.2) ∙ none)

  closes : (to : HeaderState) (scan : Scan) (ns bytes : List ℕ) → Fits Digits scan ns bytes → InRange bounds scan.sides → length (past scan.sides) + 1 < 3 → number_fault bounds scan.sides scan.number scan.first ≡ None → ns ≡ past (sides_then scan.sides scan.number)
  closes to scan ns bytes fits range few none =
      fits.1 ∙ ap (λ (n : ℕ). n ∷ past scan.sides) (sym (kept scan ns bytes fits none)) ∙ past_then scan.sides scan.number few

  ends_header : (scan : Scan) (ns bytes after : List ℕ) → Fits Digits scan ns bytes → InRange bounds scan.sides → 3 ≤ length (past scan.sides) + 1 → number_fault bounds scan.sides scan.number scan.first ≡ None → Moved Ended (closed Ended scan) ns after
  ends_header scan ns bytes after fits range many none =
      let both = both_sides scan.sides many in
      let w = both.0 in
      let h = both.1 in
      let fine = accepted_maxval bounds w h scan.number scan.first (ap (λ (s : Sides). number_fault bounds s scan.number scan.first) (sym both.2) ∙ none) in
      record {
        stand = refl;
        fits = (
          w,
          h,
          ap (λ (s : Sides). sides_then s scan.number) both.2,
          fits.1 ∙ ap (λ (n : ℕ). n ∷ past scan.sides) (sym (kept scan ns bytes fits none)) ∙ ap (λ (s : Sides). scan.number ∷ past s) both.2,
          fine.0,
          fine.1,
        );
        ranges = accepted bounds scan.sides scan.number scan.first none range;
      }

  moves : (from to : HeaderState) (scan next : Scan) (ns bytes : List ℕ) (b : ℕ) → Standing from ns bytes → Fits from scan ns bytes → InRange bounds scan.sides → Lands from to (length (past scan.sides) + 1) b → entered bounds from to scan b (length bytes) ≡ Ok next → Moved to next (numbers_then from to ns b) (bytes ++ b ∷ [])
  moves Digits Digits scan next ns bytes b standing fits range on e = moved_as Digits _ next (numbers_then Digits Digits ns b) (bytes ++ b ∷ []) (ok_same _ next e) (goes_on scan ns bytes b (length bytes) fits range on)
  moves Gap Digits scan next ns bytes b standing fits range on e = moved_as Digits _ next ((b - 48) ∷ ns) (bytes ++ b ∷ []) (ok_same _ next e) (begins scan ns bytes b standing fits range on)
  moves Digits Gap scan next ns bytes b standing fits range on e =
      let is = judged_ok (number_fault bounds scan.sides scan.number scan.first) (closed Gap scan) next e in
      moved_as Gap (closed Gap scan) next ns (bytes ++ b ∷ []) is.1 (record { stand = refl; fits = closes Gap scan ns bytes fits range on.1 is.0; ranges = accepted bounds scan.sides scan.number scan.first is.0 range })
  moves Digits Comment scan next ns bytes b standing fits range on e =
      let is = judged_ok (number_fault bounds scan.sides scan.number scan.first) (closed Comment scan) next e in
      moved_as Comment (closed Comment scan) next ns (bytes ++ b ∷ []) is.1 (record { stand = refl; fits = closes Comment scan ns bytes fits range on.1 is.0; ranges = accepted bounds scan.sides scan.number scan.first is.0 range })
  moves Digits Ended scan next ns bytes b standing fits range on e =
      let is = judged_ok (number_fault bounds scan.sides scan.number scan.first) (closed Ended scan) next e in
      moved_as Ended (closed Ended scan) next ns (bytes ++ b ∷ []) is.1 (ends_header scan ns bytes (bytes ++ b ∷ []) fits range on.1 is.0)
  moves Start Letter scan next ns bytes b standing fits range on e = moved_as Letter (plain Letter scan) next ns (bytes ++ b ∷ []) (ok_same _ next e) (record { stand = refl; fits = fits; ranges = range })
  moves Letter Magic scan next ns bytes b standing fits range on e = moved_as Magic (plain Magic scan) next ns (bytes ++ b ∷ []) (ok_same _ next e) (record { stand = refl; fits = fits; ranges = range })
  moves Magic Gap scan next ns bytes b standing fits range on e = moved_as Gap (plain Gap scan) next ns (bytes ++ b ∷ []) (ok_same _ next e) (record { stand = refl; fits = fits; ranges = range })
  moves Magic Comment scan next ns bytes b standing fits range on e = moved_as Comment (plain Comment scan) next ns (bytes ++ b ∷ []) (ok_same _ next e) (record { stand = refl; fits = fits; ranges = range })
  moves Gap Gap scan next ns bytes b standing fits range on e = moved_as Gap (plain Gap scan) next ns (bytes ++ b ∷ []) (ok_same _ next e) (record { stand = refl; fits = fits; ranges = range })
  moves Gap Comment scan next ns bytes b standing fits range on e = moved_as Comment (plain Comment scan) next ns (bytes ++ b ∷ []) (ok_same _ next e) (record { stand = refl; fits = fits; ranges = range })
  moves Comment Gap scan next ns bytes b standing fits range on e = moved_as Gap (plain Gap scan) next ns (bytes ++ b ∷ []) (ok_same _ next e) (record { stand = refl; fits = fits; ranges = range })
  moves Comment Comment scan next ns bytes b standing fits range on e = moved_as Comment (plain Comment scan) next ns (bytes ++ b ∷ []) (ok_same _ next e) (record { stand = refl; fits = fits; ranges = range })
  moves from to scan next ns bytes b standing fits range on e = absurd on

  pub not_numbered : (bytes : List ℕ) → (Ends bytes → ⊥) → (fault : PlateFault) → NumberFault bounds bytes fault → ⊥
  not_numbered bytes none fault h = none (fault_ends bounds bytes fault h)

  judged_number : (scan : Scan) (ns bytes : List ℕ) (b : ℕ) → run Start [] bytes ≡ Some (reached Digits ns) → Fits Digits scan ns bytes → InRange bounds scan.sides → number_fault bounds scan.sides scan.number scan.first ≡ None → (fault : PlateFault) → NumberFault bounds (bytes ++ b ∷ []) fault → ⊥
  judged_number scan ns bytes b ran fits range none =
      no_fault bounds scan.sides scan.number scan.first (bytes ++ b ∷ []) none range
      (λ (e : Ends (bytes ++ b ∷ [])).
      let is = same_number Digits ns bytes b ran e in
      let both : fits.0 ∷ past scan.sides ≡ e.number ∷ e.earlier = sym fits.1 ∙ is.1 in
      let head : e.number ≡ fits.0 = cc in
      let rest : e.earlier ≡ past scan.sides = cc in
      (head ∙ sym (kept scan ns bytes fits none), rest))

  stays_numbered : (from to : HeaderState) (scan next : Scan) (ns bytes : List ℕ) (b : ℕ) → run Start [] bytes ≡ Some (reached from ns) → Fits from scan ns bytes → InRange bounds scan.sides → Lands from to (length (past scan.sides) + 1) b → entered bounds from to scan b (length bytes) ≡ Ok next → (fault : PlateFault) → NumberFault bounds (bytes ++ b ∷ []) fault → ⊥
  stays_numbered Digits Digits scan next ns bytes b ran fits range on e = not_numbered (bytes ++ b ∷ []) (λ (n : Ends (bytes ++ b ∷ [])). digit_not b on ((same_number Digits ns bytes b ran n).2))
  stays_numbered Digits Gap scan next ns bytes b ran fits range on e = judged_number scan ns bytes b ran fits range ((judged_ok (number_fault bounds scan.sides scan.number scan.first) (closed Gap scan) next e).0)
  stays_numbered Digits Comment scan next ns bytes b ran fits range on e = judged_number scan ns bytes b ran fits range ((judged_ok (number_fault bounds scan.sides scan.number scan.first) (closed Comment scan) next e).0)
  stays_numbered Digits Ended scan next ns bytes b ran fits range on e = judged_number scan ns bytes b ran fits range ((judged_ok (number_fault bounds scan.sides scan.number scan.first) (closed Ended scan) next e).0)
  stays_numbered Digits Start scan next ns bytes b ran fits range on e = absurd on
  stays_numbered Digits Letter scan next ns bytes b ran fits range on e = absurd on
  stays_numbered Digits Magic scan next ns bytes b ran fits range on e = absurd on
  stays_numbered Start to scan next ns bytes b ran fits range on e = not_numbered (bytes ++ b ∷ []) (λ (n : Ends (bytes ++ b ∷ [])). let is : Start ≡ Digits = (same_number Start ns bytes b ran n).0 in cc)
  stays_numbered Letter to scan next ns bytes b ran fits range on e = not_numbered (bytes ++ b ∷ []) (λ (n : Ends (bytes ++ b ∷ [])). let is : Letter ≡ Digits = (same_number Letter ns bytes b ran n).0 in cc)
  stays_numbered Magic to scan next ns bytes b ran fits range on e = not_numbered (bytes ++ b ∷ []) (λ (n : Ends (bytes ++ b ∷ [])). let is : Magic ≡ Digits = (same_number Magic ns bytes b ran n).0 in cc)
  stays_numbered Gap to scan next ns bytes b ran fits range on e = not_numbered (bytes ++ b ∷ []) (λ (n : Ends (bytes ++ b ∷ [])). let is : Gap ≡ Digits = (same_number Gap ns bytes b ran n).0 in cc)
  stays_numbered Comment to scan next ns bytes b ran fits range on e = not_numbered (bytes ++ b ∷ []) (λ (n : Ends (bytes ++ b ∷ [])). let is : Comment ≡ Digits = (same_number Comment ns bytes b ran n).0 in cc)
  stays_numbered Ended to scan next ns bytes b ran fits range on e = not_numbered (bytes ++ b ∷ []) (λ (n : Ends (bytes ++ b ∷ [])). let is : Ended ≡ Digits = (same_number Ended ns bytes b ran n).0 in cc)

  -- The last of these bytes decides nothing.
  pub quiet : (bytes : List ℕ) (scan : Scan) → ScannedWithin bounds bytes scan → ((scan.stand ≡ Ended) ⊎ (length bytes < 65536)) → (fault : PlateFault) → DecidesWithin bounds bytes fault → ⊥
  quiet bytes scan scanned fine (BadMagic at) d = d.1.broken (runs_begun scan.stand scanned.ns bytes scanned.ran)
  quiet bytes scan scanned fine (BadHeader at) d =
      elim d [
        | inl broken ↦ broken.1.broken (runs_begun scan.stand scanned.ns bytes scanned.ran)
        | inr long ↦ elim fine [
          | inl ended ↦
              let header = ended_header scanned.ns bytes (scanned.ran ∙ ap (λ (s : HeaderState). Some (reached s scanned.ns)) ended) in
              holds_header bytes [] header.0 header.1 header.2 header.4 (subst HoldsNoHeader (sym (append-nil bytes)) long.1.unended)
          | inr short ↦ omega (arith, long.1.long)
        ]
      ]
  quiet bytes scan scanned fine (SideRange at) d = scanned.numbered (SideRange at) d
  quiet bytes scan scanned fine (TooManySamples at) d = scanned.numbered (TooManySamples at) d
  quiet bytes scan scanned fine (MaxvalRange at) d = scanned.numbered (MaxvalRange at) d
  quiet bytes scan scanned fine (SampleAboveMaxval at) d =
      let back = raster d.maxval d.samples ++ sample_bytes d.maxval d.sample in
      let begun : IsBegun (d.header ++ back) = subst IsBegun (d.whole ∙ append_assoc d.header (raster d.maxval d.samples) (sample_bytes d.maxval d.sample)) (runs_begun scan.stand scanned.ns bytes scanned.ran) in
      let none : back ≡ [] = begun_stops d.header back d.width d.height d.maxval d.is_header begun in
      let some = some_bytes d.maxval d.sample in
      omega (arith, ap length none, length-append (raster d.maxval d.samples) (sample_bytes d.maxval d.sample), some)
  quiet bytes scan scanned fine (TrailingBytes at) d =
      let back = raster d.maxval d.samples ++ d.last ∷ [] in
      let begun : IsBegun (d.header ++ back) = subst IsBegun (d.whole ∙ append_assoc d.header (raster d.maxval d.samples) (d.last ∷ [])) (runs_begun scan.stand scanned.ns bytes scanned.ran) in
      let none : back ≡ [] = begun_stops d.header back d.width d.height d.maxval d.is_header begun in
      omega (arith, ap length none, length-append (raster d.maxval d.samples) (d.last ∷ []))
  quiet bytes scan scanned fine (Truncated at) d = d

  pub still_clean : (bytes : List ℕ) (scan : Scan) → ScannedWithin bounds bytes scan → ((scan.stand ≡ Ended) ⊎ (length bytes < 65536)) → IsClean bounds bytes (length bytes + 1)
  still_clean bytes scan scanned fine = clean_all bounds bytes scanned.early (quiet bytes scan scanned fine)

  -- The scan of one byte more.
  pub scan_more_within : (bytes : List ℕ) (b : ℕ) (scan next : Scan) → ScannedWithin bounds bytes scan → length bytes < 65536 → scan_step_within bounds scan b (length bytes) ≡ Ok next → ScannedWithin bounds (bytes ++ b ∷ []) next
  scan_more_within bytes b scan next scanned short e =
      let k = length (past scan.sides) + 1 in
      let by_step : (o : Option HeaderState) → step scan.stand k b ≡ o → stepped bounds o scan b (length bytes) ≡ Ok next → ScannedWithin bounds (bytes ++ b ∷ []) next =
      λ o. elim o as (λ o. step scan.stand k b ≡ o → stepped bounds o scan b (length bytes) ≡ Ok next → ScannedWithin bounds (bytes ++ b ∷ []) next) [
        | None ↦ λ is h. absurd (no_err (header_fault (length bytes)) next h)
        | Some to ↦ λ is h.
            let on = lands scan.stand to k b is in
            let standing : Standing scan.stand scanned.ns bytes = run_sound Start [] [] bytes (reached scan.stand scanned.ns) (refl, refl) scanned.ran in
            let moved = moves scan.stand to scan next scanned.ns bytes b standing scanned.fits scanned.ranges on h in
            let here : step scan.stand (length scanned.ns) b ≡ Some to = same_step scan.stand scan scanned.ns bytes b scanned.fits ∙ is in
            record {
              ns = numbers_then scan.stand to scanned.ns b;
              ran = run_more scan.stand to scanned.ns bytes b scanned.ran here ∙ ap (λ (s : HeaderState). Some (reached s (numbers_then scan.stand to scanned.ns b))) (sym moved.stand);
              fits = subst (λ (s : HeaderState). Fits s next (numbers_then scan.stand to scanned.ns b) (bytes ++ b ∷ [])) (sym moved.stand) moved.fits;
              ranges = moved.ranges;
              early = clean_push bounds bytes b (still_clean bytes scan scanned (inr short));
              numbered = stays_numbered scan.stand to scan next scanned.ns bytes b scanned.ran scanned.fits scanned.ranges on h;
            }
      ] in
      by_step (step scan.stand k b) refl e

  header_decides : (bytes : List ℕ) (at : ℕ) → Breaks bytes at → DecidesWithin bounds bytes (header_fault at)
  header_decides bytes at broken =
      elim (chosen (ltb at 2) (BadMagic at) (BadHeader at) (header_fault at) refl) [
        | inl h ↦ subst (DecidesWithin bounds bytes) h.1 (grind (arith, nat_tests, h.0), broken)
        | inr h ↦ subst (DecidesWithin bounds bytes) h.1 (inl (grind (arith, nat_tests, h.0), broken))
      ]

  number_decides : (bytes : List ℕ) (fault : PlateFault) → NumberFault bounds bytes fault → DecidesWithin bounds bytes fault
  number_decides bytes (SideRange at) h = h
  number_decides bytes (TooManySamples at) h = h
  number_decides bytes (MaxvalRange at) h = h
  number_decides bytes (BadMagic at) h = absurd h
  number_decides bytes (BadHeader at) h = absurd h
  number_decides bytes (SampleAboveMaxval at) h = absurd h
  number_decides bytes (Truncated at) h = absurd h
  number_decides bytes (TrailingBytes at) h = absurd h

  judged_fault : (to : HeaderState) (scan : Scan) (ns bytes : List ℕ) (b : ℕ) (fault : PlateFault) → Fits Digits scan ns bytes → InRange bounds scan.sides → is_digit b ≡ false → IsBegun (bytes ++ b ∷ []) → judged (number_fault bounds scan.sides scan.number scan.first) (closed to scan) ≡ Err fault → DecidesWithin bounds (bytes ++ b ∷ []) fault
  judged_fault to scan ns bytes b fault fits range other begun e =
      let here = fits.3 in
      let is = judged_err (number_fault bounds scan.sides scan.number scan.first) (closed to scan) fault e in
      number_decides (bytes ++ b ∷ []) fault (faulty bounds scan.sides fits.0 scan.first (bytes ++ b ∷ []) fault
      (ap (λ (n : ℕ). number_fault bounds scan.sides n scan.first) (sym fits.2) ∙ is) range
      (record {
        prefix = here.prefix;
        gap = here.gap;
        digits = here.digits;
        next = b;
        whole = ap (λ (x : List ℕ). x ++ b ∷ []) here.whole;
        numbers = here.numbers;
        is_gap = here.is_gap;
        place = here.place;
        is_number = here.is_number;
        ended = other;
        begun = begun;
      }))

  faults : (from to : HeaderState) (scan : Scan) (ns bytes : List ℕ) (b : ℕ) (fault : PlateFault) → Fits from scan ns bytes → InRange bounds scan.sides → Lands from to (length (past scan.sides) + 1) b → IsBegun (bytes ++ b ∷ []) → entered bounds from to scan b (length bytes) ≡ Err fault → DecidesWithin bounds (bytes ++ b ∷ []) fault
  faults Digits Gap scan ns bytes b fault fits range on begun e = judged_fault Gap scan ns bytes b fault fits range on.0 begun e
  faults Digits Comment scan ns bytes b fault fits range on begun e = judged_fault Comment scan ns bytes b fault fits range on.0 begun e
  faults Digits Ended scan ns bytes b fault fits range on begun e = judged_fault Ended scan ns bytes b fault fits range on.0 begun e
  faults Digits Digits scan ns bytes b fault fits range on begun e = absurd (ok_not_err _ fault e)
  faults Gap Digits scan ns bytes b fault fits range on begun e = absurd (ok_not_err _ fault e)
  faults Start Letter scan ns bytes b fault fits range on begun e = absurd (ok_not_err _ fault e)
  faults Letter Magic scan ns bytes b fault fits range on begun e = absurd (ok_not_err _ fault e)
  faults Magic Gap scan ns bytes b fault fits range on begun e = absurd (ok_not_err _ fault e)
  faults Magic Comment scan ns bytes b fault fits range on begun e = absurd (ok_not_err _ fault e)
  faults Gap Gap scan ns bytes b fault fits range on begun e = absurd (ok_not_err _ fault e)
  faults Gap Comment scan ns bytes b fault fits range on begun e = absurd (ok_not_err _ fault e)
  faults Comment Gap scan ns bytes b fault fits range on begun e = absurd (ok_not_err _ fault e)
  faults Comment Comment scan ns bytes b fault fits range on begun e = absurd (ok_not_err _ fault e)
  faults from to scan ns bytes b fault fits range on begun e = absurd on

  -- The fault of one byte more.
  pub scan_faults_within : (bytes : List ℕ) (b : ℕ) (scan : Scan) (fault : PlateFault) → ScannedWithin bounds bytes scan → (scan.stand ≡ Ended → ⊥) → scan_step_within bounds scan b (length bytes) ≡ Err fault → DecidesWithin bounds (bytes ++ b ∷ []) fault
  scan_faults_within bytes b scan fault scanned open_yet e =
      let k = length (past scan.sides) + 1 in
      let by_step : (o : Option HeaderState) → step scan.stand k b ≡ o → stepped bounds o scan b (length bytes) ≡ Err fault → DecidesWithin bounds (bytes ++ b ∷ []) fault =
      λ o. elim o as (λ o. step scan.stand k b ≡ o → stepped bounds o scan b (length bytes) ≡ Err fault → DecidesWithin bounds (bytes ++ b ∷ []) fault) [
        | None ↦ λ is h.
            let here : step scan.stand (length scanned.ns) b ≡ None = same_step scan.stand scan scanned.ns bytes b scanned.fits ∙ is in
            subst (DecidesWithin bounds (bytes ++ b ∷ [])) (err_same (header_fault (length bytes)) fault h)
            (header_decides (bytes ++ b ∷ []) (length bytes) (record {
              prefix = bytes;
              last = b;
              whole = refl;
              place = refl;
              begun = runs_begun scan.stand scanned.ns bytes scanned.ran;
              unended = unended scan.stand scanned.ns bytes scanned.ran open_yet;
              broken = breaks scan.stand scanned.ns bytes b scanned.ran here;
            }))
        | Some to ↦ λ is h.
            let here : step scan.stand (length scanned.ns) b ≡ Some to = same_step scan.stand scan scanned.ns bytes b scanned.fits ∙ is in
            let next : run Start [] (bytes ++ b ∷ []) ≡ Some (reached to (numbers_then scan.stand to scanned.ns b)) = run_more scan.stand to scanned.ns bytes b scanned.ran here in
            faults scan.stand to scan scanned.ns bytes b fault scanned.fits scanned.ranges (lands scan.stand to k b is) (runs_begun to (numbers_then scan.stand to scanned.ns b) (bytes ++ b ∷ []) next) h
      ] in
      by_step (step scan.stand k b) refl e

-- The same of a page's plates.
pub scan_more : (bytes : List ℕ) (b : ℕ) (scan next : Scan) → ScannedWithin Page bytes scan → length bytes < 65536 → scan_step_within Page scan b (length bytes) ≡ Ok next → ScannedWithin Page (bytes ++ b ∷ []) next
scan_more = scan_more_within Page

pub scan_faults : (bytes : List ℕ) (b : ℕ) (scan : Scan) (fault : PlateFault) → ScannedWithin Page bytes scan → (scan.stand ≡ Ended → ⊥) → scan_step_within Page scan b (length bytes) ≡ Err fault → DecidesWithin Page (bytes ++ b ∷ []) fault
scan_faults = scan_faults_within Page
