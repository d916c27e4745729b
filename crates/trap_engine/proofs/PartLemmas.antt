-- The rows of the parts stay as they are while it is counted in them, and one part more follows the others.
use Rattle.std.proofs.Common.{◌≡◌, ℕ, ◌+◌, ◌<◌, ◌≤◌, ◌∙◌, ◌∷◌, ◌++◌, [], sym, ap, arith, List, length, inl, inr}
use Rattle.std.specs.Prelude.{◌-◌, min, slice_index_or}
use Rattle.std.proofs.lemmas.Bool.{cases_eq}
use Rattle.std.specs.Prelude.{◌*◌, ◌/◌, ◌%◌, slice_set}
use Rattle.std.proofs.Math.Nat.{div-add-mod, lt_of_mul-lt-mul_right, mod-lt}
use Rattle.std.proofs.lemmas.List.{get_or_append_left, get_or_push, get_or-set_other, get_or-set_same, length-append, length-set}
use Rattle.row_values.specs.declared.rows.Rows.{Rows}
use Rattle.page_model.specs.declared.parts.PageParts.{PageParts}
use Rattle.page_model.specs.Page.{height}
use Rattle.trap_engine.specs.declared.parts.Part.{Part}
use Rattle.trap_engine.specs.Memory.{KeepsParts, KeepsTally}
use Rattle.trap_engine.specs.Parts.{AreOfSize, CoverPage, IsPart}

-- the parts' rows are those of before
abbrev pub SameRows : List Part → List Part → Type 0
SameRows parts after = (i : ℕ) (d : Part) → i < length parts → (slice_index_or after i d).rows ≡ (slice_index_or parts i d).rows

pub cover_kept : (page : PageParts) (parts after : List Part) → length after ≡ length parts → SameRows parts after → CoverPage page parts → CoverPage page after
cover_kept page parts after e same h = record {
  some = omega (arith, e, h.some);
  first = λ d. ap (λ (r : Rows). r.first) (same 0 d (omega (arith, h.some))) ∙ h.first d;
  next = λ i d l. ap (λ (r : Rows). r.first) (same (i + 1) d (omega (arith, e, l))) ∙ (h.next i d (omega (arith, e, l)) ∙ sym (ap (λ (r : Rows). r.first + r.count) (same i d (omega (arith, e, l)))));
  last = λ i d l. ap (λ (r : Rows). r.first + r.count) (same i d (omega (arith, e, l))) ∙ h.last i d (l ∙ e);
}

-- one part more of that size
pub one_of_size : (page : PageParts) (size : ℕ) (parts : List Part) (one : Part) → one.rows.count ≡ min (height page - one.rows.first) size → AreOfSize page size parts → AreOfSize page size (parts ++ one ∷ [])
one_of_size page size parts one e h i d l =
    let long : length (parts ++ one ∷ []) ≡ length parts + 1 = length-append parts (one ∷ []) in
    elim (cases_eq i (length parts)) [
      | inl n ↦ (let at = get_or_push parts one d i (sym n) in rw at e)
      | inr ne ↦ (let at = get_or_append_left parts (one ∷ []) d i (omega (arith, l, long, ne)) in rw at (h i d (omega (arith, l, long, ne))))
    ]

-- some parts that follow one another, from the page's first row to one before another
pub record AreLaid (page : PageParts) (to : ℕ) (parts : List Part) : Type 0 where
  pub none : length parts ≡ 0 → to ≡ 0
  pub first : (d : Part) → 1 ≤ length parts → (slice_index_or parts 0 d).rows.first ≡ 0
  pub next : (i : ℕ) (d : Part) → i + 1 < length parts → (slice_index_or parts (i + 1) d).rows.first ≡ (slice_index_or parts i d).rows.first + (slice_index_or parts i d).rows.count
  pub last : (i : ℕ) (d : Part) → i + 1 ≡ length parts → (slice_index_or parts i d).rows.first + (slice_index_or parts i d).rows.count ≡ to
  pub each : (i : ℕ) (d : Part) → i < length parts → IsPart page (slice_index_or parts i d)

abbrev begin_of : Part → ℕ
begin_of part = part.rows.first

abbrev end_of : Part → ℕ
end_of part = part.rows.first + part.rows.count

pub one_laid : (page : PageParts) (to : ℕ) (parts : List Part) (one : Part) → one.rows.first ≡ to → IsPart page one → AreLaid page to parts → AreLaid page (to + one.rows.count) (parts ++ one ∷ [])
one_laid page to parts one e here h =
    let long : length (parts ++ one ∷ []) ≡ length parts + 1 = length-append parts (one ∷ []) in
    record {
      none = λ n. absurd (omega (arith, n, long));
      first = λ d l. elim (cases_eq (length parts) 0) [
        | inl n ↦ ap begin_of (get_or_push parts one d 0 n) ∙ (e ∙ h.none n)
        | inr ne ↦ ap begin_of (get_or_append_left parts (one ∷ []) d 0 (omega (arith, ne))) ∙ h.first d (omega (arith, ne))
      ];
      next = λ i d l. elim (cases_eq (i + 1) (length parts)) [
        | inl n ↦ ap begin_of (get_or_push parts one d (i + 1) (sym n)) ∙ (e ∙ sym (ap end_of (get_or_append_left parts (one ∷ []) d i (omega (arith, n))) ∙ h.last i d n))
        | inr ne ↦ ap begin_of (get_or_append_left parts (one ∷ []) d (i + 1) (omega (arith, l, long, ne))) ∙ (h.next i d (omega (arith, l, long, ne)) ∙ sym (ap end_of (get_or_append_left parts (one ∷ []) d i (omega (arith, l, long, ne)))))
      ];
      last = λ i d l. ap end_of (get_or_push parts one d i (omega (arith, l, long))) ∙ ap (λ (n : ℕ). n + one.rows.count) e;
      each = λ i d l. elim (cases_eq i (length parts)) [
        | inl n ↦ (let at = get_or_push parts one d i (sym n) in rw at here)
        | inr ne ↦ (let at = get_or_append_left parts (one ∷ []) d i (omega (arith, l, long, ne)) in rw at (h.each i d (omega (arith, l, long, ne))))
      ];
    }

-- parts of one size are as many as the rows before the next one call for, and so no more than are asked for

one_more : (n size : ℕ) → (n + 1) * size ≡ n * size + size
one_more n size = omega arith

pub one_even : (parts : List Part) (one : Part) (size first tall count : ℕ) → first < tall → count ≡ min (tall - first) size → length parts * size ≡ first → first + count < tall → length (parts ++ one ∷ []) * size ≡ first + count
one_even parts one size first tall count low e h l =
    let long : length (parts ++ one ∷ []) ≡ length parts + 1 = length-append parts (one ∷ []) in
    rw long (omega (arith, one_more (length parts) size, low, e, h, l))

pub one_few : (parts : List Part) (one : Part) (size first tall : ℕ) → first < tall → length parts * size ≡ first → length (parts ++ one ∷ []) * size < tall + size
one_few parts one size first tall low h =
    let long : length (parts ++ one ∷ []) ≡ length parts + 1 = length-append parts (one ∷ []) in
    rw long (omega (arith, one_more (length parts) size, low, h))

pub at_most : (n most size tall : ℕ) → 1 ≤ most → size ≡ tall / most + 1 → n * size < tall + size → n ≤ most
at_most n most size tall some e few =
    let whole : most * (tall / most) + tall % most ≡ tall = div-add-mod tall most in
    let less : tall % most < most = mod-lt tall some in
    let all : most * size ≡ most * (tall / most) + most = ap (λ (s : ℕ). most * s) e ∙ omega arith in
    let enough : n * size < (most + 1) * size = omega (arith, one_more most size, all, whole, less, few) in
    let below : n < most + 1 = lt_of_mul-lt-mul_right size enough in
    omega (arith, below)

-- the room of the parts' tallies

pub one_kept : (before after : List Part) (k : ℕ) (one : Part) → k < length after → ((d : Part) → KeepsTally (slice_index_or after k d).tally one.tally) → KeepsParts before after → KeepsParts before (slice_set after k one)
one_kept before after k one within here h = record {
  count = length-set after k one ∙ h.count;
  each = λ i d l. elim (cases_eq i k) [
    | inl e ↦ (let old = h.each i d l in let new = here d in rw (e, get_or-set_same after k one d within) (record {
      zones = new.zones ∙ rw e at old.zones;
      marks = new.marks ∙ rw e at old.marks;
      changes = new.changes ∙ rw e at old.changes;
      zone_samples = new.zone_samples ∙ rw e at old.zone_samples;
      zone_changed = new.zone_changed ∙ rw e at old.zone_changed;
    }))
    | inr ne ↦ rw (get_or-set_other after k i one d ne) (h.each i d l)
  ];
}
