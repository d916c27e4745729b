-- Shares: what cutting them finer, halving and joining make of their parts, and who has published where one pass has the whole.
use Rattle.std.proofs.Common.{◌≡◌, ◌≢◌, ℕ, Bool, true, false, zero, suc, ◌+◌, ◌*◌, ◌≤◌, List, [], ◌∷◌, ◌++◌, length, set, refl, sym, ap, ◌∙◌, subst, inl, inr, arith}
use mathlib.Core.Option.{some, some-injective, some-ne-none}
use lib.ListN.{get_elem?}
use Rattle.band_claims.specs.declared.view.View.{View}
use Rattle.band_claims.specs.Shares.{power, part_of, parts_of, IsCutBy, halved, IsWhole, SameShare}
use Rattle.band_claims.specs.Views.{total, parted, branched, joined, spent}
use Rattle.band_claims.specs.Rule.{parts, AreOneWhole}
use Rattle.band_claims.proofs.Totals.{total_set, total_snoc, two_of}
use Rattle.atomic_table.proofs.Lists.{at_set, at_snoc, set_else}

pub part_finer : (n d : ℕ) → d ≤ n → part_of (suc n) d ≡ 2 * part_of n d
part_finer n zero l = refl
part_finer zero (suc d) l = absurd (omega (arith, l))
part_finer (suc n) (suc d) l = part_finer n d (omega (arith, l))

pub parts_finer : (n : ℕ) (ds : List ℕ) → IsCutBy n ds → parts_of (suc n) ds ≡ 2 * parts_of n ds
parts_finer n [] h = omega arith
parts_finer n (d ∷ ds) h = let one = part_finer n d h.0 in let rest = parts_finer n ds h.1 in omega (arith, one, rest)

pub cut_finer : (n : ℕ) (ds : List ℕ) → IsCutBy n ds → IsCutBy (suc n) ds
cut_finer n [] h = tt
cut_finer n (d ∷ ds) h = ((let l = h.0 in omega (arith, l)), cut_finer n ds h.1)

some_power : (n : ℕ) → 1 ≤ power n
some_power zero = omega arith
some_power (suc n) = let t = some_power n in omega (arith, t)

some_part : (n d : ℕ) → d ≤ n → 1 ≤ part_of n d
some_part n zero l = some_power n
some_part zero (suc d) l = absurd (omega (arith, l))
some_part (suc n) (suc d) l = some_part n d (omega (arith, l))

-- a share that is not empty has a part
no_parts : (n : ℕ) (ds : List ℕ) → IsCutBy n ds → parts_of n ds ≡ 0 → length ds ≡ 0
no_parts n [] h e = refl
no_parts n (d ∷ ds) h e = let some_one = some_part n d h.0 in absurd (omega (arith, some_one, e))

pub parts_halved : (n : ℕ) (ds : List ℕ) → parts_of (suc n) (halved ds) ≡ parts_of n ds
parts_halved n [] = refl
parts_halved n (d ∷ ds) = let rest = parts_halved n ds in omega (arith, rest)

pub cut_halved : (n : ℕ) (ds : List ℕ) → IsCutBy n ds → IsCutBy (suc n) (halved ds)
cut_halved n [] h = tt
cut_halved n (d ∷ ds) h = ((let l = h.0 in omega (arith, l)), cut_halved n ds h.1)

pub cut_whole : (n : ℕ) (ds : List ℕ) → IsCutBy n (halved ds) → IsCutBy n ds
cut_whole n [] h = tt
cut_whole n (d ∷ ds) h = ((let l = h.0 in omega (arith, l)), cut_whole n ds h.1)

pub length-halved : (ds : List ℕ) → length (halved ds) ≡ length ds
length-halved [] = refl
length-halved (d ∷ ds) = ap suc (length-halved ds)

pub parts_both : (n : ℕ) (ds es : List ℕ) → parts_of n (ds ++ es) ≡ parts_of n ds + parts_of n es
parts_both n [] es = omega arith
parts_both n (d ∷ ds) es = let rest = parts_both n ds es in omega (arith, rest)

pub cut_both : (n : ℕ) (ds es : List ℕ) → IsCutBy n ds → IsCutBy n es → IsCutBy n (ds ++ es)
cut_both n [] es h g = g
cut_both n (d ∷ ds) es h g = (h.0, cut_both n ds es h.1 g)

-- each share is cut by some number of halvings
pub some_cut : (ds : List ℕ) → (n : ℕ) × IsCutBy n ds
some_cut [] = (0, tt)
some_cut (d ∷ ds) = let t = some_cut ds in (t.0 + d, (omega arith, lifted t.0 d ds t.1)) where
  lifted : (n m : ℕ) (ds : List ℕ) → IsCutBy n ds → IsCutBy (n + m) ds
  lifted n m [] h = tt
  lifted n m (x ∷ xs) h = ((let l = h.0 in omega (arith, l)), lifted n m xs h.1)

-- the same share, cut by so many halvings more
record IsAll (n : ℕ) (ds : List ℕ) : Type 0 where
  pub cut : IsCutBy n ds
  pub all : parts_of n ds ≡ power n

all_finer : (n : ℕ) (ds : List ℕ) → IsAll n ds → IsAll (suc n) ds
all_finer n ds h = record { cut = cut_finer n ds h.cut; all = (let e = parts_finer n ds h.cut in let all = h.all in omega (arith, e, all)) }

all_by : (m n : ℕ) (ds : List ℕ) → IsAll n ds → IsAll (m + n) ds
all_by zero n ds h = subst (λ (z : ℕ). IsAll z ds) (let e : n ≡ 0 + n = omega arith in e) h
all_by (suc m) n ds h = subst (λ (z : ℕ). IsAll z ds) (let e : suc (m + n) ≡ suc m + n = omega arith in e) (all_finer (m + n) ds (all_by m n ds h))

record IsSame (n : ℕ) (ds es : List ℕ) : Type 0 where
  pub cut : IsCutBy n ds
  pub other_cut : IsCutBy n es
  pub same : parts_of n ds ≡ parts_of n es

same_finer : (n : ℕ) (ds es : List ℕ) → IsSame n ds es → IsSame (suc n) ds es
same_finer n ds es h = record {
  cut = cut_finer n ds h.cut;
  other_cut = cut_finer n es h.other_cut;
  same = (let a = parts_finer n ds h.cut in let b = parts_finer n es h.other_cut in let s = h.same in omega (arith, a, b, s));
}

same_by : (m n : ℕ) (ds es : List ℕ) → IsSame n ds es → IsSame (m + n) ds es
same_by zero n ds es h = subst (λ (z : ℕ). IsSame z ds es) (let e : n ≡ 0 + n = omega arith in e) h
same_by (suc m) n ds es h = subst (λ (z : ℕ). IsSame z ds es) (let e : suc (m + n) ≡ suc m + n = omega arith in e) (same_finer (m + n) ds es (same_by m n ds es h))

turn : (m n : ℕ) → m + n ≡ n + m
turn m n = omega arith

pub same_share : (ds es : List ℕ) → es ≡ ds → SameShare ds es
same_share ds es e = let t = some_cut ds in record { halvings = t.0; cut = t.1; other_cut = subst (IsCutBy t.0) (sym e) t.1; same = ap (parts_of t.0) (sym e) }

-- two halves of a share, each of which came back as another share of its size, are together of the share's size
pub halves_joined : (ds one two : List ℕ) → SameShare (halved ds) one → SameShare (halved ds) two → SameShare ds (one ++ two)
halves_joined ds one two a b =
    let n : ℕ = b.halvings + a.halvings in
    let x : IsSame n (halved ds) one = same_by b.halvings a.halvings (halved ds) one (record { cut = a.cut; other_cut = a.other_cut; same = a.same }) in
    let y : IsSame n (halved ds) two = subst (λ (z : ℕ). IsSame z (halved ds) two) (turn a.halvings b.halvings) (same_by a.halvings b.halvings (halved ds) two (record { cut = b.cut; other_cut = b.other_cut; same = b.same })) in
    let finer = parts_finer n (halved ds) x.cut in let whole = parts_halved n ds in let e = x.same in let f = y.same in
    record {
      halvings = n;
      cut = cut_whole n ds x.cut;
      other_cut = cut_both n one two x.other_cut y.other_cut;
      same = omega (arith, finer, whole, e, f, parts_both n one two);
    }

pub same_whole : (ds es : List ℕ) → SameShare ds es → IsWhole ds → IsWhole es
same_whole ds es s w =
    let n : ℕ = w.halvings + s.halvings in
    let x : IsSame n ds es = same_by w.halvings s.halvings ds es (record { cut = s.cut; other_cut = s.other_cut; same = s.same }) in
    let y : IsAll n ds = subst (λ (z : ℕ). IsAll z ds) (turn s.halvings w.halvings) (all_by s.halvings w.halvings ds (record { cut = w.cut; all = w.all })) in
    record { halvings = n; cut = x.other_cut; all = sym x.same ∙ y.all }

-- All views' shares, cut by n halvings, are one whole.
pub record OneWholeBy (n : ℕ) (views : List View) : Type 0 where
  pub cut : (id : ℕ) (v : View) → get_elem? views id ≡ some v → IsCutBy n v.share
  pub all : total (parts n) views ≡ power n

total_finer : (n : ℕ) (views : List View) → ((id : ℕ) (v : View) → get_elem? views id ≡ some v → IsCutBy n v.share) → total (parts (suc n)) views ≡ 2 * total (parts n) views
total_finer n [] cut = omega arith
total_finer n (x ∷ xs) cut = let one = parts_finer n x.share (cut 0 x refl) in let rest = total_finer n xs (λ id v e. cut (suc id) v e) in omega (arith, one, rest)

whole_finer : (n : ℕ) (views : List View) → OneWholeBy n views → OneWholeBy (suc n) views
whole_finer n views h = record {
  cut = λ id v e. cut_finer n v.share (h.cut id v e);
  all = (let t = total_finer n views h.cut in let all = h.all in omega (arith, t, all));
}

whole_by : (m n : ℕ) (views : List View) → OneWholeBy n views → OneWholeBy (m + n) views
whole_by zero n views h = subst (λ (z : ℕ). OneWholeBy z views) (let e : n ≡ 0 + n = omega arith in e) h
whole_by (suc m) n views h = subst (λ (z : ℕ). OneWholeBy z views) (let e : suc (m + n) ≡ suc m + n = omega arith in e) (whole_finer (m + n) views (whole_by m n views h))

set_cut : (n : ℕ) (views : List View) (id : ℕ) (w : View) → IsCutBy n w.share → ((j : ℕ) (v : View) → get_elem? views j ≡ some v → IsCutBy n v.share) → (j : ℕ) (v : View) → get_elem? (set views id w) j ≡ some v → IsCutBy n v.share
set_cut n views id w mine others j v e = elim (at_set views id j w v e) [
  | inl t ↦ subst (λ (z : View). IsCutBy n z.share) t.1 mine
  | inr t ↦ others j v t.1
]

-- a view that keeps its share
pub whole_kept : (views : List View) (id : ℕ) (v w : View) → get_elem? views id ≡ some v → w.share ≡ v.share → AreOneWhole views → AreOneWhole (set views id w)
whole_kept views id v w at same h =
    let n : ℕ = h.halvings in record {
      halvings = n;
      cut = set_cut n views id w (subst (IsCutBy n) (sym same) (h.cut id v at)) h.cut;
      all = (let t = total_set (parts n) views id v w at in let e : parts n w ≡ parts n v = ap (parts_of n) same in let all = h.all in omega (arith, t, e, all));
    }

-- a view that is split
pub whole_split : (views : List View) (id : ℕ) (works : Bool) (v : View) → get_elem? views id ≡ some v → AreOneWhole views → AreOneWhole (set views id (parted works v) ++ branched works v ∷ [])
whole_split views id true v at h =
    let n : ℕ = h.halvings in let u : View = parted true v in let w : View = branched true v in let vs : List View = set views id u in
    let finer = whole_finer n views (record { cut = h.cut; all = h.all }) in
    let here = h.cut id v at in
    let half : parts (suc n) u ≡ parts_of n v.share = parts_halved n v.share in
    let half' : parts (suc n) w ≡ parts_of n v.share = parts_halved n v.share in
    let whole : parts (suc n) v ≡ 2 * parts_of n v.share = parts_finer n v.share here in
    let sum = total_snoc (parts (suc n)) vs w in let t = total_set (parts (suc n)) views id v u at in let all = finer.all in record {
      halvings = suc n;
      cut = λ j d e. elim (at_snoc vs w d j e) [
        | inl old ↦ set_cut (suc n) views id u (cut_halved n v.share here) finer.cut j d old
        | inr same ↦ subst (λ (z : View). IsCutBy (suc n) z.share) same (cut_halved n v.share here)
      ];
      all = omega (arith, half, half', whole, sum, t, all);
    }
whole_split views id false v at h =
    let n : ℕ = h.halvings in let u : View = parted false v in let w : View = branched false v in let vs : List View = set views id u in
    let sum = total_snoc (parts n) vs w in let t = total_set (parts n) views id v u at in let all = h.all in record {
      halvings = n;
      cut = λ j d e. elim (at_snoc vs w d j e) [
        | inl old ↦ set_cut n views id u (h.cut id v at) h.cut j d old
        | inr same ↦ subst (λ (z : View). IsCutBy n z.share) same tt
      ];
      all = omega (arith, sum, t, all);
    }

-- a view that takes in another
pub whole_joined : (views : List View) (id other : ℕ) (v w : View) → get_elem? views id ≡ some v → get_elem? (set views id (joined v w)) other ≡ some w → other ≢ id → AreOneWhole views → AreOneWhole (set (set views id (joined v w)) other spent)
whole_joined views id other v w at at' ne h =
    let n : ℕ = h.halvings in let both : View = joined v w in let vs : List View = set views id both in
    let there : get_elem? views other ≡ some w = sym (set_else views id other both ne) ∙ at' in
    let mine : IsCutBy n both.share = cut_both n v.share w.share (h.cut id v at) (h.cut other w there) in
    let sum : parts n both ≡ parts n v + parts n w = parts_both n v.share w.share in
    let t = total_set (parts n) views id v both at in let u = total_set (parts n) vs other w spent at' in let all = h.all in record {
      halvings = n;
      cut = set_cut n vs other spent tt (set_cut n views id both mine h.cut);
      all = omega (arith, sum, t, u, all);
    }

-- where one view has the whole, no other has a share
pub others_none : (views : List View) (id : ℕ) (v : View) → get_elem? views id ≡ some v → AreOneWhole views → IsWhole v.share → (j : ℕ) (d : View) → j ≢ id → get_elem? views j ≡ some d → length d.share ≡ 0
others_none views id v at h w j d ne e =
    let n : ℕ = w.halvings + h.halvings in
    let x : OneWholeBy n views = whole_by w.halvings h.halvings views (record { cut = h.cut; all = h.all }) in
    let y : IsAll n v.share = subst (λ (z : ℕ). IsAll z v.share) (turn h.halvings w.halvings) (all_by h.halvings w.halvings v.share (record { cut = w.cut; all = w.all })) in
    let both = two_of (parts n) views id j v d ne at e in let all = x.all in let mine : parts n v ≡ power n = y.all in
    no_parts n d.share (x.cut j d e) (omega (arith, both, all, mine))

all_none : (f : View → ℕ) (views : List View) → ((j : ℕ) (d : View) → get_elem? views j ≡ some d → f d ≡ 0) → total f views ≡ 0
all_none f [] none = refl
all_none f (x ∷ xs) none = let here = none 0 x refl in let rest = all_none f xs (λ j d e. none (suc j) d e) in omega (arith, here, rest)

-- a sum of which one view alone has a part
pub one_alone : (f : View → ℕ) (views : List View) (id : ℕ) (v : View) → get_elem? views id ≡ some v → ((j : ℕ) (d : View) → j ≢ id → get_elem? views j ≡ some d → f d ≡ 0) → total f views ≡ f v
one_alone f [] id v at none = absurd (some-ne-none v (sym at))
one_alone f (x ∷ xs) zero v at none =
    let same : f x ≡ f v = ap f (some-injective x v at) in
    let rest = all_none f xs (λ j d e. none (suc j) d (λ z. omega (arith, z)) e) in omega (arith, same, rest)
one_alone f (x ∷ xs) (suc id) v at none =
    let here = none 0 x (λ z. omega (arith, z)) refl in
    let rest = one_alone f xs id v at (λ j d ne e. none (suc j) d (λ z. ne (omega (arith, z))) e) in omega (arith, here, rest)
