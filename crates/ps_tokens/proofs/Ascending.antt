-- Names in ascending byte order, each once.
use Rattle.std.proofs.Common.{◌≡◌, ◌⊎◌, inl, inr, ℕ, true, List, [], ◌∷◌, ◌++◌, refl, sym, ap, ◌∙◌, subst, arith, All}
use Rattle.std.specs.Prelude.{slice_get, fold, map, flat_map}
use Rattle.std.specs.BTreeMap.{insert_entry}
use Rattle.std.specs.Cmp.Lexicographic.{slice_cmp}
use Rattle.std.specs.Ordering.{nat_cmp, match_ordering, ordering_reverse, is_eq}
use Rattle.std.specs.declared.cmp.Ordering.{Ordering}
use Rattle.std.specs.declared.cmp.Ordering.TheVariants.{Less, Equal, Greater}
use Rattle.std.specs.Str.{bytes_eq}
use Rattle.std.proofs.lemmas.Cmp.{nat_list_cmp_total}
use Rattle.std.proofs.lemmas.Map.Text.{is_eq-slice_cmp}
use Rattle.std.proofs.lemmas.Slice.Eq.{bytes_eq-Decides}
use Rattle.std.proofs.lemmas.List.Elements.{All-nil, All-cons}
use Rattle.std.proofs.lemmas.List.Kept.{AllPairs-cons}
use Rattle.ps_tokens.specs.declared.object.Object.{Object}
use Rattle.ps_tokens.specs.Dictionaries.{IsBefore, Ascend, keys_of, key_names, last_keys_of, name_of, put_key}

-- a name stands before all of these
abbrev pub IsBeforeAll : List ℕ → List (List ℕ × ℕ) → Type 0
IsBeforeAll name [] = Unit {0}
IsBeforeAll name (e ∷ es) = IsBefore name e.0 × IsBeforeAll name es

-- names in ascending order, each with the place of a key of that name
abbrev pub AreKeys : List Object → List (List ℕ × ℕ) → Type 0
AreKeys objects [] = Unit {0}
AreKeys objects (e ∷ es) = (e.0 ≡ name_of (slice_get objects e.1)) × IsBeforeAll e.0 es × AreKeys objects es

before-then : (a b : List ℕ) (es : List (List ℕ × ℕ)) → IsBefore a b → IsBeforeAll b es → IsBeforeAll a es
before-then a b [] lt all = tt
before-then a b (e ∷ es) lt all = (nat_list_cmp_total.trans a b e.0 lt all.0, before-then a b es lt all.1)

before-put : (a name : List ℕ) (place : ℕ) (es : List (List ℕ × ℕ)) → IsBefore a name → IsBeforeAll a es → IsBeforeAll a (insert_entry (slice_cmp nat_cmp) es name place)
before-put a name place [] lt all = (lt, tt)
before-put a name place (e ∷ es) lt all =
    elim (slice_cmp nat_cmp name e.0) as (λ o. IsBeforeAll a (match_ordering o ((name, place) ∷ e ∷ es) ((e.0, place) ∷ es) (e ∷ insert_entry (slice_cmp nat_cmp) es name place))) [
      | Less ↦ (lt, all)
      | Equal ↦ all
      | Greater ↦ (all.0, before-put a name place es lt all.1)
    ]

pub same_names : (a b : List ℕ) → slice_cmp nat_cmp a b ≡ Equal → a ≡ b
same_names a b tied = let test : bytes_eq a b ≡ true = sym (is_eq-slice_cmp a b) ∙ ap is_eq tied in grind (arith, bytes_eq-Decides)

suffix : (a b : List ℕ) → slice_cmp nat_cmp a b ≡ Greater → IsBefore b a
suffix a b over = nat_list_cmp_total.antisymm b a ∙ ap ordering_reverse over

put_by : (o : Ordering) (objects : List Object) (name : List ℕ) (place : ℕ) (e : List ℕ × ℕ) (es rest : List (List ℕ × ℕ)) → slice_cmp nat_cmp name e.0 ≡ o → name ≡ name_of (slice_get objects place)
    → AreKeys objects (e ∷ es) → AreKeys objects rest → IsBeforeAll e.0 es → (IsBefore e.0 name → IsBeforeAll e.0 rest)
    → AreKeys objects (match_ordering o ((name, place) ∷ e ∷ es) ((e.0, place) ∷ es) (e ∷ rest))
put_by Less objects name place e es rest is named keys more above follows = (named, (is, before-then name e.0 es is above), keys)
put_by Equal objects name place e es rest is named keys more above follows = (sym (same_names name e.0 is) ∙ named, above, keys.2)
put_by Greater objects name place e es rest is named keys more above follows = (keys.0, follows (suffix name e.0 is), more)

put-keys : (objects : List Object) (name : List ℕ) (place : ℕ) (es : List (List ℕ × ℕ)) → name ≡ name_of (slice_get objects place) → AreKeys objects es → AreKeys objects (insert_entry (slice_cmp nat_cmp) es name place)
put-keys objects name place [] named keys = (named, tt, tt)
put-keys objects name place (e ∷ es) named keys =
    put_by (slice_cmp nat_cmp name e.0) objects name place e es (insert_entry (slice_cmp nat_cmp) es name place) refl named keys (put-keys objects name place es named keys.2) keys.1 (λ lt. before-put e.0 name place es lt keys.1)

pub fold-keys : (objects : List Object) (places : List ℕ) (es : List (List ℕ × ℕ)) → AreKeys objects es → AreKeys objects (fold (put_key objects) es places)
fold-keys objects [] es keys = keys
fold-keys objects (place ∷ places) es keys = fold-keys objects places (put_key objects es place) (put-keys objects (name_of (slice_get objects place)) place es refl keys)

-- What such keys give, one item or none each, under their names.

abbrev places_of : List (List ℕ × ℕ) → List ℕ
places_of es = map (λ e. e.1) es

-- nothing, or one item under this name
abbrev pub GivesOne : {X : Type 0} → (X → List ℕ) → List ℕ → List X → Type 0
GivesOne {X} name under given = (given ≡ []) ⊎ ((x : X) × (given ≡ x ∷ []) × (name x ≡ under))

all-suffix : {X : Type 0} (name : X → List ℕ) (a under : List ℕ) (given rest : List X) → GivesOne name under given → IsBefore a under → All (IsBefore a) (map name rest) → All (IsBefore a) (map name (given ++ rest))
all-suffix {X} name a under given rest (inl none) lt all = subst (λ (g : List X). All (IsBefore a) (map name (g ++ rest))) (sym none) all
all-suffix {X} name a under given rest (inr one) lt all =
    subst (λ (g : List X). All (IsBefore a) (map name (g ++ rest))) (sym one.1) (All-cons (IsBefore a) (name one.0) (map name rest) (ap (slice_cmp nat_cmp a) one.2 ∙ lt) all)

all-before : {X : Type 0} (objects : List Object) (name : X → List ℕ) (give : ℕ → List X) → ((key : ℕ) → GivesOne name (name_of (slice_get objects key)) (give key))
    → (a : List ℕ) (es : List (List ℕ × ℕ)) → IsBeforeAll a es → AreKeys objects es → All (IsBefore a) (map name (flat_map give (places_of es)))
all-before objects name give gives a [] above keys = All-nil (IsBefore a)
all-before objects name give gives a (e ∷ es) above keys =
    all-suffix name a (name_of (slice_get objects e.1)) (give e.1) (flat_map give (places_of es)) (gives e.1) (ap (slice_cmp nat_cmp a) (sym keys.0) ∙ above.0) (all-before objects name give gives a es above.1 keys.2)

ascend-one : {X : Type 0} (name : X → List ℕ) (under : List ℕ) (given rest : List X) → GivesOne name under given → All (IsBefore under) (map name rest) → Ascend (map name rest) → Ascend (map name (given ++ rest))
ascend-one {X} name under given rest (inl none) all ascend = subst (λ (g : List X). Ascend (map name (g ++ rest))) (sym none) ascend
ascend-one {X} name under given rest (inr one) all ascend =
    subst (λ (g : List X). Ascend (map name (g ++ rest))) (sym one.1)
    (AllPairs-cons IsBefore (name one.0) (map name rest) (subst (λ (n : List ℕ). All (IsBefore n) (map name rest)) (sym one.2) all) ascend)

ascend-each : {X : Type 0} (objects : List Object) (name : X → List ℕ) (give : ℕ → List X) → ((key : ℕ) → GivesOne name (name_of (slice_get objects key)) (give key))
    → (es : List (List ℕ × ℕ)) → AreKeys objects es → Ascend (map name (flat_map give (places_of es)))
ascend-each objects name give gives [] keys = λ i j d lt within. absurd (omega arith)
ascend-each objects name give gives (e ∷ es) keys =
    let above = subst (λ (n : List ℕ). IsBeforeAll n es) keys.0 keys.1 in
    ascend-one name (name_of (slice_get objects e.1)) (give e.1) (flat_map give (places_of es)) (gives e.1)
    (all-before objects name give gives (name_of (slice_get objects e.1)) es above keys.2) (ascend-each objects name give gives es keys.2)

-- what the last keys of a dictionary give ascends by name
pub ascend-given : {X : Type 0} (objects : List Object) (dict : ℕ) (name : X → List ℕ) (give : ℕ → List X) → ((key : ℕ) → GivesOne name (name_of (slice_get objects key)) (give key))
    → Ascend (map name (flat_map give (last_keys_of objects dict)))
unfolding last_keys_of
ascend-given objects dict name give gives =
    ascend-each objects name give gives (fold (put_key objects) [] (keys_of objects dict)) (fold-keys objects (keys_of objects dict) [] tt)

-- the keys themselves

map-flat : (objects : List Object) (keys : List ℕ) → map (λ key. name_of (slice_get objects key)) (flat_map (λ key. key ∷ []) keys) ≡ key_names objects keys
map-flat objects [] = refl
map-flat objects (key ∷ keys) = ap (λ ns. name_of (slice_get objects key) ∷ ns) (map-flat objects keys)

-- the names of the last keys of a dictionary ascend
pub ascend-last_keys : (objects : List Object) (dict : ℕ) → Ascend (key_names objects (last_keys_of objects dict))
ascend-last_keys objects dict =
    subst (λ (names : List (List ℕ)). Ascend names) (map-flat objects (last_keys_of objects dict))
    (ascend-given objects dict (λ key. name_of (slice_get objects key)) (λ key. key ∷ []) (λ key. inr (key, refl, refl)))
