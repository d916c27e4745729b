-- The last entry of a name is the one that is looked up, and the last keys are those of the last entries.
use Rattle.std.proofs.Common.{◌≡◌, ◌≢◌, ◌⊎◌, inl, inr, ℕ, zero, suc, ◌+◌, ◌<◌, Bool, true, false, cond, List, [], ◌∷◌, ◌++◌, length, drop, take, get_or, fold, Option, Some, None, refl, sym, ap, ◌∙◌, subst, ⊎_elim, arith, append_assoc}
use Rattle.std.specs.Prelude.{slice_get, map, Contains}
use Rattle.std.specs.BTreeMap.{insert_entry}
use Rattle.std.specs.Cmp.Lexicographic.{slice_cmp}
use Rattle.std.specs.Ordering.{nat_cmp, match_ordering}
use Rattle.std.specs.declared.cmp.Ordering.{Ordering}
use Rattle.std.specs.declared.cmp.Ordering.TheVariants.{Less, Equal, Greater}
use Rattle.std.specs.Str.{bytes_eq}
use Rattle.std.proofs.lemmas.Bool.{cases_Bool, true≢false, false_from_ne_true}
use Rattle.std.proofs.lemmas.Cmp.{nat_list_cmp_total, tied_itself}
use Rattle.std.proofs.lemmas.List.{take_at, drop_at, drop-drop}
use Rattle.std.proofs.lemmas.List.Elements.{All-nil, All-cons, All-head, All-tail}
use Rattle.std.proofs.lemmas.List.Sums.{fold-append}
use Rattle.std.proofs.lemmas.Option.{same_Some}
use Rattle.std.proofs.lemmas.Slice.Eq.{bytes_eq-Decides}
use Rattle.ps_tokens.specs.declared.object.Body.TheVariants.{Literal}
use Rattle.ps_tokens.specs.declared.object.Object.{Object}
use Rattle.ps_tokens.specs.Dictionaries.{inside_of, is_literal, key_names, keys_from, keys_of, last_among, last_keys_of, last_of, name_in, name_of, names, put_key, within}
use Rattle.ps_tokens.proofs.Ascending.{AreKeys, IsBeforeAll, fold-keys, same_names}
use Rattle.ps_tokens.proofs.Entries.{keys_from-before}
use Rattle.ps_laws.specs.Writes.{Part, whole, items, entries}
use Rattle.ps_laws.specs.Nests.{Nests, plain, array, dict, no_item, next_item, no_entry, next_entry}
use Rattle.ps_laws.specs.Entries.{Entry, AreEntries, none_more, one_more, HasEntries, NoneNamed, IsLastNamed}

-- The keys stand where the entries say.

-- a value is one object and those within it
abbrev HasInside : Part → List Object → Type 0
HasInside whole objects = 1 + inside_of (slice_get objects 0) ≡ length objects
HasInside items objects = Unit {0}
HasInside entries objects = Unit {0}

has-inside : {part : Part} {depth : ℕ} {objects : List Object} → Nests part depth objects → HasInside part objects
has-inside (plain depth first simple alone) = ap (λ n. 1 + n) alone
has-inside (array depth first inner is_array count few within) = ap (λ n. 1 + n) count ∙ omega arith
has-inside (dict depth first inner is_dict count few within) = ap (λ n. 1 + n) count ∙ omega arith
has-inside (no_item depth) = tt
has-inside (next_item depth first rest objects one more are) = tt
has-inside (no_entry depth) = tt
has-inside (next_entry depth key value rest objects named alone one more are) = tt

-- the object at the beginning of two runs is that of the first one, where it has one
prefix-get : (value rest : List Object) → 1 + inside_of (slice_get value 0) ≡ length value → inside_of (slice_get (value ++ rest) 0) ≡ inside_of (slice_get value 0)
prefix-get [] rest is = absurd (omega (arith, is))
prefix-get (v ∷ value) rest is = refl

-- places of keys of these entries, in their order
abbrev KeysAre : List Object → List Entry → List ℕ → Type 0
KeysAre objects [] [] = Unit {0}
KeysAre objects [] (key ∷ keys) = ⊥
KeysAre objects (e ∷ es) [] = ⊥
KeysAre objects (e ∷ es) (key ∷ keys) = (e.value ≡ key + 1) × (object : Object) × (slice_get objects key ≡ Some object) × (object.body ≡ Literal e.name) × KeysAre objects es keys

-- what stands at a place and after it
get-drop : (objects rest : List Object) (place : ℕ) (object : Object) → drop place objects ≡ object ∷ rest → slice_get objects place ≡ Some object
get-drop [] rest zero object is = absurd (cc)
get-drop [] rest (suc place) object is = absurd (cc)
get-drop (o ∷ os) rest zero object is = let same : o ≡ object = cc in ap (λ x. Some x) same
get-drop (o ∷ os) rest (suc place) object is = get-drop os rest place object is

suffix-entry : (objects value rest suffix : List Object) (place : ℕ) (key : Object) → drop place objects ≡ key ∷ (value ++ rest) ++ suffix → drop (place + 1 + length value) objects ≡ rest ++ suffix
suffix-entry objects value rest suffix place key is =
    let n : place + 1 + length value ≡ place + suc (length value) = omega arith in
    ap (λ k. drop k objects) n
    ∙ sym (drop-drop (suc (length value)) place objects)
    ∙ ap (drop (suc (length value))) is
    ∙ ap (drop (length value)) (append_assoc value rest suffix)
    ∙ drop_at value (rest ++ suffix) (length value) refl

keys-next : (place : ℕ) (key : Object) (value rest : List Object) → 1 + inside_of (slice_get value 0) ≡ length value → keys_from place 0 (key ∷ (value ++ rest)) ≡ place ∷ keys_from (place + 1 + length value) 0 rest
keys-next place key value rest is =
    let n : 1 + inside_of (slice_get (value ++ rest) 0) ≡ length value = ap (λ k. 1 + k) (prefix-get value rest is) ∙ is in
    ap (λ k. place ∷ keys_from (place + 1) k (value ++ rest)) n
    ∙ ap (λ ks. place ∷ ks) (keys_from-before (place + 1) (length value) (value ++ rest) ∙ ap (keys_from (place + 1 + length value) 0) (drop_at value rest (length value) refl))

keys-are : {depth place : ℕ} {inner : List Object} {es : List Entry} → AreEntries depth place inner es → (objects suffix : List Object) → drop place objects ≡ inner ++ suffix → KeysAre objects es (keys_from place 0 inner)
keys-are (none_more place) objects suffix at = tt
keys-are (one_more place key name value rest inner others es named one more are is) objects suffix at =
    let there : drop place objects ≡ key ∷ (value ++ rest) ++ suffix = at ∙ ap (λ os. os ++ suffix) are in
    let later = keys-are more objects suffix (suffix-entry objects value rest suffix place key there) in
    let both : KeysAre objects (record { name = name; value = place + 1 } ∷ others) (place ∷ keys_from (place + 1 + length value) 0 rest) =
    (refl, key, get-drop objects ((value ++ rest) ++ suffix) place key there, named, later) in
    subst (λ ks. KeysAre objects es ks) (sym (ap (keys_from place 0) are ∙ keys-next place key value rest (has-inside one)))
    (subst (λ l. KeysAre objects l (place ∷ keys_from (place + 1 + length value) 0 rest)) (sym is) both)

dict-keys : (objects : List Object) (place : ℕ) (es : List Entry) → HasEntries objects place es → KeysAre objects es (keys_of objects place)
unfolding keys_of
dict-keys objects place es has =
    let all : drop place objects ≡ has.dict ∷ (has.inner ++ has.suffix) = ap (drop place) has.split ∙ drop_at has.prefix (has.dict ∷ (has.inner ++ has.suffix)) place (sym has.at) in
    let suffix : drop (place + 1) objects ≡ has.inner ++ has.suffix = sym (drop-drop 1 place objects) ∙ ap (drop 1) all in
    let count : inside_of (slice_get objects place) ≡ length has.inner = ap inside_of (get-drop objects (has.inner ++ has.suffix) place has.dict all) ∙ has.count in
    let inner : within objects place ≡ has.inner = ap (λ n. take n (drop (place + 1) objects)) count ∙ ap (take (length has.inner)) suffix ∙ take_at has.inner has.suffix (length has.inner) refl in
    subst (λ os. KeysAre objects es (keys_from (place + 1) 0 os)) (sym inner) (keys-are has.are objects has.suffix suffix)

-- Of entries the last of a name.

abbrev last_in : List ℕ → Option ℕ → List Entry → Option ℕ
last_in name = fold (λ found e. cond (bytes_eq e.name name) (Some e.value) found)

equal-names : (a b : List ℕ) → bytes_eq a b ≡ true → a ≡ b
equal-names a b is = (bytes_eq-Decides a b).0 is

names-equal : (a b : List ℕ) → a ≡ b → bytes_eq a b ≡ true
names-equal a b is = (bytes_eq-Decides a b).1 is

names-differ : (a b : List ℕ) → a ≢ b → bytes_eq a b ≡ false
names-differ a b apart = false_from_ne_true (bytes_eq a b) (λ t. apart (equal-names a b t))

differ : (a b : List ℕ) → bytes_eq a b ≡ false → a ≢ b
differ a b never same = true≢false (sym (names-equal a b same) ∙ never)

abbrev Apart : List ℕ → Entry → Type 0
Apart name e = e.name ≢ name

-- what is found is the last, or none has the name and it was found before
in-some : (name : List ℕ) (es : List Entry) (found : Option ℕ) (v : ℕ) → last_in name found es ≡ Some v → IsLastNamed name v es ⊎ ((found ≡ Some v) × NoneNamed name es)
in-some name [] found v is = inr (is, All-nil (Apart name))
in-some name (e ∷ es) found v is =
    ⊎_elim
    (λ (l : IsLastNamed name v es). inl (e ∷ l.0, l.1, ap (λ t. e ∷ t) l.2, l.3))
    (λ (o : (cond (bytes_eq e.name name) (Some e.value) found ≡ Some v) × NoneNamed name es).
    ⊎_elim
    (λ (t : bytes_eq e.name name ≡ true).
    let value : e.value ≡ v = same_Some e.value v (rw t at o.0) in
    let same : e ≡ record { name = name; value = v } = ap (λ n. record { name = n; value = e.value }) (equal-names e.name name t) ∙ ap (λ k. record { name = name; value = k }) value in
    inl ([], es, ap (λ x. x ∷ es) same, o.1))
    (λ (f : bytes_eq e.name name ≡ false). inr (rw f at o.0, All-cons (Apart name) e es (differ e.name name f) o.1))
    (cases_Bool (bytes_eq e.name name)))
    (in-some name es (cond (bytes_eq e.name name) (Some e.value) found) v is)

in-none : (name : List ℕ) (es : List Entry) (found : Option ℕ) → NoneNamed name es → last_in name found es ≡ found
in-none name [] found none = refl
in-none name (e ∷ es) found none =
    ap (λ b. last_in name (cond b (Some e.value) found) es) (names-differ e.name name (All-head (Apart name) e es none)) ∙ in-none name es found (All-tail (Apart name) e es none)

in-last : (name : List ℕ) (v : ℕ) (es : List Entry) → IsLastNamed name v es → last_in name None es ≡ Some v
in-last name v es last =
    let one : Entry = record { name = name; value = v } in
    ap (last_in name None) last.2
    ∙ fold-append (λ found e. cond (bytes_eq e.name name) (Some e.value) found) None last.0 (one ∷ last.1)
    ∙ ap (λ b. last_in name (cond b (Some v) (last_in name None last.0)) last.1) (names-equal name name refl)
    ∙ in-none name last.1 (Some v) last.3

-- nothing is found only where none has the name
in-absent : (name : List ℕ) (es : List Entry) (found : Option ℕ) → last_in name found es ≡ None → (found ≡ None) × NoneNamed name es
in-absent name [] found is = (is, All-nil (Apart name))
in-absent name (e ∷ es) found is =
    let rest = in-absent name es (cond (bytes_eq e.name name) (Some e.value) found) is in
    ⊎_elim
    (λ (t : bytes_eq e.name name ≡ true). let wrong : Some e.value ≡ None = rw t at rest.0 in absurd (cc))
    (λ (f : bytes_eq e.name name ≡ false). (rw f at rest.0, All-cons (Apart name) e es (differ e.name name f) rest.1))
    (cases_Bool (bytes_eq e.name name))

some-first : (name : List ℕ) (es : List Entry) (v : ℕ) → last_in name None es ≡ Some v → IsLastNamed name v es
some-first name es v is =
    ⊎_elim (λ (l : IsLastNamed name v es). l) (λ (o : (None ≡ Some v) × NoneNamed name es). let wrong : None ≡ Some v = o.0 in absurd (cc)) (in-some name es None v is)

-- What is looked up is the last entry.

named-as : (objects : List Object) (key : ℕ) (object : Object) (under name : List ℕ) → slice_get objects key ≡ Some object → object.body ≡ Literal under → names name (slice_get objects key) ≡ bytes_eq under name
named-as objects key object under name at is = ap (names name) at ∙ ap (is_literal name) is

last-is : (objects : List Object) (name : List ℕ) (es : List Entry) (keys : List ℕ) (found : Option ℕ) → KeysAre objects es keys → last_among objects name found keys ≡ last_in name found es
last-is objects name [] [] found are = refl
last-is objects name [] (key ∷ keys) found are = absurd are
last-is objects name (e ∷ es) [] found are = absurd are
last-is objects name (e ∷ es) (key ∷ keys) found are =
    ap (λ b. last_among objects name (cond b (Some (key + 1)) found) keys) (named-as objects key are.1 e.name name are.2 are.3)
    ∙ ap (λ v. last_among objects name (cond (bytes_eq e.name name) (Some v) found) keys) (sym are.0)
    ∙ last-is objects name es keys (cond (bytes_eq e.name name) (Some e.value) found) are.4

looked-up : (objects : List Object) (at_dict : ℕ) (es : List Entry) (name : List ℕ) → HasEntries objects at_dict es → last_of objects at_dict name ≡ last_in name None es
unfolding last_of
looked-up objects at_dict es name has = last-is objects name es (keys_of objects at_dict) None (dict-keys objects at_dict es has)

pub last-found : (objects : List Object) (at_dict value : ℕ) (es : List Entry) (name : List ℕ) → HasEntries objects at_dict es → last_of objects at_dict name ≡ Some value → IsLastNamed name value es
last-found objects at_dict value es name has is = some-first name es value (sym (looked-up objects at_dict es name has) ∙ is)

pub last-given : (objects : List Object) (at_dict value : ℕ) (es : List Entry) (name : List ℕ) → HasEntries objects at_dict es → IsLastNamed name value es → last_of objects at_dict name ≡ Some value
last-given objects at_dict value es name has last = looked-up objects at_dict es name has ∙ in-last name value es last

pub last-missing : (objects : List Object) (at_dict : ℕ) (es : List Entry) (name : List ℕ) → HasEntries objects at_dict es → last_of objects at_dict name ≡ None → NoneNamed name es
last-missing objects at_dict es name has is = (in-absent name es None (sym (looked-up objects at_dict es name has) ∙ is)).1

pub last-none : (objects : List Object) (at_dict : ℕ) (es : List Entry) (name : List ℕ) → HasEntries objects at_dict es → NoneNamed name es → last_of objects at_dict name ≡ None
last-none objects at_dict es name has none = looked-up objects at_dict es name has ∙ in-none name es None none

-- The last keys.

-- the place under a name
abbrev place_under : List ℕ → List (List ℕ × ℕ) → Option ℕ
place_under name [] = None
place_under name (n ∷ ns) = cond (bytes_eq n.0 name) (Some n.1) (place_under name ns)

-- the last of these keys that has a name
abbrev last_key : List Object → List ℕ → Option ℕ → List ℕ → Option ℕ
last_key objects name = fold (λ found key. cond (bytes_eq (name_of (slice_get objects key)) name) (Some key) found)

no-tie : (a b : List ℕ) → slice_cmp nat_cmp a b ≡ Greater → a ≡ b → ⊥
no-tie a b over same = let tied : slice_cmp nat_cmp a b ≡ Equal = ap (slice_cmp nat_cmp a) (sym same) ∙ tied_itself nat_list_cmp_total a in cc

swapped : (one two : Bool) (p q : ℕ) (rest : Option ℕ) → (one ≡ true → two ≡ true → ⊥) → cond one (Some p) (cond two (Some q) rest) ≡ cond two (Some q) (cond one (Some p) rest)
swapped true true p q rest apart = absurd (apart refl refl)
swapped true false p q rest apart = refl
swapped false true p q rest apart = refl
swapped false false p q rest apart = refl

hidden : (b : Bool) (p q : ℕ) (rest : Option ℕ) → cond b (Some p) rest ≡ cond b (Some p) (cond b (Some q) rest)
hidden true p q rest = refl
hidden false p q rest = refl

put-by : (o : Ordering) (name under : List ℕ) (place : ℕ) (n : List ℕ × ℕ) (ns more : List (List ℕ × ℕ)) → slice_cmp nat_cmp under n.0 ≡ o → place_under name more ≡ cond (bytes_eq under name) (Some place) (place_under name ns)
    → place_under name (match_ordering o ((under, place) ∷ n ∷ ns) ((n.0, place) ∷ ns) (n ∷ more)) ≡ cond (bytes_eq under name) (Some place) (place_under name (n ∷ ns))
put-by Less name under place n ns more is later = refl
put-by Equal name under place n ns more is later =
    hidden (bytes_eq n.0 name) place n.1 (place_under name ns) ∙ ap (λ k. cond (bytes_eq k name) (Some place) (place_under name (n ∷ ns))) (sym (same_names under n.0 is))
put-by Greater name under place n ns more is later =
    ap (cond (bytes_eq n.0 name) (Some n.1)) later
    ∙ swapped (bytes_eq n.0 name) (bytes_eq under name) n.1 place (place_under name ns) (λ one two. no-tie under n.0 is (equal-names under name two ∙ sym (equal-names n.0 name one)))

put-under : (name under : List ℕ) (place : ℕ) (ns : List (List ℕ × ℕ)) → place_under name (insert_entry (slice_cmp nat_cmp) ns under place) ≡ cond (bytes_eq under name) (Some place) (place_under name ns)
put-under name under place [] = refl
put-under name under place (n ∷ ns) = put-by (slice_cmp nat_cmp under n.0) name under place n ns (insert_entry (slice_cmp nat_cmp) ns under place) refl (put-under name under place ns)

fold-under : (objects : List Object) (name : List ℕ) (keys : List ℕ) (ns : List (List ℕ × ℕ)) → place_under name (fold (put_key objects) ns keys) ≡ last_key objects name (place_under name ns) keys
fold-under objects name [] ns = refl
fold-under objects name (key ∷ keys) ns =
    fold-under objects name keys (put_key objects ns key) ∙ ap (λ found. last_key objects name found keys) (put-under name (name_of (slice_get objects key)) key ns)

-- a key's value stands after it
abbrev after_key : Option ℕ → Option ℕ
after_key None = None
after_key (Some key) = Some (key + 1)

suffix-chosen : (b : Bool) (key : ℕ) (found : Option ℕ) → after_key (cond b (Some key) found) ≡ cond b (Some (key + 1)) (after_key found)
suffix-chosen true key found = refl
suffix-chosen false key found = refl

keys-last : (objects : List Object) (name : List ℕ) (es : List Entry) (keys : List ℕ) (found : Option ℕ) → KeysAre objects es keys → last_in name (after_key found) es ≡ after_key (last_key objects name found keys)
keys-last objects name [] [] found are = refl
keys-last objects name [] (key ∷ keys) found are = absurd are
keys-last objects name (e ∷ es) [] found are = absurd are
keys-last objects name (e ∷ es) (key ∷ keys) found are =
    let under : name_of (slice_get objects key) ≡ e.name = ap name_of are.2 ∙ ap name_in are.3 in
    ap (λ v. last_in name (cond (bytes_eq e.name name) (Some v) (after_key found)) es) are.0
    ∙ ap (λ o. last_in name o es) (sym (suffix-chosen (bytes_eq e.name name) key found))
    ∙ keys-last objects name es keys (cond (bytes_eq e.name name) (Some key) found) are.4
    ∙ ap (λ n. after_key (last_key objects name (cond (bytes_eq n name) (Some key) found) keys)) (sym under)

-- the names of a dictionary, each with the place of its last key
abbrev named_keys : List Object → ℕ → List (List ℕ × ℕ)
named_keys objects at_dict = fold (put_key objects) [] (keys_of objects at_dict)

under-is : (objects : List Object) (at_dict : ℕ) (es : List Entry) (name : List ℕ) → HasEntries objects at_dict es → after_key (place_under name (named_keys objects at_dict)) ≡ last_in name None es
under-is objects at_dict es name has =
    ap after_key (fold-under objects name (keys_of objects at_dict) []) ∙ sym (keys-last objects name es (keys_of objects at_dict) None (dict-keys objects at_dict es has))

-- a name that stands before others is none of them
before-apart : (name : List ℕ) (ns : List (List ℕ × ℕ)) → IsBeforeAll name ns → place_under name ns ≡ None
before-apart name [] above = refl
before-apart name (n ∷ ns) above =
    let apart : n.0 ≡ name → ⊥ = λ same. let tied : slice_cmp nat_cmp name n.0 ≡ Equal = ap (slice_cmp nat_cmp name) same ∙ tied_itself nat_list_cmp_total name in let less : slice_cmp nat_cmp name n.0 ≡ Less = above.0 in cc in
    ap (λ b. cond b (Some n.1) (place_under name ns)) (names-differ n.0 name apart) ∙ before-apart name ns above.1

-- each place stands under its name
abbrev second : List ℕ × ℕ → ℕ
second n = n.1

place-under : (objects : List Object) (ns : List (List ℕ × ℕ)) (key k : ℕ) → AreKeys objects ns → k < length (map second ns) → get_or (map second ns) k key ≡ key → place_under (name_of (slice_get objects key)) ns ≡ Some key
place-under objects [] key k are lt is = absurd (omega arith)
place-under objects (n ∷ ns) key zero are lt is =
    let same : n.1 ≡ key = is in
    let named : n.0 ≡ name_of (slice_get objects key) = are.0 ∙ ap (λ p. name_of (slice_get objects p)) same in
    ap (λ b. cond b (Some n.1) (place_under (name_of (slice_get objects key)) ns)) (names-equal n.0 (name_of (slice_get objects key)) named) ∙ ap (λ p. Some p) same
place-under objects (n ∷ ns) key (suc k) are lt is =
    let later = place-under objects ns key k are.2 (omega arith) is in
    let apart : n.0 ≡ name_of (slice_get objects key) → ⊥ = λ same. let none : place_under (name_of (slice_get objects key)) ns ≡ None = subst (λ m. place_under m ns ≡ None) same (before-apart n.0 ns are.1) in cc in
    ap (λ b. cond b (Some n.1) (place_under (name_of (slice_get objects key)) ns)) (names-differ n.0 (name_of (slice_get objects key)) apart) ∙ later

-- what stands under a name is among the places
under-place : (name : List ℕ) (ns : List (List ℕ × ℕ)) (key : ℕ) → place_under name ns ≡ Some key → Contains (map second ns) key
under-place name [] key is = absurd (cc)
under-place name (n ∷ ns) key is =
    ⊎_elim
    (λ (t : bytes_eq n.0 name ≡ true). (0, omega arith, same_Some n.1 key (rw t at is)))
    (λ (f : bytes_eq n.0 name ≡ false). let later = under-place name ns key (rw f at is) in (suc later.0, omega (arith, later.1), later.2))
    (cases_Bool (bytes_eq n.0 name))

last-suffix : (o : Option ℕ) (key : ℕ) → after_key o ≡ Some (key + 1) → o ≡ Some key
last-suffix None key is = absurd (cc)
last-suffix (Some k) key is = let e : k ≡ key = omega (arith, same_Some (k + 1) (key + 1) is) in ap (λ n. Some n) e

pub last-key : (objects : List Object) (at_dict key : ℕ) (es : List Entry) → HasEntries objects at_dict es → Contains (last_keys_of objects at_dict) key → IsLastNamed (name_of (slice_get objects key)) (key + 1) es
unfolding last_keys_of
last-key objects at_dict key es has at =
    let name = name_of (slice_get objects key) in
    let under = place-under objects (named_keys objects at_dict) key at.0 (fold-keys objects (keys_of objects at_dict) [] tt) at.1 at.2 in
    some-first name es (key + 1) (sym (under-is objects at_dict es name has) ∙ ap after_key under)

pub key-last : (objects : List Object) (at_dict key : ℕ) (name : List ℕ) (es : List Entry) → HasEntries objects at_dict es → IsLastNamed name (key + 1) es → Contains (last_keys_of objects at_dict) key
unfolding last_keys_of
key-last objects at_dict key name es has last =
    under-place name (named_keys objects at_dict) key (last-suffix (place_under name (named_keys objects at_dict)) key (under-is objects at_dict es name has ∙ in-last name (key + 1) es last))

-- The names are those of the entries.

abbrev entry_name : Entry → List ℕ
entry_name e = e.name

named-in : (name : List ℕ) (es : List Entry) (k : ℕ) → k < length (map entry_name es) → get_or (map entry_name es) k name ≡ name → NoneNamed name es → ⊥
named-in name [] k lt is none = absurd (omega arith)
named-in name (e ∷ es) zero lt is none = All-head (Apart name) e es none is
named-in name (e ∷ es) (suc k) lt is none = named-in name es k (omega arith) is (All-tail (Apart name) e es none)

under-named : (objects : List Object) (name : List ℕ) (ns : List (List ℕ × ℕ)) (key : ℕ) → AreKeys objects ns → place_under name ns ≡ Some key → name_of (slice_get objects key) ≡ name
under-named objects name [] key are is = absurd (cc)
under-named objects name (n ∷ ns) key are is =
    ⊎_elim
    (λ (t : bytes_eq n.0 name ≡ true).
    let same : n.1 ≡ key = same_Some n.1 key (rw t at is) in
    ap (λ p. name_of (slice_get objects p)) (sym same) ∙ sym are.0 ∙ equal-names n.0 name t)
    (λ (f : bytes_eq n.0 name ≡ false). under-named objects name ns key are.2 (rw f at is))
    (cases_Bool (bytes_eq n.0 name))

name-there : (objects : List Object) (keys : List ℕ) (key k : ℕ) (name : List ℕ) → k < length keys → get_or keys k key ≡ key → name_of (slice_get objects key) ≡ name → Contains (key_names objects keys) name
name-there objects [] key k name lt is named = absurd (omega arith)
name-there objects (first ∷ keys) key zero name lt is named = (0, omega arith, ap (λ p. name_of (slice_get objects p)) is ∙ named)
name-there objects (first ∷ keys) key (suc k) name lt is named = let later = name-there objects keys key k name (omega arith) is named in (suc later.0, omega (arith, later.1), later.2)

chosen-name : (objects : List Object) (at_dict : ℕ) (name : List ℕ) (es : List Entry) → Contains (map entry_name es) name → (o : Option ℕ) → place_under name (named_keys objects at_dict) ≡ o → after_key o ≡ last_in name None es
    → Contains (key_names objects (map second (named_keys objects at_dict))) name
chosen-name objects at_dict name es there None is same = absurd (named-in name es there.0 there.1 there.2 (in-absent name es None (sym same)).1)
chosen-name objects at_dict name es there (Some key) is same =
    let at = under-place name (named_keys objects at_dict) key is in
    name-there objects (map second (named_keys objects at_dict)) key at.0 name at.1 at.2 (under-named objects name (named_keys objects at_dict) key (fold-keys objects (keys_of objects at_dict) [] tt) is)

pub name-of-key : (objects : List Object) (at_dict : ℕ) (name : List ℕ) (es : List Entry) → HasEntries objects at_dict es → Contains (map (λ (e : Entry). e.name) es) name → Contains (key_names objects (last_keys_of objects at_dict)) name
unfolding last_keys_of
name-of-key objects at_dict name es has there =
    chosen-name objects at_dict name es there (place_under name (named_keys objects at_dict)) refl (under-is objects at_dict es name has)

key-named : (objects : List Object) (keys : List ℕ) (k : ℕ) (name : List ℕ) → k < length (key_names objects keys) → get_or (key_names objects keys) k name ≡ name → (key : ℕ) × Contains keys key × (name_of (slice_get objects key) ≡ name)
key-named objects [] k name lt is = absurd (omega arith)
key-named objects (key ∷ keys) zero name lt is = (key, (0, omega arith, refl), is)
key-named objects (key ∷ keys) (suc k) name lt is =
    let later = key-named objects keys k name (omega arith) is in
    let at = later.1 in
    (later.0, (suc at.0, omega (arith, at.1), at.2), later.2)

entry-there : (name : List ℕ) (value : ℕ) (before later : List Entry) → Contains (map entry_name (before ++ record { name = name; value = value } ∷ later)) name
entry-there name value [] later = (0, omega arith, refl)
entry-there name value (e ∷ before) later = let more = entry-there name value before later in (suc more.0, omega (arith, more.1), more.2)

pub key-of-name : (objects : List Object) (at_dict : ℕ) (name : List ℕ) (es : List Entry) → HasEntries objects at_dict es → Contains (key_names objects (last_keys_of objects at_dict)) name → Contains (map (λ (e : Entry). e.name) es) name
key-of-name objects at_dict name es has there =
    let key = key-named objects (last_keys_of objects at_dict) there.0 name there.1 there.2 in
    let last : IsLastNamed name (key.0 + 1) es = subst (λ (n : List ℕ). IsLastNamed n (key.0 + 1) es) key.2 (last-key objects at_dict key.0 es has key.1) in
    subst (λ (l : List Entry). Contains (map entry_name l) name) (sym last.2) (entry-there name (key.0 + 1) last.0 last.1)
