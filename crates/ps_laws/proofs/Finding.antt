-- Each dictionary among nested objects has its entries.
use Rattle.std.proofs.Common.{◌≡◌, ℕ, zero, suc, ◌+◌, ◌-◌, ◌<◌, ◌≤◌, List, [], ◌∷◌, ◌++◌, length, Some, refl, sym, ap, ◌∙◌, subst, ⊎_elim, arith, append_assoc, append-nil, length-append}
use Rattle.std.specs.Prelude.{slice_get}
use Rattle.std.proofs.lemmas.Bool.{cases_lt}
use Rattle.std.proofs.lemmas.Option.{same_Some}
use Rattle.ps_tokens.specs.declared.object.Body.{Body}
use Rattle.ps_tokens.specs.declared.object.Body.TheVariants.{Array, Dict}
use Rattle.ps_tokens.specs.declared.object.Object.{Object}
use Rattle.ps_laws.specs.Writes.{IsLiteral, IsPlain, Part, whole, items, entries}
use Rattle.ps_laws.specs.Nests.{Nests, plain, array, dict, no_item, next_item, no_entry, next_entry, AreNested}
use Rattle.ps_laws.specs.Entries.{Entry, AreEntries, none_more, one_more, HasEntries}

-- an element of two lists
pub left-get : {X : Type 0} (xs ys : List X) (p : ℕ) → p < length xs → slice_get (xs ++ ys) p ≡ slice_get xs p
left-get [] ys p lt = absurd (omega arith)
left-get (x ∷ xs) ys zero lt = refl
left-get (x ∷ xs) ys (suc p) lt = left-get xs ys p (omega arith)

pub right-get : {X : Type 0} (xs ys : List X) (p : ℕ) → length xs ≤ p → slice_get (xs ++ ys) p ≡ slice_get ys (p - length xs)
right-get [] ys p le = let e : p ≡ p - 0 = omega arith in ap (slice_get ys) e
right-get (x ∷ xs) ys zero le = absurd (omega arith)
right-get (x ∷ xs) ys (suc p) le = let e : p - length xs ≡ suc p - suc (length xs) = omega arith in right-get xs ys p (omega arith) ∙ ap (slice_get ys) e

-- where a dictionary stands, and what stands within it
record Found (objects : List Object) (place : ℕ) (object : Object) : Type 0 where
  prefix : List Object
  inner : List Object
  suffix : List Object
  depth : ℕ
  split : objects ≡ prefix ++ object ∷ (inner ++ suffix)
  at : place ≡ length prefix
  count : object.inside ≡ length inner
  nests : Nests entries depth inner

-- the same among more objects
wider : (before objects after all : List Object) (place : ℕ) (object : Object) → all ≡ before ++ (objects ++ after) → Found objects place object → Found all (length before + place) object
wider before objects after all place object are f = record {
  prefix = before ++ f.prefix;
  inner = f.inner;
  suffix = f.suffix ++ after;
  depth = f.depth;
  split =
      are
      ∙ ap (λ os. before ++ os)
      (ap (λ os. os ++ after) f.split ∙ append_assoc f.prefix (object ∷ (f.inner ++ f.suffix)) after ∙ ap (λ os. f.prefix ++ object ∷ os) (append_assoc f.inner f.suffix after))
      ∙ sym (append_assoc before f.prefix (object ∷ (f.inner ++ (f.suffix ++ after))));
  at = omega (arith, f.at, length-append before f.prefix);
  count = f.count;
  nests = f.nests;
}

moved : (objects : List Object) (p q : ℕ) (object : Object) → p ≡ q → Found objects p object → Found objects q object
moved objects p q object same f = subst (λ n. Found objects n object) same f

-- the first object
first-is : (first : Object) (rest : List Object) (object : Object) → slice_get (first ∷ rest) 0 ≡ Some object → first ≡ object
first-is first rest object is = same_Some first object is

no-plain-dict : (depth : ℕ) (body : Body) → IsPlain depth body → body ≡ Dict → ⊥
no-plain-dict depth body simple is = subst (IsPlain depth) is simple

no-literal-dict : (body : Body) → IsLiteral body → body ≡ Dict → ⊥
no-literal-dict body literal is = let e = sym literal.1 ∙ is in cc

no-array-dict : (body : Body) → body ≡ Array → body ≡ Dict → ⊥
no-array-dict body other is = let e = sym other ∙ is in cc

none-there : (place : ℕ) (object : Object) → slice_get [] place ≡ Some object → ⊥
none-there place object is = cc

-- of two runs of objects the one in which it stands
in-two : (prefix rest all : List Object) (place : ℕ) (object : Object) → all ≡ prefix ++ rest → slice_get all place ≡ Some object
    → ((p : ℕ) → slice_get prefix p ≡ Some object → Found prefix p object) → ((p : ℕ) → slice_get rest p ≡ Some object → Found rest p object) → Found all place object
in-two prefix rest all place object are is in_prefix in_rest =
    let there : slice_get (prefix ++ rest) place ≡ Some object = sym (ap (λ os. slice_get os place) are) ∙ is in
    ⊎_elim
    (λ (lt : place < length prefix). moved all (0 + place) place object (omega arith) (wider [] prefix rest all place object are (in_prefix place (sym (left-get prefix rest place lt) ∙ there))))
    (λ (le : length prefix ≤ place).
    moved all (length prefix + (place - length prefix)) place object (omega arith)
    (wider prefix rest [] all (place - length prefix) object (are ∙ ap (λ os. prefix ++ os) (sym (append-nil rest))) (in_rest (place - length prefix) (sym (right-get prefix rest place le) ∙ there))))
    (cases_lt place (length prefix))

found : {part : Part} {depth : ℕ} {objects : List Object} → Nests part depth objects → (place : ℕ) (object : Object) → slice_get objects place ≡ Some object → object.body ≡ Dict → Found objects place object
found (plain depth first simple alone) zero object is body = absurd (no-plain-dict depth first.body simple (ap (λ (o : Object). o.body) (first-is first [] object is) ∙ body))
found (plain depth first simple alone) (suc place) object is body = absurd (none-there place object is)
found (array depth first inner is_array count few within) zero object is body = absurd (no-array-dict first.body is_array (ap (λ (o : Object). o.body) (first-is first inner object is) ∙ body))
found (array depth first inner is_array count few within) (suc place) object is body =
    moved (first ∷ inner) (1 + place) (suc place) object (omega arith) (wider (first ∷ []) inner [] (first ∷ inner) place object (ap (λ os. first ∷ os) (sym (append-nil inner))) (found within place object is body))
found (dict depth first inner is_dict count few within) zero object is body =
    let same = first-is first inner object is in
    record {
      prefix = [];
      inner = inner;
      suffix = [];
      depth = suc depth;
      split = ap (λ (o : Object). o ∷ inner) same ∙ ap (λ os. object ∷ os) (sym (append-nil inner));
      at = refl;
      count = ap (λ (o : Object). o.inside) (sym same) ∙ count;
      nests = within;
    }
found (dict depth first inner is_dict count few within) (suc place) object is body =
    moved (first ∷ inner) (1 + place) (suc place) object (omega arith) (wider (first ∷ []) inner [] (first ∷ inner) place object (ap (λ os. first ∷ os) (sym (append-nil inner))) (found within place object is body))
found (no_item depth) place object is body = absurd (none-there place object is)
found (next_item depth first rest objects one more are) place object is body =
    in-two first rest objects place object are is (λ p at. found one p object at body) (λ p at. found more p object at body)
found (no_entry depth) place object is body = absurd (none-there place object is)
found (next_entry depth key value rest objects named alone one more are) zero object is body =
    let there : slice_get (key ∷ (value ++ rest)) 0 ≡ Some object = sym (ap (λ os. slice_get os 0) are) ∙ is in
    absurd (no-literal-dict key.body named (ap (λ (o : Object). o.body) (first-is key (value ++ rest) object there) ∙ body))
found (next_entry depth key value rest objects named alone one more are) (suc place) object is body =
    let there : slice_get (value ++ rest) place ≡ Some object = sym (ap (λ os. slice_get os (suc place)) are) ∙ is in
    moved objects (1 + place) (suc place) object (omega arith)
    (wider (key ∷ []) (value ++ rest) [] objects place object (are ∙ ap (λ os. key ∷ os) (sym (append-nil (value ++ rest))))
    (in-two value rest (value ++ rest) place object refl there (λ p at. found one p object at body) (λ p at. found more p object at body)))

-- what stands within it are entries
abbrev AreSome : Part → ℕ → ℕ → List Object → Type 0
AreSome whole depth place objects = Unit {0}
AreSome items depth place objects = Unit {0}
AreSome entries depth place objects = (es : List Entry) × AreEntries depth place objects es

are-entries : {part : Part} {depth : ℕ} {objects : List Object} → Nests part depth objects → (place : ℕ) → AreSome part depth place objects
are-entries (plain depth first simple alone) place = tt
are-entries (array depth first inner is_array count few within) place = tt
are-entries (dict depth first inner is_dict count few within) place = tt
are-entries (no_item depth) place = tt
are-entries (next_item depth first rest objects one more are) place = tt
are-entries (no_entry depth) place = ([], none_more place)
are-entries (next_entry depth key value rest objects named alone one more are) place =
    let others = are-entries more (place + 1 + length value) in
    let first : Entry = record { name = named.0; value = place + 1 } in
    (first ∷ others.0, one_more place key named.0 value rest objects others.0 (first ∷ others.0) named.1 one others.1 are refl)

-- a dictionary has entries
pub has-entries : (objects : List Object) (place : ℕ) (object : Object) → AreNested objects → slice_get objects place ≡ Some object → object.body ≡ Dict → (es : List Entry) × HasEntries objects place es
has-entries objects place object nested is body =
    let f = found nested place object is body in
    let es = are-entries f.nests (place + 1) in
    (es.0, record { prefix = f.prefix; dict = object; inner = f.inner; suffix = f.suffix; depth = f.depth; split = f.split; at = f.at; body = body; count = f.count; are = es.1 })
