-- How a text that is written piece by piece goes on.
use Rattle.std.proofs.Common.{◌≡◌, ℕ, ◌+◌, ◌≤◌, List, [], ◌∷◌, ◌++◌, length, take, min, refl, sym, ap, ◌∙◌, subst, arith, append_assoc, Result, Ok, Err}
use Rattle.std.specs.Prelude.{IsTrue}
use Rattle.std.proofs.lemmas.List.{append-nil, take-append-le, take_min}
use Rattle.std.proofs.Math.Seq.{take-append-add, take-length}
use Rattle.outside.specs.ErrorCases.{Rose, RoseOnce, Asks}
use Rattle.outside.specs.Rack.{RackState, put}
use Rattle.outside.specs.Rack.{Finishes}
use Rattle.outside.specs.Writing.{Grows, WritesOn, FillsFile}
use Rattle.trap_set.specs.Holding.{Holds, Breaks, Puts}

grows_nothing : (s : RackState) → Grows [] s s
grows_nothing s = λ bytes files e. e ∙ ap (λ (bs : List ℕ). put s.current bs files) (sym (append-nil bytes))

grows_both : (a b : List ℕ) (s t u : RackState) → t.current ≡ s.current → Grows a s t → Grows b t u → Grows (a ++ b) s u
grows_both a b s t u same f g = λ bytes files e.
    (let there = f bytes files e in
    let moved = g (bytes ++ a) files (there ∙ ap (λ (n : List ℕ). put n (bytes ++ a) files) (sym same)) in
    moved ∙ ap (λ (n : List ℕ). put n ((bytes ++ a) ++ b) files) same ∙ ap (λ (bs : List ℕ). put s.current bs files) (append_assoc bytes a b))

grows_as : (a b : List ℕ) (s t : RackState) → a ≡ b → Grows a s t → Grows b s t
grows_as a b s t e g = subst (λ (bs : List ℕ). Grows bs s t) e g

-- nothing is held at the start
pub holds_nothing : (s : RackState) → Holds [] [] s s
holds_nothing s = record { tells = refl; faults = refl; asked = refl; finished = refl; reported = λ t. refl; is_open = refl; current = λ t. refl; written = []; whole = refl; files = λ t. grows_nothing s }

-- what is held back is written
pub holds_written : {T E : Type 0} (v : T) (text stored : List ℕ) (start s t : RackState) → WritesOn {T = T} {E = E} stored s t (Ok v) → Holds text stored start s → Holds text [] start t
holds_written v text stored start s t w h = record {
  tells = w.keeps.tells ∙ h.tells;
  faults = w.well ∙ h.faults;
  asked = w.asked ∙ h.asked;
  finished = w.finished ∙ h.finished;
  reported = λ x. w.reported (subst IsTrue (sym h.tells) x) ∙ h.reported x;
  is_open = w.is_open ∙ h.is_open;
  current = λ x. w.current (subst IsTrue (sym h.tells) x) ∙ h.current x;
  written = text;
  whole = sym (append-nil text);
  files = λ x. grows_as _ _ start t (sym h.whole) (grows_both h.written stored start s t (h.current x) (h.files x) (w.files (subst IsTrue (sym h.tells) x)));
}

-- a piece is held back after what is
pub holds_more : (text stored piece : List ℕ) (start s : RackState) → Holds text stored start s → Holds (text ++ piece) (stored ++ piece) start s
holds_more text stored piece start s h = record {
  tells = h.tells;
  faults = h.faults;
  asked = h.asked;
  finished = h.finished;
  reported = h.reported;
  is_open = h.is_open;
  current = h.current;
  written = h.written;
  whole = ap (λ (bs : List ℕ). bs ++ piece) h.whole ∙ append_assoc h.written stored piece;
  files = h.files;
}

-- a piece is written at once, where nothing is held
pub holds_past : {T E : Type 0} (v : T) (text piece : List ℕ) (start s t : RackState) → WritesOn {T = T} {E = E} piece s t (Ok v) → Holds text [] start s → Holds (text ++ piece) [] start t
holds_past v text piece start s t w h = holds_written v (text ++ piece) piece start s t w (holds_more text [] piece start s h)

prefix_of_part : (a b : List ℕ) (k : ℕ) → a ++ take k b ≡ take (length a + k) (a ++ b)
prefix_of_part a b k = sym (take-append-add a b k)

-- a fault while what is held back is written
pub breaks_written : {T E : Type 0} (v : E) (text stored : List ℕ) (start s t : RackState) → WritesOn {T = T} {E = E} stored s t (Err v) → Holds text stored start s → Breaks text start t
breaks_written v text stored start s t w h = record {
  keeps = record { tells = w.keeps.tells ∙ h.tells; faults = subst (λ (n : ℕ). n ≤ t.faults) h.faults w.keeps.faults };
  asked = w.asked ∙ h.asked;
  finished = w.finished ∙ h.finished;
  reported = λ x. w.reported (subst IsTrue (sym h.tells) x) ∙ h.reported x;
  is_open = w.is_open ∙ h.is_open;
  part = λ x.
      (let part = w.part (subst IsTrue (sym h.tells) x) in
      (length h.written + part.0, grows_as _ _ start t (prefix_of_part h.written stored part.0 ∙ ap (take (length h.written + part.0)) (sym h.whole)) (grows_both h.written (take part.0 stored) start s t (h.current x) (h.files x) part.1)));
  reason = subst (λ (n : ℕ). Rose n t.faults) h.faults w.reason;
  once = subst (λ (n : ℕ). RoseOnce n t.faults) h.faults w.once;
}

-- what broke off within a text broke off within a longer one
take_prefix : (text more : List ℕ) (k : ℕ) → take k text ≡ take (min k (length text)) (text ++ more)
take_prefix text more k = sym (take-append-le (min k (length text)) text more (omega arith) ∙ take_min k text)

pub breaks_more : (text more : List ℕ) (start t : RackState) → Breaks text start t → Breaks (text ++ more) start t
breaks_more text more start t b = record {
  keeps = b.keeps;
  asked = b.asked;
  finished = b.finished;
  reported = b.reported;
  is_open = b.is_open;
  reason = b.reason;
  once = b.once;
  part = λ x. (let part = b.part x in (min part.0 (length text), grows_as _ _ start t (take_prefix text more part.0) part.1));
}

-- one piece after another
pub puts_then : {T T2 E E2 : Type 0} (v : T) (r : Result T2 E2) (a b stored held2 held3 : List ℕ) (s t u : RackState) → Puts {T = T} {E = E} a stored held2 s t (Ok v) → Puts b held2 held3 t u r → Puts (a ++ b) stored held3 s u r
puts_then v (Ok w) a b stored held2 held3 s t u f g = record {
  well = λ start text h. subst (λ (bs : List ℕ). Holds bs held3 start u) (append_assoc text a b) (g.well start (text ++ a) (f.well start text h));
  fault = tt;
  is_open = g.is_open;
}
puts_then v (Err e) a b stored held2 held3 s t u f g = record {
  well = tt;
  fault = λ start text h. subst (λ (bs : List ℕ). Breaks bs start u) (append_assoc text a b) (g.fault start (text ++ a) (f.well start text h));
  is_open = tt;
}

-- a piece that breaks off, before others
pub puts_failed : {T T2 E E2 : Type 0} (e : E) (e2 : E2) (a b stored held2 held3 : List ℕ) (s t : RackState) → Puts {T = T} {E = E} a stored held2 s t (Err e) → Puts {T = T2} {E = E2} (a ++ b) stored held3 s t (Err e2)
puts_failed e e2 a b stored held2 held3 s t f = record {
  well = tt;
  fault = λ start text h. subst (λ (bs : List ℕ). Breaks bs start t) (append_assoc text a b) (breaks_more (text ++ a) b start t (f.fault start text h));
  is_open = tt;
}

pub puts_written : {T T2 E E2 : Type 0} (v : T) (w : T2) (bytes stored held2 : List ℕ) (s t : RackState) → IsTrue s.is_open → bytes ≡ stored → held2 ≡ [] → WritesOn {T = T} {E = E} bytes s t (Ok v) → Puts {T = T2} {E = E2} [] stored held2 s t (Ok w)
puts_written v w bytes stored held2 s t o same e f = record {
  well = λ start text h. subst (λ (bs : List ℕ). Holds bs held2 start t) (sym (append-nil text)) (subst (λ (bs : List ℕ). Holds text bs start t) (sym e) (holds_written v text bytes start s t f (subst (λ (bs : List ℕ). Holds text bs start s) (sym same) h)));
  fault = tt;
  is_open = subst IsTrue (sym f.is_open) o;
}

pub puts_broken : {T T2 E E2 : Type 0} (e : E) (e2 : E2) (piece bytes stored held2 : List ℕ) (s t : RackState) → bytes ≡ stored → WritesOn {T = T} {E = E} bytes s t (Err e) → Puts {T = T2} {E = E2} piece stored held2 s t (Err e2)
puts_broken e e2 piece bytes stored held2 s t same f = record {
  well = tt;
  fault = λ start text h. breaks_more text piece start t (breaks_written e text bytes start s t f (subst (λ (bs : List ℕ). Holds text bs start s) (sym same) h));
  is_open = tt;
}

-- the same by equal lists
pub puts_as : {T E : Type 0} (r : Result T E) (a b stored held2 held3 : List ℕ) (s t : RackState) → a ≡ b → stored ≡ held2 → Puts a stored held3 s t r → Puts b held2 held3 s t r
puts_as r a b stored held2 held3 s t e f p = subst (λ (bs : List ℕ). Puts bs held2 held3 s t r) e (subst (λ (bs : List ℕ). Puts a bs held3 s t r) f p)

pub puts_past : {T E : Type 0} (r : Result T E) (piece stored held2 : List ℕ) (s t : RackState) → IsTrue s.is_open → stored ≡ [] → held2 ≡ [] → WritesOn piece s t r → Puts piece stored held2 s t r
puts_past (Ok v) piece stored held2 s t o none none2 f = record {
  well = λ start text h. subst (λ (bs : List ℕ). Holds (text ++ piece) bs start t) (sym none2) (holds_past v text piece start s t f (subst (λ (bs : List ℕ). Holds text bs start s) none h));
  fault = tt;
  is_open = subst IsTrue (sym f.is_open) o;
}
puts_past (Err e) piece stored held2 s t o none none2 f = record {
  well = tt;
  fault = λ start text h. breaks_written e (text ++ piece) piece start s t f (holds_more text [] piece start s (subst (λ (bs : List ℕ). Holds text bs start s) none h));
  is_open = tt;
}

pub puts_prefix : {T T2 E E2 : Type 0} (e : E) (e2 : E2) (a rest whole stored held2 held3 : List ℕ) (s t : RackState) → whole ≡ a ++ rest → Puts {T = T} {E = E} a stored held2 s t (Err e) → Puts {T = T2} {E = E2} whole stored held3 s t (Err e2)
puts_prefix {T2 = T2} {E2 = E2} e e2 a rest whole stored held2 held3 s t is p = subst (λ (bs : List ℕ). Puts {T = T2} {E = E2} bs stored held3 s t (Err e2)) (sym is) (puts_failed e e2 a rest stored held2 held3 s t p)

-- a text that is put whole, and of which nothing is held back, fills the file that is finished then
pub fills_whole : {T T2 E E2 : Type 0} (v : T) (r : Result T2 E2) (text stored : List ℕ) (s t u : RackState) → stored ≡ [] → Puts {T = T} {E = E} text [] stored s t (Ok v) → Finishes t u r → FillsFile text s u r
fills_whole {T2 = T2} {E2 = E2} v r text stored s t u none p f = by r f where
  h : Holds text [] s t
  h = subst (λ (bs : List ℕ). Holds text bs s t) none (p.well s [] (holds_nothing s))

  reported_there : IsTrue s.tells → IsTrue t.tells
  reported_there x = subst IsTrue (sym h.tells) x

  grown : IsTrue s.tells → Grows text s t
  grown x = grows_as h.written text s t (sym (h.whole ∙ append-nil h.written)) (h.files x)

  by : (r2 : Result T2 E2) → Finishes t u r2 → FillsFile text s u r2
  by (Ok w) g = record {
    keeps = record { tells = g.keeps.tells ∙ h.tells; faults = subst (λ (n : ℕ). n ≤ u.faults) h.faults g.keeps.faults };
    asked = g.asked ∙ h.asked;
    reported = λ x. g.reported (reported_there x) ∙ h.reported x;
    shut = g.shut;
    finished = λ x. subst (λ o. Asks o u.finished (s.current ∷ [])) h.finished (subst (λ n. Asks t.finished u.finished (n ∷ [])) (h.current x) (g.finished (reported_there x)));
    unfinished = tt;
    kept = tt;
    files = λ x. (λ bytes files e. g.files (reported_there x) ∙ grown x bytes files e);
    part = tt;
    well = g.fails.well ∙ h.faults;
    reason = tt;
    once = tt;
  }
  by (Err e) g = record {
    keeps = record { tells = g.keeps.tells ∙ h.tells; faults = subst (λ (n : ℕ). n ≤ u.faults) h.faults g.keeps.faults };
    asked = g.asked ∙ h.asked;
    reported = λ x. g.reported (reported_there x) ∙ h.reported x;
    shut = tt;
    finished = tt;
    unfinished = g.unfinished ∙ h.finished;
    kept = g.kept.0 ∙ h.is_open;
    files = tt;
    part = λ x. (length text, grows_as text (take (length text) text) s u (sym (take-length text)) (λ bytes files e2. g.files (reported_there x) ∙ grown x bytes files e2));
    well = tt;
    reason = subst (λ (n : ℕ). Rose n u.faults) h.faults g.fails.reason;
    once = subst (λ (n : ℕ). RoseOnce n u.faults) h.faults g.fails.once;
  }

pub fills_part : {T T2 E E2 : Type 0} (e : E) (e2 : E2) (text stored : List ℕ) (s t : RackState) → Puts {T = T} {E = E} text [] stored s t (Err e) → FillsFile {T = T2} {E = E2} text s t (Err e2)
fills_part e e2 text stored s t p =
    let b = p.fault s [] (holds_nothing s) in
    record { keeps = b.keeps; asked = b.asked; reported = b.reported; shut = tt; finished = tt; unfinished = b.finished; kept = b.is_open; files = tt; part = b.part; well = tt; reason = b.reason; once = b.once }
