-- Where tokens cannot write objects out, the first that is out of place.
use Rattle.std.proofs.Common.{◌≡◌, inl, inr, ℕ, List, [], ◌∷◌, ◌++◌, fold, Result, Ok, Err, refl, sym, ap, ◌∙◌, subst}
use Rattle.std.proofs.lemmas.List.Sums.{fold-append}
use Rattle.ps_tokens.specs.declared.faults.FaultKind.{FaultKind}
use Rattle.ps_tokens.specs.declared.faults.FaultKind.TheVariants.{Unclosed}
use Rattle.ps_tokens.specs.declared.faults.JobFault.{JobFault}
use Rattle.ps_tokens.specs.declared.token.Token.{Token}
use Rattle.ps_tokens.specs.declared.brackets.Bracket.{Bracket}
use Rattle.ps_tokens.specs.declared.object.Object.{Object}
use Rattle.ps_tokens.specs.Words.{spelling}
use Rattle.ps_tokens.specs.Brackets.{after_token, at_token, after_next, brackets_after}
use Rattle.ps_tokens.specs.Objects.{objects_in, unless_open, objects_of}
use Rattle.ps_tokens.proofs.Judgements.{fold-err}
use Rattle.ps_tokens.proofs.Completing.{completed, never_completed}
use Rattle.ps_laws.specs.Writes.{WritesOut}
use Rattle.ps_laws.specs.Firsts.{CanWriteOut, IsFirstMisplaced, IsUnclosed, Misplaced}
use Rattle.ps_laws.proofs.KindsOfFaults.{fault-had, had-fault}
use Rattle.ps_laws.proofs.Opening.{brackets-left, left-brackets}
use Rattle.ps_laws.proofs.Parsing.{objects-written, written-objects}

-- the first token that is out of place
record FailsAt (bytes : List ℕ) (brackets : List Bracket) (tokens : List Token) (fault : JobFault) : Type 0 where
  prefix : List Token
  token : Token
  suffix : List Token
  new : List Bracket
  whole : tokens ≡ prefix ++ token ∷ suffix
  before : fold (after_next bytes) (Ok brackets) prefix ≡ Ok new
  here : after_token bytes token new ≡ Err fault.kind
  place : fault.at ≡ token.at

abbrev all_put : List Bracket → Result (List Bracket) JobFault
all_put brackets = Ok brackets

ok_is_no_err : (brackets : List Bracket) (fault : JobFault) → all_put brackets ≡ Err fault → ⊥
ok_is_no_err brackets fault e = cc

abbrev failed : JobFault → Result (List Bracket) JobFault
failed fault = Err fault

same_fault : (a b : JobFault) → failed a ≡ failed b → a ≡ b
same_fault a b e = cc

fails-next : (bytes : List ℕ) (brackets : List Bracket) (token : Token) (tokens : List Token) (fault : JobFault)
    → ((new : List Bracket) → fold (after_next bytes) (Ok new) tokens ≡ Err fault → FailsAt bytes new tokens fault)
    → (result : Result (List Bracket) FaultKind) → after_token bytes token brackets ≡ result → fold (after_next bytes) (at_token token.at result) tokens ≡ Err fault
    → FailsAt bytes brackets (token ∷ tokens) fault
fails-next bytes brackets token tokens fault later (Ok new) is fails =
    let f = later new fails in
    record {
      prefix = token ∷ f.prefix;
      token = f.token;
      suffix = f.suffix;
      new = f.new;
      whole = ap (λ ts. token ∷ ts) f.whole;
      before = ap (λ r. fold (after_next bytes) (at_token token.at r) f.prefix) is ∙ f.before;
      here = f.here;
      place = f.place;
    }
fails-next bytes brackets token tokens fault later (Err kind) is fails =
    let here : JobFault = record { kind = kind; at = token.at } in
    let same : here ≡ fault = same_fault here fault (sym (fold-err bytes here tokens) ∙ fails) in
    record { prefix = []; token = token; suffix = tokens; new = brackets; whole = refl; before = refl; here = is ∙ ap (λ f. Err f.kind) same; place = ap (λ f. f.at) (sym same) }

fails-at : (bytes : List ℕ) (tokens : List Token) (brackets : List Bracket) (fault : JobFault) → fold (after_next bytes) (Ok brackets) tokens ≡ Err fault → FailsAt bytes brackets tokens fault
fails-at bytes [] brackets fault fails = absurd (ok_is_no_err brackets fault fails)
fails-at bytes (token ∷ tokens) brackets fault fails =
    fails-next bytes brackets token tokens fault (λ new f. fails-at bytes tokens new fault f) (after_token bytes token brackets) refl fails

-- tokens without a fault can be completed
can-write : (bytes : List ℕ) (tokens : List Token) (brackets : List Bracket) → brackets_after bytes tokens ≡ Ok brackets → CanWriteOut bytes tokens
can-write bytes tokens brackets are =
    let c = completed bytes tokens brackets are in
    let all = tokens ++ c.0 in
    (c.0, objects_in bytes all, objects-written bytes all (objects_in bytes all) (ap (unless_open bytes all) c.1))

-- what has a fault is not written out
abbrev read_as : List Object → Result (List Object) JobFault
read_as objects = Ok objects

read_is_no_fault : (objects : List Object) (fault : JobFault) → read_as objects ≡ Err fault → ⊥
read_is_no_fault objects fault e = cc

not-written : (bytes : List ℕ) (tokens : List Token) (objects : List Object) (fault : JobFault) → objects_of bytes tokens ≡ Err fault → WritesOut bytes objects tokens → ⊥
not-written bytes tokens objects fault fails written = read_is_no_fault objects fault (sym (written-objects bytes tokens objects written) ∙ fails)

first-misplaced : (bytes : List ℕ) (tokens : List Token) (fault : JobFault) → brackets_after bytes tokens ≡ Err fault → IsFirstMisplaced bytes tokens fault
first-misplaced bytes tokens fault fails =
    let f = fails-at bytes tokens [] fault fails in
    let faulty : brackets_after bytes (f.prefix ++ f.token ∷ []) ≡ Err (record { kind = fault.kind; at = f.token.at }) =
    fold-append (after_next bytes) (Ok []) f.prefix (f.token ∷ []) ∙ ap (λ r. fold (after_next bytes) r (f.token ∷ [])) f.before ∙ ap (at_token f.token.at) f.here in
    record {
      prefix = f.prefix;
      token = f.token;
      suffix = f.suffix;
      whole = f.whole;
      before = can-write bytes f.prefix f.new f.before;
      after = λ can.
          not-written bytes ((f.prefix ++ f.token ∷ []) ++ can.0) can.1 (record { kind = fault.kind; at = f.token.at })
          (never_completed bytes (f.prefix ++ f.token ∷ []) can.0 (record { kind = fault.kind; at = f.token.at }) faulty) can.2;
      place = f.place;
      brackets = f.new;
      open_before = brackets-left bytes f.prefix f.new f.before;
      kinded = fault-had f.token.kind f.token.at (spelling bytes f.token) f.new fault.kind f.here;
    }

-- what a fault is
abbrev Means : List ℕ → List Token → Result (List Object) JobFault → Type 0
Means bytes tokens (Ok objects) = Unit {0}
Means bytes tokens (Err fault) = Misplaced bytes tokens fault

unclosed : (bytes : List ℕ) (tokens : List Token) (bracket : Bracket) (outer : List Bracket) → brackets_after bytes tokens ≡ Ok (bracket ∷ outer)
    → IsUnclosed bytes tokens (record { kind = Unclosed; at = bracket.at })
unclosed bytes tokens bracket outer are = record {
  innermost = bracket;
  outer = outer;
  open_at_end = brackets-left bytes tokens (bracket ∷ outer) are;
  place = refl;
  kinded = refl;
  unfinished = can-write bytes tokens (bracket ∷ outer) are;
  not_written = λ objects written. not-written bytes tokens objects (record { kind = Unclosed; at = bracket.at }) (ap (unless_open bytes tokens) are) written;
}

means : (bytes : List ℕ) (tokens : List Token) (result : Result (List Bracket) JobFault) → brackets_after bytes tokens ≡ result → Means bytes tokens (unless_open bytes tokens result)
means bytes tokens (Ok []) is = tt
means bytes tokens (Ok (bracket ∷ outer)) is = inr (unclosed bytes tokens bracket outer is)
means bytes tokens (Err fault) is = inl (first-misplaced bytes tokens fault is)

pub misplaced : (bytes : List ℕ) (tokens : List Token) (fault : JobFault) → objects_of bytes tokens ≡ Err fault → Misplaced bytes tokens fault
misplaced bytes tokens fault is = subst (Means bytes tokens) is (means bytes tokens (brackets_after bytes tokens) refl)

-- what is out of place is the fault
abbrev fault_of : FaultKind → ℕ → JobFault
fault_of kind at = record { kind = kind; at = at }

pub misplaced-fault : (bytes : List ℕ) (tokens : List Token) (fault : JobFault) → Misplaced bytes tokens fault → objects_of bytes tokens ≡ Err fault
misplaced-fault bytes tokens fault (inl m) =
    let here = fault_of fault.kind m.token.at in
    let faulty : brackets_after bytes tokens ≡ failed here =
    ap (fold (after_next bytes) (Ok [])) m.whole
    ∙ fold-append (after_next bytes) (Ok []) m.prefix (m.token ∷ m.suffix)
    ∙ ap (λ r. fold (after_next bytes) r (m.token ∷ m.suffix)) (left-brackets bytes m.prefix m.brackets m.open_before)
    ∙ ap (λ r. fold (after_next bytes) (at_token m.token.at r) m.suffix) (had-fault m.token.kind m.token.at (spelling bytes m.token) m.brackets fault.kind m.kinded)
    ∙ fold-err bytes here m.suffix in
    ap (unless_open bytes tokens) faulty ∙ ap (λ at. Err (fault_of fault.kind at)) (sym m.place)
misplaced-fault bytes tokens fault (inr m) =
    ap (unless_open bytes tokens) (left-brackets bytes tokens (m.innermost ∷ m.outer) m.open_at_end)
    ∙ ap (λ at. Err (fault_of Unclosed at)) (sym m.place)
    ∙ ap (λ kind. Err (fault_of kind fault.at)) (sym m.kinded)
