-- The fault that a statement is refused with is its fault by what is in force.
use Rattle.std.proofs.Common.{◌≡◌, ◌⊎◌, inl, inr, ℕ, ℤ, ◌==◌, Bool, true, false, cond, List, [], ◌∷◌, ◌++◌, length, Option, Some, None, Result, Ok, Err, refl, sym, ap, ◌∙◌, subst, append_assoc, append-nil}
use Rattle.std.specs.Prelude.{nat_le, nat_lt, sum_by, ◌+◌}
use Rattle.std.proofs.lemmas.List.Elements.{All-nil, All-cons, All-head, All-tail}
use Rattle.page_model.specs.declared.parts.Ink.{Ink}
use Rattle.page_model.specs.declared.parts.Limit.{Limit}
use Rattle.page_model.specs.declared.parts.TrapParams.{TrapParams}
use Rattle.page_model.specs.declared.parts.Zone.{Zone}
use Rattle.ps_tokens.specs.declared.faults.FaultKind.{FaultKind}
use Rattle.ps_tokens.specs.declared.faults.FaultKind.TheVariants.{UnknownOperator, WrongOperands, TooManyZones, TooManyVertices}
use Rattle.ps_tokens.specs.declared.faults.JobFault.{JobFault}
use Rattle.ps_tokens.specs.declared.object.Object.{Object}
use Rattle.job_parts.specs.Paths.{Drawing, nothing_drawn, moveto, lineto, rmoveto, rlineto, closepath}
use Rattle.job_reader.specs.declared.job.Job.{Job}
use Rattle.job_reader.specs.declared.operators.Operator.{Operator}
use Rattle.job_reader.specs.declared.operators.Operator.TheVariants.{SetPageDevice, SetTrapParams, NewPath, ClosePath, MoveTo, LineTo, RelativeMoveTo, RelativeLineTo, SetTrapZone, ShowPage}
use Rattle.job_reader.specs.declared.state.State.{State}
use Rattle.job_reader.specs.Calls.{Statement, is_showpage}
use Rattle.job_reader.specs.Device.{device_set}
use Rattle.job_reader.specs.InForce.{NoneShows, after_one, going_on, after_all, is_by}
use Rattle.job_reader.specs.Jobs.{then_job, statement_then}
use Rattle.job_reader.specs.Operands.{is_one_dict, two_numbers}
use Rattle.job_reader.specs.Starts.{nothing_read}
use Rattle.job_reader.specs.Statements.{fault, params_set, path_drawn, with_numbers, zone_of, zone_made, state_after, shown_fault, job_at, job_unless, job_shown}
use Rattle.job_reader.proofs.InForce.{resolution-in_force, trapping-in_force, details-in_force, params-in_force, limits-in_force}
use Rattle.job_reader.proofs.StateRanges.{IsState, state_after-leaves, nothing_read-state}
use Rattle.job_laws.specs.Faults.{state_in_force, fault_of, at_operator, unless_wrong, drawing_fault, stroke_fault, fault_by, fault_after, AreFaultless}
use Rattle.job_laws.proofs.Following.{going, after-push, path-in_force, zones-in_force}
use Rattle.page_model.specs.Limits.{most_job_zones, most_vertices_in_all}

-- What a statement is refused with.

-- the fault of a statement where this is in force
abbrev pub fault_in : List Object → Statement → Option Operator → State → Option JobFault
fault_in objects s None now = at_operator s UnknownOperator
fault_in objects s (Some o) now = cond (is_showpage o) (shown_fault objects s.from s.place s.call.at now) (fault_of (state_after objects s.from s.place s.call.at o now))

of-guarded : (b : Bool) (s : Statement) (r : Result State JobFault) → unless_wrong s b (fault_of r) ≡ fault_of (cond b r (fault WrongOperands s.call.at))
of-guarded true s r = refl
of-guarded false s r = refl

of-drawn : (s : Statement) (now : State) (r : Result Drawing FaultKind) → drawing_fault s r ≡ fault_of (path_drawn s.call.at now r)
of-drawn s now (Ok path) = refl
of-drawn s now (Err kind) = refl

of-stroke : (s : Statement) (now : State) (o : Option (ℤ × ℤ)) (draw : ℤ → ℤ → Result Drawing FaultKind) → stroke_fault s o draw ≡ fault_of (with_numbers s.call.at o (λ x y. path_drawn s.call.at now (draw x y)))
of-stroke s now None draw = refl
of-stroke s now (Some p) draw = of-drawn s now (draw p.0 p.1)

of-zone : (s : Statement) (b c : Bool) (made : State) → cond b (at_operator s TooManyZones) (cond c (at_operator s TooManyVertices) None) ≡ fault_of (cond b (fault TooManyZones s.call.at) (cond c (fault TooManyVertices s.call.at) (Ok made)))
of-zone s true c made = refl
of-zone s false true made = refl
of-zone s false false made = refl

-- it is the fault by what is in force
pub fault-in_force : (objects : List Object) (earlier : List Statement) (s : Statement) (o : Option Operator) → fault_by objects earlier s o ≡ fault_in objects s o (state_in_force objects earlier)
unfolding state_after shown_fault
fault-in_force objects earlier s None = refl
fault-in_force objects earlier s (Some SetPageDevice) = of-guarded (is_one_dict objects s.from s.place) s (device_set objects s.from (state_in_force objects earlier))
fault-in_force objects earlier s (Some SetTrapParams) = of-guarded (is_one_dict objects s.from s.place) s (params_set objects s.from (state_in_force objects earlier))
fault-in_force objects earlier s (Some NewPath) = let now : State = state_in_force objects earlier in of-guarded (s.from == s.place) s (Ok (record now { path = nothing_drawn }))
fault-in_force objects earlier s (Some ClosePath) = let now : State = state_in_force objects earlier in of-guarded (s.from == s.place) s (Ok (record now { path = closepath now.path }))
fault-in_force objects earlier s (Some MoveTo) = let now : State = state_in_force objects earlier in of-stroke s now (two_numbers objects s.from s.place) (λ x y. moveto x y now.path)
fault-in_force objects earlier s (Some LineTo) = let now : State = state_in_force objects earlier in of-stroke s now (two_numbers objects s.from s.place) (λ x y. lineto x y now.path)
fault-in_force objects earlier s (Some RelativeMoveTo) = let now : State = state_in_force objects earlier in of-stroke s now (two_numbers objects s.from s.place) (λ x y. rmoveto x y now.path)
fault-in_force objects earlier s (Some RelativeLineTo) = let now : State = state_in_force objects earlier in of-stroke s now (two_numbers objects s.from s.place) (λ x y. rlineto x y now.path)
fault-in_force objects earlier s (Some SetTrapZone) =
    let now : State = state_in_force objects earlier in
    let made : State = record now { zones = now.zones ++ zone_of now ∷ []; path = nothing_drawn; vertices = now.vertices + length now.path.vertices } in
    ap (unless_wrong s (s.from == s.place)) (of-zone s (nat_le most_job_zones (length now.zones)) (nat_lt most_vertices_in_all (now.vertices + length now.path.vertices)) made)
    ∙ of-guarded (s.from == s.place) s (zone_made s.call.at now)
fault-in_force objects earlier s (Some ShowPage) = refl

-- What it does to the job.

-- a result without a fault
no-fault : {X : Type 0} (r : Result X JobFault) → fault_of r ≡ None → (x : X) × (r ≡ Ok x)
no-fault (Ok x) is = (x, refl)
no-fault (Err first) is = absurd (cc)

one-fault : {X : Type 0} (r : Result X JobFault) (first : JobFault) → fault_of r ≡ Some first → r ≡ Err first
one-fault (Ok x) first is = absurd (cc)
one-fault (Err other) first is = cc

pub fine-goes : (objects : List Object) (s : Statement) (o : Option Operator) (now : State) → is_by is_showpage o ≡ false → fault_in objects s o now ≡ None → (next : State) × (after_one objects s o now ≡ Ok next)
fine-goes objects s None now goes fine = absurd (cc)
fine-goes objects s (Some o) now goes fine =
    let r = state_after objects s.from s.place s.call.at o now in
    no-fault r (sym (ap (λ b. cond b (shown_fault objects s.from s.place s.call.at now) (fault_of r)) goes) ∙ fine)

pub goes-fine : (objects : List Object) (s : Statement) (o : Option Operator) (now next : State) → is_by is_showpage o ≡ false → after_one objects s o now ≡ Ok next → fault_in objects s o now ≡ None
goes-fine objects s None now next goes is = absurd (cc)
goes-fine objects s (Some o) now next goes is =
    let r = state_after objects s.from s.place s.call.at o now in
    ap (λ b. cond b (shown_fault objects s.from s.place s.call.at now) (fault_of r)) goes ∙ ap fault_of is

unless-some : (o : Option JobFault) (first : JobFault) (job : Job) → o ≡ Some first → job_unless o job ≡ Err first
unless-some None first job is = absurd (cc)
unless-some (Some other) first job is = cc

refused-if : (b : Bool) (objects : List Object) (s : Statement) (o : Operator) (now : State) (rest : State → Result Job JobFault) (first : JobFault)
    → cond b (shown_fault objects s.from s.place s.call.at now) (fault_of (state_after objects s.from s.place s.call.at o now)) ≡ Some first
    → cond b (job_shown objects s.from s.place s.call.at now) (then_job (state_after objects s.from s.place s.call.at o now) rest) ≡ Err first
refused-if true objects s o now rest first is = unless-some (shown_fault objects s.from s.place s.call.at now) first (job_at now) is
refused-if false objects s o now rest first is = ap (λ r. then_job r rest) (one-fault (state_after objects s.from s.place s.call.at o now) first is)

pub faulty-refused : (objects : List Object) (s : Statement) (o : Option Operator) (now : State) (rest : State → Result Job JobFault) (first : JobFault) → fault_in objects s o now ≡ Some first → statement_then objects s o now rest ≡ Err first
faulty-refused objects s None now rest first is = let same : record { kind = UnknownOperator; at = s.call.at } ≡ first = cc in ap (λ f. Err f) same
faulty-refused objects s (Some o) now rest first is = refused-if (is_showpage o) objects s o now rest first is

pub shown-ends : (objects : List Object) (s : Statement) (o : Option Operator) (now : State) (rest : State → Result Job JobFault) → o ≡ Some ShowPage → fault_in objects s o now ≡ None → statement_then objects s o now rest ≡ Ok (job_at now)
shown-ends objects s o now rest shows fine =
    let none : shown_fault objects s.from s.place s.call.at now ≡ None = sym (ap (λ p. fault_in objects s p now) shows) ∙ fine in
    ap (λ p. statement_then objects s p now rest) shows ∙ ap (λ f. job_unless f (job_at now)) none

unless-ok : (o : Option JobFault) (made job : Job) → job_unless o made ≡ Ok job → (o ≡ None) × (made ≡ job)
unless-ok None made job is = (refl, cc)
unless-ok (Some first) made job is = absurd (cc)

unless-err : (o : Option JobFault) (made : Job) (first : JobFault) → job_unless o made ≡ Err first → o ≡ Some first
unless-err None made first is = absurd (cc)
unless-err (Some other) made first is = cc

pub ends-shown : (objects : List Object) (s : Statement) (now : State) (job : Job) → job_shown objects s.from s.place s.call.at now ≡ Ok job → (fault_in objects s (Some ShowPage) now ≡ None) × (job_at now ≡ job)
ends-shown objects s now job is = unless-ok (shown_fault objects s.from s.place s.call.at now) (job_at now) job is

-- an error is the statement's, or one of those after it
pub record PassedOn (objects : List Object) (s : Statement) (o : Option Operator) (now : State) (rest : State → Result Job JobFault) (first : JobFault) : Type 0 where
  pub next : State
  pub goes : is_by is_showpage o ≡ false
  pub does : after_one objects s o now ≡ Ok next
  pub later : rest next ≡ Err first

passed-by : (objects : List Object) (s : Statement) (o : Operator) (now : State) (rest : State → Result Job JobFault) (first : JobFault) (r : Result State JobFault) → is_showpage o ≡ false → state_after objects s.from s.place s.call.at o now ≡ r → then_job r rest ≡ Err first
    → (fault_of r ≡ Some first) ⊎ PassedOn objects s (Some o) now rest first
passed-by objects s o now rest first (Ok next) goes does is = inr (record { next = next; goes = goes; does = does; later = is })
passed-by objects s o now rest first (Err other) goes does is = inl (cc)

refused-by : (b : Bool) (objects : List Object) (s : Statement) (o : Operator) (now : State) (rest : State → Result Job JobFault) (first : JobFault) → is_showpage o ≡ b
    → cond b (job_shown objects s.from s.place s.call.at now) (then_job (state_after objects s.from s.place s.call.at o now) rest) ≡ Err first
    → (cond b (shown_fault objects s.from s.place s.call.at now) (fault_of (state_after objects s.from s.place s.call.at o now)) ≡ Some first) ⊎ PassedOn objects s (Some o) now rest first
refused-by true objects s o now rest first shows is = inl (unless-err (shown_fault objects s.from s.place s.call.at now) (job_at now) first is)
refused-by false objects s o now rest first shows is = passed-by objects s o now rest first (state_after objects s.from s.place s.call.at o now) shows refl is

pub refused : (objects : List Object) (s : Statement) (o : Option Operator) (now : State) (rest : State → Result Job JobFault) (first : JobFault) → statement_then objects s o now rest ≡ Err first
    → (fault_in objects s o now ≡ Some first) ⊎ PassedOn objects s o now rest first
refused objects s None now rest first is = let same : record { kind = UnknownOperator; at = s.call.at } ≡ first = cc in inl (ap (λ f. Some f) same)
refused objects s (Some o) now rest first is = refused-by (is_showpage o) objects s o now rest first refl is

-- What is in force is the state that is carried forward.

alike : {A B C D E F X : Type 0} (make : A → B → ℕ → C → D → E → F → ℕ → X) (a a' : A) (b b' : B) (n n' : ℕ) (c c' : C) (d d' : D) (e e' : E) (f f' : F) (m m' : ℕ)
    → a ≡ a' → b ≡ b' → n ≡ n' → c ≡ c' → d ≡ d' → e ≡ e' → f ≡ f' → m ≡ m' → make a b n c d e f m ≡ make a' b' n' c' d' e' f' m'
alike make a a' b b' n n' c c' d d' e e' f f' m m' one two three four five six seven eight = cc

one-state : (objects : List Object) (s : Statement) (o : Option Operator) (now next : State) → IsState now → after_one objects s o now ≡ Ok next → IsState next
one-state objects s None now next is does = absurd (cc)
one-state objects s (Some o) now next is does = state_after-leaves objects s.from s.place s.call.at o now is next does

all-state : (objects : List Object) (ss : List Statement) (now last : State) → IsState now → after_all objects now ss ≡ Ok last → IsState last
unfolding after_all
all-state objects [] now last is done = let same : now ≡ last = cc in subst (λ (n : State). IsState n) same is
all-state objects (s ∷ ss) now last is done =
    let one = going (after_one objects s s.call.operator now) (λ n. after_all objects n ss) last done in
    all-state objects ss one.0 last (one-state objects s s.call.operator now one.0 is one.1) one.2

pub state-in_force : (objects : List Object) (earlier : List Statement) (now : State) → after_all objects nothing_read earlier ≡ Ok now → now ≡ state_in_force objects earlier
state-in_force objects earlier now done =
    let zones = zones-in_force objects earlier now done in
    let counted = (all-state objects earlier nothing_read now nothing_read-state done).counted in
    alike
    (λ (params : TrapParams) (limits : List Limit) (resolution : ℕ) (trapping : Bool) (details : List Ink) (path : Drawing) (zones : List Zone) (vertices : ℕ).
    record { params = params; limits = limits; resolution = resolution; trapping = trapping; details = details; path = path; zones = zones; vertices = vertices })
    now.params _ now.limits _ now.resolution _ now.trapping _ now.details _ now.path _ now.zones _ now.vertices _
    (params-in_force objects earlier now done) (limits-in_force objects earlier now done) (resolution-in_force objects earlier now done) (trapping-in_force objects earlier now done)
    (details-in_force objects earlier now done) (path-in_force objects earlier now done) zones (sym counted ∙ ap (sum_by (λ (z : Zone). length z.path)) zones)

-- the fault after statements is that of the state that they leave
pub fault-there : (objects : List Object) (earlier : List Statement) (s : Statement) (now : State) → after_all objects nothing_read earlier ≡ Ok now → fault_after objects earlier s ≡ fault_in objects s s.call.operator now
fault-there objects earlier s now done = fault-in_force objects earlier s s.call.operator ∙ ap (fault_in objects s s.call.operator) (sym (state-in_force objects earlier now done))

-- Statements without a fault.

-- the test of a statement that is not `showpage`
abbrev Goes : Statement → Type 0
Goes s = is_by is_showpage s.call.operator ≡ false

-- statements after others, none of which has a fault or ends the job
abbrev Fine : List Object → List Statement → List Statement → Type 0
Fine objects before ss = (prefix later : List Statement) (s : Statement) → ss ≡ prefix ++ s ∷ later → Goes s × (fault_after objects (before ++ prefix) s ≡ None)

fine-tail : (objects : List Object) (before ss : List Statement) (s : Statement) → Fine objects before (s ∷ ss) → Fine objects (before ++ s ∷ []) ss
fine-tail objects before ss s fine prefix later t cut =
    let both = fine (s ∷ prefix) later t (ap (λ l. s ∷ l) cut) in
    (both.0, ap (λ l. fault_after objects l t) (append_assoc before (s ∷ []) prefix) ∙ both.1)

-- they are performed
performed : (objects : List Object) (ss before : List Statement) (now : State) → after_all objects nothing_read before ≡ Ok now → Fine objects before ss → NoneShows ss × ((last : State) × (after_all objects now ss ≡ Ok last))
unfolding after_all
performed objects [] before now done fine = (All-nil Goes, (now, refl))
performed objects (s ∷ ss) before now done fine =
    let first = fine [] ss s refl in
    let here : fault_in objects s s.call.operator now ≡ None = sym (fault-there objects before s now done) ∙ ap (λ l. fault_after objects l s) (sym (append-nil before)) ∙ first.1 in
    let one = fine-goes objects s s.call.operator now first.0 here in
    let rest = performed objects ss (before ++ s ∷ []) one.0 (after-push objects before s nothing_read now one.0 done one.1) (fine-tail objects before ss s fine) in
    (All-cons Goes s ss first.0 rest.0, (rest.1.0, ap (λ r. going_on r (λ n. after_all objects n ss)) one.1 ∙ rest.1.1))

pub faultless-performed : (objects : List Object) (earlier : List Statement) → AreFaultless objects earlier → NoneShows earlier × ((last : State) × (after_all objects nothing_read earlier ≡ Ok last))
unfolding after_all
faultless-performed objects earlier fine = performed objects earlier [] nothing_read refl fine

-- what is performed has no fault
split-head : (s t : Statement) (ss later : List Statement) → s ∷ ss ≡ t ∷ later → (s ≡ t) × (ss ≡ later)
split-head s t ss later is = (cc, cc)

none-cut : (prefix later : List Statement) (s : Statement) → [] ≡ prefix ++ s ∷ later → ⊥
none-cut [] later s is = cc
none-cut (f ∷ prefix) later s is = cc

performed-fine : (objects : List Object) (ss before : List Statement) (now last : State) → after_all objects nothing_read before ≡ Ok now → NoneShows ss → after_all objects now ss ≡ Ok last → Fine objects before ss
unfolding after_all
performed-fine objects [] before now last done none does prefix later t cut = absurd (none-cut prefix later t cut)
performed-fine objects (s ∷ ss) before now last done none does [] later t cut =
    let one = going (after_one objects s s.call.operator now) (λ n. after_all objects n ss) last does in
    let goes = All-head Goes s ss none in
    let here : fault_after objects before s ≡ None = fault-there objects before s now done ∙ goes-fine objects s s.call.operator now one.0 goes one.1 in
    let same = split-head s t ss later cut in
    subst (λ (x : Statement). Goes x × (fault_after objects (before ++ []) x ≡ None)) same.0 (goes, ap (λ l. fault_after objects l s) (append-nil before) ∙ here)
performed-fine objects (s ∷ ss) before now last done none does (f ∷ prefix) later t cut =
    let one = going (after_one objects s s.call.operator now) (λ n. after_all objects n ss) last does in
    let same = split-head s f ss (prefix ++ t ∷ later) cut in
    let rest = performed-fine objects ss (before ++ s ∷ []) one.0 last (after-push objects before s nothing_read now one.0 done one.1) (All-tail Goes s ss none) one.2 prefix later t same.1 in
    (rest.0, ap (λ l. fault_after objects l t) (sym (append_assoc before (s ∷ []) prefix ∙ ap (λ x. before ++ x ∷ prefix) same.0)) ∙ rest.1)

pub performed-faultless : (objects : List Object) (earlier : List Statement) (last : State) → NoneShows earlier → after_all objects nothing_read earlier ≡ Ok last → AreFaultless objects earlier
unfolding after_all
performed-faultless objects earlier last none done = performed-fine objects earlier [] nothing_read last refl none done
