-- A job ends at its first `showpage`, after statements without a fault; and where it has none, the first fault is told.
use Rattle.std.proofs.Common.{◌≡◌, ℕ, ◌<◌, ◌≤◌, arith, append-nil, ⊎_elim, Bool, true, false, cond, List, [], ◌∷◌, ◌++◌, map, length, ◌==◌, ◌&&◌, ◌⊎◌, inl, inr, Option, Some, None, Result, Ok, Err, refl, sym, ap, subst, ◌∙◌, true≢false}
use Rattle.std.specs.Prelude.{nat_lt}
use Rattle.std.proofs.lemmas.Bool.Decides.{nat_tests}
use Rattle.std.proofs.lemmas.List.Elements.{All-nil, All-cons, All-head, All-tail}
use Rattle.page_model.specs.declared.parts.Ink.{Ink}
use Rattle.page_model.specs.declared.parts.Limit.{Limit}
use Rattle.page_model.specs.declared.parts.TrapParams.{TrapParams}
use Rattle.page_model.specs.declared.parts.Zone.{Zone}
use Rattle.ps_tokens.specs.declared.faults.FaultKind.TheVariants.{JobTooLong, NoShowpage}
use Rattle.ps_tokens.specs.declared.faults.JobFault.{JobFault}
use Rattle.ps_tokens.specs.declared.object.Object.{Object}
use Rattle.ps_tokens.specs.declared.token.Token.{Token}
use Rattle.ps_tokens.specs.Limits.{longest_job}
use Rattle.ps_tokens.specs.Objects.{objects_of}
use Rattle.ps_tokens.specs.Tokens.{tokens_of}
use Rattle.job_reader.specs.declared.job.Job.{Job}
use Rattle.job_reader.specs.declared.operators.Operator.{Operator}
use Rattle.job_reader.specs.declared.operators.Operator.TheVariants.{SetPageDevice, SetTrapParams, NewPath, ClosePath, MoveTo, LineTo, RelativeMoveTo, RelativeLineTo, SetTrapZone, ShowPage}
use Rattle.job_reader.specs.declared.state.State.{State}
use Rattle.job_reader.specs.Calls.{Statement, is_showpage, statements_of}
use Rattle.job_reader.specs.InForce.{NoneShows, after_one, going_on, after_all, is_by}
use Rattle.job_reader.specs.Jobs.{then_job, statement_then, read_from, job_of, job_of_tokens, job_of_objects}
use Rattle.job_reader.specs.Starts.{nothing_read}
use Rattle.job_reader.specs.Statements.{fault, state_after, job_shown, shown_fault, job_unless, job_at, under_trapping}
use Rattle.job_reader.proofs.InForce.{resolution-in_force, trapping-in_force, details-in_force, params-in_force, limits-in_force, read_from-after}
use Rattle.job_laws.specs.Faults.{IsFaultOf}
use Rattle.job_laws.specs.Jobs.{IsJobOf, EndJob, IsSpelledBy, IsFaultOfBytes}
use Rattle.job_laws.proofs.Faulting.{fault_in, PassedOn, refused, ends-shown, shown-ends, faulty-refused, fault-there, performed-faultless, faultless-performed}
use Rattle.job_laws.proofs.Following.{zones-in_force}

-- The job at `showpage`.

alike : {A B C D X : Type 0} (make : A → B → C → D → X) (a a' : A) (b b' : B) (c c' : C) (d d' : D) → a ≡ a' → b ≡ b' → c ≡ c' → d ≡ d' → make a b c d ≡ make a' b' c' d'
alike make a a' b b' c c' d d' one two three four = cc

alike_three : {A B C X : Type 0} (make : A → B → C → X) (a a' : A) (b b' : B) (c c' : C) → a ≡ a' → b ≡ b' → c ≡ c' → make a b c ≡ make a' b' c'
alike_three make a a' b b' c c' one two three = cc

at-is : (objects : List Object) (earlier : List Statement) (now : State) → after_all objects nothing_read earlier ≡ Ok now → IsJobOf objects earlier (job_at now)
at-is objects earlier now done =
    let make : TrapParams → List Limit → Bool → List Zone → List Zone = λ params limits trapping zones.
    record { params = record params { enabled = params.enabled && trapping && (length zones == 0) }; path = []; limits = limits } ∷ map (under_trapping trapping) zones in
    record {
      resolution = resolution-in_force objects earlier now done;
      zones = alike make now.params _ now.limits _ now.trapping _ now.zones _ (params-in_force objects earlier now done) (limits-in_force objects earlier now done) (trapping-in_force objects earlier now done) (zones-in_force objects earlier now done);
      details = details-in_force objects earlier now done;
    }

unless-is : (o : Option JobFault) (job meant : Job) → job_unless o meant ≡ Ok job → meant ≡ job
unless-is None job meant is = cc
unless-is (Some first) job meant is = absurd (cc)

job_shown-is : (objects : List Object) (earlier : List Statement) (show : Statement) (now : State) (job : Job) → after_all objects nothing_read earlier ≡ Ok now → job_shown objects show.from show.place show.call.at now ≡ Ok job → IsJobOf objects earlier job
job_shown-is objects earlier show now job done ends =
    subst (λ (j : Job). IsJobOf objects earlier j) (unless-is (shown_fault objects show.from show.place show.call.at now) job (job_at now) ends) (at-is objects earlier now done)

-- The statements up to it.

-- a statement ends the job
record Shows (objects : List Object) (s : Statement) (o : Option Operator) (now : State) (job : Job) : Type 0 where
  is : o ≡ Some ShowPage
  ends : job_shown objects s.from s.place s.call.at now ≡ Ok job

-- or the job goes on after it
record Passes (objects : List Object) (s : Statement) (o : Option Operator) (now : State) (rest : State → Result Job JobFault) (job : Job) : Type 0 where
  next : State
  is : is_by is_showpage o ≡ false
  does : after_one objects s o now ≡ Ok next
  more : rest next ≡ Ok job

only-showpage : (o : Operator) → is_showpage o ≡ true → Some o ≡ Some ShowPage
only-showpage SetPageDevice is = absurd (cc)
only-showpage SetTrapParams is = absurd (cc)
only-showpage NewPath is = absurd (cc)
only-showpage ClosePath is = absurd (cc)
only-showpage MoveTo is = absurd (cc)
only-showpage LineTo is = absurd (cc)
only-showpage RelativeMoveTo is = absurd (cc)
only-showpage RelativeLineTo is = absurd (cc)
only-showpage SetTrapZone is = absurd (cc)
only-showpage ShowPage is = refl

follows : (r : Result State JobFault) (rest : State → Result Job JobFault) (job : Job) → then_job r rest ≡ Ok job → (next : State) × (r ≡ Ok next) × (rest next ≡ Ok job)
follows (Ok next) rest job is = (next, refl, is)
follows (Err first) rest job is = absurd (cc)

one-by : (b : Bool) (objects : List Object) (s : Statement) (o : Operator) (now : State) (rest : State → Result Job JobFault) (job : Job) → is_showpage o ≡ b
    → cond b (job_shown objects s.from s.place s.call.at now) (then_job (state_after objects s.from s.place s.call.at o now) rest) ≡ Ok job
    → Shows objects s (Some o) now job ⊎ Passes objects s (Some o) now rest job
one-by true objects s o now rest job shows is = inl (record { is = only-showpage o shows; ends = is })
one-by false objects s o now rest job shows is =
    let r = state_after objects s.from s.place s.call.at o now in
    let one = follows r rest job is in
    inr (record { next = one.0; is = shows; does = one.1; more = one.2 })

one : (objects : List Object) (s : Statement) (o : Option Operator) (now : State) (rest : State → Result Job JobFault) (job : Job) → statement_then objects s o now rest ≡ Ok job → Shows objects s o now job ⊎ Passes objects s o now rest job
one objects s None now rest job is = absurd (cc)
one objects s (Some o) now rest job is = one-by (is_showpage o) objects s o now rest job refl is

-- where a job ends
record Ends (objects : List Object) (now : State) (ss : List Statement) (job : Job) : Type 0 where
  earlier : List Statement
  show : Statement
  later : List Statement
  last : State
  cut : ss ≡ earlier ++ show ∷ later
  none_shows : NoneShows earlier
  shows : show.call.operator ≡ Some ShowPage
  done : after_all objects now earlier ≡ Ok last
  ends : job_shown objects show.from show.place show.call.at last ≡ Ok job

-- the test of a statement that is not `showpage`
abbrev Goes : Statement → Type 0
Goes s = is_by is_showpage s.call.operator ≡ false

ends-here : (objects : List Object) (now : State) (s : Statement) (ss : List Statement) (job : Job) → Shows objects s s.call.operator now job → Ends objects now (s ∷ ss) job
unfolding after_all
ends-here objects now s ss job at = record { earlier = []; show = s; later = ss; last = now; cut = refl; none_shows = All-nil Goes; shows = at.is; done = refl; ends = at.ends }

ends-later : (objects : List Object) (now : State) (s : Statement) (ss : List Statement) (job : Job) (next : State) → Goes s → after_one objects s s.call.operator now ≡ Ok next → Ends objects next ss job → Ends objects now (s ∷ ss) job
unfolding after_all
ends-later objects now s ss job next goes does end = record {
  earlier = s ∷ end.earlier;
  show = end.show;
  later = end.later;
  last = end.last;
  cut = ap (λ l. s ∷ l) end.cut;
  none_shows = All-cons Goes s end.earlier goes end.none_shows;
  shows = end.shows;
  done = ap (λ r. going_on r (λ n. after_all objects n end.earlier)) does ∙ end.done;
  ends = end.ends;
}

ends-one : (objects : List Object) (now : State) (s : Statement) (ss : List Statement) (rest : State → Result Job JobFault) (job : Job) → ((next : State) → rest next ≡ Ok job → Ends objects next ss job)
    → Shows objects s s.call.operator now job ⊎ Passes objects s s.call.operator now rest job → Ends objects now (s ∷ ss) job
ends-one objects now s ss rest job more (inl at) = ends-here objects now s ss job at
ends-one objects now s ss rest job more (inr past) = ends-later objects now s ss job past.next past.is past.does (more past.next past.more)

ends-at : (objects : List Object) (len : ℕ) (now : State) (ss : List Statement) (job : Job) → read_from objects len now ss ≡ Ok job → Ends objects now ss job
unfolding read_from
ends-at objects len now [] job is = absurd (cc)
ends-at objects len now (s ∷ ss) job is =
    let rest : State → Result Job JobFault = λ next. read_from objects len next ss in
    ends-one objects now s ss rest job (λ next more. ends-at objects len next ss job more) (one objects s s.call.operator now rest job is)

-- A cut before the first `showpage` is where the job ends.

-- what the statements before a `showpage` leave, and it ends the job
record Left (objects : List Object) (now : State) (earlier : List Statement) (show : Statement) (job : Job) : Type 0 where
  last : State
  done : after_all objects now earlier ≡ Ok last
  ends : job_shown objects show.from show.place show.call.at last ≡ Ok job

left-later : (objects : List Object) (now : State) (s : Statement) (ss : List Statement) (show : Statement) (job : Job) (next : State) → after_one objects s s.call.operator now ≡ Ok next → Left objects next ss show job → Left objects now (s ∷ ss) show job
unfolding after_all
left-later objects now s ss show job next does end = record { last = end.last; done = ap (λ r. going_on r (λ n. after_all objects n ss)) does ∙ end.done; ends = end.ends }

left-one : (objects : List Object) (now : State) (s : Statement) (ss : List Statement) (show : Statement) (rest : State → Result Job JobFault) (job : Job) → Goes s → ((next : State) → rest next ≡ Ok job → Left objects next ss show job)
    → Shows objects s s.call.operator now job ⊎ Passes objects s s.call.operator now rest job → Left objects now (s ∷ ss) show job
left-one objects now s ss show rest job goes more (inl at) = absurd (true≢false (sym (ap (is_by is_showpage) at.is) ∙ goes))
left-one objects now s ss show rest job goes more (inr past) = left-later objects now s ss show job past.next past.does (more past.next past.more)

left-at : (objects : List Object) (len : ℕ) (now : State) (earlier later : List Statement) (show : Statement) (job : Job) → NoneShows earlier → show.call.operator ≡ Some ShowPage → read_from objects len now (earlier ++ show ∷ later) ≡ Ok job → Left objects now earlier show job
unfolding read_from after_all
left-at objects len now [] later show job none shows is =
    record { last = now; done = refl; ends = sym (ap (λ o. statement_then objects show o now (λ next. read_from objects len next later)) shows) ∙ is }
left-at objects len now (s ∷ ss) later show job none shows is =
    let rest : State → Result Job JobFault = λ next. read_from objects len next (ss ++ show ∷ later) in
    left-one objects now s ss show rest job (All-head Goes s ss none) (λ next more. left-at objects len next ss later show job (All-tail Goes s ss none) shows more) (one objects s s.call.operator now rest job is)

pub job-in_force : (objects : List Object) (len : ℕ) (earlier later : List Statement) (show : Statement) (job : Job) → statements_of objects ≡ earlier ++ show ∷ later → show.call.operator ≡ Some ShowPage → NoneShows earlier
    → read_from objects len nothing_read (statements_of objects) ≡ Ok job → IsJobOf objects earlier job
job-in_force objects len earlier later show job cut shows none is =
    let end = left-at objects len nothing_read earlier later show job none shows (sym (ap (read_from objects len nothing_read) cut) ∙ is) in
    job_shown-is objects earlier show end.last job end.done end.ends

-- Where statements are refused.

-- a statement is refused, and none before it
record Errors (objects : List Object) (now : State) (ss : List Statement) (first : JobFault) : Type 0 where
  earlier : List Statement
  s : Statement
  later : List Statement
  last : State
  cut : ss ≡ earlier ++ s ∷ later
  none_shows : NoneShows earlier
  done : after_all objects now earlier ≡ Ok last
  has : fault_in objects s s.call.operator last ≡ Some first

-- or none is, and none ends the job
record RunsOff (objects : List Object) (len : ℕ) (now : State) (ss : List Statement) (first : JobFault) : Type 0 where
  last : State
  none_shows : NoneShows ss
  done : after_all objects now ss ≡ Ok last
  is : first ≡ record { kind = NoShowpage; at = len }

stops-one : (objects : List Object) (len : ℕ) (now : State) (s : Statement) (ss : List Statement) (first : JobFault) → ((next : State) → read_from objects len next ss ≡ Err first → Errors objects next ss first ⊎ RunsOff objects len next ss first)
    → (fault_in objects s s.call.operator now ≡ Some first) ⊎ PassedOn objects s s.call.operator now (λ next. read_from objects len next ss) first → Errors objects now (s ∷ ss) first ⊎ RunsOff objects len now (s ∷ ss) first
unfolding after_all
stops-one objects len now s ss first more (inl has) = inl (record { earlier = []; s = s; later = ss; last = now; cut = refl; none_shows = All-nil Goes; done = refl; has = has })
stops-one objects len now s ss first more (inr past) =
    ⊎_elim
    (λ (error : Errors objects past.next ss first).
    inl (record { earlier = s ∷ error.earlier; s = error.s; later = error.later; last = error.last; cut = ap (λ l. s ∷ l) error.cut; none_shows = All-cons Goes s error.earlier past.goes error.none_shows; done = ap (λ r. going_on r (λ n. after_all objects n error.earlier)) past.does ∙ error.done; has = error.has }))
    (λ (off : RunsOff objects len past.next ss first).
    inr (record { last = off.last; none_shows = All-cons Goes s ss past.goes off.none_shows; done = ap (λ r. going_on r (λ n. after_all objects n ss)) past.does ∙ off.done; is = off.is }))
    (more past.next past.later)

stops-at : (objects : List Object) (len : ℕ) (now : State) (ss : List Statement) (first : JobFault) → read_from objects len now ss ≡ Err first → Errors objects now ss first ⊎ RunsOff objects len now ss first
unfolding read_from after_all
stops-at objects len now [] first is = let same : record { kind = NoShowpage; at = len } ≡ first = cc in inr (record { last = now; none_shows = All-nil Goes; done = refl; is = sym same })
stops-at objects len now (s ∷ ss) first is =
    stops-one objects len now s ss first (λ next more. stops-at objects len next ss first more) (refused objects s s.call.operator now (λ next. read_from objects len next ss) first is)

-- What statements give, by what is in force.

same-jobs : (objects : List Object) (earlier : List Statement) (a b : Job) → IsJobOf objects earlier a → IsJobOf objects earlier b → a ≡ b
same-jobs objects earlier a b one two =
    let make : ℕ → List Zone → List Ink → Job = λ resolution zones details. record { resolution = resolution; zones = zones; details = details } in
    alike_three make a.resolution b.resolution a.zones b.zones a.details b.details (one.resolution ∙ sym two.resolution) (one.zones ∙ sym two.zones) (one.details ∙ sym two.details)

pub read-ends : (objects : List Object) (len : ℕ) (ss : List Statement) (job : Job) → read_from objects len nothing_read ss ≡ Ok job → EndJob objects ss job
read-ends objects len ss job is =
    let end = ends-at objects len nothing_read ss job is in
    let shown = ends-shown objects end.show end.last job end.ends in
    record {
      earlier = end.earlier;
      show = end.show;
      later = end.later;
      cut = end.cut;
      none_before = performed-faultless objects end.earlier end.last end.none_shows end.done;
      shows = end.shows;
      fine = fault-there objects end.earlier end.show end.last end.done ∙ ap (λ o. fault_in objects end.show o end.last) end.shows ∙ shown.0;
      is_job = job_shown-is objects end.earlier end.show end.last job end.done end.ends;
    }

-- statements up to one that is reached
reached : (objects : List Object) (len : ℕ) (ss earlier later : List Statement) (s : Statement) (last : State) → ss ≡ earlier ++ s ∷ later → NoneShows earlier → after_all objects nothing_read earlier ≡ Ok last
    → read_from objects len nothing_read ss ≡ statement_then objects s s.call.operator last (λ next. read_from objects len next later)
unfolding read_from
reached objects len ss earlier later s last cut none done = ap (read_from objects len nothing_read) cut ∙ read_from-after objects len earlier (s ∷ later) nothing_read last none done

pub ends-read : (objects : List Object) (len : ℕ) (ss : List Statement) (job : Job) → EndJob objects ss job → read_from objects len nothing_read ss ≡ Ok job
ends-read objects len ss job end =
    let done = faultless-performed objects end.earlier end.none_before in
    let last = done.1.0 in
    let fine = sym (fault-there objects end.earlier end.show last done.1.1) ∙ end.fine in
    reached objects len ss end.earlier end.later end.show last end.cut done.0 done.1.1
    ∙ shown-ends objects end.show end.show.call.operator last (λ next. read_from objects len next end.later) end.shows fine
    ∙ ap (λ j. Ok j) (same-jobs objects end.earlier (job_at last) job (at-is objects end.earlier last done.1.1) end.is_job)

pub read-faults : (objects : List Object) (len : ℕ) (ss : List Statement) (first : JobFault) → read_from objects len nothing_read ss ≡ Err first → IsFaultOf objects len ss first
read-faults objects len ss first is =
    ⊎_elim
    (λ (error : Errors objects nothing_read ss first).
    inl (record { earlier = error.earlier; s = error.s; later = error.later; cut = error.cut; none_before = performed-faultless objects error.earlier error.last error.none_shows error.done; has = fault-there objects error.earlier error.s error.last error.done ∙ error.has }))
    (λ (off : RunsOff objects len nothing_read ss first).
    inr (record { none_at_all = performed-faultless objects ss off.last off.none_shows off.done; is = off.is }))
    (stops-at objects len nothing_read ss first is)

pub faults-read : (objects : List Object) (len : ℕ) (ss : List Statement) (first : JobFault) → IsFaultOf objects len ss first → read_from objects len nothing_read ss ≡ Err first
unfolding read_from
faults-read objects len ss first (inl stands) =
    let done = faultless-performed objects stands.earlier stands.none_before in
    let last = done.1.0 in
    reached objects len ss stands.earlier stands.later stands.s last stands.cut done.0 done.1.1
    ∙ faulty-refused objects stands.s stands.s.call.operator last (λ next. read_from objects len next stands.later) first (sym (fault-there objects stands.earlier stands.s last done.1.1) ∙ stands.has)
faults-read objects len ss first (inr out) =
    let done = faultless-performed objects ss out.none_at_all in
    ap (read_from objects len nothing_read) (sym (append-nil ss)) ∙ read_from-after objects len ss [] nothing_read done.1.0 done.0 done.1.1 ∙ ap (λ f. Err f) (sym out.is)

-- Down to bytes.

few-bytes : (bytes : List ℕ) → nat_lt longest_job (length bytes) ≡ false → length bytes ≤ longest_job
few-bytes bytes is = grind (arith, nat_tests)

few-test : (bytes : List ℕ) → length bytes ≤ longest_job → nat_lt longest_job (length bytes) ≡ false
few-test bytes few = grind (arith, nat_tests)

many-bytes : (bytes : List ℕ) → nat_lt longest_job (length bytes) ≡ true → longest_job < length bytes
many-bytes bytes is = grind (arith, nat_tests)

many-test : (bytes : List ℕ) → longest_job < length bytes → nat_lt longest_job (length bytes) ≡ true
many-test bytes many = grind (arith, nat_tests)

spelled-objects : (bytes : List ℕ) (tokens : List Token) (r : Result (List Object) JobFault) (job : Job) → length bytes ≤ longest_job → tokens_of bytes ≡ Ok tokens → objects_of bytes tokens ≡ r → job_of_objects (length bytes) r ≡ Ok job → IsSpelledBy bytes job
spelled-objects bytes tokens (Ok objects) job few are_tokens are_objects is =
    record { tokens = tokens; objects = objects; few = few; are_tokens = are_tokens; are_objects = are_objects; ends = read-ends objects (length bytes) (statements_of objects) job is }
spelled-objects bytes tokens (Err first) job few are_tokens are_objects is = absurd (cc)

spelled-tokens : (bytes : List ℕ) (r : Result (List Token) JobFault) (job : Job) → length bytes ≤ longest_job → tokens_of bytes ≡ r → job_of_tokens bytes r ≡ Ok job → IsSpelledBy bytes job
spelled-tokens bytes (Ok tokens) job few are_tokens is = spelled-objects bytes tokens (objects_of bytes tokens) job few are_tokens refl is
spelled-tokens bytes (Err first) job few are_tokens is = absurd (cc)

spelled-if : (b : Bool) (bytes : List ℕ) (job : Job) → nat_lt longest_job (length bytes) ≡ b → cond b (fault JobTooLong longest_job) (job_of_tokens bytes (tokens_of bytes)) ≡ Ok job → IsSpelledBy bytes job
spelled-if true bytes job test is = absurd (cc)
spelled-if false bytes job test is = spelled-tokens bytes (tokens_of bytes) job (few-bytes bytes test) refl is

pub job-spelled : (bytes : List ℕ) (job : Job) → job_of bytes ≡ Ok job → IsSpelledBy bytes job
unfolding job_of
job-spelled bytes job is = spelled-if (nat_lt longest_job (length bytes)) bytes job refl is

-- what bytes give that are not too many, by their tokens and objects
of-few : (bytes : List ℕ) (tokens : Result (List Token) JobFault) → length bytes ≤ longest_job → tokens_of bytes ≡ tokens → job_of bytes ≡ job_of_tokens bytes tokens
unfolding job_of
of-few bytes tokens few are = ap (λ b. cond b (fault JobTooLong longest_job) (job_of_tokens bytes (tokens_of bytes))) (few-test bytes few) ∙ ap (job_of_tokens bytes) are

of-objects : (bytes : List ℕ) (tokens : List Token) (objects : Result (List Object) JobFault) → length bytes ≤ longest_job → tokens_of bytes ≡ Ok tokens → objects_of bytes tokens ≡ objects → job_of bytes ≡ job_of_objects (length bytes) objects
of-objects bytes tokens objects few are are_objects = of-few bytes (Ok tokens) few are ∙ ap (job_of_objects (length bytes)) are_objects

pub spelled-job : (bytes : List ℕ) (job : Job) → IsSpelledBy bytes job → job_of bytes ≡ Ok job
spelled-job bytes job is = of-objects bytes is.tokens (Ok is.objects) is.few is.are_tokens is.are_objects ∙ ends-read is.objects (length bytes) (statements_of is.objects) job is.ends

fault-objects : (bytes : List ℕ) (tokens : List Token) (r : Result (List Object) JobFault) (first : JobFault) → length bytes ≤ longest_job → tokens_of bytes ≡ Ok tokens → objects_of bytes tokens ≡ r → job_of_objects (length bytes) r ≡ Err first → IsFaultOfBytes bytes first
fault-objects bytes tokens (Ok objects) first few are_tokens are_objects is =
    inr (inr (inr (record { tokens = tokens; objects = objects; few = few; are_tokens = are_tokens; are_objects = are_objects; stands = read-faults objects (length bytes) (statements_of objects) first is })))
fault-objects bytes tokens (Err other) first few are_tokens are_objects is =
    let same : other ≡ first = cc in
    inr (inr (inl (record { tokens = tokens; few = few; are_tokens = are_tokens; faulty = are_objects ∙ ap (λ f. Err f) same })))

fault-tokens : (bytes : List ℕ) (r : Result (List Token) JobFault) (first : JobFault) → length bytes ≤ longest_job → tokens_of bytes ≡ r → job_of_tokens bytes r ≡ Err first → IsFaultOfBytes bytes first
fault-tokens bytes (Ok tokens) first few are_tokens is = fault-objects bytes tokens (objects_of bytes tokens) first few are_tokens refl is
fault-tokens bytes (Err other) first few are_tokens is = let same : other ≡ first = cc in inr (inl (record { few = few; faulty = are_tokens ∙ ap (λ f. Err f) same }))

fault-if : (b : Bool) (bytes : List ℕ) (first : JobFault) → nat_lt longest_job (length bytes) ≡ b → cond b (fault JobTooLong longest_job) (job_of_tokens bytes (tokens_of bytes)) ≡ Err first → IsFaultOfBytes bytes first
fault-if true bytes first test is = let same : record { kind = JobTooLong; at = longest_job } ≡ first = cc in inl (record { many = many-bytes bytes test; is = sym same })
fault-if false bytes first test is = fault-tokens bytes (tokens_of bytes) first (few-bytes bytes test) refl is

pub fault-stands : (bytes : List ℕ) (first : JobFault) → job_of bytes ≡ Err first → IsFaultOfBytes bytes first
unfolding job_of
fault-stands bytes first is = fault-if (nat_lt longest_job (length bytes)) bytes first refl is

pub stands-fault : (bytes : List ℕ) (first : JobFault) → IsFaultOfBytes bytes first → job_of bytes ≡ Err first
unfolding job_of
stands-fault bytes first (inl many) = ap (λ b. cond b (fault JobTooLong longest_job) (job_of_tokens bytes (tokens_of bytes))) (many-test bytes many.many) ∙ ap (λ f. Err f) (sym many.is)
stands-fault bytes first (inr (inl tokens)) = of-few bytes (Err first) tokens.few tokens.faulty
stands-fault bytes first (inr (inr (inl objects))) = of-objects bytes objects.tokens (Err first) objects.few objects.are_tokens objects.faulty
stands-fault bytes first (inr (inr (inr s))) = of-objects bytes s.tokens (Ok s.objects) s.few s.are_tokens s.are_objects ∙ faults-read s.objects (length bytes) (statements_of s.objects) first s.stands
