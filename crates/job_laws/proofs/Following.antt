-- The path and the zones that are carried forward are those in force.
use Rattle.std.proofs.Common.{◌≡◌, Bool, true, false, cond, List, [], ◌∷◌, ◌++◌, map, Option, Some, None, unwrap_or, Result, Ok, Err, refl, sym, ap, ◌∙◌, append_assoc, append-nil}
use Rattle.std.specs.Option.{option_or}
use Rattle.page_model.specs.declared.parts.Limit.{Limit}
use Rattle.page_model.specs.declared.parts.TrapParams.{TrapParams}
use Rattle.page_model.specs.declared.parts.Zone.{Zone}
use Rattle.ps_tokens.specs.declared.faults.JobFault.{JobFault}
use Rattle.ps_tokens.specs.declared.object.Object.{Object}
use Rattle.job_parts.specs.Paths.{Drawing, nothing_drawn}
use Rattle.job_reader.specs.declared.state.State.{State}
use Rattle.job_reader.specs.Calls.{Statement}
use Rattle.job_reader.specs.InForce.{after_one, going_on, after_all, is_by}
use Rattle.job_reader.specs.Starts.{nothing_read}
use Rattle.job_reader.specs.Statements.{zone_of}
use Rattle.job_reader.proofs.InForce.{params-in_force, limits-in_force}
use Rattle.job_laws.specs.Paths.{empties_path, after_last, drawn_by, drawn_on, path_in_force}
use Rattle.job_laws.specs.Zones.{is_settrapzone, before_each, zone_after, zones_in_force}
use Rattle.job_laws.proofs.Steps.{one-steps}

pub going : (r : Result State JobFault) (rest : State → Result State JobFault) (last : State) → going_on r rest ≡ Ok last → (next : State) × (r ≡ Ok next) × (rest next ≡ Ok last)
going (Ok next) rest last is = (next, refl, is)
going (Err first) rest last is = absurd (cc)

-- The path.

-- what statements leave of a path, where some stand after the last one that empties it, or none does
abbrev left_of : List Object → Drawing → List Statement → Option (List Statement) → Drawing
left_of objects path ss None = drawn_on objects path ss
left_of objects path ss (Some suffix) = drawn_on objects nothing_drawn suffix

path-joins : (objects : List Object) (s : Statement) (ss : List Statement) (now next last : Drawing) (b : Bool) (o : Option (List Statement))
    → next ≡ cond b nothing_drawn (drawn_by objects s s.call.operator now) → last ≡ left_of objects next ss o → last ≡ left_of objects now (s ∷ ss) (option_or o (cond b (Some ss) None))
path-joins objects s ss now next last true None step more = more ∙ ap (λ d. drawn_on objects d ss) step
path-joins objects s ss now next last false None step more = more ∙ ap (λ d. drawn_on objects d ss) step
path-joins objects s ss now next last true (Some suffix) step more = more
path-joins objects s ss now next last false (Some suffix) step more = more

path-after : (objects : List Object) (ss : List Statement) (now last : State) → after_all objects now ss ≡ Ok last → last.path ≡ left_of objects now.path ss (after_last empties_path ss)
unfolding after_all
path-after objects [] now last done = let same : now ≡ last = cc in ap (λ (n : State). n.path) (sym same)
path-after objects (s ∷ ss) now last done =
    let one = going (after_one objects s s.call.operator now) (λ next. after_all objects next ss) last done in
    path-joins objects s ss now.path one.0.path last.path (is_by empties_path s.call.operator) (after_last empties_path ss)
    (one-steps objects s s.call.operator now one.0 one.1).path (path-after objects ss one.0 last one.2)

from-nothing : (objects : List Object) (ss : List Statement) (o : Option (List Statement)) → left_of objects nothing_drawn ss o ≡ drawn_on objects nothing_drawn (unwrap_or o ss)
from-nothing objects ss None = refl
from-nothing objects ss (Some suffix) = refl

pub path-in_force : (objects : List Object) (earlier : List Statement) (now : State) → after_all objects nothing_read earlier ≡ Ok now → now.path ≡ path_in_force objects earlier
path-in_force objects earlier now done = path-after objects earlier nothing_read now done ∙ from-nothing objects earlier (after_last empties_path earlier)

-- The zones.

-- one statement more
pub after-push : (objects : List Object) (before : List Statement) (s : Statement) (start now next : State) → after_all objects start before ≡ Ok now → after_one objects s s.call.operator now ≡ Ok next → after_all objects start (before ++ s ∷ []) ≡ Ok next
unfolding after_all
after-push objects [] s start now next done does =
    let same : start ≡ now = cc in
    ap (λ n. going_on (after_one objects s s.call.operator n) (λ m. Ok m)) same ∙ ap (λ r. going_on r (λ m. Ok m)) does
after-push objects (b ∷ bs) s start now next done does =
    let one = going (after_one objects b b.call.operator start) (λ n. after_all objects n bs) now done in
    ap (λ r. going_on r (λ n. after_all objects n (bs ++ s ∷ []))) one.1 ∙ after-push objects bs s one.0 now next one.2 does

alike : {A B C X : Type 0} (make : A → B → C → X) (a a' : A) (b b' : B) (c c' : C) → a ≡ a' → b ≡ b' → c ≡ c' → make a b c ≡ make a' b' c'
alike make a a' b b' c c' one two three = cc

-- the zone that would be made here
zone-is : (objects : List Object) (before : List Statement) (now : State) → after_all objects nothing_read before ≡ Ok now → zone_of now ≡ zone_after objects before
zone-is objects before now done =
    let make : TrapParams → Drawing → List Limit → Zone = λ params path limits. record { params = params; path = path.vertices; limits = limits } in
    alike make now.params _ now.path _ now.limits _ (params-in_force objects before now done) (path-in_force objects before now done) (limits-in_force objects before now done)

zones-join : (now next last rest : List Zone) (made meant : Zone) (b : Bool) → made ≡ meant → next ≡ cond b (now ++ made ∷ []) now → last ≡ next ++ rest → last ≡ now ++ cond b (meant ∷ rest) rest
zones-join now next last rest made meant true same step more = more ∙ ap (λ z. z ++ rest) step ∙ append_assoc now (made ∷ []) rest ∙ ap (λ z. now ++ z ∷ rest) same
zones-join now next last rest made meant false same step more = more ∙ ap (λ z. z ++ rest) step

map-chosen : (zone : List Statement → Zone) (b : Bool) (before : List Statement) (rest : List (List Statement)) → map zone (cond b (before ∷ rest) rest) ≡ cond b (zone before ∷ map zone rest) (map zone rest)
map-chosen zone true before rest = refl
map-chosen zone false before rest = refl

zones-after : (objects : List Object) (ss before : List Statement) (now last : State) → after_all objects nothing_read before ≡ Ok now → after_all objects now ss ≡ Ok last
    → last.zones ≡ now.zones ++ map (zone_after objects) (before_each is_settrapzone before ss)
unfolding after_all
zones-after objects [] before now last came done = let same : now ≡ last = cc in ap (λ (n : State). n.zones) (sym same) ∙ sym (append-nil now.zones)
zones-after objects (s ∷ ss) before now last came done =
    let one = going (after_one objects s s.call.operator now) (λ next. after_all objects next ss) last done in
    let b = is_by is_settrapzone s.call.operator in
    let others = before_each is_settrapzone (before ++ s ∷ []) ss in
    zones-join now.zones one.0.zones last.zones (map (zone_after objects) others) (zone_of now) (zone_after objects before) b
    (zone-is objects before now came) (one-steps objects s s.call.operator now one.0 one.1).zones
    (zones-after objects ss (before ++ s ∷ []) one.0 last (after-push objects before s nothing_read now one.0 came one.1) one.2)
    ∙ ap (λ z. now.zones ++ z) (sym (map-chosen (zone_after objects) b before others))

pub zones-in_force : (objects : List Object) (earlier : List Statement) (now : State) → after_all objects nothing_read earlier ≡ Ok now → now.zones ≡ zones_in_force objects earlier
unfolding after_all
zones-in_force objects earlier now done = zones-after objects earlier [] nothing_read now refl done
