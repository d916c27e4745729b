-- A line that is told in two pieces.
use Rattle.std.proofs.Common.{◌≡◌, ◌∙◌, ℕ, ◌+◌, min, List, ◌++◌, length, take, MatchResult, Result, Ok, Err, sym, ap, subst, arith, append_assoc}
use Rattle.std.proofs.Math.Seq.{take-append-add}
use Rattle.std.proofs.lemmas.List.{take-append-le, take_min}
use Rattle.outside.specs.Rack.{RackState, Tells}
use Rattle.outside.proofs.Steps.{kept_then, once_before, reported_on}
use Rattle.trappool_cli.specs.Answers.{TellsPart, TellsWhole}

-- A prefix of the first piece is told.
pub reported_none : {T E : Type 0} (name text : List ℕ) (a b : RackState) (e : E) → Tells {T = T} {E = E} name a b (Err e) → TellsPart (name ++ text) a b
reported_none name text a b e one = record {
  files = record { keeps = one.keeps; asked = one.asked; finished = one.finished; is_open = one.is_open; files = one.files };
  once = one.once;
  reported = λ tells.
      let part = one.part tells in
      let count = min part.0 (length name) in
      let short : take part.0 name ≡ take count (name ++ text) = sym (take_min part.0 name) ∙ sym (take-append-le count name text (omega arith)) in
      (count, part.1 ∙ ap (λ (l : List ℕ). a.reported ++ l) short);
}

module _ {T E U V : Type 0} (name text : List ℕ) (a b c : RackState) where
  pub reported_whole : (x : T) (y : U) → Tells {T = T} {E = E} name a b (Ok x) → Tells {T = U} {E = V} text b c (Ok y) → TellsWhole (name ++ text) a c
  reported_whole x y one two = record {
    files = record { keeps = kept_then a b c one.keeps two.keeps; asked = two.asked ∙ one.asked; finished = two.finished ∙ one.finished; is_open = two.is_open ∙ one.is_open; files = λ tells. two.files (reported_on a b one.keeps tells) ∙ one.files tells };
    calm = two.well ∙ one.well;
    reported = λ tells. two.reported (reported_on a b one.keeps tells) ∙ ap (λ (l : List ℕ). l ++ text) (one.reported tells) ∙ append_assoc a.reported name text;
  }

  pub reported_first : (x : T) (e : V) → Tells {T = T} {E = E} name a b (Ok x) → Tells {T = U} {E = V} text b c (Err e) → TellsPart (name ++ text) a c
  reported_first x e one two = record {
    files = record { keeps = kept_then a b c one.keeps two.keeps; asked = two.asked ∙ one.asked; finished = two.finished ∙ one.finished; is_open = two.is_open ∙ one.is_open; files = λ tells. two.files (reported_on a b one.keeps tells) ∙ one.files tells };
    once = once_before a.faults b.faults c.faults one.well two.once;
    reported = λ tells.
        let part = two.part (reported_on a b one.keeps tells) in
        (length name + part.0, part.1 ∙ ap (λ (l : List ℕ). l ++ take part.0 text) (one.reported tells) ∙ append_assoc a.reported name (take part.0 text) ∙ ap (λ (l : List ℕ). a.reported ++ l) (sym (take-append-add name text part.0)));
  }

-- The name of a job is told, and then what is said of it.
pub reported_then : {T E U V : Type 0} (piece name text : List ℕ) (a b c : RackState) (x : T) (r : Result U V) → piece ≡ name → Tells {T = T} {E = E} piece a b (Ok x) → Tells {T = U} {E = V} text b c r → MatchResult r (λ _. TellsWhole (name ++ text) a c) (λ _. TellsPart (name ++ text) a c)
reported_then {T} {E} {U} {V} piece name text a b c x (Ok y) same one two =
    reported_whole {T = T} {E = E} {U = U} {V = V} name text a b c x y (subst (λ (l : List ℕ). Tells {T = T} {E = E} l a b (Ok x)) same one) two
reported_then {T} {E} {U} {V} piece name text a b c x (Err e) same one two =
    reported_first {T = T} {E = E} {U = U} {V = V} name text a b c x e (subst (λ (l : List ℕ). Tells {T = T} {E = E} l a b (Ok x)) same one) two

pub reported_part : {T E : Type 0} (piece name text : List ℕ) (a b : RackState) (e : E) → piece ≡ name → Tells {T = T} {E = E} piece a b (Err e) → TellsPart (name ++ text) a b
reported_part {T} {E} piece name text a b e same one =
    reported_none {T = T} {E = E} name text a b e (subst (λ (l : List ℕ). Tells {T = T} {E = E} l a b (Err e)) same one)
