-- One call of a rack or a tray after another.
use Rattle.std.proofs.Common.{◌≡◌, ℕ, ◌≤◌, ◌+◌, min, List, [], ◌++◌, ◌∷◌, take, length, Result, Ok, Err, IsTrue, arith, inl, inr, sym, ap, ◌∙◌, subst}
use Rattle.std.proofs.Math.Seq.{take-length, take-append-add}
use Rattle.std.proofs.lemmas.Bool.{cases_lt}
use Rattle.std.proofs.lemmas.List.{take-append-le, take_min, length-take-le}
use Rattle.outside.specs.Counts.{one_more}
use Rattle.outside.specs.ErrorCases.{Rose, RoseOnce, Asks}
use Rattle.outside.specs.Rack.{RackState, KeepsRack, Creates, Writes, Finishes, FinishesFile}
use borrow.Rule.Slice.PartMut.{put_mid, post_of}
use Rattle.std.proofs.Common.{append_assoc}
use Rattle.outside.specs.Tray.{TrayState, KeepsTray, Reads}
use Rattle.outside.specs.Reading.{Takes}
use Rattle.outside.specs.Writing.{Grows, WritesOn, FillsFile, WritesFile}
use Rattle.outside.proofs.Files.{grows_kept, grows_put, grows_then}

pub kept_then : (a b c : RackState) → KeepsRack a b → KeepsRack b c → KeepsRack a c
kept_then a b c one two = record { tells = two.tells ∙ one.tells; faults = omega arith }

pub kept_tray : (a b c : TrayState) → KeepsTray a b → KeepsTray b c → KeepsTray a c
kept_tray a b c one two = record { tells = two.tells ∙ one.tells; file = two.file ∙ one.file; faults = omega arith }

-- A rise later on is a rise from the beginning.
pub rose_before : (a b c : ℕ) → a ≤ b → Rose b c → Rose a c
rose_before a b c le (inl less) = inl (omega arith)
rose_before a b c le (inr last) = inr last

-- A rise by one is a rise.
pub rose_once : (a b : ℕ) → RoseOnce a b → Rose a b
rose_once a b once = elim (cases_lt a b) [ inl less ↦ inl less | inr last ↦ inr (omega arith) ]

-- A rise by one, where the count stayed before.
pub once_before : (a b c : ℕ) → b ≡ a → RoseOnce b c → RoseOnce a c
once_before a b c same once = once ∙ ap one_more same

-- A rise at first is a rise to the end.
pub rose_after : (a b c : ℕ) → a ≤ b → b ≤ c → Rose a b → Rose a c
rose_after a b c first then (inl less) = inl (omega arith)
rose_after a b c first then (inr last) = elim (cases_lt a c) [ inl less ↦ inl less | inr back ↦ inr (omega arith) ]

-- What is told once is told later on.
pub reported_on : (a b : RackState) → KeepsRack a b → IsTrue a.tells → IsTrue b.tells
reported_on a b keeps tells = keeps.tells ∙ tells

-- A file that is finished after calls that finish none.
pub finished_after : (name : List ℕ) (a b c : RackState) → KeepsRack a b → b.finished ≡ a.finished → FinishesFile name b c → FinishesFile name a c
finished_after name a b c keeps same finished tells = subst (λ o. Asks o c.finished (name ∷ [])) same (finished (reported_on a b keeps tells))

-- The file that was created last is the one that is finished.
finished_named : (name : List ℕ) (a b c : RackState) → (IsTrue a.tells → b.current ≡ name) → FinishesFile b.current a c → FinishesFile name a c
finished_named name a b c current finished tells = subst (λ n. Asks a.finished c.finished (n ∷ [])) (current tells) (finished tells)

pub written_then_finished : {T U E D : Type 0} (bytes : List ℕ) (a b c : RackState) (x : T) (r : Result U D) → WritesOn {T = T} {E = E} bytes a b (Ok x) → Finishes b c r → FillsFile bytes a c r
written_then_finished bytes a b c x (Ok y) wrote finished = record {
  keeps = kept_then a b c wrote.keeps finished.keeps;
  asked = finished.asked ∙ wrote.asked;
  reported = λ tells. finished.reported (reported_on a b wrote.keeps tells) ∙ wrote.reported tells;
  shut = finished.shut;
  finished = λ tells. finished_after a.current a b c wrote.keeps wrote.finished (λ reported. subst (λ n. Asks b.finished c.finished (n ∷ [])) (wrote.current tells) (finished.finished reported)) tells;
  unfinished = tt;
  kept = tt;
  files = λ tells. grows_kept bytes a b c (finished.files (reported_on a b wrote.keeps tells)) (wrote.files tells);
  part = tt;
  well = finished.fails.well ∙ wrote.well;
  reason = tt;
  once = tt;
}
written_then_finished bytes a b c x (Err e) wrote finished = record {
  keeps = kept_then a b c wrote.keeps finished.keeps;
  asked = finished.asked ∙ wrote.asked;
  reported = λ tells. finished.reported (reported_on a b wrote.keeps tells) ∙ wrote.reported tells;
  shut = tt;
  finished = tt;
  unfinished = finished.unfinished ∙ wrote.finished;
  kept = finished.kept.0 ∙ wrote.is_open;
  files = tt;
  part = λ tells. (length bytes, subst (λ (x : List ℕ). Grows x a c) (sym (take-length bytes)) (grows_kept bytes a b c (finished.files (reported_on a b wrote.keeps tells)) (wrote.files tells)));
  well = tt;
  reason = rose_before a.faults b.faults c.faults wrote.keeps.faults finished.fails.reason;
  once = once_before a.faults b.faults c.faults wrote.well finished.fails.once;
}

pub created_then_filled : {T U E D : Type 0} (name bytes : List ℕ) (a b c : RackState) (x : T) (r : Result U D) → Creates {T = T} {E = E} name a b (Ok x) → FillsFile bytes b c r → WritesFile name bytes a c r
created_then_filled name bytes a b c x (Ok y) created filled = record {
  keeps = kept_then a b c created.keeps filled.keeps;
  asked = subst (λ o. Asks a.asked o (name ∷ [])) (sym filled.asked) created.asked;
  reported = λ tells. filled.reported (reported_on a b created.keeps tells) ∙ created.reported tells;
  shut = filled.shut;
  finished = finished_named name a b c created.current (finished_after b.current a b c created.keeps created.finished filled.finished);
  unfinished = tt;
  files = λ tells. grows_put name bytes a b c (created.current tells) (created.files tells) (filled.files (reported_on a b created.keeps tells));
  part = tt;
  well = filled.well ∙ created.fails.well;
  reason = tt;
  once = tt;
}
created_then_filled name bytes a b c x (Err e) created filled = record {
  keeps = kept_then a b c created.keeps filled.keeps;
  asked = subst (λ o. Asks a.asked o (name ∷ [])) (sym filled.asked) created.asked;
  reported = λ tells. filled.reported (reported_on a b created.keeps tells) ∙ created.reported tells;
  shut = tt;
  finished = tt;
  unfinished = filled.unfinished ∙ created.finished;
  files = tt;
  part = λ tells. let p = filled.part (reported_on a b created.keeps tells) in inr (filled.kept ∙ created.opened, (p.0, grows_put name (take p.0 bytes) a b c (created.current tells) (created.files tells) p.1));
  well = tt;
  reason = rose_before a.faults b.faults c.faults created.keeps.faults filled.reason;
  once = once_before a.faults b.faults c.faults created.fails.well filled.once;
}

-- Where a write fails after some of the piece is written, nothing more is.
pub write_failed : {U E D : Type 0} (piece rest : List ℕ) (done : ℕ) (a b c : RackState) (e : E) (d : D) → KeepsRack a b → b.asked ≡ a.asked → b.finished ≡ a.finished → b.faults ≡ a.faults → (IsTrue a.tells → b.reported ≡ a.reported) → b.is_open ≡ a.is_open → (IsTrue a.tells → b.current ≡ a.current) → (IsTrue a.tells → Grows (take done piece) a b) → Writes rest b c (Err e) → WritesOn {T = U} piece a c (Err d)
write_failed piece rest done a b c e d keeps asked finished well reported is_open current files wrote = record {
  keeps = kept_then a b c keeps wrote.keeps;
  asked = wrote.asked ∙ asked;
  finished = wrote.finished ∙ finished;
  reported = λ tells. wrote.reported (reported_on a b keeps tells) ∙ reported tells;
  is_open = wrote.is_open ∙ is_open;
  current = λ tells. wrote.current (reported_on a b keeps tells) ∙ current tells;
  files = tt;
  part = λ tells. (done, grows_kept (take done piece) a b c (wrote.fails.files (reported_on a b keeps tells)) (files tells));
  well = tt;
  reason = rose_before a.faults b.faults c.faults keeps.faults wrote.fails.reason;
  once = once_before a.faults b.faults c.faults well wrote.fails.once;
}

-- Two pieces, one after the other.
pub writes_then : {T U E D : Type 0} (p q : List ℕ) (a b c : RackState) (x : T) (r : Result U D) → WritesOn {T = T} {E = E} p a b (Ok x) → WritesOn q b c r → WritesOn {T = U} {E = D} (p ++ q) a c r
writes_then p q a b c x (Ok y) one two = record {
  keeps = kept_then a b c one.keeps two.keeps;
  asked = two.asked ∙ one.asked;
  finished = two.finished ∙ one.finished;
  reported = λ tells. two.reported (reported_on a b one.keeps tells) ∙ one.reported tells;
  is_open = two.is_open ∙ one.is_open;
  current = λ tells. two.current (reported_on a b one.keeps tells) ∙ one.current tells;
  files = λ tells. grows_then p q a b c (one.current tells) (one.files tells) (two.files (reported_on a b one.keeps tells));
  part = tt;
  well = two.well ∙ one.well;
  reason = tt;
  once = tt;
}
writes_then p q a b c x (Err e) one two = record {
  keeps = kept_then a b c one.keeps two.keeps;
  asked = two.asked ∙ one.asked;
  finished = two.finished ∙ one.finished;
  reported = λ tells. two.reported (reported_on a b one.keeps tells) ∙ one.reported tells;
  is_open = two.is_open ∙ one.is_open;
  current = λ tells. two.current (reported_on a b one.keeps tells) ∙ one.current tells;
  files = tt;
  part = λ tells.
      let k = two.part (reported_on a b one.keeps tells) in
      (length p + k.0, subst (λ (x : List ℕ). Grows x a c) (sym (take-append-add p q k.0)) (grows_then p (take k.0 q) a b c (one.current tells) (one.files tells) k.1));
  well = tt;
  reason = rose_before a.faults b.faults c.faults one.keeps.faults two.reason;
  once = once_before a.faults b.faults c.faults one.well two.once;
}

-- Where a piece fails, nothing of what comes after it is written.
pub writes_stopped : {T U E D : Type 0} (p q : List ℕ) (a b : RackState) (e : E) (d : D) → WritesOn {T = T} p a b (Err e) → WritesOn {T = U} (p ++ q) a b (Err d)
writes_stopped p q a b e d one = record {
  keeps = one.keeps;
  asked = one.asked;
  finished = one.finished;
  reported = one.reported;
  is_open = one.is_open;
  current = one.current;
  files = tt;
  part = λ tells.
      let k = one.part tells in
      (min k.0 (length p), subst (λ (x : List ℕ). Grows x a b) (sym (take-append-le (min k.0 (length p)) p q (omega arith) ∙ take_min k.0 p)) k.1);
  well = tt;
  reason = one.reason;
  once = one.once;
}

pub writes_as : {T E : Type 0} (p q : List ℕ) → p ≡ q → (a b : RackState) (r : Result T E) → WritesOn p a b r → WritesOn q a b r
writes_as {T} {E} p q same a b r wrote = subst (λ (x : List ℕ). WritesOn {T = T} {E = E} x a b r) same wrote

-- One read after another.
pub takes_then : (p q : List ℕ) (a b c : TrayState) → Takes p a b → Takes q b c → Takes (p ++ q) a c
takes_then p q a b c one two = record {
  keeps = kept_tray a b c one.keeps two.keeps;
  asked = two.asked ∙ one.asked;
  begun = two.begun;
  taken = λ tells. one.taken tells ∙ ap (λ (x : List ℕ). p ++ x) (two.taken (one.keeps.tells ∙ tells)) ∙ sym (append_assoc p q c.left);
}

pub takes_as : (p q : List ℕ) (a b : TrayState) → p ≡ q → Takes p a b → Takes q a b
takes_as p q a b same takes = subst (λ (x : List ℕ). Takes x a b) same takes

pub takes_read : {E : Type 0} (a b : TrayState) (n : ℕ) (buf : List ℕ) → Reads {E = E} a b (Ok n) buf → Takes (take n buf) a b
takes_read a b n buf read = record { keeps = read.keeps; asked = read.asked; begun = read.begun; taken = read.taken }

-- what the buffer holds after a read of a part of it
pub filled_more : (buf part : List ℕ) (done k n : ℕ) → done ≤ length buf → n ≤ length part → take done buf ++ take n part ≡ take (done + n) (put_mid done k buf part)
filled_more buf part done k n le within =
    let prefix : length (take done buf) ≡ done = length-take-le done buf le in
    let e : take (length (take done buf) + n) (put_mid done k buf part) ≡ take done buf ++ take n (part ++ post_of done k buf) = take-append-add (take done buf) (part ++ post_of done k buf) n in
    ap (λ (x : List ℕ). take done buf ++ x) (sym (take-append-le n part (post_of done k buf) within)) ∙ sym e ∙ ap (λ (m : ℕ). take (m + n) (put_mid done k buf part)) prefix
