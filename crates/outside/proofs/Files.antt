-- Files by name, after one or two changes.
use Rattle.std.proofs.Common.{◌≡◌, ℕ, ◌+◌, List, [], ◌++◌, Option, Some, take, drop, length, ◌-◌, ◌≤◌, refl, ap, subst, append_assoc, sym, ◌∙◌}
use Rattle.std.proofs.Math.Seq.{take-add}
use Rattle.std.specs.Str.{bytes_eq}
use Rattle.std.proofs.lemmas.List.{take_rest, take_all, append-nil}
use Rattle.std.proofs.lemmas.Slice.Eq.{bytes_eq-Decides}
use Rattle.std.proofs.lemmas.Map.{update_same, update-update}
use Rattle.outside.specs.Rack.{RackState, put, append_to, bytes_of}
use Rattle.outside.specs.Writing.{Grows}

pub same_files : {f h : List ℕ → Option (List ℕ)} → ((q : List ℕ) → f q ≡ h q) → f ≡ h
same_files same = λ i q. same q i

pub put_here : (name bytes : List ℕ) (files : List ℕ → Option (List ℕ)) → put name bytes files name ≡ Some bytes
put_here name bytes files = update_same bytes_eq files name (Some bytes) name ((bytes_eq-Decides name name).1 refl)

pub put_again : (name x y : List ℕ) (files : List ℕ → Option (List ℕ)) → put name y (put name x files) ≡ put name y files
put_again name x y files = same_files (update-update bytes_eq files name (Some x) (Some y))

pub append_put : (name x piece : List ℕ) (files : List ℕ → Option (List ℕ)) → append_to name piece (put name x files) ≡ put name (x ++ piece) files
append_put name x piece files =
    ap (λ (o : Option (List ℕ)). put name (bytes_of o ++ piece) (put name x files)) (put_here name x files) ∙ put_again name x (x ++ piece) files

-- After no bytes everything is as it was.
pub grows_none : (piece : List ℕ) (state : RackState) → Grows (take 0 piece) state state
grows_none piece state bytes files same = same ∙ ap (λ (b : List ℕ). put state.current b files) (sym (append-nil bytes))

-- Two pieces, one after the other.
pub grows_then : (p q : List ℕ) (before mid after : RackState) → mid.current ≡ before.current → Grows p before mid → Grows q mid after → Grows (p ++ q) before after
grows_then p q before mid after same first second bytes files start =
    let here : mid.file ≡ put before.current (bytes ++ p) files = first bytes files start in
    let there : mid.file ≡ put mid.current (bytes ++ p) files = here ∙ ap (λ (n : List ℕ). put n (bytes ++ p) files) (sym same) in
    second (bytes ++ p) files there
    ∙ ap (λ (n : List ℕ). put n (bytes ++ p ++ q) files) same
    ∙ ap (λ (b : List ℕ). put before.current b files) (append_assoc bytes p q)

-- One write, seen as such.
pub grows_by : (piece : List ℕ) (before after : RackState) → after.file ≡ append_to before.current piece before.file → Grows piece before after
grows_by piece before after step bytes files start =
    step
    ∙ ap (λ (m : List ℕ → Option (List ℕ)). append_to before.current piece m) start
    ∙ append_put before.current bytes piece files

pub grows_more : (piece : List ℕ) (done n : ℕ) (before mid after : RackState) → mid.current ≡ before.current → Grows (take done piece) before mid → after.file ≡ append_to mid.current (take n (take (length piece - done) (drop done piece))) mid.file → Grows (take (done + n) piece) before after
grows_more piece done n before mid after same so_far step =
    let next : take n (take (length piece - done) (drop done piece)) ≡ take n (drop done piece) = ap (take n) (take_rest piece done) in
    let whole : take done piece ++ take n (take (length piece - done) (drop done piece)) ≡ take (done + n) piece = ap (λ (x : List ℕ). take done piece ++ x) next ∙ sym (take-add done n piece) in
    subst (λ (x : List ℕ). Grows x before after) whole (grows_then (take done piece) (take n (take (length piece - done) (drop done piece))) before mid after same so_far (grows_by (take n (take (length piece - done) (drop done piece))) mid after step))

pub grows_all : (piece : List ℕ) (done : ℕ) (before after : RackState) → length piece ≤ done → Grows (take done piece) before after → Grows piece before after
grows_all piece done before after all grows = subst (λ (x : List ℕ). Grows x before after) (take_all done piece all) grows

-- What comes after changes no file.
pub grows_kept : (piece : List ℕ) (before mid after : RackState) → after.file ≡ mid.file → Grows piece before mid → Grows piece before after
grows_kept piece before mid after same grows bytes files start = same ∙ grows bytes files start

-- A file that was created and then filled.
pub grows_put : (name piece : List ℕ) (before mid after : RackState) → mid.current ≡ name → mid.file ≡ put name [] before.file → Grows piece mid after → after.file ≡ put name piece before.file
grows_put name piece before mid after same created grows =
    let there : mid.file ≡ put mid.current [] before.file = created ∙ ap (λ (n : List ℕ). put n [] before.file) (sym same) in
    grows [] before.file there ∙ ap (λ (n : List ℕ). put n piece before.file) same
