-- What a pass has after a worker is done and joined.
use Rattle.std.proofs.Common.{◌≡◌, ℕ, ◌+◌, ◌-◌, ◌<◌, Bool, true, false, List, [], ◌∷◌, ◌++◌, sym, refl, ap, subst, ◌∙◌, ◌≤◌, append_assoc, vec_capacity, All, arith}
use Rattle.std.proofs.lemmas.List.Elements.{All-push}
use Rattle.trap_pool.specs.declared.rule.PassView.{PassView}
use Rattle.trap_pool.specs.Rule.{pass_view, either_mark}
use Rattle.trap_pool.specs.declared.serving.Workspace.{Workspace}
use Rattle.trap_pool.specs.Serving.{IsServed, IsUnused, kept_lines, served_lines}
use Rattle.trap_pool.proofs.Keeps.{append_nil}

either_false : (b : Bool) → either_mark b false ≡ b
either_false true = refl
either_false false = refl

-- a worker's pass is cut off, the others are done and have taken `others`, and then the worker's pass is joined, with `mine`
pub drained : (v cut rest_of w all : PassView) (others mine both_lists : List ℕ) → 0 < v.parts
    → cut ≡ pass_view (v.parts - 1) v.mark v.pushed v.taken
    → rest_of ≡ pass_view cut.parts cut.mark cut.pushed (cut.taken ++ others)
    → w ≡ pass_view 1 false [] mine
    → all ≡ pass_view (rest_of.parts + w.parts) (either_mark rest_of.mark w.mark) (rest_of.pushed ++ w.pushed) (rest_of.taken ++ w.taken)
    → both_lists ≡ others ++ mine
    → all ≡ pass_view v.parts v.mark v.pushed (v.taken ++ both_lists)
drained v cut rest_of w all others mine both_lists part is_cut is_rest is_w is_all is_both =
    let is_rest' : rest_of ≡ pass_view (v.parts - 1) v.mark v.pushed (v.taken ++ others) = is_rest ∙ ap (λ (y : PassView). pass_view y.parts y.mark y.pushed (y.taken ++ others)) is_cut in
    let both : PassView → PassView → PassView = λ x y. pass_view (x.parts + y.parts) (either_mark x.mark y.mark) (x.pushed ++ y.pushed) (x.taken ++ y.taken) in
    let parts : (v.parts - 1) + 1 ≡ v.parts = omega arith in
    let taken : (v.taken ++ others) ++ mine ≡ v.taken ++ both_lists = append_assoc v.taken others mine ∙ ap (λ l. v.taken ++ l) (sym is_both) in
    is_all ∙ ((λ i. both (is_rest' i) (is_w i)) ∙ (λ i. pass_view (parts i) (either_false v.mark i) (append_nil v.pushed i) (taken i)))

-- the room of the last worker comes last
served_snoc : {K : Type 0} (workspaces : List (Workspace K)) (workspace : Workspace K) → served_lines (workspaces ++ workspace ∷ []) ≡ served_lines workspaces ++ kept_lines workspace.kept.items
served_snoc [] workspace = append_nil (kept_lines workspace.kept.items)
served_snoc (r ∷ rs) workspace = ap (λ l. kept_lines r.kept.items ++ l) (served_snoc rs workspace) ∙ sym (append_assoc (kept_lines r.kept.items) (served_lines rs) (kept_lines workspace.kept.items))

pub served_with : {K : Type 0} (all workspaces : List (Workspace K)) (workspace : Workspace K) → all ≡ workspaces ++ workspace ∷ [] → served_lines all ≡ served_lines workspaces ++ kept_lines workspace.kept.items
served_with all workspaces workspace e = ap served_lines e ∙ served_snoc workspaces workspace

-- one room more is served
pub served_more : {K : Type 0} (all workspaces : List (Workspace K)) (workspace : Workspace K) → all ≡ workspaces ++ workspace ∷ [] → All IsServed workspaces → IsServed workspace → All IsServed all
served_more all workspaces workspace e others this = subst (All IsServed) (sym e) (All-push IsServed workspaces workspace others this)

-- one room more is made
pub made_more : {K : Type 0} (places : ℕ) (all workspaces : List (Workspace K)) (workspace : Workspace K) → all ≡ workspaces ++ workspace ∷ [] → All (λ r. (places ≤ vec_capacity r.kept) × IsUnused r) workspaces → places ≤ vec_capacity workspace.kept → IsUnused workspace → All (λ r. (places ≤ vec_capacity r.kept) × IsUnused r) all
made_more places all workspaces workspace e others workspace_for unused = subst (All (λ r. (places ≤ vec_capacity r.kept) × IsUnused r)) (sym e) (All-push (λ r. (places ≤ vec_capacity r.kept) × IsUnused r) workspaces workspace others (workspace_for, unused))
