-- How a plate under way goes on by a row.
use Rattle.std.proofs.Common.{◌≡◌, ℕ, ◌+◌, ◌<◌, ◌≤◌, Bool, true, false, ◌&&◌, nat_eq, nat_lt, min, List, length, slice_index, refl, sym, ap, ◌∙◌, inl, inr, arith, if◌then◌else◌}
use Rattle.std.proofs.lemmas.Bool.{cases_eq}
use Rattle.std.proofs.lemmas.Bool.Decides.{nat_tests}
use Rattle.std.specs.declared.alloc.Global.{Global}
use Rattle.std.specs.declared.vec.Vec.{Vec}
use Rattle.page_model.specs.declared.parts.Plane.{Plane}
use Rattle.page_model.specs.Shapes.{wide, tall}
use Rattle.misregister.specs.declared.workspace.Workspace.{Workspace}
use Rattle.misregister.specs.Risk.{is_outline, is_near, bares_in_row, can_outline}
use Rattle.misregister.specs.Sweep.{at, bit, is_clear, shade, IsRowPut, IsUnderWay}
use Rattle.misregister.proofs.RowLemmas.{bared_until-next, any_below-same, clear_is}
use Rattle.lists.specs.Words.{any_below}
use Rattle.misregister.proofs.WindowLemmas.{window-is}

abbrev part : ℕ → ℕ → ℕ → ℕ → ℕ → ℕ → ℕ
part entered left y closed asked older = if nat_lt y left then closed else (if nat_lt y entered then asked else older)

enter_here : (left y a b o : ℕ) → left ≤ y → part (y + 1) left y a b o ≡ b
enter_here left y a b o h = grind (arith, nat_tests)

not_entered : (left y a b o : ℕ) → left ≤ y → part y left y a b o ≡ o
not_entered left y a b o h = grind (arith, nat_tests)

enter_other : (left y k a b o : ℕ) → (k ≡ y → ⊥) → part (y + 1) left k a b o ≡ part y left k a b o
enter_other left y k a b o ne = grind (arith, nat_tests)

leave_here : (entered y a b o : ℕ) → part entered (y + 1) y a b o ≡ a
leave_here entered y a b o = grind (arith, nat_tests)

not_left : (entered y a b o : ℕ) → y < entered → part entered y y a b o ≡ b
not_left entered y a b o h = grind (arith, nat_tests)

leave_other : (entered y k a b o : ℕ) → (k ≡ y → ⊥) → part entered (y + 1) k a b o ≡ part entered y k a b o
leave_other entered y k a b o ne = grind (arith, nat_tests)

all_left : (y n a b o : ℕ) → y < n → part n n y a b o ≡ a
all_left y n a b o l = grind (arith, nat_tests)

nothing_yet : (y a b o : ℕ) → part 0 0 y a b o ≡ o
nothing_yet y a b o = grind (arith, nat_tests)

pub way_at : (planes : List Plane) (r c : ℕ) (older : List ℕ) (workspace : Workspace) (n m i j : ℕ) → n ≡ i → m ≡ j → IsUnderWay planes r c older workspace n m → IsUnderWay planes r c older workspace i j
way_at planes r c older workspace n m i j e f way = rw (← e, ← f) way

pub way_begun : (planes : List Plane) (r c : ℕ) (workspace : Workspace) (older : List ℕ) → older ≡ workspace.shades.items → ((x : ℕ) → x < wide planes → slice_index workspace.until.items x ≡ 0) → IsUnderWay planes r c older workspace 0 0
way_begun planes r c workspace older same none = record { until = none; shades = λ x y l m. sym (ap (λ (os : List ℕ). at os (wide planes) y x) same) ∙ sym (nothing_yet y _ _ _) }

enter_row_way : (planes : List Plane) (r c y left : ℕ) (older : List ℕ) (workspace next : Workspace) → left ≤ y
    → ((x : ℕ) → x < wide planes → slice_index next.until.items x ≡ (if bares_in_row planes r c x y then y + r + 1 else slice_index workspace.until.items x))
    → ((x : ℕ) → x < wide planes → at next.shades.items (wide planes) y x ≡ min (at workspace.shades.items (wide planes) y x) (1 + bit (is_outline planes c x y)))
    → ((x k : ℕ) → x < wide planes → (k ≡ y → ⊥) → at next.shades.items (wide planes) k x ≡ at workspace.shades.items (wide planes) k x)
    → IsUnderWay planes r c older workspace y left → IsUnderWay planes r c older next (y + 1) left
enter_row_way planes r c y left older workspace next before bared darker kept way = record {
  until = λ x l. bared x l ∙ ap (λ (u : ℕ). if bares_in_row planes r c x y then y + r + 1 else u) (way.until x l) ∙ sym (bared_until-next (bares_in_row planes r c x) r y);
  shades = λ x k l m. elim (cases_eq k y) [
    | inl e ↦ rw e (darker x l ∙ ap (λ (o : ℕ). min o (1 + bit (is_outline planes c x y))) (way.shades x y l (rw e at m) ∙ not_entered left y _ _ _ before) ∙ sym (enter_here left y _ _ _ before))
    | inr ne ↦ kept x k l ne ∙ way.shades x k l m ∙ sym (enter_other left y k _ _ _ ne)
  ];
}

bares_by : (planes : List Plane) (r c x y : ℕ) (row : List ℕ) → length row ≡ wide planes → ((j : ℕ) → j < wide planes → slice_index row j ≡ 1 + bit (is_outline planes c j y))
    → any_below (λ j. is_near r x j && is_clear row j) (length row) ≡ bares_in_row planes r c x y
bares_by planes r c x y row long asked =
    ap (any_below (λ j. is_near r x j && is_clear row j)) long
    ∙ any_below-same (λ j. is_near r x j && is_clear row j) (λ j. is_near r x j && is_outline planes c j y) (wide planes) (λ j l. ap (λ (b : Bool). is_near r x j && b) (ap (λ (v : ℕ). nat_eq v 2) (asked j l) ∙ clear_is (is_outline planes c j y)))

-- by what asking, darkening and baring a row say
pub enter_way : (planes : List Plane) (r c y left : ℕ) (older : List ℕ) (workspace next : Workspace) (row until shades until2 shades2 : List ℕ) → left ≤ y
    → length row ≡ wide planes → until ≡ workspace.until.items → shades ≡ workspace.shades.items → next.until.items ≡ until2 → next.shades.items ≡ shades2
    → ((x : ℕ) → x < wide planes → slice_index row x ≡ 1 + bit (is_outline planes c x y))
    → ((x : ℕ) → x < length row → slice_index until2 x ≡ (if any_below (λ j. is_near r x j && is_clear row j) (length row) then y + r + 1 else slice_index until x))
    → IsRowPut shades shades2 (length row) y (λ x. min (at shades (length row) y x) (slice_index row x))
    → IsUnderWay planes r c older workspace y left → IsUnderWay planes r c older next (y + 1) left
enter_way planes r c y left older workspace next row until shades until2 shades2 before long same_until same_shades next_until next_shades asked bared darker = enter_row_way planes r c y left older workspace next before
    (λ x l. ap (λ (us : List ℕ). slice_index us x) next_until ∙ bared x (omega arith) ∙ ap (λ (b : Bool). if b then y + r + 1 else slice_index until x) (bares_by planes r c x y row long asked) ∙ ap (λ (us : List ℕ). if bares_in_row planes r c x y then y + r + 1 else slice_index us x) same_until)
    (λ x l. ap (λ (ss : List ℕ). at ss (wide planes) y x) next_shades ∙ ap (λ (n : ℕ). at shades2 n y x) (sym long) ∙ darker.put x (omega arith) ∙ ap (λ (n : ℕ). min (at shades n y x) (slice_index row x)) long ∙ ap (λ (v : ℕ). min (at shades (wide planes) y x) v) (asked x l) ∙ ap (λ (ss : List ℕ). min (at ss (wide planes) y x) (1 + bit (is_outline planes c x y))) same_shades)
    (λ x k l ne. ap (λ (ss : List ℕ). at ss (wide planes) k x) next_shades ∙ ap (λ (n : ℕ). at shades2 n k x) (sym long) ∙ darker.kept x k (omega arith) ne ∙ ap (λ (n : ℕ). at shades n k x) long ∙ ap (λ (ss : List ℕ). at ss (wide planes) k x) same_shades)

close_by : (o b : ℕ) (can near : Bool) → near ≡ can → (if near then min o b else 0) ≡ min o (if can then b else 0)
close_by o b true near e = rw e refl
close_by o b false near e = rw e (omega arith)

leave_row_way : (planes : List Plane) (r c y entered : ℕ) (older : List ℕ) (workspace next : Workspace) → y < tall planes → entered ≡ min (y + r + 1) (tall planes)
    → next.until ≡ workspace.until
    → ((x : ℕ) → x < wide planes → at next.shades.items (wide planes) y x ≡ (if nat_lt y (slice_index workspace.until.items x) then at workspace.shades.items (wide planes) y x else 0))
    → ((x k : ℕ) → x < wide planes → (k ≡ y → ⊥) → at next.shades.items (wide planes) k x ≡ at workspace.shades.items (wide planes) k x)
    → IsUnderWay planes r c older workspace entered y → IsUnderWay planes r c older next entered (y + 1)
leave_row_way planes r c y entered older workspace next inside all same closed kept way = record {
  until = λ x l. ap (λ (u : Vec ℕ Global). slice_index u.items x) same ∙ way.until x l;
  shades = λ x k l m. elim (cases_eq k y) [
    | inl e ↦ rw e (closed x l ∙ here x l ∙ sym (leave_here entered y _ _ _))
    | inr ne ↦ kept x k l ne ∙ way.shades x k l m ∙ sym (leave_other entered y k _ _ _ ne)
  ];
} where
  here : (x : ℕ) → x < wide planes → (if nat_lt y (slice_index workspace.until.items x) then at workspace.shades.items (wide planes) y x else 0) ≡ min (at older (wide planes) y x) (shade planes r c x y)
  here x l =
      let o = at older (wide planes) y x in
      let near : nat_lt y (slice_index workspace.until.items x) ≡ can_outline planes r c x y = ap (nat_lt y) (way.until x l) ∙ window-is (bares_in_row planes r c x) r (tall planes) y entered all in
      let stored : at workspace.shades.items (wide planes) y x ≡ min o (1 + bit (is_outline planes c x y)) = way.shades x y l inside ∙ not_left entered y _ _ _ (omega arith) in
      ap (λ (v : ℕ). if nat_lt y (slice_index workspace.until.items x) then v else 0) stored ∙ close_by o (1 + bit (is_outline planes c x y)) _ _ near

pub leave_way : (planes : List Plane) (r c y entered : ℕ) (older : List ℕ) (workspace next : Workspace) (until shades shades2 : List ℕ) → y < tall planes → entered ≡ min (y + r + 1) (tall planes)
    → next.until ≡ workspace.until → length until ≡ wide planes → until ≡ workspace.until.items → shades ≡ workspace.shades.items → next.shades.items ≡ shades2
    → IsRowPut shades shades2 (length until) y (λ x. if nat_lt y (slice_index until x) then at shades (length until) y x else 0)
    → IsUnderWay planes r c older workspace entered y → IsUnderWay planes r c older next entered (y + 1)
leave_way planes r c y entered older workspace next until shades shades2 inside all same long same_until same_shades next_shades closed = leave_row_way planes r c y entered older workspace next inside all same
    (λ x l. ap (λ (ss : List ℕ). at ss (wide planes) y x) next_shades ∙ ap (λ (n : ℕ). at shades2 n y x) (sym long) ∙ closed.put x (omega arith) ∙ ap (λ (n : ℕ). if nat_lt y (slice_index until x) then at shades n y x else 0) long ∙ ap (λ (us : List ℕ). if nat_lt y (slice_index us x) then at shades (wide planes) y x else 0) same_until ∙ ap (λ (ss : List ℕ). if nat_lt y (slice_index workspace.until.items x) then at ss (wide planes) y x else 0) same_shades)
    (λ x k l ne. ap (λ (ss : List ℕ). at ss (wide planes) k x) next_shades ∙ ap (λ (n : ℕ). at shades2 n k x) (sym long) ∙ closed.kept x k (omega arith) ne ∙ ap (λ (n : ℕ). at shades n k x) long ∙ ap (λ (ss : List ℕ). at ss (wide planes) k x) same_shades)

pub way_done : (planes : List Plane) (r c : ℕ) (older : List ℕ) (workspace : Workspace) → IsUnderWay planes r c older workspace (tall planes) (tall planes) → (x y : ℕ) → x < wide planes → y < tall planes → at workspace.shades.items (wide planes) y x ≡ min (at older (wide planes) y x) (shade planes r c x y)
way_done planes r c older workspace way x y l m = way.shades x y l m ∙ all_left y (tall planes) _ _ _ m
