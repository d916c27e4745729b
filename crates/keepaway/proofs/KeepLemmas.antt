-- New tints, by what the lists of the work hold.
use Rattle.std.proofs.Common.{◌≡◌, ℕ, ◌+◌, ◌<◌, ◌≤◌, ◌==◌, ◌⊎◌, Bool, true, false, ◌&&◌, not, nat_le, zero-add, refl, sym, ap, ◌∙◌, inl, inr, arith, if◌then◌else◌}
use Rattle.std.proofs.lemmas.Bool.Decides.{nat_tests}
use Rattle.lists.specs.Words.{square}
use Rattle.page_model.specs.declared.parts.At.{At}
use Rattle.page_model.specs.declared.parts.PageParts.{PageParts}
use Rattle.page_model.specs.Page.{height, width, tint}
use Rattle.page_model.specs.Zones.{zone_of}
use Rattle.draw_back.specs.Drawn.{Scene, distance2, drawn}
use Rattle.draw_back.specs.Fields.{Lists, scene_of, entry, kept as kept_by_lists}
use Rattle.draw_back.specs.Laws.{DrawnLaw, IsWindow, HasHalo, Source, WindowLaw}
use Rattle.keepaway.specs.declared.parts.RichBlack.{RichBlack}
use Rattle.keepaway.specs.Keepaway.{covered, is_black_ink, is_drawn, is_open, kept, may_change, near_limit, scene}
use Rattle.keepaway.specs.Laws.{Locality, NearEdge}
use Rattle.keepaway.specs.Rows.{mark}

-- whether a mark is 0, and whether it is 2
free_mark : (cover clear : Bool) → ((if cover then (if clear then 2 else 1) else 0) == 0) ≡ not cover
free_mark true true = refl
free_mark true false = refl
free_mark false clear = refl

open_mark : (cover clear : Bool) → ((if cover then (if clear then 2 else 1) else 0) == 2) ≡ (cover && clear)
open_mark true true = refl
open_mark true false = refl
open_mark false clear = refl

pub mark_free : (page : PageParts) (limit : ℕ) (p : At) → (mark page limit p == 0) ≡ not (covered page limit p)
mark_free page limit p = free_mark (covered page limit p) (is_open page p)

pub mark_open : (page : PageParts) (limit : ℕ) (p : At) → (mark page limit p == 2) ≡ (covered page limit p && is_open page p)
mark_open page limit p = open_mark (covered page limit p) (is_open page p)

-- by whether the plate is drawn, whether the pixel is covered and open, and whether the ink is black there
kept_by : (drawn cover clear black : Bool) (new old : ℕ) → drawn ≡ true → (if black then old else (if cover && clear then new else old)) ≡ (if drawn && cover && clear && not black then new else old)
kept_by true true true true new old e = refl
kept_by true true true false new old e = refl
kept_by true true false true new old e = refl
kept_by true true false false new old e = refl
kept_by true false clear true new old e = refl
kept_by true false clear false new old e = refl
kept_by false cover clear black new old e = absurd (cc)

pub kept_is : (page : PageParts) (rich : RichBlack) (c : ℕ) (p : At) (new : ℕ) → is_drawn page rich.spared c ≡ true → new ≡ drawn (scene page rich c) p.x p.y → (if is_black_ink page (zone_of page p) c then tint page c p else (if covered page rich.limit p && is_open page p then new else tint page c p)) ≡ kept page rich c p
kept_is page rich c p new drawn_is is = rw is (kept_by (is_drawn page rich.spared c) (covered page rich.limit p) (is_open page p) (is_black_ink page (zone_of page p) c) (drawn (scene page rich c) p.x p.y) (tint page c p) drawn_is)

-- a plate for which the rule does not run keeps its tints
stays : (drawn rest : Bool) (new old : ℕ) → drawn ≡ false → old ≡ (if drawn && rest then new else old)
stays true rest new old e = absurd (cc)
stays false rest new old e = refl

and_three : (a b c d : Bool) → (a && b && c && d) ≡ (a && (b && c && d))
and_three true b c d = refl
and_three false b c d = refl

pub kept_not : (page : PageParts) (rich : RichBlack) (c : ℕ) (p : At) → is_drawn page rich.spared c ≡ false → tint page c p ≡ kept page rich c p
kept_not page rich c p none =
    let rest = covered page rich.limit p && is_open page p && not (is_black_ink page (zone_of page p) c) in
    stays (is_drawn page rich.spared c) rest (drawn (scene page rich c) p.x p.y) (tint page c p) none
    ∙ ap (λ (b : Bool). if b then drawn (scene page rich c) p.x p.y else tint page c p) (sym (and_three (is_drawn page rich.spared c) (covered page rich.limit p) (is_open page p) (not (is_black_ink page (zone_of page p) c))))

-- an ink that is black at a pixel keeps its tint there
black_by : (drawn cover clear black : Bool) (new old : ℕ) → black ≡ true → old ≡ (if drawn && cover && clear && not black then new else old)
black_by true true true true new old e = refl
black_by true true true false new old e = absurd (cc)
black_by true true false black new old e = refl
black_by true false clear black new old e = refl
black_by false cover clear black new old e = refl

pub kept_black : (page : PageParts) (rich : RichBlack) (c : ℕ) (p : At) → is_black_ink page (zone_of page p) c ≡ true → tint page c p ≡ kept page rich c p
kept_black page rich c p black = black_by (is_drawn page rich.spared c) (covered page rich.limit p) (is_open page p) (is_black_ink page (zone_of page p) c) (drawn (scene page rich c) p.x p.y) (tint page c p) black

-- the two parts of a test
parts : (a b : Bool) → (a && b) ≡ true → (a ≡ true) × (b ≡ true)
parts true true e = (refl, refl)
parts true false e = absurd (cc)
parts false b e = absurd (cc)

not_true : (b : Bool) → not b ≡ true → b ≡ false
not_true true e = absurd (cc)
not_true false e = refl

le_is : (a b : ℕ) → nat_le a b ≡ true → a ≤ b
le_is a b e = grind (arith, nat_tests)

-- a choice of a tint
less_by : (b : Bool) (new old : ℕ) → new ≤ old → (if b then new else old) ≤ old
less_by true new old l = l
less_by false new old l = omega arith

off_by : (drawn cover clear black : Bool) (new old : ℕ) → (cover && clear) ≡ false → (if drawn && cover && clear && black then new else old) ≡ old
off_by true true true black new old e = absurd (cc)
off_by true true false black new old e = refl
off_by true false clear black new old e = refl
off_by false cover clear black new old e = refl

and_left : (a b : Bool) → a ≡ false → (a && b) ≡ false
and_left true b e = absurd (cc)
and_left false b e = refl

and_right : (a b : Bool) → b ≡ false → (a && b) ≡ false
and_right true b e = e
and_right false b e = refl

pub local : (page : PageParts) (rich : RichBlack) (c : ℕ) (p : At) → DrawnLaw (scene page rich c) p.x p.y → Locality page rich c p
local page rich c p law =
    let may = may_change page rich c p in
    let new = drawn (scene page rich c) p.x p.y in
    let old = tint page c p in
    let off : (covered page rich.limit p && is_open page p) ≡ false → kept page rich c p ≡ old = λ e. off_by (is_drawn page rich.spared c) (covered page rich.limit p) (is_open page p) (not (is_black_ink page (zone_of page p) c)) new old e in
    record {
      less = less_by may new old law.less;
      stored = by_case may;
      covered = λ e. off (and_left (covered page rich.limit p) (is_open page p) e);
      shut = λ e. off (and_right (covered page rich.limit p) (is_open page p) e);
    }
  where
    edge_of : Source (scene page rich c) p.x p.y → NearEdge page rich p
    edge_of at =
        let two = parts ((scene page rich c).is_free at.column at.row) (nat_le (distance2 p.x p.y at.column at.row) (scene page rich c).limit) at.source in
        record { x = at.column; y = at.row; in_row = at.in_row; on_page = at.on_page; free = not_true (covered page rich.limit (record { x = at.column; y = at.row })) two.0; near = le_is (distance2 p.x p.y at.column at.row) (scene page rich c).limit two.1 }

    by_case : (b : Bool) → ((if b then drawn (scene page rich c) p.x p.y else tint page c p) ≡ tint page c p) ⊎ ((edge : NearEdge page rich p) × ((if b then drawn (scene page rich c) p.x p.y else tint page c p) ≡ tint page c (record { x = edge.x; y = edge.y })))
    by_case false = inl refl
    by_case true = elim law.stored [ inl e ↦ inl e | inr h ↦ inr (edge_of h.0, h.1) ]

-- a row of the lists, drawn back, is that of the page
pub row_kept : (page : PageParts) (rich : RichBlack) (c x y : ℕ) (lists : Lists) (limit radius : ℕ) → ((window sheet : Scene) (first radius : ℕ) → IsWindow window sheet first → window.limit < square (radius + 1) → WindowLaw window sheet first radius) → limit < square (radius + 1) → limit ≡ near_limit rich.width page.resolution → lists.wide ≡ width page → lists.tall ≡ height page → ((j k : ℕ) → j < width page → k < height page → entry lists.marks lists.wide j k ≡ mark page rich.limit (record { x = j; y = k })) → ((j k : ℕ) → j < width page → k < height page → entry lists.tints lists.wide j k ≡ tint page c (record { x = j; y = k })) → is_drawn page rich.spared c ≡ true → x < width page → y < height page → (if is_black_ink page (zone_of page (record { x = x; y = y })) c then tint page c (record { x = x; y = y }) else kept_by_lists lists limit x y) ≡ kept page rich c (record { x = x; y = y })
row_kept page rich c x y lists limit radius law beyond near wide tall marks tints is_on in_row on_page =
    let p : At = record { x = x; y = y } in
    let window = scene_of lists limit in
    let sheet = scene page rich c in
    let is : IsWindow window sheet 0 = record {
      inside = omega (arith, tall);
      wide = wide;
      limit = near;
      free = λ j k l m. ap (λ (n : ℕ). n == 0) (marks j k (omega (arith, l, wide)) (omega (arith, m, tall))) ∙ mark_free page rich.limit (record { x = j; y = k }) ∙ ap (λ (n : ℕ). sheet.is_free j n) (sym (zero-add k));
      tint = λ j k l m. tints j k (omega (arith, l, wide)) (omega (arith, m, tall)) ∙ ap (λ (n : ℕ). sheet.tint_at j n) (sym (zero-add k));
    } in
    let halo : HasHalo window sheet 0 radius y = record { row = omega (arith, on_page, tall); above = inl refl; below = inl (zero-add lists.tall ∙ tall) } in
    let same : drawn window x y ≡ drawn sheet x y = law window sheet 0 radius is beyond x y (omega (arith, in_row, wide)) halo ∙ ap (drawn sheet x) (zero-add y) in
    ap (λ (n : ℕ). if is_black_ink page (zone_of page p) c then tint page c p else (if n == 2 then drawn window x y else entry lists.tints lists.wide x y)) (marks x y in_row on_page)
    ∙ ap (λ (b : Bool). if is_black_ink page (zone_of page p) c then tint page c p else (if b then drawn window x y else entry lists.tints lists.wide x y)) (mark_open page rich.limit p)
    ∙ ap (λ (n : ℕ). if is_black_ink page (zone_of page p) c then tint page c p else (if covered page rich.limit p && is_open page p then drawn window x y else n)) (tints x y in_row on_page)
    ∙ kept_is page rich c p (drawn window x y) is_on same
