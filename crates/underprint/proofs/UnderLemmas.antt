-- New tints of underprints, by what the lists of the work hold.
use Rattle.std.proofs.Common.{◌≡◌, ℕ, ◌+◌, ◌*◌, ◌/◌, ◌<◌, ◌≤◌, ◌==◌, ◌⊎◌, Bool, true, false, ◌&&◌, not, nat_lt, nat_le, zero-add, refl, sym, subst, ap, ◌∙◌, inl, inr, arith, if◌then◌else◌, List, [], ◌∷◌, Option, Some, None}
use Rattle.std.proofs.Math.Nat.{mul-le-mul, mul-mul-mul_comm}
use Rattle.std.proofs.lemmas.Nat.{le-div}
use Rattle.std.proofs.lemmas.Bool.Decides.{nat_tests}
use Rattle.std.proofs.lemmas.List.Elements.{All-head, All-tail}
use Rattle.std.specs.List.{All}
use Rattle.std.specs.Str.{bytes_eq}
use Rattle.lists.specs.Words.{square}
use Rattle.page_model.specs.declared.parts.At.{At}
use Rattle.page_model.specs.declared.parts.PageParts.{PageParts}
use Rattle.page_model.specs.Page.{height, tint, width}
use Rattle.draw_back.specs.Drawn.{Scene, IsDrawn, distance2, drawn}
use Rattle.draw_back.specs.Fields.{Lists, scene_of, entry, kept as kept_by_lists}
use Rattle.draw_back.specs.Laws.{DrawnLaw, IsWindow, HasHalo, Source, WindowLaw}
use Rattle.keepaway.specs.Keepaway.{near_limit, pixel}
use Rattle.underprint.specs.declared.parts.White.{White}
use Rattle.underprint.specs.Laws.{Locality, NearEdge}
use Rattle.underprint.specs.Lists.{IsField, Reaches, mark}
use Rattle.underprint.specs.Underprint.{covered, drawn_to, kept, kept_by, limit_at, scene, thickness, width_in, width_of}

-- whether a mark is 0, and whether it is 2
free_mark : (cover : Bool) → ((if cover then 2 else 0) == 0) ≡ not cover
free_mark true = refl
free_mark false = refl

full_mark : (cover : Bool) → ((if cover then 2 else 0) == 2) ≡ cover
full_mark true = refl
full_mark false = refl

pub mark_free : (page : PageParts) (whites : List White) (p : At) → (mark page whites p == 0) ≡ not (covered page whites p)
mark_free page whites p = free_mark (covered page whites p)

pub mark_full : (page : PageParts) (whites : List White) (p : At) → (mark page whites p == 2) ≡ covered page whites p
mark_full page whites p = full_mark (covered page whites p)

-- the first underprint of a name, or one of the others
first_or_rest : (b : Bool) (here wide : ℕ) (rest : Option ℕ) → (if b then Some here else rest) ≡ Some wide → (here ≡ wide) ⊎ (rest ≡ Some wide)
first_or_rest true here wide rest e = inl (cc)
first_or_rest false here wide rest e = inr e

-- every underprint's width reaches as far as it may
pub reaches_in : (page : PageParts) (whites : List White) (name : List ℕ) (wide : ℕ) → All (λ (white : White). Reaches page white.width) whites → width_in whites name ≡ Some wide → Reaches page wide
reaches_in page [] name wide all e = absurd (cc)
reaches_in page (w ∷ ws) name wide all e = elim (first_or_rest (bytes_eq name w.name) w.width wide (width_in ws name) e) [
  | inl here ↦ subst (λ (n : ℕ). Reaches page n) here (All-head (λ (white : White). Reaches page white.width) w ws all)
  | inr rest ↦ reaches_in page ws name wide (All-tail (λ (white : White). Reaches page white.width) w ws all) rest
]

lt_is : (a b : ℕ) → nat_lt a b ≡ true → a < b
lt_is a b e = grind (arith, nat_tests)

le_is : (a b : ℕ) → nat_le a b ≡ true → a ≤ b
le_is a b e = grind (arith, nat_tests)

is_le : (a b : ℕ) → a ≤ b → nat_le a b ≡ true
is_le a b l = grind (arith, nat_tests)

-- a third of a thickness below three widths is at most the width
third_less : (reach thick : ℕ) → thick * 720000 < 3 * reach → (thick / 3) * 720000 ≤ reach + 360000
third_less reach thick l = omega arith

squared : (a b : ℕ) → (a * b) * (a * b) ≡ (a * a) * (b * b)
squared a b = mul-mul-mul_comm a b a b

-- what is at most so many pixels has a square that is near
square_near : (third reach : ℕ) → third * 720000 ≤ reach → third * third ≤ (reach * reach) / (720000 * 720000)
square_near third reach l = le-div (third * third) (reach * reach) (720000 * 720000) (omega arith)
    (subst (λ (n : ℕ). n ≤ reach * reach) (squared third 720000) (mul-le-mul l l))

-- so its square is near
pub third_near : (wide resolution thick : ℕ) → thick * pixel < 3 * (wide * resolution) → square (thick / 3) ≤ near_limit wide resolution
third_near wide resolution thick l = square_near (thick / 3) (wide * resolution + 360000) (third_less (wide * resolution) thick l)

-- what is near is so for a greater limit
source_more : (free : Bool) (d one two : ℕ) → one ≤ two → (free && nat_le d one) ≡ true → (free && nat_le d two) ≡ true
source_more true d one two l e = is_le d two (let near : d ≤ one = le_is d one e in omega arith)
source_more false d one two l e = e

-- a greater limit draws a pixel back no less
pub drawn_less : ((s : Scene) (x y : ℕ) → DrawnLaw s x y) → (page : PageParts) (whites : List White) (c one two x y : ℕ) → one ≤ two → drawn (scene page whites c two) x y ≤ drawn (scene page whites c one) x y
drawn_less law page whites c one two x y l =
    let low : IsDrawn (scene page whites c two) x y (drawn (scene page whites c two) x y) = (law (scene page whites c two) x y).is in
    let high : IsDrawn (scene page whites c one) x y (drawn (scene page whites c one) x y) = (law (scene page whites c one) x y).is in
    high.greatest (drawn (scene page whites c two) x y) low.own
    (λ j k in_row on_page source. low.each j k in_row on_page (source_more (not (covered page whites (record { x = j; y = k }))) (distance2 x y j k) one two l source))

-- a pixel that a greater limit does not change keeps its tint
stays : (cover : Bool) (low high old : ℕ) → low ≤ high → high ≤ old → (if cover then low else old) ≡ old → (if cover then high else old) ≡ old
stays true low high old l m e = omega arith
stays false low high old l m e = refl

pub drawn_stays : ((s : Scene) (x y : ℕ) → DrawnLaw s x y) → (page : PageParts) (whites : List White) (c one two : ℕ) (p : At) → one ≤ two → drawn_to page whites c two p ≡ tint page c p → drawn_to page whites c one p ≡ tint page c p
drawn_stays law page whites c one two p l e = stays (covered page whites p) (drawn (scene page whites c two) p.x p.y) (drawn (scene page whites c one) p.x p.y) (tint page c p) (drawn_less law page whites c one two p.x p.y l) (law (scene page whites c one) p.x p.y).less e

-- the limit at a pixel, by whether the ink is thin
pub limit_thin : (wide resolution thick : ℕ) → nat_lt (thick * pixel) (3 * (wide * resolution)) ≡ true → limit_at wide resolution thick ≡ square (thick / 3)
limit_thin wide resolution thick e = ap (λ (b : Bool). if b then square (thick / 3) else near_limit wide resolution) e

pub limit_thick : (wide resolution thick : ℕ) → nat_lt (thick * pixel) (3 * (wide * resolution)) ≡ false → limit_at wide resolution thick ≡ near_limit wide resolution
limit_thick wide resolution thick e = ap (λ (b : Bool). if b then square (thick / 3) else near_limit wide resolution) e

pub limit_most : (wide resolution thick : ℕ) → limit_at wide resolution thick ≤ near_limit wide resolution
limit_most wide resolution thick = by_case (nat_lt (thick * pixel) (3 * (wide * resolution))) refl
  where
    by_case : (b : Bool) → nat_lt (thick * pixel) (3 * (wide * resolution)) ≡ b → limit_at wide resolution thick ≤ near_limit wide resolution
    by_case true e = subst (λ (n : ℕ). n ≤ near_limit wide resolution) (sym (limit_thin wide resolution thick e)) (third_near wide resolution thick (lt_is (thick * pixel) (3 * (wide * resolution)) e))
    by_case false e = subst (λ (n : ℕ). n ≤ near_limit wide resolution) (sym (limit_thick wide resolution thick e)) (omega arith)

-- a pixel that the width alone does not change
pub kept_stays : ((s : Scene) (x y : ℕ) → DrawnLaw s x y) → (page : PageParts) (whites : List White) (c wide : ℕ) (p : At) → drawn_to page whites c (near_limit wide page.resolution) p ≡ tint page c p → kept_by page whites (Some wide) c p ≡ tint page c p
kept_stays law page whites c wide p e = drawn_stays law page whites c (limit_at wide page.resolution (thickness page wide c p)) (near_limit wide page.resolution) p (limit_most wide page.resolution (thickness page wide c p)) e

-- a pixel that is drawn back by its own limit
pub kept_at : (page : PageParts) (whites : List White) (c wide limit v : ℕ) (p : At) → limit_at wide page.resolution (thickness page wide c p) ≡ limit → v ≡ drawn_to page whites c limit p → v ≡ kept_by page whites (Some wide) c p
kept_at page whites c wide limit v p is e = e ∙ ap (λ (n : ℕ). drawn_to page whites c n p) (sym is)

-- a pixel of the lists, drawn back, is that of the page
pub field_drawn : ((window sheet : Scene) (first radius : ℕ) → IsWindow window sheet first → window.limit < square (radius + 1) → WindowLaw window sheet first radius) → (page : PageParts) (whites : List White) (c : ℕ) (lists : Lists) (limit radius x y : ℕ) → limit < square (radius + 1) → IsField page whites c lists → x < width page → y < height page → kept_by_lists lists limit x y ≡ drawn_to page whites c limit (record { x = x; y = y })
field_drawn law page whites c lists limit radius x y beyond field in_row on_page =
    let p : At = record { x = x; y = y } in
    let window = scene_of lists limit in
    let sheet = scene page whites c limit in
    let is : IsWindow window sheet 0 = record {
      inside = omega (arith, field.tall);
      wide = field.wide;
      limit = refl;
      free = λ j k l m. ap (λ (n : ℕ). n == 0) (field.marks j k (omega (arith, l, field.wide)) (omega (arith, m, field.tall))) ∙ mark_free page whites (record { x = j; y = k }) ∙ ap (λ (n : ℕ). sheet.is_free j n) (sym (zero-add k));
      tint = λ j k l m. field.tints j k (omega (arith, l, field.wide)) (omega (arith, m, field.tall)) ∙ ap (λ (n : ℕ). sheet.tint_at j n) (sym (zero-add k));
    } in
    let halo : HasHalo window sheet 0 radius y = record { row = omega (arith, on_page, field.tall); above = inl refl; below = inl (zero-add lists.tall ∙ field.tall) } in
    let same : drawn window x y ≡ drawn sheet x y = law window sheet 0 radius is beyond x y (omega (arith, in_row, field.wide)) halo ∙ ap (drawn sheet x) (zero-add y) in
    ap (λ (n : ℕ). if n == 2 then drawn window x y else entry lists.tints lists.wide x y) (field.marks x y in_row on_page)
    ∙ ap (λ (b : Bool). if b then drawn window x y else entry lists.tints lists.wide x y) (mark_full page whites p)
    ∙ ap (λ (n : ℕ). if covered page whites p then n else entry lists.tints lists.wide x y) same
    ∙ ap (λ (n : ℕ). if covered page whites p then drawn sheet x y else n) (field.tints x y in_row on_page)

-- the new tints of a plate, by whether it is an underprint
pub kept_is : (page : PageParts) (whites : List White) (c : ℕ) (p : At) (width : Option ℕ) → width_of page whites c ≡ width → kept_by page whites width c p ≡ kept page whites c p
kept_is page whites c p width e = ap (λ (w : Option ℕ). kept_by page whites w c p) (sym e)

-- the two parts of a test
parts : (a b : Bool) → (a && b) ≡ true → (a ≡ true) × (b ≡ true)
parts true true e = (refl, refl)
parts true false e = absurd (cc)
parts false b e = absurd (cc)

not_true : (b : Bool) → not b ≡ true → b ≡ false
not_true true e = absurd (cc)
not_true false e = refl

less_by : (b : Bool) (new old : ℕ) → new ≤ old → (if b then new else old) ≤ old
less_by true new old l = l
less_by false new old l = omega arith

not_by : (b : Bool) (new old : ℕ) → b ≡ false → (if b then new else old) ≡ old
not_by true new old e = absurd (cc)
not_by false new old e = refl

-- what a new tint can be
pub local : ((s : Scene) (x y : ℕ) → DrawnLaw s x y) → (page : PageParts) (whites : List White) (c : ℕ) (p : At) → Locality page whites c p
local law page whites c p = by_width (width_of page whites c) refl
  where
    edge_of : (wide limit : ℕ) → limit ≤ near_limit wide page.resolution → Source (scene page whites c limit) p.x p.y → NearEdge page whites wide p
    edge_of wide limit most at =
        let two = parts (not (covered page whites (record { x = at.column; y = at.row }))) (nat_le (distance2 p.x p.y at.column at.row) limit) at.source in
        let near : distance2 p.x p.y at.column at.row ≤ limit = le_is (distance2 p.x p.y at.column at.row) limit two.1 in
        record { x = at.column; y = at.row; in_row = at.in_row; on_page = at.on_page; free = not_true (covered page whites (record { x = at.column; y = at.row })) two.0; near = omega (arith, near, most) }

    stored_by : (wide limit : ℕ) → limit ≤ near_limit wide page.resolution → (b : Bool) → ((if b then drawn (scene page whites c limit) p.x p.y else tint page c p) ≡ tint page c p) ⊎ ((edge : NearEdge page whites wide p) × ((if b then drawn (scene page whites c limit) p.x p.y else tint page c p) ≡ tint page c (record { x = edge.x; y = edge.y })))
    stored_by wide limit most false = inl refl
    stored_by wide limit most true = elim (law (scene page whites c limit) p.x p.y).stored [ inl e ↦ inl e | inr h ↦ inr (edge_of wide limit most h.0, h.1) ]

    by_width : (width : Option ℕ) → width_of page whites c ≡ width → Locality page whites c p
    by_width None e =
        let same : kept page whites c p ≡ tint page c p = sym (kept_is page whites c p None e) in
        record { less = omega (arith, same); stored = inl same; covered = λ off. same }
    by_width (Some wide) e =
        let limit = limit_at wide page.resolution (thickness page wide c p) in
        let most : limit ≤ near_limit wide page.resolution = limit_most wide page.resolution (thickness page wide c p) in
        let is : kept page whites c p ≡ drawn_to page whites c limit p = sym (kept_is page whites c p (Some wide) e) in
        let less : drawn_to page whites c limit p ≤ tint page c p = less_by (covered page whites p) (drawn (scene page whites c limit) p.x p.y) (tint page c p) (law (scene page whites c limit) p.x p.y).less in
        record {
          less = omega (arith, is, less);
          stored = elim (stored_by wide limit most (covered page whites p)) [
            | inl same ↦ inl (is ∙ same)
            | inr h ↦ inr (record { wide = wide; is = e; edge = h.0; to = is ∙ h.1 })
          ];
          covered = λ off. is ∙ not_by (covered page whites p) (drawn (scene page whites c limit) p.x p.y) (tint page c p) off;
        }
