-- Where pages begin and end, and spaces in a statement's place.
use Rattle.std.proofs.Common.{◌≡◌, ℕ, suc, ◌<◌, ◌+◌, ◌-◌, min, max, List, ◌∷◌, ◌++◌, length, map, take, drop, get_or, sym, ap, ◌∙◌, arith}
use Rattle.std.specs.Prelude.{filter, fold, replicate, slice_index}
use Rattle.std.proofs.lemmas.List.{drop_min, get_or-map, length-drop, length-take, take_min}
use Rattle.job_pages.specs.declared.statement_spans.StatementSpan.{StatementSpan}
use Rattle.job_pages.specs.PageText.{blanked, bound, is_left_after, spaces_for, text_in}
use Rattle.job_pages.specs.StatementSpans.{shows}

-- the first bound
pub bound_first : (shown : List StatementSpan) (k : ℕ) → k ≡ 0 → slice_index (0 ∷ map (λ (p : StatementSpan). p.end) shown) k ≡ 0
bound_first shown k is = ap (λ (n : ℕ). slice_index (0 ∷ map (λ (p : StatementSpan). p.end) shown) n) is

-- a later one
pub bound_next : (shown : List StatementSpan) (k i : ℕ) (d : StatementSpan) → i < length shown → i + 1 ≡ k → slice_index (0 ∷ map (λ (p : StatementSpan). p.end) shown) k ≡ (get_or shown i d).end
bound_next shown k i d within is =
    let same : k ≡ suc i = omega (arith, is) in
    ap (λ (n : ℕ). slice_index (0 ∷ map (λ (p : StatementSpan). p.end) shown) n) same ∙ get_or-map (λ (p : StatementSpan). p.end) shown i d 0 within

-- spaces between two places that are no further than the text is long
pub blanked_at : (text : List ℕ) (p : StatementSpan) (from end : ℕ) → from ≡ min p.from (length text) → end ≡ min (max p.end p.from) (length text)
    → blanked text p ≡ take from text ++ replicate (end - from) 32 ++ drop end text
blanked_at text p from end is also =
    let prefix : take p.from text ≡ take from text = sym (take_min p.from text) ∙ ap (λ (n : ℕ). take n text) (sym is) in
    let last : max p.from p.end ≡ max p.end p.from = omega arith in
    let back : drop (max p.from p.end) text ≡ drop end text = ap (λ (n : ℕ). drop n text) last ∙ sym (drop_min (max p.end p.from) text) ∙ ap (λ (n : ℕ). drop n text) (sym also) in
    let long : length (take (p.end - p.from) (drop p.from text)) ≡ end - from = omega (arith, length-take (p.end - p.from) (drop p.from text), length-drop p.from text, is, also) in
    ap (λ (x : List ℕ). x ++ spaces_for (take (p.end - p.from) (drop p.from text)) ++ drop (max p.from p.end) text) prefix
    ∙ ap (λ (n : ℕ). take from text ++ replicate n 32 ++ drop (max p.from p.end) text) long
    ∙ ap (λ (x : List ℕ). take from text ++ replicate (end - from) 32 ++ x) back

-- the text of a page, its earlier statements blanked
pub text_made : (spans shown : List StatementSpan) (bytes made items : List ℕ) (start end k : ℕ) → shown ≡ filter shows spans
    → start ≡ slice_index (0 ∷ map (λ (p : StatementSpan). p.end) shown) k → end ≡ slice_index (0 ∷ map (λ (p : StatementSpan). p.end) shown) (k + 1)
    → items ≡ take (min end (length bytes)) bytes → made ≡ fold blanked items (filter (is_left_after start) spans)
    → made ≡ text_in spans bytes k
text_made spans shown bytes made items start end k all first last prefix blanks =
    let begins : start ≡ bound spans k = first ∙ ap (λ (ps : List StatementSpan). slice_index (0 ∷ map (λ (p : StatementSpan). p.end) ps) k) all in
    let ends : end ≡ bound spans (k + 1) = last ∙ ap (λ (ps : List StatementSpan). slice_index (0 ∷ map (λ (p : StatementSpan). p.end) ps) (k + 1)) all in
    let whole : items ≡ take (bound spans (k + 1)) bytes = prefix ∙ take_min end bytes ∙ ap (λ (n : ℕ). take n bytes) ends in
    blanks ∙ ap (λ (n : ℕ). fold blanked items (filter (is_left_after n) spans)) begins
    ∙ ap (λ (t : List ℕ). fold blanked t (filter (is_left_after (bound spans k)) spans)) whole
