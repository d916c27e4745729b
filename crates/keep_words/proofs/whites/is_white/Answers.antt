-- is_white: the last of three tests.
use Rattle.std.proofs.Common.{◌≡◌, ℕ, List, map, string_bytes, Global, ap, ◌∙◌}
use Rattle.std.specs.Prelude.{codes}
use Rattle.std.specs.List.{list_any}
use Rattle.std.specs.Str.{bytes_eq}
use Rattle.plain_words.specs.Parts.{parts_of}
use Rattle.plain_words.specs.Plates.{names_of}
use Rattle.keep_words.specs.Words.{before_equals, is_number, options_of, values_after, white_width}
use Rattle.keep_words.proofs.WordLemmas.{last_of_three}
use Rattle.keep_words.proofs.whites.is_white.Goals as goal

pub returns : goal.returns
returns c =
    let word = c.args.word.now in
    let names = names_of (map parts_of (map (string_bytes {Z = Global}) c.args.plates.now)) in
    let rest = values_after (codes "--underprint") (options_of (map (string_bytes {Z = Global}) c.args.rest.now)) in
    let name : c.before_equals-name.result.now ≡ before_equals word = c.before_equals-name.ensures ∙ ap before_equals c.as_bytes.ensures.value in
    last_of_three c.has_width.result c.is_plate_name.result c.names_ink.result (is_number (white_width word)) (list_any (bytes_eq (before_equals word)) names) (list_any (λ v. bytes_eq (before_equals word) (before_equals v)) rest)
    c.has_width.ensures (c.is_plate_name.ensures ∙ ap (λ (n : List ℕ). list_any (bytes_eq n) names) name) (c.names_ink.ensures ∙ ap (λ (n : List ℕ). list_any (λ v. bytes_eq n (before_equals v)) rest) name) c.if-not-has_width.false c.if-not-is_plate_name.false
