-- take_piece: adds the token that stands at the beginning of the rest, if it is one, and tells how
-- many bytes were taken.
use Rattle.std.proofs.Common.{◌≡◌, ◌++◌, ◌∷◌, [], drop, ◌+◌, Ok, ap, sym, ◌∙◌, rules}
use Rattle.std.proofs.lemmas.List.{append-nil}
use Rattle.ps_tokens.specs.declared.token.Token.{Token}
use Rattle.ps_tokens.specs.Tokens.{tokens_then, tokens_from}
use Rattle.ps_tokens.proofs.Scanning.{tokens_from-piece, tokens_from-broken, tokens_then-tokens_then}
use Rattle.ps_tokens.proofs.scanner.take_piece.Goals as goal

pub returns-in-Blank-clause-taken : goal.returns-in-Blank-clause-taken
returns-in-Blank-clause-taken c =
    let rest = c.args.rest.now in
    ap (tokens_then (Ok c.args.found.now.items)) (tokens_from-piece c.args.at rest _ c.requires.some (sym c.in-Blank.ensures.value) c.in-Blank.ensures.within.0)
    ∙ tokens_then-tokens_then c.args.found.now.items [] (tokens_from (c.args.at + c.in-Blank.len) 0 (drop c.in-Blank.len rest))
    ∙ ap (λ ts. tokens_then (Ok ts) (tokens_from (c.args.at + c.in-Blank.len) 0 (drop c.in-Blank.len rest))) (append-nil c.args.found.now.items)

pub returns-in-Ok-clause-taken : goal.returns-in-Ok-clause-taken
returns-in-Ok-clause-taken c =
    let rest = c.args.rest.now in
    let len = c.in-Spelled.len in
    let token : Token = record { at = c.args.at; len = len; kind = c.in-Spelled.kind } in
    let pushed : c.push.new.self.items ≡ c.args.found.now.items ++ token ∷ [] = search (rules, c.in-Ok.ensures.items) in
    ap (tokens_then (Ok c.args.found.now.items)) (tokens_from-piece c.args.at rest _ c.requires.some (sym c.in-Spelled.ensures.value) c.in-Spelled.ensures.within.0)
    ∙ tokens_then-tokens_then c.args.found.now.items (token ∷ []) (tokens_from (c.args.at + len) 0 (drop len rest))
    ∙ ap (λ ts. tokens_then (Ok ts) (tokens_from (c.args.at + len) 0 (drop len rest))) (sym pushed)

pub returns-in-Broken-clause-refused : goal.returns-in-Broken-clause-refused
returns-in-Broken-clause-refused c =
    ap (tokens_then (Ok c.args.found.now.items)) (tokens_from-broken c.args.at c.args.rest.now c.in-Broken.kind c.requires.some (sym c.in-Broken.ensures.value))
