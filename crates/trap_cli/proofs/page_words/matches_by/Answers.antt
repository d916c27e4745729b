-- What `matches_by` has to show.
use Rattle.std.proofs.Common.{ℕ, List, sym, map, string_bytes, Global}
use Rattle.clap.specs.Words.{app_of}
use Rattle.trap_cli.proofs.PageLemmas.{nothing_found, nothing_taken, rows_found, taken}
use Rattle.trap_cli.proofs.page_words.matches_by.Goals as goal

pub returns-in-Ok : goal.returns-in-Ok
returns-in-Ok c =
    let words : List (List ℕ) = map (string_bytes {Z = Global}) c.args.words.now in
    let app = app_of c.args.command in
    record {
      taken = sym (taken app words c.requires c.in-Ok.ensures.kinds);
      rows = rows_found app words c.in-Ok.matches c.requires c.in-Ok.ensures.matches;
    }

pub returns-in-Err : goal.returns-in-Err
returns-in-Err c =
    let words : List (List ℕ) = map (string_bytes {Z = Global}) c.args.words.now in
    record {
      taken = nothing_taken c.without_matches.result (app_of c.args.command) words _ _ c.requires c.kind.ensures c.in-Err.ensures.kinds c.without_matches.ensures.none c.without_matches.ensures.reason;
      rows = nothing_found c.without_matches.result _ c.without_matches.ensures.none;
    }
