-- What `clap` says of the command `page`.
use Rattle.std.proofs.Common.{◌≡◌, ◌≢◌, ◌⊎◌, true, false, codes, List, [], ◌∷◌, Option, Some, None, is_some, option_map, Result, Ok, Err, IfOk, IfSome, OnOk, refl, sym, ap, ◌∙◌, inl, inr}
use Rattle.clap.proofs.WalkLemmas.{first_value-rows, raw_values-rows}
use Rattle.clap.specs.Matches.{first_value, matched_of, raw_values}
use Rattle.clap.specs.declared.parser.matches.Found.{Found}
use Rattle.clap.specs.Words.{App, HasMatchesOf, all_of, first_of, IsAmong, Kinds, Text, fault_of, found_of, is_simple, is_simple_and_free, matches_of, rows_of}
use Rattle.clap.specs.declared.parser.matches.ArgMatches.{ArgMatches}
use Rattle.clap.specs.declared.error.kind.ErrorKind.{ErrorKind}
use Rattle.clap.specs.declared.error.kind.ErrorKind.TheVariants.{OutOfMemory}
use Rattle.trap_cli.specs.Words.{page_of, page_of_rows}
use Rattle.trap_cli.specs.PageApp.{is_faultless, is_taken, page_app, rows_in}

page_is_simple : is_simple page_app ≡ true
page_is_simple = refl

page_is_free : is_simple_and_free page_app ≡ true
page_is_free = refl

-- an answer without a fault is one of words that are taken
pub taken : (app : App) (words : List Text) → app ≡ page_app → (is_simple_and_free app ≡ true → fault_of app words ≡ []) → is_taken words ≡ true
unfolding is_taken
taken app words same none =
    ap is_faultless (ap (λ (a : App). fault_of a words) (sym same) ∙ none (ap is_simple_and_free same ∙ page_is_free))

-- and what it found is known
pub rows_found : (app : App) (words : List Text) (m : ArgMatches) → app ≡ page_app → HasMatchesOf app words m → rows_of (found_of m) ≡ rows_in words
unfolding rows_in
rows_found app words m same found =
    (found (ap is_simple same ∙ page_is_simple)).0 ∙ ap (λ (a : App). matches_of a words) same

has_fault : (k : ErrorKind) (ks : Kinds) → IsAmong k ks → is_faultless ks ≡ false
has_fault k [] among = absurd among
has_fault k (x ∷ xs) among = refl

fault_stands : (k : ErrorKind) (ks : Kinds) → (k ≡ OutOfMemory → ⊥) → (k ≡ OutOfMemory) ⊎ IsAmong k ks → is_faultless ks ≡ false
fault_stands k ks other (inl memory) = absurd (other memory)
fault_stands k ks other (inr among) = has_fault k ks among

-- an error for another cause than memory is one of words that are not taken
pub not_taken : (app : App) (words : List Text) (k : ErrorKind) → app ≡ page_app → (k ≡ OutOfMemory → ⊥) → (is_simple_and_free app ≡ true → (k ≡ OutOfMemory) ⊎ IsAmong k (fault_of app words)) → is_taken words ≡ false
unfolding is_taken
not_taken app words k same other kinds =
    ap (λ (a : App). is_faultless (fault_of a words)) (sym same)
    ∙ fault_stands k (fault_of app words) other (kinds (ap is_simple_and_free same ∙ page_is_free))

-- an error of another cause than memory stands where no words are taken
pub nothing_taken : {E : Type 0} (r : Result (Option ArgMatches) E) (app : App) (words : List Text) (k kind : ErrorKind) → app ≡ page_app → k ≡ kind
    → (is_simple_and_free app ≡ true → (kind ≡ OutOfMemory) ⊎ IsAmong kind (fault_of app words)) → IfOk r (λ o. is_some o ≡ false) → OnOk r (k ≢ OutOfMemory)
    → IfOk r (λ o. is_some o ≡ is_taken words)
nothing_taken (Err e) app words k kind same k_is kinds none reason = tt
nothing_taken (Ok o) app words k kind same k_is kinds none reason =
    none ∙ sym (not_taken app words kind same (λ e. reason (k_is ∙ e)) kinds)

pub nothing_found : {E : Type 0} (r : Result (Option ArgMatches) E) (P : ArgMatches → Type 0) → IfOk r (λ o. is_some o ≡ false) → IfOk r (λ o. IfSome o P)
nothing_found (Err e) P none = tt
nothing_found (Ok None) P none = tt
nothing_found (Ok (Some m)) P none = absurd (cc none)

same_page : (w w' b b' j j' r r' : Option Text) (p p' : Option (List Text)) → w ≡ w' → b ≡ b' → j ≡ j' → r ≡ r' → p ≡ p' → page_of w b j r p ≡ page_of w' b' j' r' p'
same_page w w' b b' j j' r r' p p' e1 e2 e3 e4 e5 =
    ap (λ (x : Option Text). page_of x b j r p) e1
    ∙ ap (λ (x : Option Text). page_of w' x j r p) e2
    ∙ ap (λ (x : Option Text). page_of w' b' x r p) e3
    ∙ ap (λ (x : Option Text). page_of w' b' j' x p) e4
    ∙ ap (λ (x : Option (List Text)). page_of w' b' j' r' x) e5

-- the texts that are asked of the matches are those of the rows
pub page_found : (f : Found) (workers band job report : Option Text) (plates : Option (List Text)) → workers ≡ first_value f (codes "workers") → band ≡ first_value f (codes "band")
    → job ≡ first_value f (codes "job") → report ≡ first_value f (codes "report") → plates ≡ option_map raw_values (matched_of f (codes "plate"))
    → page_of workers band job report plates ≡ page_of_rows (rows_of f)
page_found f workers band job report plates a b c d e =
    same_page workers (first_of (codes "workers") (rows_of f)) band (first_of (codes "band") (rows_of f)) job (first_of (codes "job") (rows_of f)) report (first_of (codes "report") (rows_of f)) plates (all_of (codes "plate") (rows_of f))
    (a ∙ first_value-rows f (codes "workers")) (b ∙ first_value-rows f (codes "band")) (c ∙ first_value-rows f (codes "job")) (d ∙ first_value-rows f (codes "report")) (e ∙ raw_values-rows f (codes "plate"))
