-- How `traps` ends, from how its page is read and its set written.
use Rattle.std.proofs.Common.{◌≡◌, ℕ, List, [], ◌∷◌, Result, Ok, Err, inl, inr, refl, ap, ◌∙◌, subst, arith}
use Rattle.outside.specs.Tray.{TrayState}
use Rattle.outside.specs.Rack.{RackState, KeepsRack}
use Rattle.outside.specs.Writing.{WritesFile}
use Rattle.outside.proofs.Names.{asks_all, asks_none_of}
use Rattle.page_files.specs.Gathering.{Gathers, ReadsPage}
use Rattle.page_files.proofs.GatherLemmas.{gathered}
use Rattle.page_model.specs.declared.parts.PageParts.{PageParts}
use Rattle.page_model.specs.declared.parts.Plane.{Plane}
use Rattle.page_model.specs.Conditions.{IsPage}
use Rattle.page_model.specs.Tints.{trapped_planes}
use Rattle.page_files.specs.Writing.{BreaksAt, WritesAll}
use Rattle.page_files.proofs.Steps.{breaks_next, wrote_more, wrote_none}
use Rattle.trapset_cli.specs.declared.reason.TrapsetError.{TrapsetError}
use Rattle.trapset_cli.specs.declared.reason.TrapsetError.TheVariants as errors
use Rattle.trapset_cli.specs.Commands.{sources_of}
use Rattle.trapset_cli.specs.Endings.{Answers, CarriesOut, NotRead}
use Rattle.trapset_cli.specs.Putting.{AnswersPut, PutsSet}
use Rattle.trapset_cli.specs.Verdicts.{set_files}
use Rattle.trapset_cli.specs.Words.{TrapsWords, Traps}
use Rattle.common_errors.specs.declared.common.CommonError.TheVariants as reasons
use Rattle.trap_set.specs.SetText.{set_text}

pub unchanged : (a : RackState) → KeepsRack a a
unchanged a = record { tells = refl; faults = omega arith }

-- The set of a page is one file.
pub set_wrote : {T E : Type 0} (name bytes : List ℕ) (a b : RackState) (x : T) → WritesFile {T = T} {E = E} name bytes a b (Ok x) → WritesAll (record { name = name; bytes = bytes } ∷ []) a b
set_wrote name bytes a b x wrote = wrote_more [] (record { name = name; bytes = bytes }) a a b x (unchanged a) (wrote_none [] a refl) wrote

pub set_broke : {T E : Type 0} (name bytes : List ℕ) (a b : RackState) (e : E) → WritesFile {T = T} {E = E} name bytes a b (Err e) → BreaksAt (record { name = name; bytes = bytes } ∷ []) 0 a b
set_broke name bytes a b e wrote = breaks_next [] (record { name = name; bytes = bytes }) [] a a b e (unchanged a) (wrote_none [] a refl) wrote

module _ (name : List ℕ) (page : PageParts) (old new : List Plane) (a b : RackState) (valid : IsPage page) (before : old ≡ page.planes) (after : new ≡ trapped_planes page) where
  same_text : set_text old new ≡ set_text page.planes (trapped_planes page)
  same_text = ap (λ (o : List Plane). set_text o new) before ∙ ap (λ (n : List Plane). set_text page.planes n) after

  pub set_put : {T E : Type 0} (x : T) → WritesFile {T = T} {E = E} name (set_text old new) a b (Ok x) → PutsSet name page a b (Ok tt)
  set_put {T} {E} x wrote = record {
    valid = valid;
    keeps = wrote.keeps;
    reported = wrote.reported;
    asked = asks_all a.asked b.asked (name ∷ []) wrote.asked;
    answer = set_wrote {T = T} {E = E} name (set_text page.planes (trapped_planes page)) a b x (subst (λ (bytes : List ℕ). WritesFile {T = T} {E = E} name bytes a b (Ok x)) same_text wrote);
  }

  pub set_not_put : {T E : Type 0} (e : E) → WritesFile {T = T} {E = E} name (set_text old new) a b (Err e) → PutsSet name page a b (Err errors.SetUnwritten)
  set_not_put {T} {E} e wrote = record {
    valid = valid;
    keeps = wrote.keeps;
    reported = wrote.reported;
    asked = asks_all a.asked b.asked (name ∷ []) wrote.asked;
    answer = (set_broke {T = T} {E = E} name (set_text page.planes (trapped_planes page)) a b e (subst (λ (bytes : List ℕ). WritesFile {T = T} {E = E} name bytes a b (Err e)) same_text wrote), wrote.once);
  }

-- There was no memory to trap the page.
pub not_trapped : (name : List ℕ) (page : PageParts) (a : RackState) → IsPage page → PutsSet name page a a (Err (errors.Page reasons.Memory))
not_trapped name page a valid = record {
  valid = valid;
  keeps = unchanged a;
  reported = λ tells. refl;
  asked = asks_none_of a.asked (name ∷ []);
  answer = refl;
}

module _ (words : TrapsWords) (page : PageParts) (a b : TrayState) (r r' : RackState) (reads : Gathers (sources_of words) a b (Ok page)) (valid : IsPage page) where
  put_answer : (result : Result (Unit {0}) TrapsetError) → AnswersPut words.set page r r' result → Answers (Traps words) a b r r' result
  put_answer (Ok nothing) answer = record {
    calm = reads.count;
    begun = reads.answer.1;
    written = set_files words.set page;
    to_write = ((page, valid, refl), λ tells. (page, reads.answer.2 tells, refl));
    some = omega arith;
    wrote = answer;
    created = answer.asked;
    finished = answer.finished;
  }
  put_answer (Err errors.SetUnwritten) answer = inr (
    record {
      calm = reads.count;
      begun = reads.answer.1;
      written = set_files words.set page;
      to_write = ((page, valid, refl), λ tells. (page, reads.answer.2 tells, refl));
      place = 0;
      is = (refl, refl);
      breaks = answer.0;
    },
    answer.1,
  )
  put_answer (Err (errors.Page reasons.Memory)) answer = inl (NotRead.no_memory refl reads.count, answer)
  put_answer (Err (errors.Page reasons.Usage)) answer = absurd answer
  put_answer (Err (errors.Page (reasons.Job fault))) answer = absurd answer
  put_answer (Err (errors.Page (reasons.NoDetails k))) answer = absurd answer
  put_answer (Err (errors.Page (reasons.Plate k fault))) answer = absurd answer
  put_answer (Err (errors.Page (reasons.Page fault))) answer = absurd answer
  put_answer (Err (errors.Page (reasons.Read file))) answer = absurd answer
  put_answer (Err (errors.Page (reasons.Write file))) answer = absurd answer
  put_answer (Err errors.NoCommand) answer = absurd answer
  put_answer (Err errors.SetUnread) answer = absurd answer
  put_answer (Err (errors.BadLine n)) answer = absurd answer
  put_answer (Err errors.Differs) answer = absurd answer

-- A page that was read is trapped, and its set written.
pub page_put : (words : TrapsWords) (page : PageParts) (a b : TrayState) (r r' : RackState) (result : Result (Unit {0}) TrapsetError) → ReadsPage (sources_of words) a b (Ok page) → PutsSet words.set page r r' result → CarriesOut (Traps words) a b r r' result
page_put words page a b r r' result read puts =
    let reads = gathered (sources_of words) a b page read in
    record {
      asked = reads.asked;
      in_hand = inr reads.in_hand;
      rack_keeps = puts.keeps;
      reported = puts.reported;
      created = puts.asked;
      answer = put_answer words page a b r r' reads puts.valid result puts.answer;
    }
