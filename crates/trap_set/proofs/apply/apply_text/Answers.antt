-- apply_text: applies the set of the file that is begun.
use Rattle.std.proofs.lemmas.Grind.{common_steps}
use Rattle.std.proofs.Common.{arith, ◌≡◌, ℕ, List, [], ◌∷◌, refl}
use Rattle.std.proofs.lemmas.Bool.{both_ways}
use Rattle.trap_set.specs.Bytes.{stored_in}
use Rattle.trap_set.specs.Reading.{head_in}
use Rattle.trap_set.specs.SetText.{page_line, title_line}
use Rattle.trap_set.specs.Standing.{IsPageLine}
use Rattle.trap_set.proofs.StandLemmas.{no_title, no_page, title_fault, page_fault, other_planes, reached_none, reached_line}
use Rattle.trap_set.proofs.apply.apply_text.Goals as goal

pub returns-in-Ok-false : goal.returns-in-Ok-false
returns-in-Ok-false g c = no_title (g.T.Tray.state c.args.tray.now) (g.T.Tray.state c.args.tray.now) (g.T.Tray.state c.read_title.new.tray) [] _ c.args.planes.now 1 refl (reached_none (g.T.Tray.state c.args.tray.now)) (rw c.in-Ok-false.field-0-test at c.in-Ok-false.ensures.line)

pub returns-in-Err : goal.returns-in-Err
returns-in-Err g c = title_fault (g.T.Tray.state c.args.tray.now) (g.T.Tray.state c.args.tray.now) (g.T.Tray.state c.read_title.new.tray) [] _ c.args.planes.now c.in-Err.field-0 (reached_none (g.T.Tray.state c.args.tray.now)) c.in-Err.ensures.line

pub returns-in-Ok-None : goal.returns-in-Ok-None
returns-in-Ok-None g c =
    let start = g.T.Tray.state c.args.tray.now in
    let mid = g.T.Tray.state c.read_title.new.tray in
    let stored = stored_in c.read_title.new.buf c.read_title.new.unread in
    no_page start mid (g.T.Tray.state c.read_page.new.tray) stored _ c.args.planes.now 2 refl (reached_line (λ (l : List ℕ). l ≡ title_line) [] title_line start start mid [] stored (reached_none start) (rw c.in-Ok-true.field-0-test at c.in-Ok-true.ensures.line)) (rw c.in-Ok-None.field-0-is at c.in-Ok-None.ensures.line)

pub returns-in-Err-read_page : goal.returns-in-Err-read_page
returns-in-Err-read_page g c =
    let start = g.T.Tray.state c.args.tray.now in
    let mid = g.T.Tray.state c.read_title.new.tray in
    let stored = stored_in c.read_title.new.buf c.read_title.new.unread in
    page_fault start mid (g.T.Tray.state c.read_page.new.tray) stored _ c.args.planes.now c.in-Err-read_page.field-0 (reached_line (λ (l : List ℕ). l ≡ title_line) [] title_line start start mid [] stored (reached_none start) (rw c.in-Ok-true.field-0-test at c.in-Ok-true.ensures.line)) c.in-Err-read_page.ensures.line

pub returns-then-not-fits : goal.returns-then-not-fits
returns-then-not-fits g c =
    let start = g.T.Tray.state c.args.tray.now in
    let mid = g.T.Tray.state c.read_title.new.tray in
    let last = g.T.Tray.state c.read_page.new.tray in
    let stored = stored_in c.read_title.new.buf c.read_title.new.unread in
    let head = head_in c.in-Ok-Some.head in
    let one = reached_line (λ (l : List ℕ). l ≡ title_line) [] title_line start start mid [] stored (reached_none start) (rw c.in-Ok-true.field-0-test at c.in-Ok-true.ensures.line) in
    let two = reached_line IsPageLine (title_line ∷ []) (page_line head) start mid last stored (stored_in c.read_page.new.buf c.read_page.new.unread) one (rw c.in-Ok-Some.field-0-is at c.in-Ok-Some.ensures.line) in
    other_planes start start last [] (stored_in c.read_page.new.buf c.read_page.new.unread) c.args.planes.now head (rw c.in-Ok-Some.field-0-is at c.in-Ok-Some.ensures.range) (λ f. both_ways _ c.if-not-fits.true (c.fits.ensures.1 f)) two c.in-Ok-Some.ensures.line.begun

pub returns : goal.returns
returns g c =
    let start = g.T.Tray.state c.args.tray.now in
    let mid = g.T.Tray.state c.read_title.new.tray in
    let last = g.T.Tray.state c.read_page.new.tray in
    let stored = stored_in c.read_title.new.buf c.read_title.new.unread in
    let head = head_in c.in-Ok-Some.head in
    let one = reached_line (λ (l : List ℕ). l ≡ title_line) [] title_line start start mid [] stored (reached_none start) (rw c.in-Ok-true.field-0-test at c.in-Ok-true.ensures.line) in
    let two = reached_line IsPageLine (title_line ∷ []) (page_line head) start mid last stored (stored_in c.read_page.new.buf c.read_page.new.unread) one (rw c.in-Ok-Some.field-0-is at c.in-Ok-Some.ensures.line) in
    c.apply_runs.ensures start two

pub apply_runs-requires-clause-full : goal.apply_runs-requires-clause-full
apply_runs-requires-clause-full g c = grind (arith, common_steps)

pub apply_runs-requires-clause-many : goal.apply_runs-requires-clause-many
apply_runs-requires-clause-many g c = grind (arith, common_steps)

pub apply_runs-requires-clause-head : goal.apply_runs-requires-clause-head
apply_runs-requires-clause-head g c = grind (arith, common_steps)

pub slice_bounds-apply_runs-end : goal.slice_bounds-apply_runs-end
slice_bounds-apply_runs-end g c = grind (arith, common_steps)

pub apply_runs-requires-clause-fits : goal.apply_runs-requires-clause-fits
apply_runs-requires-clause-fits g c = grind (arith, common_steps)

pub slice_bounds-apply_runs-end-2 : goal.slice_bounds-apply_runs-end-2
slice_bounds-apply_runs-end-2 g c = grind (arith, common_steps)
