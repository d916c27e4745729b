-- gather_images: reads the images of the page after its job, and makes the page of both.
use Rattle.std.proofs.lemmas.Result.{err_from_is_err_and}
use Rattle.std.proofs.Common.{ℕ, List, Bor, map, Ok, Err, sym, ap, ◌∙◌, subst, arith}
use Rattle.page_files.specs.Assembly.{assembly_of_planes}
use Rattle.traprun_cli.specs.Opened.{order_in}
use Rattle.traprun_cli.specs.Reading.{ReadsImages}
use Rattle.traprun_cli.specs.Words.{sources_of}
use Rattle.traprun_cli.proofs.OpenLemmas.{as_many_inputs, as_many_names, as_many_sources}
use Rattle.traprun_cli.proofs.GatherLemmas.{can_assemble, images_refused, page_made, page_refused, error_named}
use Rattle.traprun_cli.proofs.gather.gather_images.Goals as goal

pub read_images-requires : goal.read_images-requires
read_images-requires g c = let many = as_many_inputs c.args.opened.now c.requires.opened in let few = c.requires.opened.within.few in omega (arith, many, few, c.as_slice.ensures.len)

pub returns-in_err-planes : goal.returns-in_err-planes
returns-in_err-planes g c =
    let p = err_from_is_err_and c.from_residual.result c.from_residual.ensures.1 in
    rw (p.1, p.2) (
    let named = ap (λ (fs : List (Bor (List ℕ))). map (λ (f : Bor (List ℕ)). f.now) fs) c.as_slice.ensures.value ∙ c.requires.opened.inputs in
    images_refused (sources_of (order_in c.args.opened.now.order.now)) c.args.opened.now.job c.args.page (g.T.Tray.state c.args.tray.now) (g.T.Tray.state c.read_images.new.tray) c.args.job c.requires.given c.in_err-planes.field-0.0
    (subst (λ (l : List (List ℕ)). ReadsImages c.args.page l (g.T.Tray.state c.args.tray.now) (g.T.Tray.state c.read_images.new.tray) (Err c.in_err-planes.field-0.0)) named c.in_err-planes.ensures)
    )

pub assemble_planes-requires-clause-planes : goal.assemble_planes-requires-clause-planes
assemble_planes-requires-clause-planes g c =
    let source = sources_of (order_in c.args.opened.now.order.now) in
    let named = ap (λ (fs : List (Bor (List ℕ))). map (λ (f : Bor (List ℕ)). f.now) fs) c.as_slice.ensures.value ∙ c.requires.opened.inputs in
    let many = as_many_sources c.args.opened.now in
    let some = c.requires.opened.within.some in
    let few = c.requires.opened.within.few in
    can_assemble c.args.page source.inputs c.args.opened.now.names (g.T.Tray.state c.args.tray.now) (g.T.Tray.state c.read_images.new.tray) c.in_ok-planes.planes (omega (arith, many, some)) (omega (arith, many, few)) (as_many_names c.args.opened.now c.requires.opened)
    (subst (λ (l : List (List ℕ)). ReadsImages c.args.page l (g.T.Tray.state c.args.tray.now) (g.T.Tray.state c.read_images.new.tray) (Ok c.in_ok-planes.planes)) named c.in_ok-planes.ensures)

pub returns-in-Ok : goal.returns-in-Ok
returns-in-Ok g c =
    let named = ap (λ (fs : List (Bor (List ℕ))). map (λ (f : Bor (List ℕ)). f.now) fs) c.as_slice.ensures.value ∙ c.requires.opened.inputs in
    page_made (sources_of (order_in c.args.opened.now.order.now)) c.args.opened.now.job c.args.page (g.T.Tray.state c.args.tray.now) (g.T.Tray.state c.read_images.new.tray) c.args.job c.requires.given c.in_ok-planes.planes c.in-Ok.made
    (subst (λ (l : List (List ℕ)). ReadsImages c.args.page l (g.T.Tray.state c.args.tray.now) (g.T.Tray.state c.read_images.new.tray) (Ok c.in_ok-planes.planes)) named c.in_ok-planes.ensures)
    (ap (λ (ns : List (List ℕ)). assembly_of_planes c.args.job c.in_ok-planes.planes ns) (sym c.requires.opened.names) ∙ c.in-Ok.ensures)

pub returns-in-Err : goal.returns-in-Err
returns-in-Err g c =
    let named = ap (λ (fs : List (Bor (List ℕ))). map (λ (f : Bor (List ℕ)). f.now) fs) c.as_slice.ensures.value ∙ c.requires.opened.inputs in
    page_refused (sources_of (order_in c.args.opened.now.order.now)) c.args.opened.now.job c.args.page (g.T.Tray.state c.args.tray.now) (g.T.Tray.state c.read_images.new.tray) c.args.job c.requires.given c.in_ok-planes.planes c.in-Err.common_error c.error_at.result c.error_at.ensures
    (subst (λ (l : List (List ℕ)). ReadsImages c.args.page l (g.T.Tray.state c.args.tray.now) (g.T.Tray.state c.read_images.new.tray) (Ok c.in_ok-planes.planes)) named c.in_ok-planes.ensures)
    (error_named c.args.job c.in_ok-planes.planes c.in-Err.common_error c.requires.opened.names c.in-Err.ensures)
