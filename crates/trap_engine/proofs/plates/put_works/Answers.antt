-- put_works: puts the plates, which are all taken, into the outcome, and how many samples of each
-- change.
use Rattle.std.proofs.lemmas.Grind.{common_steps}
use Rattle.std.proofs.Common.{◌≡◌, ◌∙◌, ◌∷◌, ◌++◌, ◌<◌, ◌+◌, ℕ, [], List, ap, arith, length, subst, inl, inr}
use Rattle.std.specs.Prelude.{slice_index_or, vec_len}
use Rattle.std.proofs.lemmas.Bool.{cases_eq}
use Rattle.std.proofs.lemmas.List.{get_or-set_other, get_or-set_same, length-set}
use Rattle.page_model.specs.declared.parts.Plane.{Plane}
use Rattle.page_model.specs.Planes.{no_plane}
use Rattle.trap_engine.specs.declared.plates.PlateWork.{PlateWork}
use Rattle.trap_engine.specs.Taking.{IsTakenPlate}
use Rattle.trap_engine.proofs.TakeLemmas.{fewer_taken, last_taken, plane_taken}
use Rattle.trap_engine.proofs.plates.put_works.Goals as goal

pub loop-work-preserved : goal.loop-work-preserved
loop-work-preserved c =
    let h = c.in-Some.ensures in let p = c.put_in.ensures in let v = c.loop-work.invariant in let page = c.args.page.now in
    let works = c.pop.new.self.items in let work = c.in-Some.work in let old = c.loop-work.outcome in
    let n = c.len.result in
    let long : n ≡ length works = omega (arith, c.len.ensures, c.pop.new.self.ok) in
    let one_more : vec_len c.loop-work.works ≡ n + 1 = omega (arith, h.len, c.len.ensures) in
    let all : (j : ℕ) (d : PlateWork) → j < n + 1 → IsTakenPlate page j (slice_index_or (works ++ work ∷ []) j d).tints.items (slice_index_or (works ++ work ∷ []) j d).changed =
    λ j d l. subst (λ (ws : List PlateWork). IsTakenPlate page j (slice_index_or ws j d).tints.items (slice_index_or ws j d).changed) h.items (v.works j d (omega (arith, l, one_more))) in
    let last = last_taken page works work n long all in
    let plane = c.plane_of-plane.result in let made = c.plane_of-plane.ensures in
    record {
      counted = record {
        planes = ap (λ (ps : List Plane). length ps) p.planes ∙ (length-set old.planes n plane ∙ v.counted.planes);
        plate_changed = ap (λ (ns : List ℕ). length ns) p.plate_changed ∙ (length-set old.plate_changed.items n work.changed ∙ v.counted.plate_changed);
        zone_samples = rw p.zone_samples v.counted.zone_samples;
        zone_changed = rw p.zone_changed v.counted.zone_changed;
        edges = p.edges ∙ v.counted.edges;
        few_edges = rw p.edges v.counted.few_edges;
        changes = rw p.changes v.counted.changes;
      };
      workspace = record {
        zone_samples = p.workspace.zone_samples ∙ v.workspace.zone_samples;
        zone_changed = p.workspace.zone_changed ∙ v.workspace.zone_changed;
        plate_changed = p.workspace.plate_changed ∙ v.workspace.plate_changed;
        changes = p.workspace.changes ∙ v.workspace.changes;
      };
      few = omega (arith, v.few, one_more, c.len.ensures);
      works = λ j d l. fewer_taken page works work n long all j d (omega (arith, l, c.len.ensures));
      planes = λ j a l. rw p.planes (elim (cases_eq j n) [
        | inl e ↦ rw (e, get_or-set_same old.planes n plane no_plane (omega (arith, v.counted.planes, e, l))) (plane_taken page n plane work.tints.items made.wide made.tall made.deep made.tints last.taken)
        | inr ne ↦ rw (get_or-set_other old.planes n j plane no_plane ne) (v.planes j (omega (arith, a, ne, one_more, c.len.ensures)) l)
      ]);
      changed = λ j a l. rw p.plate_changed (elim (cases_eq j n) [
        | inl e ↦ rw (e, get_or-set_same old.plate_changed.items n work.changed 0 (omega (arith, v.counted.plate_changed, e, l))) last.counted
        | inr ne ↦ rw (get_or-set_other old.plate_changed.items n j work.changed 0 ne) (v.changed j (omega (arith, a, ne, one_more, c.len.ensures)) l)
      ]);
    }

pub loop-work-init : goal.loop-work-init
loop-work-init c = grind (arith, common_steps)
