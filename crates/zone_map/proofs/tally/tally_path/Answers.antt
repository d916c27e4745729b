-- tally_path: counts where the segments of a path cross the row at height y, and tells how many do.
use Rattle.std.proofs.Common.{◌≡◌, ◌∙◌, ◌<◌, ◌+◌, length, sym, ap, arith, false, pos, ℕ, w64, rules}
use Rattle.std.specs.Prelude.{slice_index_or}
use Rattle.page_model.specs.declared.parts.Vertex.{Vertex}
use Rattle.page_model.specs.Zones.{corner}
use Rattle.std.proofs.lemmas.Grind.{common_steps}
use Rattle.zone_map.specs.PagePoints.{middle, point}
use Rattle.zone_map.specs.Tallies.{left}
use Rattle.zone_map.proofs.TallyLemmas.{left-none}
use Rattle.zone_map.proofs.TurnLemmas.{turns-on, turns-done, begun, start_at-near, winding-none}
use Rattle.zone_map.proofs.Widths.{near_64}
use Rattle.zone_map.proofs.tally.tally_path.Goals as goal
use mir.Val.{to_z, of_z}

abbrev zero_vertex : Vertex
zero_vertex = record { x = pos 0; y = pos 0; starts = false }

pub returns-then-is_empty-clause-turns : goal.returns-then-is_empty-clause-turns
returns-then-is_empty-clause-turns c = λ x l.
    let none : length c.args.path.now ≡ 0 = search (arith, rules, c.if-is_empty.true, c.if-is_empty.ensures) in
    left-none c.args.ups.now c.args.downs.now (x + 1) c.requires.no_ups c.requires.no_downs ∙ sym (winding-none c.args.resolution (middle x c.args.y) c.args.path.now none)

pub loop-i-init : goal.loop-i-init
loop-i-init c =
    let some : 0 < length c.args.path.now = search (arith, rules, c.if-is_empty.false, c.if-is_empty.ensures) in
    record {
      done = λ x l. begun _ c.args.resolution (middle x _) c.args.path.now zero_vertex some (left-none c.args.ups.now c.args.downs.now (x + 1) c.requires.no_ups c.requires.no_downs);
      count = omega (arith, c.requires.no_ups, c.requires.no_downs);
      few = omega arith;
      ups = c.requires.ups;
      downs = c.requires.downs;
      start_near = c.requires.path 0 zero_vertex some;
      last_near = c.requires.path 0 zero_vertex some;
    }

pub loop-i-preserved : goal.loop-i-preserved
loop-i-preserved c =
    let r = c.args.resolution in
    let path = c.args.path.now in
    let start = c.loop-i.start in
    let v = slice_index_or path c.loop-i.i zero_vertex in
    let inv = c.loop-i.invariant in
    let note = c.note_segment-crossings.ensures in
    record {
      done = λ x l. turns-on r (middle x (to_z w64 (of_z w64 c.args.y))) start c.loop-i.last zero_vertex c.start_at-start.result path c.loop-i.i (left c.loop-i.ups c.loop-i.downs x) _ (point c.point_of-a.result) (point c.point_of-b.result) c.loop-i-test.true (note.turned x l) c.point_of-a.ensures.value (c.point_of-b.ensures.value ∙ ap (λ (u : Vertex). corner r u) c.segment_end.ensures) c.start_at-start.ensures (inv.done x l);
      count = note.count ∙ ap (λ (n : ℕ). n + c.note_segment-crossings.result) inv.count;
      few = omega (arith, inv.few, note.one);
      ups = note.ups;
      downs = note.downs;
      start_near = rw c.start_at-start.ensures (start_at-near start v inv.start_near (c.requires.path c.loop-i.i zero_vertex c.loop-i-test.true));
      last_near = c.requires.path c.loop-i.i zero_vertex c.loop-i-test.true;
    }

pub returns-clause-turns : goal.returns-clause-turns
returns-clause-turns c = λ x l.
    turns-done c.args.resolution (middle x c.args.y) c.loop-i.start c.loop-i.last c.args.path.now c.loop-i.i (left c.loop-i.ups c.loop-i.downs x) _ (point c.point_of-a-2.result) (point c.point_of-b-2.result) c.loop-i-test.false
    (rw (near_64 c.args.y c.requires.y) at (c.note_segment.ensures.turned x l)) c.point_of-a-2.ensures.value c.point_of-b-2.ensures.value
    (rw (near_64 c.args.y c.requires.y) at (c.loop-i.invariant.done x l))

pub point_of-b-requires-clause-vertex : goal.point_of-b-requires-clause-vertex
point_of-b-requires-clause-vertex c = grind (arith, common_steps)

pub returns-clause-few : goal.returns-clause-few
returns-clause-few c = grind (arith, common_steps)
