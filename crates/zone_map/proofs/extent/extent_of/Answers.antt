-- extent_of: each vertex gone over lies between the heights so far.
use Rattle.std.proofs.Common.{◌≡◌, ◌∙◌, ℕ, ap, sym, subst, arith, pos, false, inl, inr}
use Rattle.std.specs.Prelude.{slice_index_or}
use Rattle.std.proofs.lemmas.Bool.{cases_lt}
use Rattle.page_model.specs.declared.parts.Vertex.{Vertex}
use Rattle.page_model.specs.Zones.{Point, corner}
use Rattle.zone_map.specs.Extents.{IsBetween}
use Rattle.zone_map.proofs.ExtentLemmas.{any_default, le_trans}
use Rattle.zone_map.proofs.Widths.{near_64}
use Rattle.zone_map.proofs.extent.extent_of.Goals as goal

abbrev zero_vertex : Vertex
zero_vertex = record { x = pos 0; y = pos 0; starts = false }

pub loop-i-preserved : goal.loop-i-preserved
loop-i-preserved c =
    let g = c.grown-extent.ensures in
    let r = c.args.resolution in
    let path = c.args.path.now in
    let i = c.loop-i.i in
    let here = rw (near_64 c.point_of.result.y c.point_of.ensures.near.y_near ∙ ap (λ (p : Point). p.py) c.point_of.ensures.value) at g.low_y in
    let above = rw (near_64 c.point_of.result.y c.point_of.ensures.near.y_near ∙ ap (λ (p : Point). p.py) c.point_of.ensures.value) at g.high_y in
    let between : IsBetween r c.grown-extent.result (slice_index_or path i zero_vertex) = record { low = here; high = above } in
    record {
      near = g.near;
      done = λ k d l. elim (cases_lt k i) [
        | inl h ↦ (let b = c.loop-i.invariant.done k d h in record {
          low = le_trans c.grown-extent.result.low c.loop-i.extent.low (corner r (slice_index_or path k d)).py g.low b.low;
          high = le_trans (corner r (slice_index_or path k d)).py c.loop-i.extent.high c.grown-extent.result.high b.high g.high;
        })
        | inr h ↦ (let same : i ≡ k = omega (arith, l, h) in
            subst (λ (v : Vertex). IsBetween r c.grown-extent.result v)
            (ap (λ (n : ℕ). slice_index_or path n zero_vertex) same ∙ any_default path k zero_vertex d (rw same at c.loop-i-test.true)) between)
      ];
    }
