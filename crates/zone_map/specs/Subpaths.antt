-- Where a path's segment ends, and where its subpath began.
use Rattle.std.specs.Prelude.{if◌then◌else◌}
use Rattle.page_model.specs.declared.parts.Vertex.{Vertex}

-- where the segment from the vertex before v ends: at v, or at its subpath's start where v
-- begins another
abbrev pub segment_end : Vertex → Vertex → Vertex
segment_end start v = if v.starts then start else v

-- the start of v's subpath
abbrev pub start_at : Vertex → Vertex → Vertex
start_at start v = if v.starts then v else start
