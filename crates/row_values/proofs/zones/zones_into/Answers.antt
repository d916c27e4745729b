-- What `zones_into` has to show.
use Rattle.std.proofs.Common.{◌∙◌, ◌+◌, ℕ}
use Rattle.page_model.specs.Page.{width}
use Rattle.row_values.specs.Rows.{zone_value}
use Rattle.row_values.proofs.RowLemmas.{rows_more}
use Rattle.row_values.proofs.zones.zones_into.Goals as goal

pub loop-k-preserved : goal.loop-k-preserved
loop-k-preserved c = record {
  end = c.loop-k.invariant.end;
  long = c.write_zones.ensures.len ∙ c.loop-k.invariant.long;
  spans = c.write_zones.ensures.spans ∙ c.loop-k.invariant.spans;
  extents = c.loop-k.invariant.extents;
  done = rows_more (width c.args.page.now) c.loop-k.k (λ (j : ℕ). zone_value c.args.page.now (c.args.rows.first + j)) c.loop-k.out c.write_zones.new.out c.write_zones.ensures.kept c.write_zones.ensures.here c.loop-k.invariant.done;
}
