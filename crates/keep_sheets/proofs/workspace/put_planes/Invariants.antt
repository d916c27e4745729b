-- The loop of put_planes: the planes so far are drawn back, and the others have places for as many tints.
use Rattle.std.proofs.Common.{◌≡◌, ℕ, ◌*◌, ◌<◌, ◌≤◌, length}
use Rattle.page_model.specs.Page.{height, plates, width}
use Rattle.page_model.specs.Planes.{plane_at}
use Rattle.keep_pages.specs.KeptPages.{kept_plane}
use Rattle.keep_sheets.proofs.workspace.put_planes.Given as goal

abbrev pub invariant-loop-c : goal.invariant-loop-c
invariant-loop-c l = record {
  end : l.c-end ≡ plates l.page;
  count : length l.planes ≡ plates l.page;
  done : (j : ℕ) → j < l.c → plane_at l.planes j ≡ kept_plane l.page l.used j;
  rest : (j : ℕ) → l.c ≤ j → j < plates l.page → length (plane_at l.planes j).tints ≡ width l.page * height l.page;
}
