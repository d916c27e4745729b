-- The room that a pool takes before it begins.
use Rattle.std.specs.Prelude.{◌≡◌, ℕ, ◌≤◌, ◌<◌, true, [], vec_capacity, vec_len, All}
use Rattle.crossbeam_queue.specs.Passes.{IsPassOf, view}
use Rattle.trap_pool.specs.Rule.{pass_view, whole}
use Rattle.trap_pool.specs.Serving.{IsUnused}
use Rattle.trap_pool.specs.declared.gathering.Gathering.{Gathering}
use Rattle.trap_pool.specs.declared.pool.PoolWorkspace.{PoolWorkspace}
use Rattle.trap_pool.specs.declared.trapping.Opening.{Opening}

-- the queue's opening pass, and rooms that no worker has been in
pub record IsOpen (opening : Opening) : Type 0 where
  pub passes : IsPassOf opening.queue opening.pass
  pub first : view opening.pass ≡ pass_view whole true [] []
  pub few : vec_len opening.workspaces < whole
  pub unused : All IsUnused opening.workspaces.items

-- room for `lines` lines and their pages, in which none are yet
pub record IsWorkspaceOf (lines : ℕ) (workspace : Gathering) : Type 0 where
  pub no_line : workspace.lines.items ≡ []
  pub line_workspace : lines ≤ vec_capacity workspace.lines
  pub no_page : workspace.pages.items ≡ []
  pub page_workspace : lines ≤ vec_capacity workspace.pages

-- room for `lines` lines, and for as many workers as are asked for
pub record IsWorkspaceFor (lines workers : ℕ) (workspace : PoolWorkspace) : Type 0 where
  pub gathering : IsWorkspaceOf lines workspace.gathering
  pub no_reply : workspace.replies.items ≡ []
  pub replies : lines ≤ vec_capacity workspace.replies
  pub no_number : workspace.numbers.items ≡ []
  pub numbers : lines ≤ vec_capacity workspace.numbers
  pub workspaces : vec_len workspace.opening.workspaces ≡ workers
  pub unused : All IsUnused workspace.opening.workspaces.items
  pub passes : IsPassOf workspace.opening.queue workspace.opening.pass
  pub first : view workspace.opening.pass ≡ pass_view whole true [] []
