-- What the calls in pool_run pass on for clauses: gathers the page of each line in order, traps the
-- pages by so many workers, which take them by their line numbers from a queue, and gives a reply
-- for each line.
use Rattle.trap_pool.proofs.pool.pool_run.Given as goal

abbrev pub ghosts-trap_lines : goal.ghosts-trap_lines
ghosts-trap_lines g a = record { replies = a.gathering.lines.items }
