-- What is printed for words that mean no run.
use Rattle.std.specs.Prelude.{ℕ, List, codes}
use Rattle.common_errors.specs.Lines.{line}

abbrev pub usage_line : List ℕ
usage_line = line (codes "usage: traprun WORKERS BAND JOB REPORT NAME:IN:OUT ...")
