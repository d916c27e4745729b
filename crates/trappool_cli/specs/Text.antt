-- What a pool tells.
use Rattle.std.specs.Prelude.{ℕ, List, ◌++◌, codes, decimal}
use Rattle.common_errors.specs.CommonErrors.{line_of}
use Rattle.common_errors.specs.Lines.{line}
use Rattle.trappool_cli.specs.declared.answering.LineStatus.{LineStatus}
use Rattle.trappool_cli.specs.declared.answering.LineStatus.TheVariants.{Done, Refused, TooLarge}

-- what is said of a line
abbrev pub said_text : LineStatus → List ℕ
said_text Done = line (codes "done")
said_text TooLarge = line (codes "TooLarge")
said_text (Refused error) = line_of error

-- the prefix of the line that is printed for a job of the list
abbrev pub job_name : ℕ → List ℕ
job_name number = codes "job " ++ decimal number ++ codes ": "

-- all of that line
abbrev pub job_line : ℕ → LineStatus → List ℕ
job_line number said = job_name number ++ said_text said

-- the line of the first bad line of a list
abbrev pub bad_line : ℕ → List ℕ
bad_line number = line (codes "list: BadLine " ++ decimal number)

-- the line of a list that could not be read
abbrev pub unread_line : List ℕ
unread_line = line (codes "read fault: list")

-- what is printed for words that mean nothing
abbrev pub usage_line : List ℕ
usage_line = line (codes "usage: trappool WORKERS LIST")
