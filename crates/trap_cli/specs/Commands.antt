-- The files of a command of a page.
use Rattle.std.specs.Prelude.{ℕ}
use Rattle.page_files.specs.Inputs.{Sources}
use Rattle.plain_words.specs.Plates.{inputs_of, names_of, outputs_of}
use Rattle.trap_cli.specs.Words.{PageWords}
use Rattle.page_files.specs.Verdicts.{Targets}

-- the files that are read, with the plates' names
abbrev pub sources_of : PageWords → Sources
sources_of page =
    record { job = page.job; names = names_of page.plates; inputs = inputs_of page.plates }

-- the rows of a band in which a sample page is trapped
abbrev pub sample_band : ℕ
sample_band = 64

-- the files that are written
abbrev pub targets_of : PageWords → Targets
targets_of page = record { outputs = outputs_of page.plates; report = page.report }
