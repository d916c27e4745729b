-- The files that the words of a sheet name.
use Rattle.page_files.specs.Inputs.{Sources}
use Rattle.plain_words.specs.Plates.{inputs_of, names_of, outputs_of}
use Rattle.trapsheet_cli.specs.Words.{SheetWords}
use Rattle.page_files.specs.Verdicts.{Targets}

-- the files that are read, with the plates' names
abbrev pub sources_of : SheetWords → Sources
sources_of order = record {
  job = order.job;
  names = names_of order.plates;
  inputs = inputs_of order.plates;
}

-- the files that are written
abbrev pub targets_of : SheetWords → Targets
targets_of order = record { outputs = outputs_of order.plates; report = order.report }
