-- The files of a command, in the order in which they are read and written.
use Rattle.std.specs.Prelude.{ℕ, List, [], ◌∷◌, ◌++◌, map}
use Rattle.page_files.specs.Inputs.{Sources, read_files}
use Rattle.plain_words.specs.Parts.{InputNames, CopyNames}
use Rattle.plain_words.specs.Inputs.{names_of}
use Rattle.trapset_cli.specs.Words.{TrapsWords, ApplyWords, Command, Traps, Apply, outputs_of}

-- the job and the plates of `traps`, with the plates' names
abbrev pub sources_of : TrapsWords → Sources
sources_of words = record {
  job = words.job;
  names = names_of words.plates;
  inputs = map (λ (p : InputNames). p.input) words.plates;
}

-- the plates of `apply`
abbrev pub inputs_of : ApplyWords → List (List ℕ)
inputs_of words = map (λ (p : CopyNames). p.input) words.plates

-- the files that are read: of `traps` the job and then the plates, of `apply` the plates and then
-- the set
abbrev pub read_names : Command → List (List ℕ)
read_names (Traps words) = read_files (sources_of words)
read_names (Apply words) = inputs_of words ++ words.set ∷ []

-- the files that are written: of `traps` the set, of `apply` the plates
abbrev pub written_names : Command → List (List ℕ)
written_names (Traps words) = words.set ∷ []
written_names (Apply words) = outputs_of words.plates
