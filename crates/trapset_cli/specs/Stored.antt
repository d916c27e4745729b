-- What the program holds of a command, as the words that it stands for.
use Rattle.std.specs.Prelude.{length, map, string_bytes}
use Rattle.plain_words.specs.Inputs.{AreFew}
use Rattle.plain_words.specs.Parts.{input_of, copy_of}
use Rattle.trapset_cli.specs.Words.{TrapsWords, ApplyWords, Command as Meaning, Traps as traps}
use Rattle.trapset_cli.specs.Words.{Apply as apply}
use Rattle.trapset_cli.specs.declared.command.TrapsArgs.{TrapsArgs}
use Rattle.trapset_cli.specs.declared.command.ApplyArgs.{ApplyArgs}
use Rattle.trapset_cli.specs.declared.command.Command.{Command}
use Rattle.trapset_cli.specs.declared.command.Command.TheVariants.{Traps, Apply}

-- a command of `traps`
abbrev pub traps_in : TrapsArgs → TrapsWords
traps_in c = record {
  job = c.job.now;
  set = c.set.now;
  plates = map input_of (map string_bytes c.plates.now);
}

-- a command of `apply`
abbrev pub apply_in : ApplyArgs → ApplyWords
apply_in c = record { set = c.set.now; plates = map copy_of (map string_bytes c.plates.now) }

-- either of them
abbrev pub command_in : Command → Meaning
command_in (Traps c) = traps (traps_in c)
command_in (Apply c) = apply (apply_in c)

-- the limits of what the words may ask for
abbrev pub IsWithin : Command → Type 0
IsWithin (Traps c) = AreFew (length c.plates.now)
IsWithin (Apply c) = AreFew (length c.plates.now)
