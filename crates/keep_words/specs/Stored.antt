-- What the program holds of its words, as what they stand for.
use Rattle.std.specs.Prelude.{ℕ, ◌≤◌, codes, length, List, map, string_bytes}
use Rattle.plain_words.specs.Parts.{parts_of}
use Rattle.page_model.specs.Limits.{most_plates, most_trap_width, scale}
use Rattle.underprint.specs.declared.parts.White.{White}
use Rattle.keep_words.specs.declared.words.KeepArgs.{KeepArgs}
use Rattle.keep_words.specs.declared.words.UseArgs.{UseArgs}
use Rattle.keep_words.specs.declared.words.UseArgs.TheVariants as args
use Rattle.keep_words.specs.Words.{KeepWords, OptionWords, UseWords, WhiteWords, options_of, values_after}
use Rattle.keep_words.specs.Words.{white_of}
use Rattle.keep_words.specs.Words.UseWords.{Black, Colour}

-- what is asked for
abbrev pub used_in : UseArgs → List OptionWords → UseWords
used_in (args.Black width limit) options =
    Black width limit (values_after (codes "--except") options)
used_in args.Colour options = Colour (map white_of (values_after (codes "--underprint") options))

-- the words that are held
abbrev pub keep_in : KeepArgs → KeepWords
keep_in args = record {
  used = used_in args.used (options_of (map string_bytes args.options.now));
  job = args.job.now;
  report = args.report.now;
  plates = map parts_of (map string_bytes args.plates.now);
}

-- the width and the limit for rich black that are held, if any
abbrev pub width_stored : UseArgs → ℕ
width_stored (args.Black width limit) = width
width_stored args.Colour = 0

abbrev pub limit_stored : UseArgs → ℕ
limit_stored (args.Black width limit) = limit
limit_stored args.Colour = 0

-- the limits of the numbers
pub record AreNumbers (used : UseArgs) : Type 0 where
  pub narrow : width_stored used ≤ most_trap_width
  pub share : limit_stored used ≤ scale

-- the limits of what the words may ask for
pub record IsWithin (stored : KeepArgs) : Type 0 where
  pub numbers : AreNumbers stored.used
  pub some : 1 ≤ length stored.plates.now
  pub few : length stored.plates.now ≤ most_plates

-- an underprint as the words have it
abbrev pub white_words : White → WhiteWords
white_words white = record { name = white.name; width = white.width }
