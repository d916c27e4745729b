-- What a program holds of a word's parts, as the parts that it stands for.
use Rattle.plain_words.specs.Parts.{PlateNames, InputNames, CopyNames}
use Rattle.plain_words.specs.declared.parts.PlateWord.{PlateWord}
use Rattle.plain_words.specs.declared.parts.InputWord.{InputWord}
use Rattle.plain_words.specs.declared.parts.CopyWord.{CopyWord}

-- the parts of NAME:IN:OUT
abbrev pub names_in : PlateWord → PlateNames
names_in word = record { name = word.name.now; input = word.input.now; output = word.output.now }

-- the parts of NAME:IN
abbrev pub input_in : InputWord → InputNames
input_in word = record { name = word.name.now; input = word.input.now }

-- the parts of IN:OUT
abbrev pub copy_in : CopyWord → CopyNames
copy_in word = record { input = word.input.now; output = word.output.now }
