-- Words of two or three parts with colons between them.
use Rattle.std.specs.Prelude.{ℕ, Bool, not, ◌==◌, ◌&&◌, nat_le, List, length}
use Rattle.std.specs.List.{list_any, before_first, after_first}
use Rattle.plain_words.specs.Names.{is_name}

-- NAME:IN:OUT: the name of a plate's colorant, the file that is read and the one that is written
pub record PlateNames : Type 0 where
  pub name : List ℕ
  pub input : List ℕ
  pub output : List ℕ

-- NAME:IN
pub record InputNames : Type 0 where
  pub name : List ℕ
  pub input : List ℕ

-- IN:OUT
pub record CopyNames : Type 0 where
  pub input : List ℕ
  pub output : List ℕ

-- the byte of a colon
abbrev pub is_colon : ℕ → Bool
is_colon b = b == 58

-- a text that is not empty
abbrev pub is_some_text : List ℕ → Bool
is_some_text text = nat_le 1 (length text)

-- what stands before the first colon
abbrev pub before_colon : List ℕ → List ℕ
before_colon word = before_first is_colon word

-- what stands after the first colon
abbrev pub after_colon : List ℕ → List ℕ
after_colon word = after_first is_colon word

-- a text that is not empty, and in which no colon is left
abbrev pub is_last_part : List ℕ → Bool
is_last_part text = is_some_text text && not (list_any is_colon text)

-- the parts of a word before its first colon, between its first two and after them
abbrev pub parts_of : List ℕ → PlateNames
parts_of word =
    record {
      name = before_colon word;
      input = before_colon (after_colon word);
      output = after_colon (after_colon word);
    }

-- a name, a file to read and one to write, none of them empty, and no third colon
abbrev pub is_plate : PlateNames → Bool
is_plate plate = is_name plate.name && is_some_text plate.input && is_some_text plate.output
    && not (list_any is_colon plate.output)

-- the parts of a word before its first colon and after it
abbrev pub input_of : List ℕ → InputNames
input_of word = record { name = before_colon word; input = after_colon word }

-- a name and a file to read, and no second colon
abbrev pub is_input : InputNames → Bool
is_input plate = is_name plate.name && is_last_part plate.input

-- the same parts, as a file to read and one to write
abbrev pub copy_of : List ℕ → CopyNames
copy_of word = record { input = before_colon word; output = after_colon word }

-- a file to read and one to write, and no second colon
abbrev pub is_copy : CopyNames → Bool
is_copy plate = is_some_text plate.input && is_last_part plate.output
