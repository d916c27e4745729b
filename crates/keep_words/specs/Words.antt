-- What the words of `trapkeep` mean.
use Rattle.std.specs.Prelude.{ℕ, suc, ◌+◌, Bool, true, false, not, ◌&&◌, ◌||◌, ◌==◌, nat_le, max}
use Rattle.std.specs.Prelude.{List, [], ◌∷◌, codes, drop, map, take, if◌then◌else◌, Option, Some, None}
use Rattle.std.specs.List.{list_all, list_any}
use Rattle.std.specs.Str.{bytes_eq}
use Rattle.plain_words.specs.Parts.{PlateNames, parts_of}
use Rattle.plain_words.specs.Plates.{are_plates, names_of, stand_together}
use Rattle.plain_words.specs.Written.{reads_written as reads_named}
use Rattle.page_model.specs.Limits.{most_trap_width, scale}
use Rattle.keep_words.specs.Numbers.{points_of}

-- an option and the word after it
pub record OptionWords : Type 0 where
  pub key : List ℕ
  pub value : List ℕ

-- an underprint, and by which width it is drawn back, in ten-thousandths of a point
pub record WhiteWords : Type 0 where
  pub name : List ℕ
  pub width : ℕ

-- what is asked for
pub data UseWords : Type 0 where
  -- inks are drawn back under black: by which width; from which share of full ink on a pixel is
  -- black, in ten-thousandths; and the inks to leave alone
  Black : ℕ → ℕ → List (List ℕ) → UseWords
  -- these underprints are drawn back under colour
  Colour : List WhiteWords → UseWords

-- the greatest width of some underprints
abbrev pub widest_of : List WhiteWords → ℕ
widest_of [] = 0
widest_of (w ∷ ws) = max w.width (widest_of ws)

-- the greatest width that is asked for
abbrev pub widest : UseWords → ℕ
widest (Black width limit spared) = width
widest (Colour whites) = widest_of whites

-- what is asked for, and the files that are read and written
pub record KeepWords : Type 0 where
  pub used : UseWords
  pub job : List ℕ
  pub report : List ℕ
  pub plates : List PlateNames

-- two hyphens and more
abbrev pub is_key : List ℕ → Bool
is_key (a ∷ b ∷ c ∷ rest) = (a == 45) && (b == 45)
is_key _ = false

-- the options that the words begin with
abbrev pub options_of : List (List ℕ) → List OptionWords
options_of (key ∷ value ∷ rest) =
    if is_key key then record { key = key; value = value } ∷ options_of rest else []
options_of _ = []

-- without the `--` that may end the options
abbrev pub after_dashes : List (List ℕ) → List (List ℕ)
after_dashes (first ∷ rest) = if bytes_eq first (codes "--") then rest else first ∷ rest
after_dashes [] = []

-- the words after the options
abbrev pub rest_of : List (List ℕ) → List (List ℕ)
rest_of (key ∷ value ∷ rest) =
    if is_key key then rest_of rest else after_dashes (key ∷ value ∷ rest)
rest_of words = after_dashes words

-- how often an option stands there
abbrev pub count_of : List ℕ → List OptionWords → ℕ
count_of wanted [] = 0
count_of wanted (o ∷ os) = (if bytes_eq o.key wanted then 1 else 0) + count_of wanted os

-- the word after the option, where it first stands
abbrev pub value_after : List ℕ → List OptionWords → Option (List ℕ)
value_after wanted [] = None
value_after wanted (o ∷ os) = if bytes_eq o.key wanted then Some o.value else value_after wanted os

-- the words after each of its places
abbrev pub values_after : List ℕ → List OptionWords → List (List ℕ)
values_after wanted [] = []
values_after wanted (o ∷ os) =
    if bytes_eq o.key wanted then o.value ∷ values_after wanted os else values_after wanted os

-- an option of the program
abbrev pub is_known : List ℕ → Bool
is_known key = bytes_eq key (codes "--rich-black") || bytes_eq key (codes "--black-limit")
    || bytes_eq key (codes "--except") || bytes_eq key (codes "--underprint")

-- options for rich black: one width and at most one limit
abbrev pub ask_for_black : List OptionWords → Bool
ask_for_black options = (count_of (codes "--rich-black") options == 1)
    && nat_le (count_of (codes "--black-limit") options) 1
    && (count_of (codes "--underprint") options == 0)

-- options for underprints alone
abbrev pub ask_for_colour : List OptionWords → Bool
ask_for_colour options = (count_of (codes "--rich-black") options == 0)
    && (count_of (codes "--black-limit") options == 0)
    && (count_of (codes "--except") options == 0)
    && nat_le 1 (count_of (codes "--underprint") options)

-- options of the program, for one of its uses
abbrev pub are_options : List OptionWords → Bool
are_options options = list_all (λ o. is_known o.key) options
    && (ask_for_black options || ask_for_colour options)

-- the width, if it is a number of points up to 100
abbrev pub width_in : Option (List ℕ) → Option ℕ
width_in None = None
width_in (Some word) = points_of most_trap_width word

-- the limit, if it is a number up to 1, and 0.85 where there is none
abbrev pub limit_in : Option (List ℕ) → Option ℕ
limit_in None = Some 8500
limit_in (Some word) = points_of scale word

-- one place later, or the first place, if it is here
abbrev pub later_or : Option ℕ → Bool → Option ℕ
later_or (Some k) here = Some (suc k)
later_or None here = if here then Some 0 else None

-- where the last equals sign of a word stands, if it has one
abbrev pub last_equals : List ℕ → Option ℕ
last_equals [] = None
last_equals (b ∷ bs) = later_or (last_equals bs) (b == 61)

-- what stands before a place, or all
abbrev pub before_place : List ℕ → Option ℕ → List ℕ
before_place word (Some k) = take k word
before_place word None = word

-- what stands after a place
abbrev pub after_place : List ℕ → Option ℕ → List ℕ
after_place word (Some k) = drop (k + 1) word
after_place word None = []

-- what stands before the last equals sign, and what stands after it
abbrev pub before_equals : List ℕ → List ℕ
before_equals word = before_place word (last_equals word)

abbrev pub after_equals : List ℕ → List ℕ
after_equals word = after_place word (last_equals word)

-- the width of an underprint's word, if it is a number of points up to 100
abbrev pub white_width : List ℕ → Option ℕ
white_width word = points_of most_trap_width (after_equals word)

-- a number, or 0 where there is none
abbrev pub number_or : Option ℕ → ℕ
number_or None = 0
number_or (Some n) = n

-- whether there is a number
abbrev pub is_number : Option ℕ → Bool
is_number None = false
is_number (Some n) = true

-- the underprint of a word NAME=WIDTH
abbrev pub white_of : List ℕ → WhiteWords
white_of word = record { name = before_equals word; width = number_or (white_width word) }

-- the greater of the width of such a word and of another width
unfoldable pub wider : List ℕ → ℕ → ℕ
wider word width = max (number_or (white_width word)) width

-- the greatest width of such words
abbrev pub widest_in : List (List ℕ) → ℕ
widest_in [] = 0
widest_in (w ∷ ws) = wider w (widest_in ws)

-- a word is NAME=WIDTH, with the name of a plate, and none of the words after it has that name
abbrev pub is_white : List ℕ → List (List ℕ) → List PlateNames → Bool
is_white w ws plates = is_number (white_width w)
    && list_any (bytes_eq (before_equals w)) (names_of plates)
    && not (list_any (λ v. bytes_eq (before_equals w) (before_equals v)) ws)

-- each word is so
abbrev pub are_whites : List (List ℕ) → List PlateNames → Bool
are_whites [] plates = true
are_whites (w ∷ ws) plates = is_white w ws plates && are_whites ws plates

-- each ink that is left alone is that of a plate
abbrev pub are_named : List (List ℕ) → List PlateNames → Bool
are_named spared plates = list_all (λ name. list_any (bytes_eq name) (names_of plates)) spared

-- whether a file that is read is one that is written, each by the name that its word is
abbrev pub reads_written : List ℕ → List ℕ → List PlateNames → Bool
reads_written = reads_named (λ word name. bytes_eq name word)

-- whether the files and the inks go together
abbrev pub go_together : List ℕ → List ℕ → List (List ℕ) → List OptionWords → Bool
go_together job report words options = are_plates words && stand_together report (map parts_of words)
    && not (reads_written job report (map parts_of words))
    && are_named (values_after (codes "--except") options) (map parts_of words)
    && are_whites (values_after (codes "--underprint") options) (map parts_of words)

-- rich black with the numbers that are known
abbrev pub black_with : Option ℕ → Option ℕ → List (List ℕ) → Option UseWords
black_with (Some width) (Some limit) spared = Some (Black width limit spared)
black_with _ _ spared = None

-- what these options ask for
abbrev pub used_by : List OptionWords → Option UseWords
used_by options = if ask_for_black options
    then black_with (width_in (value_after (codes "--rich-black") options))
    (limit_in (value_after (codes "--black-limit") options))
    (values_after (codes "--except") options)
    else Some (Colour (map white_of (values_after (codes "--underprint") options)))

-- with what is asked for, if that is known
abbrev pub keep_with : Option UseWords → List OptionWords → List ℕ → List ℕ → List (List ℕ)
    → Option KeepWords
keep_with (Some used) options job report words =
    if go_together job report words options then Some (record {
      used = used;
      job = job;
      report = report;
      plates = map parts_of words;
    }) else None
keep_with None options job report words = None

-- with these options
abbrev pub keep_by : List OptionWords → List (List ℕ) → Option KeepWords
keep_by options (job ∷ report ∷ words) = keep_with (used_by options) options job report words
keep_by options _ = None

-- what the words after the program's name mean:
-- --rich-black W [--black-limit L] [--except NAME] .. JOB REPORT NAME:IN:OUT .., or
-- --underprint NAME=W .. JOB REPORT NAME:IN:OUT ..
abbrev pub keep_of : List (List ℕ) → Option KeepWords
keep_of words =
    if are_options (options_of words) then keep_by (options_of words) (rest_of words) else None
