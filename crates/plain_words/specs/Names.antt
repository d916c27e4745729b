-- The names of colorants among the words.
use Rattle.std.specs.Prelude.{ℕ, Bool, not, ◌==◌, ◌&&◌, ◌||◌, nat_le, List, length}
use Rattle.std.specs.List.{list_all}
use Rattle.page_model.specs.Limits.{longest_name}

-- ( ) < > [ ] { } / and %, the delimiters of a job
abbrev pub is_delimiter : ℕ → Bool
is_delimiter b = b == 40 || b == 41 || b == 60 || b == 62 || b == 91 || b == 93 || b == 123
    || b == 125 || b == 47 || b == 37

-- a byte from 33 to 126 that is no delimiter
abbrev pub is_name_byte : ℕ → Bool
is_name_byte b = nat_le 33 b && nat_le b 126 && not (is_delimiter b)

-- 1 to 64 bytes that may stand in a name
abbrev pub is_name : List ℕ → Bool
is_name name =
    nat_le 1 (length name) && nat_le (length name) longest_name && list_all is_name_byte name
