-- The lists that a scene is read from.
use Rattle.std.specs.Prelude.{◌≡◌, ℕ, ◌+◌, ◌*◌, ◌==◌, List, length, slice_index, if◌then◌else◌}
use Rattle.draw_back.specs.Drawn.{Scene, drawn}

-- rows of so many pixels, from the top: for each pixel a mark, 0 where it is not covered, and the
-- ink's tint
pub record Lists : Type 0 where
  pub wide : ℕ
  pub tall : ℕ
  pub marks : List ℕ
  pub tints : List ℕ

-- the lists have an entry for each pixel
pub record AreFull (lists : Lists) : Type 0 where
  pub marks : length lists.marks ≡ lists.wide * lists.tall
  pub tints : length lists.tints ≡ lists.wide * lists.tall

-- the entry of column j in row k
abbrev pub entry : List ℕ → ℕ → ℕ → ℕ → ℕ
entry list wide j k = slice_index list (k * wide + j)

-- the scene of the lists
abbrev pub scene_of : Lists → ℕ → Scene
scene_of lists limit = record {
  wide = lists.wide;
  tall = lists.tall;
  is_free = λ j k. entry lists.marks lists.wide j k == 0;
  tint_at = λ j k. entry lists.tints lists.wide j k;
  limit = limit;
}

-- the new tint of column x in row y: the one that it is drawn back to where it may change, else the
-- old one
abbrev pub kept : Lists → ℕ → ℕ → ℕ → ℕ
kept lists limit x y = if entry lists.marks lists.wide x y == 2 then drawn (scene_of lists limit) x y
    else entry lists.tints lists.wide x y
