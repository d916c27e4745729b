-- What a pass knows, and how each kind of step changes it.
use Rattle.std.specs.Prelude.{◌≡◌, ◌≢◌, ◌⊎◌, ℕ, ◌+◌, ◌<◌, ◌≤◌, ◌==◌, Bool, true, false, List, []}
use Rattle.std.specs.Prelude.{◌∷◌, ◌++◌, Option, Some, None, if◌then◌else◌}
use Rattle.page_model.specs.declared.bands.Bands.{Bands}
use Rattle.band_core.specs.Needs.{is_need}
use Rattle.band_claims.specs.declared.table_key.TableKey.{TableKey}
use Rattle.band_claims.specs.declared.view.View.{View}
use Rattle.band_claims.specs.declared.view.Look.{Look}
use Rattle.band_claims.specs.Shares.{halved}

abbrev pub one_if : Bool → ℕ
one_if true = 1
one_if false = 0

-- how often x stands in the list
abbrev pub times : ℕ → List ℕ → ℕ
times x [] = 0
times x (y ∷ ys) = one_if (x == y) + times x ys

-- f of each view, added up
abbrev pub total : (View → ℕ) → List View → ℕ
total f [] = 0
total f (v ∷ vs) = f v + total f vs

abbrev pub is_hand : ℕ → Option ℕ → ℕ
is_hand i None = 0
is_hand i (Some j) = one_if (i == j)

-- 1 where the view holds the piece, else 0
abbrev pub holds : ℕ → View → ℕ
holds i v = is_hand i v.stored

abbrev pub publishes : ℕ → View → ℕ
publishes i v = times i v.published

-- the pass saw the piece Done, or published it
abbrev pub Knows : View → ℕ → Type 0
Knows v i = 1 ≤ times i v.published + times i v.seen

-- a pass published each piece once at most, and knows pieces alone
pub record IsFair (pieces : ℕ) (v : View) : Type 0 where
  pub once : (i : ℕ) → times i v.published ≤ 1
  pub in_range : (i : ℕ) → Knows v i → i < pieces

abbrev pub look : ℕ → ℕ → Look
look i n = record { piece = i; word = n }

abbrev pub newcomer : TableKey → View
newcomer key =
    record {
      table_key = Some key;
      stored = None;
      filled = 0;
      published = [];
      seen = [];
      looked = [];
      reported = [];
      share = 0 ∷ [];
    }

abbrev pub spent : View
spent =
    record {
      table_key = None;
      stored = None;
      filled = 0;
      published = [];
      seen = [];
      looked = [];
      reported = [];
      share = [];
    }

-- a load of the word of piece i that found n
abbrev pub looked_at : ℕ → ℕ → View → View
looked_at i n v =
    record {
      table_key = v.table_key;
      stored = v.stored;
      filled = v.filled;
      published = v.published;
      seen = (if n == 2 then v.seen ++ i ∷ [] else v.seen);
      looked = v.looked ++ look i n ∷ [];
      reported = v.reported ++ look i n ∷ [];
      share = v.share;
    }

-- an exchange of the word of piece i, from 0 to 1, that found n
abbrev pub claimed : ℕ → ℕ → View → View
claimed i n v =
    if n == 0 then record {
      table_key = v.table_key;
      stored = Some i;
      filled = 0;
      published = v.published;
      seen = v.seen;
      looked = [];
      reported = v.reported ++ look i 1 ∷ [];
      share = v.share;
    }
    else record {
      table_key = v.table_key;
      stored = v.stored;
      filled = v.filled;
      published = v.published;
      seen = v.seen;
      looked = v.looked ++ look i n ∷ [];
      reported = v.reported ++ look i n ∷ [];
      share = v.share;
    }

-- a store of the next cell
abbrev pub put : View → View
put v =
    record {
      table_key = v.table_key;
      stored = v.stored;
      filled = v.filled + 1;
      published = v.published;
      seen = v.seen;
      looked = v.looked;
      reported = v.reported;
      share = v.share;
    }

-- a store of 2 in the word of piece i
abbrev pub finished : ℕ → View → View
finished i v =
    record {
      table_key = v.table_key;
      stored = None;
      filled = 0;
      published = v.published ++ i ∷ [];
      seen = v.seen;
      looked = [];
      reported = v.reported ++ look i 2 ∷ [];
      share = v.share;
    }

-- a view whose seat is split: it keeps half of its share, or all where the new seat is to read
-- alone
abbrev pub parted : Bool → View → View
parted works v =
    record {
      table_key = v.table_key;
      stored = v.stored;
      filled = v.filled;
      published = v.published;
      seen = v.seen;
      looked = v.looked;
      reported = v.reported;
      share = (if works then halved v.share else v.share);
    }

-- the new seat's
abbrev pub branched : Bool → View → View
branched works v =
    record {
      table_key = v.table_key;
      stored = None;
      filled = 0;
      published = [];
      seen = v.seen ++ v.published;
      looked = [];
      reported = v.reported;
      share = (if works then halved v.share else []);
    }

abbrev pub joined : View → View → View
joined v w =
    record {
      table_key = v.table_key;
      stored = v.stored;
      filled = v.filled;
      published = v.published ++ w.published;
      seen = v.seen ++ w.seen;
      looked = v.looked;
      reported = v.reported;
      share = v.share ++ w.share;
    }

-- w is v after some loads of pieces' words
pub record Looks (v w : View) : Type 0 where
  pub same_table_key : w.table_key ≡ v.table_key
  pub same_stored : w.stored ≡ v.stored
  pub same_filled : w.filled ≡ v.filled
  pub same_published : w.published ≡ v.published
  pub more_seen : (more : List ℕ) × (w.seen ≡ v.seen ++ more)
  pub more_looked : (more : List Look) × (w.looked ≡ v.looked ++ more)
  pub more_reported : (more : List Look) × (w.reported ≡ v.reported ++ more)
  pub same_share : w.share ≡ v.share

-- the exchange won: w holds the piece, and knows each of its needs
pub record Won (bands : Bands) (piece : ℕ) (v w : View) : Type 0 where
  pub same_table_key : w.table_key ≡ v.table_key
  pub holding : w.stored ≡ Some piece
  pub none_filled : w.filled ≡ 0
  pub same_published : w.published ≡ v.published
  pub more_seen : (more : List ℕ) × (w.seen ≡ v.seen ++ more)
  pub no_looks : w.looked ≡ []
  pub more_reported : (more : List Look) × (w.reported ≡ v.reported ++ more)
  pub same_share : w.share ≡ v.share
  pub known : (n : ℕ) → is_need bands piece n ≡ true → Knows w n

-- why a claim fails: the last look found a need that is not done, or the piece itself not free
abbrev pub Error : Bands → ℕ → Look → Type 0
Error bands piece last = ((is_need bands piece last.piece ≡ true) × (last.word ≢ 2))
    ⊎ ((last.piece ≡ piece) × (last.word ≢ 0))

pub record Lost (bands : Bands) (piece : ℕ) (v w : View) : Type 0 where
  pub looks : Looks v w
  pub last : Look
  pub found : (more : List Look) × (w.looked ≡ v.looked ++ (more ++ last ∷ []))
  pub reason : Error bands piece last
