-- The files of a command, in the order in which they are read and written, and what it asks for.
use Rattle.std.specs.Prelude.{◌≡◌, ℕ, ◌*◌, ◌<◌, List, ◌∷◌, [], ◌++◌, map}
use Rattle.keep_pages.specs.declared.uses.KeepUse.{KeepUse}
use Rattle.keep_pages.specs.declared.uses.KeepUse.TheVariants.{UnderBlack, UnderColour}
use Rattle.keep_words.specs.Stored.{white_words}
use Rattle.keep_words.specs.Words.{KeepWords, UseWords, widest}
use Rattle.keep_words.specs.Words.UseWords.{Black, Colour}
use Rattle.keepaway.specs.declared.parts.RichBlack.{RichBlack}
use Rattle.keepaway.specs.Keepaway.{pixel}
use Rattle.page_files.specs.Inputs.{Sources}
use Rattle.page_model.specs.declared.parts.PageParts.{PageParts}
use Rattle.page_model.specs.Limits.{most_reach}
use Rattle.plain_words.specs.Plates.{inputs_of, names_of, outputs_of}

-- the job and the plates, with the plates' names
abbrev pub sources_of : KeepWords → Sources
sources_of words = record {
  job = words.job;
  names = names_of words.plates;
  inputs = inputs_of words.plates;
}

-- the files that the plates are written into
abbrev pub written_plates : KeepWords → List (List ℕ)
written_plates words = outputs_of words.plates

-- all files that are written: the plates and then the report
abbrev pub written_names : KeepWords → List (List ℕ)
written_names words = written_plates words ++ words.report ∷ []

-- how inks are drawn back under black
pub record IsRich (width limit : ℕ) (spared : List (List ℕ)) (rich : RichBlack) : Type 0 where
  pub width_is : rich.width ≡ width
  pub limit_is : rich.limit ≡ limit
  pub spared_are : rich.spared ≡ spared

-- what is drawn back is what the words ask for
abbrev pub AsksFor : UseWords → KeepUse → Type 0
AsksFor (Black width limit spared) (UnderBlack rich) = IsRich width limit spared rich
AsksFor (Colour words) (UnderColour whites) = map white_words whites ≡ words
AsksFor words other = ⊥

-- what is drawn back by these words
abbrev pub IsUsed : KeepWords → KeepUse → Type 0
IsUsed words used = AsksFor words.used used

-- at the page's resolution a width is more than 128 pixels
abbrev pub IsWide : KeepWords → PageParts → Type 0
IsWide words page = most_reach * pixel < 2 * (widest words.used * page.resolution)
