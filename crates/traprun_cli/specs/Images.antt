-- What the bytes of a plate's file give for one page of many.
use Rattle.std.specs.Prelude.{◌≡◌, ℕ, ◌≤◌, List, ◌++◌, length}
use Rattle.page_files.specs.Inputs.{Decoder}
use Rattle.job_pages.specs.Runs.{page_job_of}
use Rattle.pgm_plates.specs.declared.plate.Plate.{Plate}
use Rattle.pgm_plates.specs.declared.plate.PlateFault.{PlateFault}
use Rattle.pgm_plates.specs.Faults.{IsFault}
use Rattle.pgm_plates.specs.Plates.{IsPlateFile}
use Rattle.pgm_plates.specs.Sequences.{IsSequence, IsOfImage, StandsAfter, further}

-- After as many plate files, one directly after the other, stands a plate file of this plate.
pub record HasImage (number : ℕ) (bytes : List ℕ) (plate : Plate) : Type 0 where
  pub image : List ℕ
  pub later : List ℕ
  pub prefix : StandsAfter bytes number (image ++ later)
  pub counted : length prefix.plates ≡ number
  pub is_image : IsPlateFile image plate

-- After at most as many plate files stands an image that is none: it has this fault, at its place
-- in the file.
pub record HasImageFault (number : ℕ) (bytes : List ℕ) (fault : PlateFault) : Type 0 where
  pub image : List ℕ
  pub prefix : StandsAfter bytes number image
  pub found : PlateFault
  pub is_fault : IsFault image found
  pub of_image : IsOfImage found
  pub place : fault ≡ further (length prefix.prefix) found

-- The bytes are at most as many plate files, one directly after the other, and nothing else.
abbrev pub HasNoImage : ℕ → List ℕ → Type 0
HasNoImage number bytes = (plates : List Plate) × IsSequence bytes plates × (length plates ≤ number)

-- page k of a job of many pages, and image k of each plate's file
abbrev pub page_decoder : ℕ → Decoder
page_decoder k = record {
  job = λ bytes. page_job_of bytes k;
  plate = HasImage k;
  fault = HasImageFault k;
}
