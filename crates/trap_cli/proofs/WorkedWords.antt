-- Words and what they mean, worked out.
use Rattle.std.proofs.Common.{◌≡◌, [], ◌∷◌, Some, None, codes, refl}
use Rattle.clap.proofs.OnLiterals.{clap_on_literals}
use Rattle.trap_cli.specs.PageApp.{is_taken, rows_in}
use Rattle.trap_cli.specs.Words.{Page, PlateNames, Sample, command_of}

abbrev cyan : PlateNames
cyan = record { name = codes "C"; input = codes "a"; output = codes "b" }

plain : command_of (codes "page" ∷ codes "J" ∷ codes "R" ∷ codes "C:a:b" ∷ []) ≡ Some (Page (record { workers = 4; band = 64; job = codes "J"; report = codes "R"; plates = cyan ∷ [] }))
unfolding clap_on_literals is_taken rows_in
plain = refl

options : command_of (codes "page" ∷ codes "--band=8" ∷ codes "J" ∷ codes "--workers" ∷ codes "2" ∷ codes "R" ∷ codes "C:a:b" ∷ [])
    ≡ Some (Page (record { workers = 2; band = 8; job = codes "J"; report = codes "R"; plates = cyan ∷ [] }))
unfolding clap_on_literals is_taken rows_in
options = refl

help : command_of (codes "page" ∷ codes "--help" ∷ codes "J" ∷ codes "R" ∷ codes "C:a:b" ∷ []) ≡ None
unfolding clap_on_literals is_taken rows_in
help = refl

twice : command_of (codes "page" ∷ codes "--band=8" ∷ codes "--band=8" ∷ codes "J" ∷ codes "R" ∷ codes "C:a:b" ∷ []) ≡ None
unfolding clap_on_literals is_taken rows_in
twice = refl

no_plate : command_of (codes "page" ∷ codes "J" ∷ codes "R" ∷ []) ≡ None
unfolding clap_on_literals is_taken rows_in
no_plate = refl

same_output : command_of (codes "page" ∷ codes "J" ∷ codes "R" ∷ codes "C:a:R" ∷ []) ≡ None
unfolding clap_on_literals is_taken rows_in
same_output = refl

sample : command_of (codes "sample" ∷ codes "0" ∷ codes "16" ∷ codes "8" ∷ codes "2" ∷ []) ≡ Some (Sample (record { number = 0; width = 16; height = 8; workers = 2 }))
sample = refl
