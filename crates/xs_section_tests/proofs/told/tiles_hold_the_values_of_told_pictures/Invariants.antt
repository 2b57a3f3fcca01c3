use Rattle.std.proofs.Common.{Some}
use Rattle.xs_rawfile.specs.Held.{plain_picture}
use Rattle.xs_section_tests.proofs.told.tiles_hold_the_values_of_told_pictures.Given as goal

abbrev pub ghosts-lives : goal.ghosts-lives
ghosts-lives g a = record { pictures = Some (λ _. Some (plain_picture a.drawing)) }
