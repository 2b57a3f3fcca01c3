use Rattle.xs_levels.proofs.Written.{pictures_hold, pictures_coloured}
use Rattle.xs_levels.proofs.laws.pictures_of_files_are_coloured_as_written.Goals as goal

pub returns-clause-pixels : goal.returns-clause-pixels
returns-clause-pixels c = pictures_hold c.files_without_fault_hold_drawings.ensures

pub returns-clause-coloured : goal.returns-clause-coloured
returns-clause-coloured c = pictures_coloured
