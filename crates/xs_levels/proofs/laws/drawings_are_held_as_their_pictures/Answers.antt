use Rattle.std.proofs.Common.{refl}
use Rattle.xs_levels.specs.Films.{pictures_of}
use Rattle.xs_levels.proofs.laws.drawings_are_held_as_their_pictures.Goals as goal

pub returns : goal.returns
returns c = λ files t h is d g palette there. is.filmed (pictures_of files t) refl d g palette there
