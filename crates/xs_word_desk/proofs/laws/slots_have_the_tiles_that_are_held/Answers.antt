use Rattle.xs_word_desk.proofs.StateLaws.{tile_held, held_there, known_ready}
use Rattle.xs_word_desk.proofs.laws.slots_have_the_tiles_that_are_held.Goals as goal

pub returns-clause-held : goal.returns-clause-held
returns-clause-held c = λ told p s traced k t home. tile_held told p s k t traced.board home

pub returns-clause-there : goal.returns-clause-there
returns-clause-there c = λ told p s traced k held idle. held_there told p s k traced.board held idle

pub returns-clause-known : goal.returns-clause-known
returns-clause-known c = λ told p s traced id k v me known. known_ready told p s id k v traced.board me known
