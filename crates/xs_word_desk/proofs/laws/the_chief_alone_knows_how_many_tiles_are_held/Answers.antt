use Rattle.xs_word_desk.proofs.HeldLaws.{held_counted}
use Rattle.xs_word_desk.proofs.laws.the_chief_alone_knows_how_many_tiles_are_held.Goals as goal

pub returns : goal.returns
returns c = λ told p s traced table id v me solo. held_counted told p s table id v traced.board me solo
