use Rattle.std.proofs.Common.{refl}
use Rattle.xs_meaning.specs.Expressions.{Card}
use Rattle.xs_meaning.specs.Palettes.{pixel_of}
use Rattle.xs_demand.specs.Blocks.{enter}
use Rattle.xs_build.proofs.Giving.{gives-put}
use Rattle.xs_build.proofs.number.number_card.Goals as goal

pub returns : goal.returns
unfolding enter
returns c =
    gives-put c.args.at.now c.args.build.now c.put_card.new.entered (Card (pixel_of c.args.style)) c.args.state.growth
    c.put_card.result c.requires.sound refl c.put_card.ensures
