use Rattle.xs_check.proofs.Numbering.{owner_of}
use Rattle.xs_check.proofs.numbers.Numbers.owner.Goals as goal

pub returns : goal.returns
returns c =
    (owner_of c.args.levels.now c.args.self.now.firsts.items c.args.self.now.owners.items c.args.d c.index.result.now c.index-2.result.now
    c.index-levels-owner.result
    c.requires.numbering c.requires.below c.index.ensures c.index-2.ensures c.index-levels-owner.is).3
