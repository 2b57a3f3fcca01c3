use Rattle.std.proofs.Common.{arith}
use Rattle.xs_tint.proofs.MoreTints.{OneMore, one_more}
use Rattle.xs_tint.proofs.tints.Tints.add.Goals as goal

pub invariant_of-self : goal.invariant_of-self
invariant_of-self c =
    let more : OneMore c.args.self.now c.insert.new.self.entries c.args.p c.len-number.result =
    one_more c.args.self.now c.self.inside.palettes.entries c.insert.new.self.entries c.args.tint c.args.p c.len-number.result c.self.view_is
    c.self.invariant.0 c.self.invariant.1 c.requires.own c.requires.fresh c.len-number.ensures.len c.in-Ok.ensures.entries in
    (more.under, more.differ, omega arith)

pub returns-in-Ok-clause-number : goal.returns-in-Ok-clause-number
returns-in-Ok-clause-number c =
    (one_more c.args.self.now c.self.inside.palettes.entries c.insert.new.self.entries c.args.tint c.args.p c.len-number.result c.self.view_is
    c.self.invariant.0 c.self.invariant.1 c.requires.own c.requires.fresh c.len-number.ensures.len c.in-Ok.ensures.entries).number

pub returns-in-Ok-clause-added : goal.returns-in-Ok-clause-added
returns-in-Ok-clause-added c =
    (one_more c.args.self.now c.self.inside.palettes.entries c.insert.new.self.entries c.args.tint c.args.p c.len-number.result c.self.view_is
    c.self.invariant.0 c.self.invariant.1 c.requires.own c.requires.fresh c.len-number.ensures.len c.in-Ok.ensures.entries).more

pub returns-in-Ok-clause-differ : goal.returns-in-Ok-clause-differ
returns-in-Ok-clause-differ c =
    (one_more c.args.self.now c.self.inside.palettes.entries c.insert.new.self.entries c.args.tint c.args.p c.len-number.result c.self.view_is
    c.self.invariant.0 c.self.invariant.1 c.requires.own c.requires.fresh c.len-number.ensures.len c.in-Ok.ensures.entries).differ
