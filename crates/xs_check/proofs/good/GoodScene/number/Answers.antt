use Rattle.std.proofs.Common.{◌<◌, ◌+◌, length, subst, sym, arith}
use Rattle.xs_scene.specs.Records.{SceneRecord}
use Rattle.xs_scene.specs.declared.column.Shown.TheVariants.{Drawing}
use Rattle.xs_check.specs.Good.{files_of, IsThere}
use Rattle.xs_check.proofs.Numbering.{kept_drawings, kept_number}
use Rattle.xs_check.proofs.good.GoodScene.number.Goals as goal

pub returns-clause-below : goal.returns-clause-below
returns-clause-below c =
    let firsts = c.self.inside.numbers.firsts.items in
    let owners = c.self.inside.numbers.owners.items in
    let there = subst (λ (s : SceneRecord). IsThere s (Drawing c.args.level c.args.index)) (sym c.self.view_is) c.requires in
    let kept = kept_number c.self.inside.scene c.self.inside.index firsts owners c.args.level c.args.index c.index.result.now c.self.invariant there
    c.index.ensures in
    let count = kept_drawings c.self.inside.scene c.self.inside.index firsts owners c.self.invariant in
    subst (λ (s : SceneRecord). c.index.result.now + c.args.index < length (files_of s.levels)) c.self.view_is (omega (arith, kept.2, count))
