use Rattle.std.proofs.Common.{◌≡◌, rules}
use Rattle.xs_top.proofs.Showing.{ran_dry}
use Rattle.xs_top.proofs.calls.dry.Goals as goal

pub returns : goal.returns
returns g c =
    let ran = ran_dry _ _ _ c.args.scene.now c.args.from c.args.to c.demand-done.ensures.did c.demand-done.ensures.undone
    c.demand-done.ensures.words c.demand-done.ensures.leaves c.demand-done.ensures.quiet in
    let same = c.demand-done.ensures.same in
    let library : c.lib-1.given.0 ≡ c.demand-done.new.outside.library.now = search rules in
    let notes : c.notes-1.given.0 ≡ c.demand-done.new.outside.notes.now = search rules in
    rw (library, notes, c.answer.ensures) ran
