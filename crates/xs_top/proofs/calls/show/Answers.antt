use Rattle.std.proofs.Common.{◌≡◌, rules}
use Rattle.xs_top.proofs.Showing.{ran_showing}
use Rattle.xs_top.proofs.calls.show.Goals as goal

pub returns : goal.returns
returns g c =
    let done = c.show_scene-done.ensures in
    let ran = ran_showing _ _ _ c.args.scene.now done.did done.words done.leaves done.quiet in
    let same = done.same in
    let library : c.lib-1.given.0 ≡ c.show_scene-done.new.outside.library.now = search rules in
    let notes : c.notes-1.given.0 ≡ c.show_scene-done.new.outside.notes.now = search rules in
    rw (library, notes, c.answer.ensures) ran
