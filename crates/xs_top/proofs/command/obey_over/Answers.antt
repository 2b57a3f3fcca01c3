use Rattle.std.proofs.Common.{◌≡◌, rules}
use Rattle.xs_top.proofs.command.obey_over.Goals as goal

pub returns-clause-ran : goal.returns-clause-ran
returns-clause-ran g c =
    let done = c.obey-done.ensures in
    let same = done.same in
    let library : c.lib-1.given.0 ≡ c.obey-done.new.outside.library.now = search rules in
    let shelf : c.shelf-1.given.0 ≡ c.obey-done.new.outside.shelf.now = search rules in
    let notes : c.notes-1.given.0 ≡ c.obey-done.new.outside.notes.now = search rules in
    rw (library, shelf, notes) (record { did = done.did; leaves = done.leaves; quiet = done.quiet; undone = done.undone; heeds = done.heeds })
