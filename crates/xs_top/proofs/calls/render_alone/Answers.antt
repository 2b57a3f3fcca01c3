use Rattle.std.proofs.Common.{◌≡◌, rules, refl}
use Rattle.xs_top.proofs.Computed.{alone_once, alone_not}
use Rattle.xs_top.proofs.Listings.{TakenOnce}
use Rattle.xs_top.proofs.Showing.{ran_rendering}
use Rattle.xs_top.proofs.calls.render_alone.Goals as goal

pub returns-in-Ok-clause-ran : goal.returns-in-Ok-clause-ran
returns-in-Ok-clause-ran g c =
    let law = c.each_number_is_taken_once.ensures in
    let once : TakenOnce = record { all = law.all_of_the_first_known; new = law.one_after_another } in
    let done = c.render-done.ensures in
    let ran = rw c.in-Ok.is at (ran_rendering _ _ _ once c.args.scene.now c.args.base.now c.args.from c.args.to c.requires.range.1 done.did done.words done.leaves done.quiet) in
    let same = done.same in
    let library : c.lib-1.given.0 ≡ c.render-done.new.outside.library.now = search rules in
    let shelf : c.shelf-1.given.0 ≡ c.render-done.new.outside.shelf.now = search rules in
    let notes : c.notes-1.given.0 ≡ c.render-done.new.outside.notes.now = search rules in
    rw (library, shelf, notes) ran

pub returns-in-Err-clause-ran : goal.returns-in-Err-clause-ran
returns-in-Err-clause-ran g c =
    let law = c.each_number_is_taken_once.ensures in
    let once : TakenOnce = record { all = law.all_of_the_first_known; new = law.one_after_another } in
    let done = c.render-done.ensures in
    let ran = rw c.in-Err.is at (ran_rendering _ _ _ once c.args.scene.now c.args.base.now c.args.from c.args.to c.requires.range.1 done.did done.words done.leaves done.quiet) in
    let same = done.same in
    let library : c.lib-1.given.0 ≡ c.render-done.new.outside.library.now = search rules in
    let shelf : c.shelf-1.given.0 ≡ c.render-done.new.outside.shelf.now = search rules in
    let notes : c.notes-1.given.0 ≡ c.render-done.new.outside.notes.now = search rules in
    rw (library, shelf, notes) ran

pub returns-in-Ok-clause-once : goal.returns-in-Ok-clause-once
returns-in-Ok-clause-once g c = alone_once _ _ _ _ _ _ c.in-Ok.ensures.once c.in-Ok.ensures.twice

pub returns-in-Err-clause-once : goal.returns-in-Err-clause-once
returns-in-Err-clause-once g c = alone_not _ _ _ _ _ _ _ c.requires.open c.in-Err.ensures.fails c.in-Err.ensures.twice
