use Rattle.std.proofs.Common.{Option, subst}
use Rattle.xs_meaning.specs.Palettes.{Dropped}
use Rattle.xs_tint.specs.Filters.{filtering}
use Rattle.xs_stays.specs.declared.found.Found.{Found}
use Rattle.xs_stays.specs.Found.{IsFound}
use Rattle.xs_stays.specs.Stays.{stay_at}
use Rattle.xs_build.specs.declared.build.Build.{Build}
use Rattle.xs_build.specs.States.{dropped_in, IsSound}
use Rattle.xs_build.proofs.NormalForms.{stands-in}
use Rattle.xs_build.proofs.normal.filtered.Goals as goal

pub returns-clause-state : goal.returns-clause-state
returns-clause-state c =
    let at = c.args.at.now in
    let s = at.scene.now in
    let old = c.args.build.now in
    let state = c.args.state in
    let ask = c.requires.ask in
    let dropped : Dropped = filtering c.args.keep c.args.styles.now (dropped_in old.sets.keys state.dropped) in
    let mid : Build = record old { stays = c.stay.new.known } in
    let sound : IsSound s at.names.now mid =
    record { extents = ask.sound.extents; stays = c.in_ok-found.ensures.known; states = ask.sound.states } in
    let found =
    subst (λ (o : Option Found). IsFound mid.stays.sets.keys o (stay_at s state.spot)) c.in-Some.is c.in_ok-found.ensures.found in
    let law = c.what_does_not_stay_changes_nothing.ensures in
    stands-in law.offset law.dropped at c.args.left old c.counting_filtered.new.self state dropped mid.stays.sets.keys c.in-Some.found
    c.in_ok-dropped.dropped ask c.requires.seen (c.in_ok-dropped.ensures.sound s at.names.now sound) c.in_ok-dropped.ensures.set found
    c.in_ok-dropped.ensures.both c.with_what_stays.result c.with_what_stays.ensures
