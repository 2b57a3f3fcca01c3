use Rattle.std.proofs.Common.{◌≡◌, not, length, refl, sym, ap, ◌∙◌, subst, arith}
use Rattle.xs_meaning.specs.Expressions.{Clear}
use Rattle.xs_demand.specs.Blocks.{enter, spread}
use Rattle.xs_build.specs.States.{state_expr, dropped_in, offset_of}
use Rattle.xs_stays.specs.Found.{KeepsSets}
use Rattle.xs_build.proofs.Giving.{gives-along, gives-final, keeps-same}
use Rattle.xs_build.proofs.Joining.{clear-is, gives-from, enter-clear}
use Rattle.xs_build.proofs.number.number_any.Goals as goal

pub returns-then-branch : goal.returns-then-branch
returns-then-branch c =
    let at = c.args.at.now in
    let s = at.scene.now in
    let names = at.names.now in
    let old = c.args.build.now in
    let mid = c.is_seen.new.build in
    gives-from at old mid c.number.new.build (state_expr s names old.sets.keys c.args.state) c.args.state.growth c.number.result
    c.is_seen.ensures.entered c.is_seen.ensures.sets
    (gives-along at mid c.number.new.build _ (state_expr s names old.sets.keys c.args.state) c.args.state.growth c.number.result
    (ap (λ sets. state_expr s names sets.keys c.args.state) c.is_seen.ensures.sets) c.number.ensures)

pub returns-else-branch : goal.returns-else-branch
returns-else-branch c =
    let at = c.args.at.now in
    let s = at.scene.now in
    let names = at.names.now in
    let old = c.args.build.now in
    let mid = c.is_seen.new.build in
    let e = state_expr s names old.sets.keys c.args.state in
    let clear : Clear ≡ e =
    sym (clear-is e (c.in_ok-is_seen.ensures.seen (dropped_in old.sets.keys c.args.state.dropped) (offset_of c.args.state) ∙ ap not c.if-branch.false)) in
    gives-along at old _ Clear e c.args.state.growth c.put_clear.result clear
    (gives-final at old mid c.put_clear.new.entered (spread Clear c.args.state.growth) Clear c.args.state.growth c.put_clear.result
    (record {
      sound = c.in_ok-is_seen.ensures.sound;
      sets = subst (λ sets. KeepsSets old.sets.keys sets.keys) (sym c.is_seen.ensures.sets) (keeps-same old.sets.keys);
      few = omega (arith, ap length c.is_seen.ensures.entered);
    })
    refl (enter-clear c.args.state.growth mid.entered ∙ ap (enter Clear c.args.state.growth) c.is_seen.ensures.entered) c.put_clear.ensures)
