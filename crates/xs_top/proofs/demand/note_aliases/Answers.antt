use Rattle.std.proofs.Common.{refl, ◌∙◌, ℕ, length, Ok, Err, arith}
use Rattle.std.proofs.lemmas.Result.{err_from_is_err_and}
use Rattle.xs_top.proofs.Parts.{leaves_nothing, leaves_then}
use Rattle.xs_top.proofs.Writing.{wrote_nothing}
use Rattle.xs_top.proofs.Pieces.{pieces_then}
use Rattle.xs_top.proofs.demand.note_aliases.Goals as goal

pub loop-next-init : goal.loop-next-init
loop-next-init g c = record {
  within = omega arith;
  told = wrote_nothing _;
  leaves = leaves_nothing _ _ refl refl;
  same = refl;
}

pub returns-in_err-next-clause-wrote : goal.returns-in_err-next-clause-wrote
returns-in_err-next-clause-wrote g c =
    let p = err_from_is_err_and c.from_residual.result c.from_residual.ensures.1 in
    let before = c.loop-next.invariant in
    rw (p.1, p.2)
    (pieces_then ℕ c.args.plan.now c.loop-next.next (length c.args.plan.now.entries) (g.O.Outside.view c.args.outside.now).seen
    (g.O.Outside.view c.loop-next.outside).seen (g.O.Outside.view c.note_piece.new.outside).seen (Err _)
    (omega (arith, before.within, c.aliases-aliases.ensures.count)) before.told (before.leaves.outputs refl).notes
    c.in_err-next.ensures.wrote)

pub loop-next-preserved : goal.loop-next-preserved
loop-next-preserved g c =
    let before = c.loop-next.invariant in
    let next = c.in_ok-next.ensures.next in
    record {
      within = omega (arith, next.1, c.aliases-aliases.ensures.count);
      told = pieces_then ℕ c.args.plan.now c.loop-next.next c.in_ok-next.next (g.O.Outside.view c.args.outside.now).seen
          (g.O.Outside.view c.loop-next.outside).seen (g.O.Outside.view c.note_piece.new.outside).seen (Ok 0) (omega (arith, next.0)) before.told
          (before.leaves.outputs refl).notes c.in_ok-next.ensures.wrote;
      leaves = leaves_then _ _ _ _ before.leaves c.in_ok-next.ensures.leaves;
      same = c.in_ok-next.ensures.same ∙ before.same;
    }
