use Rattle.std.proofs.Common.{subst, sym, ◌∙◌}
use Rattle.xs_plan.specs.Record.{PlanRecord, root_at}
use Rattle.xs_plan.specs.Reads.{root_read_of}
use Rattle.xs_core.specs.Views.{MayRead}
use Rattle.xs_frames.proofs.Serving.{may_read, still_none, served_then}
use Rattle.xs_frames.proofs.gather.Gather.take.Goals as goal

pub retire-requires : goal.retire-requires
retire-requires g c =
    let v = g.D.Desk.view c.args.desk.now in
    let w = g.D.Desk.view c.tile_of.new.desk in
    let p = c.args.p.now in
    let e = c.root_read-e.result in
    let stays = c.in-Ok.ensures.stays in
    subst (λ (q : PlanRecord). MayRead q w e) (sym (c.in-Ok.ensures.plan ∙ c.requires.desk))
    (may_read p w e c.args.row c.args.tile (root_at p c.args.row c.args.tile)
    c.root_read-e.ensures.within c.root_read-e.ensures.source c.root_read-e.ensures.reader
    (stays.number ∙ c.requires.chief) (stays.knows _ c.requires.known)
    (still_none v w e (root_read_of p c.args.row c.args.tile) stays c.root_read-e.ensures.value c.requires.unserved))

pub returns-in-Ok-clause-serves : goal.returns-in-Ok-clause-serves
returns-in-Ok-clause-serves g c =
    served_then (g.D.Desk.view c.args.desk.now) (g.D.Desk.view c.tile_of.new.desk) (g.D.Desk.view c.retire.new.self)
    c.root_read-e.result (root_read_of c.args.p.now c.args.row c.args.tile)
    c.requires.chief c.in-Ok.ensures.stays c.root_read-e.ensures.value c.retire.ensures.told.0
