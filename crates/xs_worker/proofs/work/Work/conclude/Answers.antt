use Rattle.std.proofs.Common.{[], ◌∷◌, refl}
use Rattle.xs_plan.specs.Reads.{port_read_of}
use Rattle.xs_core.specs.Views.{signed}
use Rattle.xs_worker.specs.Reading.{listed}
use Rattle.xs_worker.specs.Claims.{tagged}
use Rattle.xs_worker.proofs.WorkLemmas.{top_claimed, top_below, may_after, apart_reads, concluded}
use Rattle.xs_worker.proofs.work.Work.conclude.Goals as goal

pub finish-requires-clause-claimed : goal.finish-requires-clause-claimed
finish-requires-clause-claimed g c =
    top_claimed c.args.p.now c.args.self.now.targets.items c.args.self.now.stack.items (g.D.Desk.view c.args.desk.now) c.args.k c.requires.fits
    c.requires.top

pub retire_port-requires-clause-may : goal.retire_port-requires-clause-may
retire_port-requires-clause-may g c = λ e is.
    may_after c.args.p.now (g.D.Desk.view c.args.desk.now) (g.D.Desk.view c.finish.new.self) (signed (g.D.Desk.view c.args.desk.now).number c.args.k ∷ [])
    [] e c.finish.ensures.told.0 refl (c.requires.may 0 e is)

pub retire_port-requires-2-clause-may : goal.retire_port-requires-2-clause-may
retire_port-requires-2-clause-may g c = λ e is.
    let at = top_below c.args.p.now c.args.self.now.targets.items c.args.self.now.stack.items c.args.k c.requires.fits.chain c.requires.top in
    may_after c.args.p.now (g.D.Desk.view c.finish.new.self) (g.D.Desk.view c.retire_port.new.desk) []
    (tagged (g.D.Desk.view c.finish.new.self).number (listed (port_read_of c.args.p.now c.args.k 0))) e c.retire_port.ensures.told
    (apart_reads c.args.p.now (g.D.Desk.view c.finish.new.self).number c.args.k e c.requires.tells at.1 is)
    (may_after c.args.p.now (g.D.Desk.view c.args.desk.now) (g.D.Desk.view c.finish.new.self) (signed (g.D.Desk.view c.args.desk.now).number c.args.k ∷ [])
    [] e c.finish.ensures.told.0 refl (c.requires.may 1 e is))

pub returns-clause-told : goal.returns-clause-told
returns-clause-told g c =
    concluded (g.D.Desk.view c.args.desk.now) (g.D.Desk.view c.finish.new.self) (g.D.Desk.view c.retire_port.new.desk)
    (g.D.Desk.view c.retire_port-2.new.desk) c.args.k (listed (port_read_of c.args.p.now c.args.k 0)) (listed (port_read_of c.args.p.now c.args.k 1))
    c.finish.ensures.told.0 c.retire_port.ensures.told c.retire_port-2.ensures.told
