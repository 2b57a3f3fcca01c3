use Rattle.std.proofs.Common.{List, ℕ, [], sym, subst, refl}
use Rattle.xs_worker.specs.Claims.{Fits}
use Rattle.xs_worker.proofs.WorkLemmas.{step_after, step_knows}
use Rattle.xs_worker.proofs.work.Work.inputs.Goals as goal

pub input-requires-in-Ready-clause-fits : goal.input-requires-in-Ready-clause-fits
input-requires-in-Ready-clause-fits g c =
    let told = c.in-Ready.ensures.told [] in
    subst (λ (ts : List ℕ). Fits c.args.p.now ts c.input.new.self.stack.items (g.D.Desk.view c.input.new.desk))
    (sym c.input.ensures.same.0) told.0.fits

pub returns-in-Ready-clause-told : goal.returns-in-Ready-clause-told
returns-in-Ready-clause-told g c = λ b.
    step_after c.args.p.now c.args.self.now.targets.items c.args.self.now.stack.items c.input.new.self.targets.items
    (g.D.Desk.view c.args.desk.now) b c.input.new.self.stack.items (g.D.Desk.view c.input.new.desk) b c.input-in-Ready.result
    c.input-in-Ready.new.self.stack.items (g.D.Desk.view c.input-in-Ready.new.desk) b c.input.ensures.same.0
    (c.in-Ready.ensures.told b) (c.input-in-Ready.ensures.told b)

pub returns-in-Ready-clause-first : goal.returns-in-Ready-clause-first
returns-in-Ready-clause-first g c = λ _ i has.
    step_knows c.args.p.now c.input.new.self.targets.items c.input.new.self.stack.items (g.D.Desk.view c.input.new.desk) []
    c.input-in-Ready.result c.input-in-Ready.new.self.stack.items (g.D.Desk.view c.input-in-Ready.new.desk) []
    (c.input-in-Ready.ensures.told []) i (c.in-Ready.ensures.known refl i has)
