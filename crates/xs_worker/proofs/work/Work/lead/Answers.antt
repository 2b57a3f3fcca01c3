use Rattle.std.proofs.Common.{List, ℕ, ◌∙◌, ap, refl}
use Rattle.xs_worker.specs.Piles.{top_of}
use Rattle.xs_worker.proofs.WorkLemmas.{passed, step_after}
use Rattle.xs_worker.proofs.work.Work.lead.Goals as goal

pub make-requires-clause-fits : goal.make-requires-clause-fits
make-requires-clause-fits g c =
    let after = passed c.args.p.now c.args.self.now.targets.items c.args.self.now.stack.items c.inputs.new.self.targets.items
    c.inputs.new.self.stack.items (g.D.Desk.view c.args.desk.now) (g.D.Desk.view c.inputs.new.desk) (g.B.Bench.made c.args.bench.now)
    (g.B.Bench.made c.args.bench.now) c.args.d.now c.requires.drawn c.requires.fits c.inputs.ensures.same.0
    (c.in-Ready.ensures.told (g.B.Bench.made c.args.bench.now)) in
    after.fits

pub make-requires-clause-drawn : goal.make-requires-clause-drawn
make-requires-clause-drawn g c =
    let after = passed c.args.p.now c.args.self.now.targets.items c.args.self.now.stack.items c.inputs.new.self.targets.items
    c.inputs.new.self.stack.items (g.D.Desk.view c.args.desk.now) (g.D.Desk.view c.inputs.new.desk) (g.B.Bench.made c.args.bench.now)
    (g.B.Bench.made c.args.bench.now) c.args.d.now c.requires.drawn c.requires.fits c.inputs.ensures.same.0
    (c.in-Ready.ensures.told (g.B.Bench.made c.args.bench.now)) in
    after.drawn

pub make-requires-clause-top : goal.make-requires-clause-top
make-requires-clause-top g c = ap (λ (l : List ℕ). top_of l) (c.in-Ready.ensures.kept refl) ∙ c.requires.top

pub make-requires-clause-first : goal.make-requires-clause-first
make-requires-clause-first g c = c.in-Ready.ensures.first refl

pub make-requires-clause-second : goal.make-requires-clause-second
make-requires-clause-second g c = c.in-Ready.ensures.second refl

pub returns-in-Ready-clause-same : goal.returns-in-Ready-clause-same
returns-in-Ready-clause-same g c =
    (c.make.ensures.same.0 ∙ c.inputs.ensures.same.0, c.make.ensures.same.1 ∙ c.inputs.ensures.same.1)

pub returns-in-Ready-clause-told : goal.returns-in-Ready-clause-told
returns-in-Ready-clause-told g c =
    step_after c.args.p.now c.args.self.now.targets.items c.args.self.now.stack.items c.inputs.new.self.targets.items
    (g.D.Desk.view c.args.desk.now) (g.B.Bench.made c.args.bench.now) c.inputs.new.self.stack.items (g.D.Desk.view c.inputs.new.desk)
    (g.B.Bench.made c.args.bench.now) c.make.result c.make.new.self.stack.items (g.D.Desk.view c.make.new.desk)
    (g.B.Bench.made c.make.new.bench) c.inputs.ensures.same.0 (c.in-Ready.ensures.told (g.B.Bench.made c.args.bench.now)) c.make.ensures.told

pub returns-in_default-clause-told : goal.returns-in_default-clause-told
returns-in_default-clause-told g c = c.inputs.ensures.told (g.B.Bench.made c.args.bench.now)
