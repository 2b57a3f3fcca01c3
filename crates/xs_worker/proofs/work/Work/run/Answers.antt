use Rattle.std.proofs.Common.{◌<◌, ℕ, List, length, ◌∙◌, refl, ap, sym, subst, arith}
use Rattle.std.proofs.lemmas.List.{get_or_read}
use Rattle.xs_worker.specs.Reading.{IsReached}
use Rattle.xs_worker.proofs.RunLemmas.{at_start, at_there, at_drawn, at_moved, at_ready, at_end}
use Rattle.xs_worker.proofs.work.Work.run.Goals as goal

pub step-requires-clause-fits : goal.step-requires-clause-fits
step-requires-clause-fits g c =
    let less : c.targets.self.next < length c.targets.self.targets.items = omega (arith, c.targets-test.true, c.len.ensures) in
    let there = at_there c.args.p.now c.args.self.now.targets.items c.args.self.now.stack.items (g.D.Desk.view c.args.desk.now)
    (g.B.Bench.made c.args.bench.now) c.targets.self.targets.items c.targets.self.next c.targets.self.stack.items (g.D.Desk.view c.targets.desk)
    (g.B.Bench.made c.targets.bench) c.targets.invariant.at less in
    there.0

pub step-requires-clause-reached : goal.step-requires-clause-reached
step-requires-clause-reached g c =
    let less : c.targets.self.next < length c.targets.self.targets.items = omega (arith, c.targets-test.true, c.len.ensures) in
    let target = get_or_read c.targets.self.targets.items c.targets.self.next c.index-target.result.now less c.index-target.ensures 0 in
    let there = at_there c.args.p.now c.args.self.now.targets.items c.args.self.now.stack.items (g.D.Desk.view c.args.desk.now)
    (g.B.Bench.made c.args.bench.now) c.targets.self.targets.items c.targets.self.next c.targets.self.stack.items (g.D.Desk.view c.targets.desk)
    (g.B.Bench.made c.targets.bench) c.targets.invariant.at less in
    subst (λ k. IsReached c.args.p.now c.targets.self.targets.items k) (sym target) there.1

pub step-requires-clause-there : goal.step-requires-clause-there
step-requires-clause-there g c =
    let less : c.targets.self.next < length c.targets.self.targets.items = omega (arith, c.targets-test.true, c.len.ensures) in
    let target = get_or_read c.targets.self.targets.items c.targets.self.next c.index-target.result.now less c.index-target.ensures 0 in
    let there = at_there c.args.p.now c.args.self.now.targets.items c.args.self.now.stack.items (g.D.Desk.view c.args.desk.now)
    (g.B.Bench.made c.args.bench.now) c.targets.self.targets.items c.targets.self.next c.targets.self.stack.items (g.D.Desk.view c.targets.desk)
    (g.B.Bench.made c.targets.bench) c.targets.invariant.at less in
    subst (λ k. k < length c.args.p.now.entries) (sym target) there.2

pub step-requires-clause-drawn : goal.step-requires-clause-drawn
step-requires-clause-drawn g c =
    at_drawn c.args.p.now c.args.self.now.targets.items c.args.self.now.stack.items (g.D.Desk.view c.args.desk.now)
    (g.B.Bench.made c.args.bench.now) c.targets.self.targets.items c.targets.self.next c.targets.self.stack.items (g.D.Desk.view c.targets.desk)
    (g.B.Bench.made c.targets.bench) c.args.d.now c.targets.invariant.at c.requires.able.fits c.requires.drawn

pub targets-init : goal.targets-init
targets-init g c = record {
  plan = c.requires.plan;
  at = at_start c.args.p.now c.args.self.now.targets.items c.args.self.now.stack.items c.args.self.now.next (g.D.Desk.view c.args.desk.now)
      (g.B.Bench.made c.args.bench.now) c.requires.able;
}

pub targets-preserved-in-Moved : goal.targets-preserved-in-Moved
targets-preserved-in-Moved g c =
    let less : c.targets.self.next < length c.targets.self.targets.items = omega (arith, c.targets-test.true, c.len.ensures) in
    let moved = at_moved c.args.p.now c.args.self.now.targets.items c.args.self.now.stack.items (g.D.Desk.view c.args.desk.now)
    (g.B.Bench.made c.args.bench.now) c.targets.self.targets.items c.targets.self.next c.targets.self.stack.items (g.D.Desk.view c.targets.desk)
    (g.B.Bench.made c.targets.bench) c.step.new.self.targets.items
    c.step.new.self.next c.step.new.self.stack.items (g.D.Desk.view c.step.new.desk) (g.B.Bench.made c.step.new.bench)
    c.targets.invariant.at less c.step.ensures.same.0 c.step.ensures.same.1 c.in-Moved.ensures.told in
    record { plan = c.step.ensures.plan; at = moved.0 }

pub targets-preserved : goal.targets-preserved
targets-preserved g c =
    let less : c.targets.self.next < length c.targets.self.targets.items = omega (arith, c.targets-test.true, c.len.ensures) in
    let target = get_or_read c.targets.self.targets.items c.targets.self.next c.index-target.result.now less c.index-target.ensures 0 in
    let is_ready = c.in-Ready.ensures.ready refl in
    let ready = at_ready c.args.p.now c.args.self.now.targets.items c.args.self.now.stack.items (g.D.Desk.view c.args.desk.now)
    (g.B.Bench.made c.args.bench.now) c.targets.self.targets.items c.targets.self.next c.targets.self.stack.items (g.D.Desk.view c.targets.desk)
    (g.B.Bench.made c.targets.bench) c.step.new.self.targets.items
    c.step.new.self.next c.step.new.self.stack.items (g.D.Desk.view c.step.new.desk) (g.B.Bench.made c.step.new.bench) c.index-target.result.now
    c.targets.invariant.at less c.step.ensures.same.0 c.step.ensures.same.1 c.in-Ready.ensures.told target is_ready.0 is_ready.1 in
    record { plan = c.step.ensures.plan; at = ready.0 }

pub targets-smaller : goal.targets-smaller
targets-smaller g c =
    let less : c.targets.self.next < length c.targets.self.targets.items = omega (arith, c.targets-test.true, c.len.ensures) in
    let target = get_or_read c.targets.self.targets.items c.targets.self.next c.index-target.result.now less c.index-target.ensures 0 in
    let is_ready = c.in-Ready.ensures.ready refl in
    let ready = at_ready c.args.p.now c.args.self.now.targets.items c.args.self.now.stack.items (g.D.Desk.view c.args.desk.now)
    (g.B.Bench.made c.args.bench.now) c.targets.self.targets.items c.targets.self.next c.targets.self.stack.items (g.D.Desk.view c.targets.desk)
    (g.B.Bench.made c.targets.bench) c.step.new.self.targets.items
    c.step.new.self.next c.step.new.self.stack.items (g.D.Desk.view c.step.new.desk) (g.B.Bench.made c.step.new.bench) c.index-target.result.now
    c.targets.invariant.at less c.step.ensures.same.0 c.step.ensures.same.1 c.in-Ready.ensures.told target is_ready.0 is_ready.1 in
    let same = ap (λ (l : List ℕ). length l) c.step.ensures.same.0 in
    omega (arith, ready.1, less, same, c.step.ensures.same.1)

pub returns-in_default-clause-same : goal.returns-in_default-clause-same
returns-in_default-clause-same g c = c.step.ensures.same.0 ∙ c.targets.invariant.at.same

pub returns-in_default-clause-able : goal.returns-in_default-clause-able
returns-in_default-clause-able g c =
    let less : c.targets.self.next < length c.targets.self.targets.items = omega (arith, c.targets-test.true, c.len.ensures) in
    let end = at_end c.args.p.now c.args.self.now.targets.items c.args.self.now.stack.items (g.D.Desk.view c.args.desk.now)
    (g.B.Bench.made c.args.bench.now) c.targets.self.targets.items c.targets.self.next c.targets.self.stack.items (g.D.Desk.view c.targets.desk)
    (g.B.Bench.made c.targets.bench) c.step.result c.step.new.self.next
    c.step.new.self.stack.items (g.D.Desk.view c.step.new.desk) (g.B.Bench.made c.step.new.bench) c.targets.invariant.at less
    c.step.ensures.same.1 c.step.ensures.told in
    end.1

pub returns-in_default-clause-told : goal.returns-in_default-clause-told
returns-in_default-clause-told g c =
    let less : c.targets.self.next < length c.targets.self.targets.items = omega (arith, c.targets-test.true, c.len.ensures) in
    let end = at_end c.args.p.now c.args.self.now.targets.items c.args.self.now.stack.items (g.D.Desk.view c.args.desk.now)
    (g.B.Bench.made c.args.bench.now) c.targets.self.targets.items c.targets.self.next c.targets.self.stack.items (g.D.Desk.view c.targets.desk)
    (g.B.Bench.made c.targets.bench) c.step.result c.step.new.self.next
    c.step.new.self.stack.items (g.D.Desk.view c.step.new.desk) (g.B.Bench.made c.step.new.bench) c.targets.invariant.at less
    c.step.ensures.same.1 c.step.ensures.told in
    end.0

pub returns-in_default-clause-some : goal.returns-in_default-clause-some
returns-in_default-clause-some g c = λ _.
    let less : c.targets.self.next < length c.targets.self.targets.items = omega (arith, c.targets-test.true, c.len.ensures) in
    let end = at_end c.args.p.now c.args.self.now.targets.items c.args.self.now.stack.items (g.D.Desk.view c.args.desk.now)
    (g.B.Bench.made c.args.bench.now) c.targets.self.targets.items c.targets.self.next c.targets.self.stack.items (g.D.Desk.view c.targets.desk)
    (g.B.Bench.made c.targets.bench) c.step.result c.step.new.self.next
    c.step.new.self.stack.items (g.D.Desk.view c.step.new.desk) (g.B.Bench.made c.step.new.bench) c.targets.invariant.at less
    c.step.ensures.same.1 c.step.ensures.told in
    omega (arith, end.2)

pub returns-clause-same : goal.returns-clause-same
returns-clause-same g c = c.targets.invariant.at.same

pub returns-clause-able : goal.returns-clause-able
returns-clause-able g c = c.targets.invariant.at.able

pub returns-clause-told : goal.returns-clause-told
returns-clause-told g c = (c.targets.invariant.at.went, c.targets.invariant.at.less)

pub returns-clause-done : goal.returns-clause-done
returns-clause-done g c = λ _.
    let same = ap (λ (l : List ℕ). length l) c.targets.invariant.at.same in
    let within = c.targets.invariant.at.able.within in
    omega (arith, same, within, c.targets-test.false, c.len.ensures)
