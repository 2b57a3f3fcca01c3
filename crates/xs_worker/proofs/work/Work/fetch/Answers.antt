use Rattle.std.proofs.Common.{◌∷◌, [], ◌∙◌, ap, sym, arith}
use Rattle.std.proofs.lemmas.List.{append-nil}
use Rattle.xs_worker.proofs.GrewLemmas.{none_of}
use Rattle.xs_worker.proofs.GrewLemmas.{stays_same}
use Rattle.xs_worker.proofs.WorkLemmas.{short_nowhere, fetched_won, fetched_busy, fetched_ready, fetched_lost}
use Rattle.xs_worker.proofs.work.Work.fetch.Goals as goal

pub returns-then-is_err-clause-told : goal.returns-then-is_err-clause-told
returns-then-is_err-clause-told g c = λ b.
    short_nowhere (g.D.Desk.plan c.args.desk.now) c.args.self.now.targets.items c.args.self.now.stack.items c.make_room.new.self.items
    (g.D.Desk.view c.args.desk.now) (g.D.Desk.view c.args.desk.now) b b [] c.requires.fits c.make_room.ensures.same
    (stays_same (g.D.Desk.view c.args.desk.now)) (sym (append-nil b)) (omega arith) (λ j some. absurd (none_of j some))

pub returns-in-Won-clause-told : goal.returns-in-Won-clause-told
returns-in-Won-clause-told g c = λ b.
    fetched_won (g.D.Desk.plan c.args.desk.now) c.args.self.now.targets.items c.args.self.now.stack.items c.push.new.self.items
    (g.D.Desk.view c.args.desk.now) (g.D.Desk.view c.claim.new.self) b c.args.k c.requires.fits c.requires.tells
    (g.met.D.Desk.sound c.args.desk.now) c.requires.reached c.requires.there c.requires.below c.in-Won.ensures.told
    (c.push.ensures ∙ ap (λ l. c.args.k ∷ l) c.make_room.ensures.same)

pub returns-in-Busy-clause-told : goal.returns-in-Busy-clause-told
returns-in-Busy-clause-told g c = λ b.
    fetched_busy (g.D.Desk.plan c.args.desk.now) c.args.self.now.targets.items c.args.self.now.stack.items c.make_room.new.self.items
    (g.D.Desk.view c.args.desk.now) (g.D.Desk.view c.claim.new.self) b c.args.k c.requires.fits c.requires.below c.in-Busy.ensures.told
    c.make_room.ensures.same

pub returns-in-Ready-clause-told : goal.returns-in-Ready-clause-told
returns-in-Ready-clause-told g c = λ b.
    fetched_ready (g.D.Desk.plan c.args.desk.now) c.args.self.now.targets.items c.args.self.now.stack.items c.make_room.new.self.items
    (g.D.Desk.view c.args.desk.now) (g.D.Desk.view c.claim.new.self) b c.requires.fits c.in-Ready.ensures.told.0 c.make_room.ensures.same

pub returns-in-Lost-clause-told : goal.returns-in-Lost-clause-told
returns-in-Lost-clause-told g c = λ b.
    fetched_lost (g.D.Desk.plan c.args.desk.now) c.args.self.now.targets.items c.args.self.now.stack.items c.make_room.new.self.items
    (g.D.Desk.view c.args.desk.now) (g.D.Desk.view c.claim.new.self) b c.args.k c.requires.fits c.in-Lost.ensures.told
    c.make_room.ensures.same
