use Rattle.std.proofs.Common.{◌∙◌, ℕ, sym, subst}
use Rattle.xs_plan.specs.Record.{PlanRecord}
use Rattle.xs_core.specs.Views.{DeskOk, Knows}
use Rattle.xs_word_tests.proofs.HandLemmas.{one_stays, open_stays, may_read}
use Rattle.xs_word_tests.proofs.seat.may_serve.Goals as goal

pub returns-in-Ready-clause-may : goal.returns-in-Ready-clause-may
returns-in-Ready-clause-may g c = λ own.
    let p = c.args.p.now in
    let v = g.D.Desk.view c.args.desk.now in
    let w = g.D.Desk.view c.looks-found.new.desk in
    let stays = c.looks-found.ensures.stays in
    let of = c.is_of-own.ensures own in
    let ok = subst (λ (q : PlanRecord). DeskOk q w) c.looks-found.ensures.plan c.look_over.ensures in
    let known = subst (λ (k : ℕ). Knows w k) c.edge_of-edge.ensures.source (c.looks-found.ensures.known c.in-Ready.is) in
    may_read p w c.args.k c.args.e of.0 ok (one_stays c.args.k v w stays c.requires.one)
    (open_stays p c.args.k c.args.e v w stays c.requires.open) c.requires.there (sym c.edge_of-edge.ensures.reader ∙ of.1) known
