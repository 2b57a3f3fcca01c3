use Rattle.std.proofs.Common.{◌∙◌, ℕ, sym, subst}
use Rattle.xs_core.specs.Views.{Knows}
use Rattle.xs_word_tests.proofs.HandLemmas.{roots_stay, may_read_root}
use Rattle.xs_word_tests.proofs.chief.may_show.Goals as goal

pub returns-in-Ready-clause-may : goal.returns-in-Ready-clause-may
returns-in-Ready-clause-may g c = λ own.
    let p = c.args.p.now in
    let v = g.D.Desk.view c.args.desk.now in
    let w = g.D.Desk.view c.looks-found.new.desk in
    let stays = c.looks-found.ensures.stays in
    let of = c.is_root-own.ensures own in
    let known = subst (λ (k : ℕ). Knows w k) c.edge_of-edge.ensures.source (c.looks-found.ensures.known c.in-Ready.is) in
    may_read_root p w c.args.e of.0 of.1 (stays.number ∙ c.requires.chief)
    (roots_stay p c.args.e v w stays c.requires.open) c.requires.there (sym c.edge_of-edge.ensures.reader ∙ of.2) known
