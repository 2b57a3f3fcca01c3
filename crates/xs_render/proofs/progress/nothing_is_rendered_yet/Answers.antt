use Rattle.std.proofs.Common.{ap, sym, arith, List}
use Rattle.xs_core.specs.Views.{Signed, entries}
use Rattle.xs_render.proofs.progress.nothing_is_rendered_yet.Goals as goal

pub returns-clause-ready : goal.returns-clause-ready
returns-clause-ready g c = record {
  chief = c.requires.fresh.number;
  alone = c.requires.fresh.solo;
  begun = c.the_first_section_is_begun_at_a_fresh_seat.ensures c.args.p.now (g.D.Desk.view c.args.desk.now) c.requires.fresh;
}

pub returns-clause-recorded : goal.returns-clause-recorded
returns-clause-recorded g c = record {
  made = λ k. ap (λ (l : List Signed). entries k l) (sym c.requires.fresh.made);
  once = λ k. omega arith;
}
