use Rattle.xs_word_desk.proofs.PassLemmas.{one_home}
use Rattle.xs_word_desk.proofs.desk.WordDesk.of.Goals as goal

pub invariant_of-result : goal.invariant_of-result
invariant_of-result g c = record {
  same = one_home c.args.pass.seat.table_id c.args.cache.now.table.shared.table_id c.requires.home;
  keeps = c.requires.keeps;
  bare = c.args.pass.bare;
}
