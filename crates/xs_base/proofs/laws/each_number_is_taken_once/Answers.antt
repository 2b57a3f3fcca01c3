use Rattle.xs_base.proofs.OnceLemmas.{fresh-append, fresh-append_all, fresh-each_once, fresh-known, Contains-fresh, fresh-has, with_each-one, each_once-once}
use Rattle.xs_base.proofs.laws.each_number_is_taken_once.Goals as goal

pub returns : goal.returns
returns c =
    record {
      one_after_another = fresh-append;
      all_of_the_first_known = fresh-append_all;
      once_is_enough = fresh-each_once;
      nothing_new = fresh-known;
      members = Contains-fresh;
      found = fresh-has;
      alone = with_each-one;
      once = each_once-once;
    }
