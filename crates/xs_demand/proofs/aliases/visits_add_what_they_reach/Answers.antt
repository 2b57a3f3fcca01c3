use Rattle.xs_demand.proofs.ReachLemmas.{reached_by_visit, reached_by_root, contains_what_roots_reach}
use Rattle.xs_demand.proofs.aliases.visits_add_what_they_reach.Goals as goal

pub returns : goal.returns
returns c = record {
  visit = reached_by_visit;
  rows = λ tiles roots y. (reached_by_root tiles roots y, contains_what_roots_reach tiles roots y);
}
