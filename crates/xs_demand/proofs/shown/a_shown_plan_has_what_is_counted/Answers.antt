use Rattle.xs_demand.proofs.CountLemmas.{aliases_shown, ends_shown, rows_shown, roots_shown, reads_shown}
use Rattle.xs_demand.proofs.shown.a_shown_plan_has_what_is_counted.Goals as goal

pub returns : goal.returns
returns c = record {
  aliases = aliases_shown;
  ends = ends_shown;
  rows = rows_shown;
  roots = roots_shown;
  reads = reads_shown;
}
