use Rattle.xs_pixel.specs.Points.{point}
use Rattle.xs_index.proofs.Chosen.{offset_none, offset_some}
use Rattle.xs_index.proofs.search.offset_in.Goals as goal

pub returns-in-None-clause-value : goal.returns-in-None-clause-value
returns-in-None-clause-value c list moved differ =
    let row = c.args.row in
    let law = c.keys_are_chosen_by_row.ensures in
    offset_none list c.args.keys.now row moved differ (law.in_force list row) (law.only_in_force list row) (law.after list row) (law.only_after list row)
    c.in-None.ensures

pub returns-in-Some-clause-value : goal.returns-in-Some-clause-value
returns-in-Some-clause-value c list moved differ =
    let row = c.args.row in
    let law = c.keys_are_chosen_by_row.ensures in
    offset_some list c.args.keys.now row moved differ (law.in_force list row) (law.only_in_force list row) (law.after list row) (law.only_after list row)
    c.in-Some.key c.next_at.result (point c.offset_between.result.0 c.offset_between.result.1) c.in-Some.ensures c.next_at.ensures
    c.offset_between.ensures.value
