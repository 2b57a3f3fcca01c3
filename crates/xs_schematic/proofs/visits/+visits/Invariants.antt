use Rattle.std.proofs.Common.{◌+◌, ◌*◌}
use Rattle.xs_schematic.proofs.visits.+visits.Given as goal

abbrev pub decreases-visit : goal.decreases-visit
decreases-visit l = 2 * l.most

abbrev pub decreases-visit_input : goal.decreases-visit_input
decreases-visit_input l = 2 * l.most + 1
