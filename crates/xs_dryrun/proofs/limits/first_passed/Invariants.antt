use Rattle.std.proofs.Common.{◌≡◌, ◌<◌, ℕ, None}
use Rattle.xs_dryrun.specs.Passing.{passed_by}
use Rattle.xs_dryrun.proofs.limits.first_passed.Given as goal

abbrev pub invariant-loop-tile : goal.invariant-loop-tile
invariant-loop-tile l = (other : ℕ) → other < l.tile → passed_by l.tiles l.row l.was l.now other ≡ None
