use Rattle.std.proofs.Common.{◌≡◌, replicate}
use Rattle.xs_timing.proofs.plans.copies.Given as goal

abbrev pub invariant-loop-tile : goal.invariant-loop-tile
invariant-loop-tile l = l.tiles.items ≡ replicate l._tile l.tile
