-- At first there are the tiles alone; at the end drawing 0 alone is needed.
use Rattle.std.proofs.Common.{replicate, refl, ap, ◌∙◌, arith}
use Rattle.xs_timing.specs.declared.plans.TheConstants.{TILES}
use Rattle.xs_timing.proofs.MadeLemmas.{needed-zero}
use Rattle.xs_timing.proofs.plans.build.Goals as goal

pub add_row-requires-clause-made : goal.add_row-requires-clause-made
add_row-requires-clause-made c =
    rw c.in_ok-b.ensures
    (record {
      tiles = c.in_ok-copies.ensures ∙ ap (λ t. replicate TILES t) c.requires.tile;
      rows = refl;
      needs = λ k x lt is. absurd (omega arith);
      first = λ some. absurd (omega arith);
    })

pub finish-requires-clause-drawings : goal.finish-requires-clause-drawings
finish-requires-clause-drawings c = needed-zero c.in_ok-repeat_row.ensures.made
