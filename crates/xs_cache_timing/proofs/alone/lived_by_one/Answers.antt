-- The chief of a new cache has done nothing.
use Rattle.std.proofs.Common.{sym, subst, ◌∙◌}
use Rattle.xs_core.specs.Views.{DeskView}
use Rattle.xs_cache_timing.specs.Blocks.{HasWon}
use Rattle.xs_cache_timing.proofs.BlockLemmas.{begins_fresh}
use Rattle.xs_cache_timing.proofs.alone.lived_by_one.Goals as goal

pub live-requires-clause-may : goal.live-requires-clause-may
live-requires-clause-may g c = record {
  plan = c.desk-chief.ensures.plan ∙ c.in_ok-cache.ensures.plan;
  block = c.requires.block;
  begins = subst (λ (v : DeskView). HasWon c.args.block c.args.block.first v) (sym c.desk-chief.ensures.view)
      (begins_fresh c.args.block _ c.in_ok-cache.ensures.fresh);
}
