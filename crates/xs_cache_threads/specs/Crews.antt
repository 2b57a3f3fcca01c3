-- The blocks of four seats
use Rattle.xs_plan.specs.Record.{PlanRecord}
use Rattle.xs_cache_timing.specs.Blocks.{IsBlock}
use Rattle.xs_cache_threads.specs.declared.crew.Blocks.{Blocks}

-- they are of the plan
pub record AreBlocks (p : PlanRecord) (blocks : Blocks) : Type 0 where
  pub a : IsBlock p blocks.a
  pub b : IsBlock p blocks.b
  pub c : IsBlock p blocks.c
  pub d : IsBlock p blocks.d
