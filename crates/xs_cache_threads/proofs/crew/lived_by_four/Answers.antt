-- A seat that was split off has done nothing.
use Rattle.std.proofs.Common.{◌∙◌}
use Rattle.xs_cache_threads.proofs.crew.lived_by_four.Goals as goal

pub four_live-requires-clause-a : goal.four_live-requires-clause-a
four_live-requires-clause-a g c = λ κs outlives.
    c.seats_begin_with_nothing.ensures.split c.args.p.now c.args.blocks.now.a _ _ _ _
    (c.split-a.ensures.plan.1 ∙ c.desk-chief.ensures.plan
    ∙ c.in_ok-cache.ensures.plan)
    c.requires.blocks.a c.split-a.ensures.told

pub four_live-requires-clause-b : goal.four_live-requires-clause-b
four_live-requires-clause-b g c = λ κs outlives.
    c.seats_begin_with_nothing.ensures.split c.args.p.now c.args.blocks.now.b _ _ _ _
    (c.split-b.ensures.plan.1 ∙ c.split-a.ensures.plan.0 ∙ c.desk-chief.ensures.plan
    ∙ c.in_ok-cache.ensures.plan)
    c.requires.blocks.b c.split-b.ensures.told

pub four_live-requires-clause-c : goal.four_live-requires-clause-c
four_live-requires-clause-c g c = λ κs outlives.
    c.seats_begin_with_nothing.ensures.split c.args.p.now c.args.blocks.now.c _ _ _ _
    (c.split-c.ensures.plan.1 ∙ c.split-b.ensures.plan.0 ∙ c.split-a.ensures.plan.0 ∙ c.desk-chief.ensures.plan
    ∙ c.in_ok-cache.ensures.plan)
    c.requires.blocks.c c.split-c.ensures.told

pub four_live-requires-clause-d : goal.four_live-requires-clause-d
four_live-requires-clause-d g c = λ κs outlives.
    c.seats_begin_with_nothing.ensures.split c.args.p.now c.args.blocks.now.d _ _ _ _
    (c.split-d.ensures.plan.1 ∙ c.split-c.ensures.plan.0 ∙ c.split-b.ensures.plan.0 ∙ c.split-a.ensures.plan.0 ∙ c.desk-chief.ensures.plan
    ∙ c.in_ok-cache.ensures.plan)
    c.requires.blocks.d c.split-d.ensures.told
