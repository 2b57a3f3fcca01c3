-- What reads the last alias is the last one, and reaches what that reaches.
use Rattle.std.proofs.Common.{◌∷◌, [], length, subst, refl, arith}
use Rattle.xs_rect.specs.Area.{Area}
use Rattle.xs_plan.specs.declared.job.Job.TheVariants as job
use Rattle.xs_plan.specs.Record.{Entry}
use Rattle.xs_plan.specs.Draft.{with_entry}
use Rattle.xs_timing.specs.Made.{IsLast, wide_area}
use Rattle.xs_timing.proofs.MadeLemmas.{IsLast-next}
use Rattle.xs_timing.proofs.plans.add_blur.Goals as goal

pub returns-clause-last : goal.returns-clause-last
returns-clause-last c =
    let law = c.aliases_reach_what_their_inputs_reach.ensures in
    let d = c.args.b.now in
    let e : Entry = record { job = job.Blur 1; rect = c.args.tile; inputs = c.args.from ∷ [] } in
    rw (c.in_ok-k.ensures.number, c.in_ok-k.ensures.added)
    (subst (λ (r : Area). IsLast (with_entry d e) (length d.plan.entries) r) c.requires.on
    (IsLast-next law.itself law.input law.more d c.args.from wide_area e c.requires.last refl (0, omega arith, refl)))
