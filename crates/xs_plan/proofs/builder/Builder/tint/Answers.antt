-- The draft with one tint more is one.
use Rattle.xs_plan.proofs.DraftLemmas.{IsDraft-tint}
use Rattle.xs_plan.proofs.builder.Builder.tint.Goals as goal

pub invariant_of-self-2 : goal.invariant_of-self-2
invariant_of-self-2 c =
    let room = rw (← c.self.view_is) at c.requires in
    rw c.in_ok-push.ensures.items (IsDraft-tint c.self.invariant c.args.p room)
