use Rattle.std.proofs.Common.{length, subst, sym, ap, ◌∙◌}
use Rattle.xs_plan.specs.Record.{PlanRecord}
use Rattle.xs_core.specs.Counts.{how_many}
use Rattle.xs_core.specs.States.{tile_of}
use Rattle.xs_core.specs.Kept.{Kept}
use Rattle.xs_plain_desk.specs.Stored.{is_held}
use Rattle.xs_plain_desk.proofs.ListLemmas.{held_is}
use Rattle.xs_plain_desk.proofs.plain_desk.PlainDesk.held.Goals as goal

pub returns : goal.returns
returns g c =
    let d = c.args.self.now in
    let w = d.store.world in
    let kept = subst (λ (p : PlanRecord). Kept p w) (sym d.same) c.look_over.ensures in
    c.held.ensures ∙ ap (λ (p : PlanRecord). how_many (length p.entries) (λ k. is_held (tile_of w k))) (sym d.same)
    ∙ held_is d.plan.now w d.won.items d.made.items d.lost.items d.served.items d.listed kept
