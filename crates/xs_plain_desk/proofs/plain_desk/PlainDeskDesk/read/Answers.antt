use Rattle.std.proofs.Common.{subst, sym, ap, ◌∙◌}
use Rattle.xs_plan.specs.Record.{PlanRecord}
use Rattle.xs_core.specs.States.{tile_of}
use Rattle.xs_core.specs.Kept.{Kept}
use Rattle.xs_plain_desk.proofs.ListLemmas.{held_to_read}
use Rattle.xs_plain_desk.proofs.plain_desk.PlainDeskDesk.read.Goals as goal

pub share-requires : goal.share-requires
share-requires g c =
    let d = c.args.self.now in
    let w = d.store.world in
    let kept = subst (λ (p : PlanRecord). Kept p w) (sym d.same) c.look_over.ensures in
    ap (tile_of w) c.edge_of-source.ensures.source
    ∙ held_to_read d.plan.now w d.won.items d.made.items d.lost.items d.served.items d.listed kept c.args.e c.requires
