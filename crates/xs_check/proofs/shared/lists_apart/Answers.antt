use Rattle.std.proofs.Common.{◌∙◌, All, AllPairs, refl, subst, arith}
use Rattle.std.proofs.lemmas.List.{take_all}
use Rattle.std.proofs.lemmas.List.Elements.{All-more}
use Rattle.xs_check.proofs.shared.lists_apart.Goals as goal

pub loop-list-preserved : goal.loop-list-preserved
loop-list-preserved g c =
    let P = AllPairs g.T.HasRow.apart in
    All-more P c.args.lists.now c.loop-list.list-index c.list-item.result (omega arith) c.loop-list.invariant
    (subst P (c.items.ensures ∙ c.list-item.is) (c.each_ends_before.ensures.0 c.if-not-each_ends_before.false))

pub returns : goal.returns
returns g c =
    let P = AllPairs g.T.HasRow.apart in
    let all : All P c.args.lists.now =
    subst (All P) (take_all c.loop-list.list-index c.args.lists.now (omega arith)) c.loop-list.invariant
    in (λ yes. all, λ h. refl)
