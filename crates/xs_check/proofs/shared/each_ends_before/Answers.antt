use Rattle.std.proofs.Common.{◌≡◌, ◌+◌, ◌-◌, Bool, IsTrue, get_or, refl, subst, arith}
use Rattle.xs_check.proofs.Neighbours.{apart_by_neighbours, shared_by_neighbours}
use Rattle.xs_check.proofs.shared.each_ends_before.Goals as goal

pub returns-then-not-ends_before : goal.returns-then-not-ends_before
returns-then-not-ends_before g c =
    let i = c.loop-i.i in
    let items = c.args.items.now in
    let next : i ≡ i - 1 + 1 = omega arith in
    let item = c.index-items-i.result in
    let after = c.index-items-i-in-loop-i.result in (
      λ no. absurd (cc),
      λ all.
          absurd
          (shared_by_neighbours g.T.HasRow.group_of g.T.HasRow.row_of g.T.HasRow.last_of g.T.HasRow.apart g.met.T.HasRow.told items c.requires
          (i - 1) item after (omega arith) c.index-items-i.is (subst (λ n. after ≡ get_or items n after) next c.index-items-i-in-loop-i.is)
          (λ ends. let yes = subst (λ (b : Bool). IsTrue b) c.if-not-ends_before.true (c.ends_before.ensures.ends.1 ends) in cc)
          c.ends_before.ensures.span all),
    )

pub returns : goal.returns
returns g c = (
  λ yes.
      apart_by_neighbours g.T.HasRow.group_of g.T.HasRow.row_of g.T.HasRow.last_of g.T.HasRow.apart g.met.T.HasRow.told c.args.items.now c.requires
      (λ k d below. c.loop-i.invariant k d (omega arith)),
  λ apart. refl,
)
