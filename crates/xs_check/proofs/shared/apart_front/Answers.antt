use Rattle.std.proofs.Common.{◌≡◌, ◌+◌, AllPairs, take, subst, arith}
use Rattle.xs_check.proofs.shared.apart_front.Goals as goal

pub returns : goal.returns
returns g c =
    let loop = c.loop-shared in
    let next : loop.shared ≡ loop.apart + 1 = omega arith in
    record {
      inside = omega arith;
      apart = loop.invariant.front;
      shared = subst (λ n. AllPairs g.T.HasRow.apart (take n c.args.items.now) → ⊥) next loop.invariant.more;
    }
