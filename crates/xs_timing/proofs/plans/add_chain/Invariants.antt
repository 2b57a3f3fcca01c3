use Rattle.std.proofs.Common.{◌≡◌, ◌+◌, length}
use Rattle.xs_timing.specs.Made.{IsLast, IsMade, wide_area}
use Rattle.xs_timing.proofs.plans.add_chain.Given as goal

abbrev pub invariant-loop-pair : goal.invariant-loop-pair
invariant-loop-pair l =
    record {
      made : IsMade l.b;
      last : IsLast l.b l.k wide_area;
      roots : l.b.plan.roots ≡ l.initial.b.plan.roots;
      count : length l.b.plan.entries ≡ length l.initial.b.plan.entries + l._pair;
    }
