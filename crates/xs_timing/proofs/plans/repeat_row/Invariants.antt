use Rattle.std.proofs.Common.{◌≡◌, length}
use Rattle.xs_timing.specs.Made.{IsLast, IsMade, tile_area}
use Rattle.xs_timing.proofs.plans.repeat_row.Given as goal

abbrev pub invariant-loop-root : goal.invariant-loop-root
invariant-loop-root l =
    record {
      made : IsMade l.b;
      last : IsLast l.b l.k tile_area;
      roots : length l.b.plan.roots ≡ l._root;
      entries : l.b.plan.entries ≡ l.initial.b.plan.entries;
    }
