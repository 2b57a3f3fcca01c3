use Rattle.std.proofs.Common.{◌≡◌, ℕ, ◌<◌, ◌≤◌, false, length, get_or}
use Rattle.xs_base.specs.Listed.{is_listed}
use Rattle.xs_tint.specs.Filters.{drops}
use Rattle.xs_tint.proofs.dropped.Dropped.with.Given as goal

abbrev pub invariant-loop-id : goal.invariant-loop-id
invariant-loop-id l =
    (length l.flags.items ≡ 4096)
    × ((k : ℕ) → k < 4096 → k < l.id → get_or l.flags.items k false ≡ drops l.keep (get_or l.was k false) (is_listed l.styles k))
    × ((k : ℕ) → k < 4096 → l.id ≤ k → get_or l.flags.items k false ≡ drops l.keep false (is_listed l.styles k))
