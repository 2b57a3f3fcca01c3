use Rattle.std.proofs.Common.{◌≡◌, ℕ, ◌<◌, false, length, take, get_or}
use Rattle.xs_base.specs.Listed.{is_listed}
use Rattle.xs_tint.specs.Filters.{drops}
use Rattle.xs_tint.proofs.dropped.filter_flags.Given as goal

abbrev pub invariant-loop-style : goal.invariant-loop-style
invariant-loop-style l =
    (length l.flags.items ≡ 4096)
    × ((k : ℕ) → k < 4096 → get_or l.flags.items k false ≡ drops l.keep false (is_listed (take l.style-index l.styles) k))
