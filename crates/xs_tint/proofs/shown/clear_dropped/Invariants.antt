use Rattle.std.proofs.Common.{◌≡◌, ℕ, ◌<◌, ◌≤◌, cond, length, get_or}
use Rattle.xs_pixel.specs.declared.style.Style.{Style}
use Rattle.xs_tint.specs.declared.shown.TheConstants.{NO_COLOUR}
use Rattle.xs_tint.specs.Filters.{dropped_by}
use Rattle.xs_tint.proofs.shown.clear_dropped.Given as goal

abbrev pub invariant-loop-id : goal.invariant-loop-id
invariant-loop-id l =
    (length l.styles.items ≡ length l.initial.styles.items)
    × ((k : ℕ) (d : Style) → k < l.id → get_or l.styles.items k d ≡ cond (dropped_by l.f k) NO_COLOUR (get_or l.initial.styles.items k d))
    × ((k : ℕ) (d : Style) → l.id ≤ k → get_or l.styles.items k d ≡ get_or l.initial.styles.items k d)
