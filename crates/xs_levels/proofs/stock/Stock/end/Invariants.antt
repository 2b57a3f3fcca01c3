use Rattle.std.proofs.Common.{◌≡◌, ◌<◌, ℕ, length}
use Rattle.xs_chain.specs.Row.{list_at}
use Rattle.xs_levels.specs.Stocked.{IsLess}
use Rattle.xs_levels.proofs.stock.Stock.end.Given as goal

abbrev pub invariant-going : goal.invariant-going
invariant-going g l =
    record { section : l.s < length l.self.row.lists; less : IsLess l.s l.initial.self l.self }

abbrev pub decreases-going : goal.decreases-going
decreases-going g l = length (list_at l.self.row l.s)
