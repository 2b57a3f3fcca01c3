use Rattle.std.proofs.Common.{◌≡◌, ◌++◌, take}
use Rattle.std.specs.List.{flat_map}
use Rattle.xs_check.specs.Links.{sheet_in}
use Rattle.xs_check.proofs.links.add_sheets.Given as goal

abbrev pub invariant-loop-cell : goal.invariant-loop-cell
invariant-loop-cell l = l.named.items ≡ l.initial.named.items ++ flat_map (λ e. sheet_in e.shown) (take l.cell-index l.cells)
