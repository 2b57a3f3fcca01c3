use Rattle.std.proofs.Common.{◌≡◌, take}
use Rattle.std.specs.List.{flat_map}
use Rattle.xs_check.specs.Links.{sheet_in}
use Rattle.xs_check.proofs.links.SheetNaming.named.Given as goal

abbrev pub invariant-loop-column : goal.invariant-loop-column
invariant-loop-column l = l.named.items ≡ flat_map (λ column. flat_map (λ e. sheet_in e.shown) column.cells) (take l.column-index l.column-items)
