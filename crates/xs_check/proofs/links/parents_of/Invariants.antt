use Rattle.std.proofs.Common.{◌≡◌, map, take}
use Rattle.xs_check.specs.Links.{parent_links}
use Rattle.xs_check.proofs.links.parents_of.Given as goal

abbrev pub invariant-loop-sheet : goal.invariant-loop-sheet
invariant-loop-sheet l = l.parents.items ≡ map parent_links (take l.sheet-index l.sheets)
