use Rattle.std.proofs.Common.{All, take}
use Rattle.xs_check.specs.Shared.{IsSheetApart}
use Rattle.xs_check.proofs.shared.sheets_apart.Given as goal

abbrev pub invariant-loop-lists : goal.invariant-loop-lists
invariant-loop-lists l = All IsSheetApart (take l.lists-index l.sheets)
