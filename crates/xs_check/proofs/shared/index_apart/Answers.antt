use Rattle.std.proofs.Common.{All, AllPairs, sym, subst}
use Rattle.xs_index.specs.Apart.{DifferInRowOrStyle}
use Rattle.xs_check.specs.Shared.{IsSheetApart}
use Rattle.xs_check.proofs.shared.index_apart.Goals as goal

pub returns-then-lists_apart : goal.returns-then-lists_apart
returns-then-lists_apart c = (
  λ yes.
      record {
        palettes = subst (All (AllPairs DifferInRowOrStyle)) c.items.ensures (c.lists_apart.ensures.0 c.if-lists_apart.true);
        sheets = subst (All IsSheetApart) c.items-then-lists_apart.ensures (c.sheets_apart.ensures.0 yes);
      },
  λ is. c.sheets_apart.ensures.1 (subst (All IsSheetApart) (sym c.items-then-lists_apart.ensures) is.sheets),
)
