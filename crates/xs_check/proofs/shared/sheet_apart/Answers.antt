use Rattle.std.proofs.Common.{All, AllPairs, sym, subst}
use Rattle.xs_index.specs.Apart.{AreApart, DifferInRow}
use Rattle.xs_check.proofs.shared.sheet_apart.Goals as goal

pub returns-then-lists_apart : goal.returns-then-lists_apart
returns-then-lists_apart c = (
  λ yes.
      record {
        cells = subst (All (AllPairs AreApart)) c.items.ensures (c.lists_apart.ensures.0 c.if-lists_apart.true);
        keys = subst (All (AllPairs DifferInRow)) c.items-then-lists_apart.ensures (c.lists_apart-then-lists_apart.ensures.0 yes);
      },
  λ is. c.lists_apart-then-lists_apart.ensures.1 (subst (All (AllPairs DifferInRow)) (sym c.items-then-lists_apart.ensures) is.keys),
)

pub returns-else-lists_apart : goal.returns-else-lists_apart
returns-else-lists_apart c = (
  λ yes. absurd (let no = c.if-lists_apart.false in cc),
  λ is. c.lists_apart.ensures.1 (subst (All (AllPairs AreApart)) (sym c.items.ensures) is.cells),
)
