use Rattle.std.proofs.Common.{◌≡◌, ◌<◌, ◌≤◌, ◌-◌, ◌++◌, ◌∷◌, []}
use Rattle.xs_lines.specs.Lines.{alias_lines, with_ends}
use Rattle.xs_lines.specs.Parts.{EndsWith, tail_text}
use Rattle.xs_lines.specs.declared.line.TheConstants.{LONGEST_TAIL}
use Rattle.xs_lines.proofs.lines.fill_lines.Given as goal

abbrev pub invariant-loop-next : goal.invariant-loop-next
invariant-loop-next l =
    record {
      after : l.from < l.next;
      within : l.next ≤ l.aliases;
      lines : l.text.items ++ 10 ∷ [] ≡ with_ends (alias_lines l.p l.from (l.next - l.from));
      short : l.tail ≤ LONGEST_TAIL;
      tail : EndsWith l.line l.tail (tail_text l.p (l.next - 1));
    }

abbrev pub decreases-loop-next : goal.decreases-loop-next
decreases-loop-next l = l.aliases - l.next
