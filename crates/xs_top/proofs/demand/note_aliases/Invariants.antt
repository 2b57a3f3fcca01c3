use Rattle.std.proofs.Common.{◌≡◌, ◌≤◌, ◌-◌}
use Rattle.xs_lines.specs.Lines.{alias_lines, with_ends}
use Rattle.xs_top.specs.declared.status.Status.TheVariants as answers
use Rattle.xs_top.specs.Leaves.{Leaves}
use Rattle.xs_top.specs.Writes.{with_bytes}
use Rattle.xs_top.proofs.demand.note_aliases.Given as goal

abbrev pub invariant-loop-next : goal.invariant-loop-next
invariant-loop-next g l =
    record {
      within : l.next ≤ l.aliases;
      told : (g.O.Outside.view l.outside).seen.told
          ≡ with_bytes (g.O.Outside.view l.initial.outside).seen.told (with_ends (alias_lines l.plan 0 l.next));
      leaves : Leaves (g.O.Outside.view l.initial.outside).seen (g.O.Outside.view l.outside).seen answers.Ok;
      same : (g.O.Outside.view l.outside).names ≡ (g.O.Outside.view l.initial.outside).names;
    }

abbrev pub decreases-loop-next : goal.decreases-loop-next
decreases-loop-next g l = l.aliases - l.next
