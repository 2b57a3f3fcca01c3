use Rattle.std.proofs.Common.{◌≡◌, ℕ, None, length, slice_index_or}
use Rattle.xs_plan.specs.Kept.{IsLastAmong}
use Rattle.xs_plan.proofs.last.last_sections.Given as goal

abbrev pub invariant-loop-k : goal.invariant-loop-k
invariant-loop-k l =
    record {
      many : length l.last.items ≡ l.drawings;
      among : (d : ℕ) → IsLastAmong l.aliases.entries l.firsts.items l.k d (slice_index_or l.last.items d None);
    }
