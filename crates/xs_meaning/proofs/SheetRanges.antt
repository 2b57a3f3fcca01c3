-- Each sheet of a scene in range is in range, also one that the scene lacks
use Rattle.std.proofs.Common.{ℕ, arith}
use Rattle.xs_scene.specs.InRange.{IsInRange, SheetInRange}
use Rattle.xs_scene.specs.Records.{SceneRecord}
use Rattle.xs_meaning.specs.Walk.{sheet_at, no_sheet}
use Rattle.xs_meaning.proofs.Lists.{All-slice_index_or}

no_sheet-in_range : SheetInRange no_sheet
no_sheet-in_range =
    record {
      pegs = λ i d lt. absurd (omega arith);
      columns = λ i d lt. absurd (omega arith);
      numbers = record { are_nodes = λ i d lt. absurd (omega arith); are_refs = λ i d lt. absurd (omega arith) };
      cards = λ i d lt. absurd (omega arith);
    }

pub sheet_at-in_range : (s : SceneRecord) → IsInRange s → (k : ℕ) → SheetInRange (sheet_at s.sheets k)
sheet_at-in_range s range k = All-slice_index_or SheetInRange s.sheets k no_sheet no_sheet-in_range range.sheets
