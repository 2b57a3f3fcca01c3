-- The state of a root
use Rattle.std.proofs.Common.{◌≡◌, ◌≤◌, ℕ, length, refl, arith}
use Rattle.xs_scene.specs.Records.{SceneRecord, SheetRecord}
use Rattle.xs_meaning.specs.Expressions.{root_of, by_offsets}
use Rattle.xs_meaning.specs.Palettes.{none_dropped}
use Rattle.xs_meaning.specs.RowValues.{camera_at}
use Rattle.xs_meaning.specs.Walk.{sheet_at, no_sheet}
use Rattle.xs_meaning.proofs.Lists.{All-slice_index_or}
use Rattle.xs_pixel.specs.Points.{opposite}
use Rattle.xs_check.specs.Good.{IsGood}
use Rattle.xs_step.specs.declared.spot.At.TheVariants.{Row}
use Rattle.xs_step.specs.Readings.{answer_at}
use Rattle.xs_step.specs.Spots.{spot}

pub few_nodes : (s : SceneRecord) → IsGood s → (k : ℕ) → length (sheet_at s.sheets k).nodes ≤ 256
few_nodes s good k =
    All-slice_index_or (λ (sheet : SheetRecord). length sheet.nodes ≤ 256) s.sheets k no_sheet (omega arith)
    (λ i d lt. (good.sheets i d lt).few_nodes)

pub root-answer :
    (s : SceneRecord) (row : ℕ)
    → answer_at (by_offsets s) s (spot 0 Row row) none_dropped (opposite (camera_at s row)) ≡ root_of s row
unfolding answer_at
root-answer s row = refl
