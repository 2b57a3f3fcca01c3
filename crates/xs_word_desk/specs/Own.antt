-- What a seat's entries with a number, and those with its own, tell of one another
use Rattle.std.specs.Prelude.{◌≡◌, ◌<◌, ◌≤◌, ◌+◌, ◌==◌, ℕ, Some, List}
use Rattle.xs_plan.specs.declared.job.Reader.{Reader}
use Rattle.xs_plan.specs.declared.job.Reader.TheVariants.{Port, Root}
use Rattle.xs_plan.specs.Record.{PlanRecord}
use Rattle.xs_core.specs.Counts.{one_if}
use Rattle.xs_core.specs.States.{reader_at}
use Rattle.xs_core.specs.Views.{Signed, under}
use Rattle.xs_word_desk.specs.declared.view.View.{View}
use Rattle.xs_word_desk.specs.Seen.{wins, makes, loses}

-- how often a reader's read may be served under a number: as often as the reader was won under it; that of a row's tile
-- under 0, the chief's
abbrev pub owner_under : Reader → ℕ → List Signed → ℕ
owner_under (Port alias port) number won = under number alias won
owner_under (Root row tile) number won = one_if (number == 0)

pub record Own (p : PlanRecord) (v : View) : Type 0 where
  -- what it made or lost, and the readers of what it served, it won under the same number
  pub backed_under : (number k : ℕ) → under number k v.made + under number k v.lost ≤ under number k v.won
  pub served_under : (number e : ℕ) → under number e v.served ≤ owner_under (reader_at p e) number v.won
  -- the reader of the read that it has in turn, and what it has claimed, it won under its own number
  pub turn_under : (e : ℕ) → v.turn ≡ Some e → 0 < owner_under (reader_at p e) v.number v.won
  pub claims_own : (k : ℕ) → makes k v + loses k v < wins k v → 0 < under v.number k v.won

-- the reads of a reader are the seat's own: those of an alias that it won under its own number and has not lost, and for
-- the chief those of the rows' tiles
abbrev pub IsOwn : Reader → (number : ℕ) → (won lost : List Signed) → Type 0
IsOwn (Port alias port) number won lost = under number alias lost < under number alias won
IsOwn (Root row tile) number won lost = number ≡ 0
