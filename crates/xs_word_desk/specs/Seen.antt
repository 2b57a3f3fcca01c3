-- What the view of a seat has of an alias or a read, each as a number, and how many reads of an alias are open
use Rattle.std.specs.Prelude.{ℕ, ◌&&◌, ◌==◌, Option, Some, None, List}
use Rattle.xs_plan.specs.declared.job.Reader.{Reader}
use Rattle.xs_plan.specs.declared.job.Reader.TheVariants.{Port, Root}
use Rattle.xs_plan.specs.Record.{PlanRecord}
use Rattle.xs_plan.specs.Reads.{reads_in}
use Rattle.xs_core.specs.Counts.{one_if, how_many}
use Rattle.xs_core.specs.States.{source_at}
use Rattle.xs_core.specs.Views.{Signed, entries, times}
use Rattle.xs_word_desk.specs.declared.view.View.{View}
use Rattle.xs_word_desk.specs.Sums.{total}

-- ---- of an alias

-- how often the seat won it, made it and lost it, and knows it to be ready
abbrev pub wins : ℕ → View → ℕ
wins k v = entries k v.won

abbrev pub makes : ℕ → View → ℕ
makes k v = entries k v.made

abbrev pub loses : ℕ → View → ℕ
loses k v = entries k v.lost

abbrev pub knows : ℕ → View → ℕ
knows k v = times k v.known

-- 1 where a number is the one that is there
abbrev pub is_this : ℕ → Option ℕ → ℕ
is_this n None = 0
is_this n (Some m) = one_if (m == n)

-- whether the seat has the slot out to fill it, and whether the tile is leaving by it
abbrev pub fills : ℕ → View → ℕ
fills k v = is_this k v.filling

abbrev pub leaves : ℕ → View → ℕ
leaves k v = is_this k v.leaving

-- 1 where a read is there and reads the alias
abbrev pub is_read_of : PlanRecord → ℕ → Option ℕ → ℕ
is_read_of p k None = 0
is_read_of p k (Some e) = one_if (source_at p e == k)

-- whether the seat has a read of the alias in turn
abbrev pub turns_on : PlanRecord → ℕ → View → ℕ
turns_on p k v = is_read_of p k v.turn

-- ---- of a read

-- how often the seat served it, and whether it has it in turn
abbrev pub serves : ℕ → View → ℕ
serves e v = entries e v.served

abbrev pub turns : ℕ → View → ℕ
turns e v = is_this e v.turn

-- how often a seat may serve a reader's read: as often as it won the reader, and for a row's tile once, if it is the
-- chief
abbrev pub owner : Reader → ℕ → List Signed → ℕ
owner (Port alias port) chief won = entries alias won
owner (Root row tile) chief won = chief

-- ---- of seats

-- 1 for a seat that is not joined and has this number
abbrev pub has_number : ℕ → View → ℕ
has_number number v = one_if (v.live && (v.number == number))

abbrev pub is_live : View → ℕ
is_live v = one_if v.live

-- ---- of all views

-- how many reads of an alias no view has served
abbrev pub open_reads : PlanRecord → List View → ℕ → ℕ
open_reads p views k = how_many (reads_in p) (λ e. (source_at p e == k) && (total (serves e) views == 0))
