-- Blocks of a plan, and what a seat has done for one
use Rattle.std.specs.Prelude.{◌≡◌, ◌<◌, ◌≤◌, ℕ, List, [], length}
use Rattle.xs_plan.specs.declared.job.Reader.TheVariants.{Port}
use Rattle.xs_plan.specs.Record.{PlanRecord}
use Rattle.xs_plan.specs.Reads.{reads_in}
use Rattle.xs_core.specs.States.{source_at, reader_at}
use Rattle.xs_core.specs.Views.{DeskView, Knows, entries, under}
use Rattle.xs_cache_timing.specs.declared.block.Block.{Block}

-- the source and the reader of a read are aliases of a block
pub record IsInside (p : PlanRecord) (b : Block) (e : ℕ) : Type 0 where
  pub source : (b.first ≤ source_at p e) × (source_at p e < b.past)
  pub alias : ℕ
  pub port : ℕ
  pub reader : reader_at p e ≡ Port alias port
  pub own : (b.first ≤ alias) × (alias < b.past)

-- so are those of each read up to a number
abbrev pub AreInside : PlanRecord → Block → ℕ → Type 0
AreInside p b past = (e : ℕ) → b.first_read ≤ e → e < past → IsInside p b e

-- a block is one of the plan
pub record IsBlock (p : PlanRecord) (b : Block) : Type 0 where
  pub order : b.first ≤ b.past
  pub aliases : b.past ≤ length p.entries
  pub reads : b.past_read ≤ reads_in p
  pub inside : AreInside p b b.past_read

-- what a seat has done for a block: it won the aliases up to one number, made those up to another and nothing past it,
-- lost none, and served no read from a number on
pub record Works (b : Block) (won made served : ℕ) (v : DeskView) : Type 0 where
  pub wins : (k : ℕ) → b.first ≤ k → k < won → 0 < under v.number k v.won
  pub known : (k : ℕ) → b.first ≤ k → k < made → Knows v k
  pub unmade : (k : ℕ) → made ≤ k → entries k v.made ≡ 0
  pub unlost : v.lost ≡ []
  pub unserved : (e : ℕ) → served ≤ e → entries e v.served ≡ 0

-- how far it is: it has won these, it has made these too, or it has served these reads too
abbrev pub HasWon : Block → ℕ → DeskView → Type 0
HasWon b k v = Works b k b.first 0 v

abbrev pub HasMade : Block → ℕ → DeskView → Type 0
HasMade b k v = Works b b.past k 0 v

abbrev pub HasServed : Block → ℕ → DeskView → Type 0
HasServed b e v = Works b b.past b.past e v

-- a seat may live a block of a plan: it is at the cache of that plan and has done nothing yet
pub record MayLive (p : PlanRecord) (b : Block) (here : PlanRecord) (v : DeskView) : Type 0 where
  pub plan : here ≡ p
  pub block : IsBlock p b
  pub begins : HasWon b b.first v
