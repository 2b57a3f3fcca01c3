-- What a seat of a test has in hand
use Rattle.std.specs.Prelude.{◌≡◌, ◌≢◌, ◌≤◌, ◌+◌, ℕ}
use Rattle.xs_plan.specs.declared.job.Reader.TheVariants.{Port, Root}
use Rattle.xs_plan.specs.Record.{PlanRecord}
use Rattle.xs_core.specs.States.{reader_at}
use Rattle.xs_core.specs.Views.{DeskView, HasClaimed, entries, under}

-- it has nothing claimed, and no read was served by the chief
pub record IsFree (v : DeskView) : Type 0 where
  pub settled : (k : ℕ) → entries k v.won ≡ entries k v.made + entries k v.lost
  pub clean : (e : ℕ) → under 0 e v.served ≡ 0

-- it has one alias claimed
pub record HasOne (k : ℕ) (v : DeskView) : Type 0 where
  pub claimed : HasClaimed v k
  pub others : (j : ℕ) → j ≢ k → entries j v.won ≡ entries j v.made + entries j v.lost
  pub clean : (e : ℕ) → under 0 e v.served ≡ 0

-- it did not serve the reads of an alias that have this number or a higher one
abbrev pub AreOpen : PlanRecord → (k from : ℕ) → DeskView → Type 0
AreOpen p k from v = (e port : ℕ) → from ≤ e → reader_at p e ≡ Port k port → entries e v.served ≡ 0

-- it did not serve the reads of the rows' tiles that have this number or a higher one
abbrev pub RootsAreOpen : PlanRecord → (from : ℕ) → DeskView → Type 0
RootsAreOpen p from v = (e row tile : ℕ) → from ≤ e → reader_at p e ≡ Root row tile → entries e v.served ≡ 0

-- it is the same seat at the same cache
pub record IsSeat (v w : DeskView) : Type 0 where
  pub home : w.home ≡ v.home
  pub number : w.number ≡ v.number
  pub solo : w.solo ≡ v.solo
