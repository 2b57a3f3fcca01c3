-- How far a plan's aliases are at a seat that is alone
use Rattle.std.specs.Prelude.{◌≡◌, ◌<◌, ◌≤◌, ℕ, true, []}
use Rattle.xs_plan.specs.declared.job.Reader.{Reader}
use Rattle.xs_plan.specs.declared.job.Reader.TheVariants.{Port, Root}
use Rattle.xs_core.specs.Views.{DeskView, Knows, entries, under}

-- the chief alone has made the first aliases, in order, and served the first reads
pub record Alive (v : DeskView) (aliases reads : ℕ) : Type 0 where
  pub chief : v.number ≡ 0
  pub solo : v.solo ≡ true
  pub lost : v.lost ≡ []
  pub won : (k : ℕ) → k < aliases → 0 < under 0 k v.won
  pub known : (k : ℕ) → k < aliases → Knows v k
  pub unserved : (e : ℕ) → reads ≤ e → entries e v.served ≡ 0

-- a reader is one of the first aliases, or a row's tile
abbrev pub IsMade : ℕ → Reader → Type 0
IsMade aliases (Port alias port) = alias < aliases
IsMade aliases (Root row tile) = Unit {0}
