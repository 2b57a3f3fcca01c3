-- What a seat at a cache knows of it
use Rattle.std.specs.Prelude.{◌≡◌, ◌<◌, ◌≤◌, ◌+◌, ℕ, Bool, true, false, ◌&&◌, ◌==◌, nat_lt, List, [], ◌∷◌, ◌++◌, length, count_by}
use Rattle.xs_plan.specs.declared.job.Reader.{Reader}
use Rattle.xs_plan.specs.declared.job.Reader.TheVariants.{Port, Root}
use Rattle.xs_plan.specs.Record.{PlanRecord}
use Rattle.xs_plan.specs.Reads.{reads_in}
use Rattle.xs_core.specs.Counts.{how_many}
use Rattle.xs_core.specs.States.{source_at, reader_at}

-- an alias or a read, with the number of the seat that entered it
pub record Signed : Type 0 where
  pub number : ℕ
  pub item : ℕ

abbrev pub signed : ℕ → ℕ → Signed
signed number item = record { number = number; item = item }

-- what a call found of an alias, or left of its reads
pub data Met : Type 0 where
  FoundIdle : Met
  FoundBusy : Met
  FoundLost : Met
  FoundInTurn : Met
  LeftOpen : (reads : ℕ) → Met

-- an alias, and what was met of it
pub record Meeting : Type 0 where
  pub alias : ℕ
  pub met : Met

abbrev pub meeting : ℕ → Met → Meeting
meeting alias met = record { alias = alias; met = met }

-- a seat: the cache that it is at; its number, 0 for the chief; whether it is the only one; the aliases that it has won,
-- made and lost, and the reads that it has served; the aliases that it knows to be ready; and what its calls have met
pub record DeskView : Type 0 where
  pub home : ℕ
  pub number : ℕ
  pub solo : Bool
  pub won : List Signed
  pub made : List Signed
  pub lost : List Signed
  pub served : List Signed
  pub known : List ℕ
  pub met : List Meeting

-- how often a number stands in a list
abbrev pub times : ℕ → List ℕ → ℕ
times k numbers = count_by (λ n. n == k) numbers

-- how often an item is entered, by any seat and by one
abbrev pub entries : ℕ → List Signed → ℕ
entries k list = count_by (λ s. s.item == k) list

abbrev pub under : ℕ → ℕ → List Signed → ℕ
under number k list = count_by (λ s. (s.number == number) && (s.item == k)) list

-- an alias is known to be ready, or not
abbrev pub Knows : DeskView → ℕ → Type 0
Knows v k = 0 < times k v.known

abbrev pub Unknown : DeskView → ℕ → Type 0
Unknown v k = times k v.known ≡ 0

-- the seat has an alias claimed: won, and neither made nor lost
abbrev pub HasClaimed : DeskView → ℕ → Type 0
HasClaimed v k = entries k v.made + entries k v.lost < entries k v.won

-- ---- whose a read is

-- the seat won an alias under its own number, and has not lost it
abbrev pub Mine : DeskView → ℕ → Type 0
Mine v k = under v.number k v.lost < under v.number k v.won

-- the reads of a reader are the seat's: those of an alias that it won, and for the chief those of the rows' tiles
abbrev pub IsMine : DeskView → Reader → Type 0
IsMine v (Port alias port) = Mine v alias
IsMine v (Root row tile) = v.number ≡ 0

-- the seat may read and retire a read: it is of the plan and the seat's, it was not served yet, and its source is known
-- to be ready
pub record MayRead (p : PlanRecord) (v : DeskView) (e : ℕ) : Type 0 where
  pub within : e < reads_in p
  pub mine : IsMine v (reader_at p e)
  pub unserved : entries e v.served ≡ 0
  pub known : Knows v (source_at p e)

-- ---- what every seat keeps

pub record DeskOk (p : PlanRecord) (v : DeskView) : Type 0 where
  -- what it made or lost it won before, and under the same number
  pub backed : (k : ℕ) → entries k v.made + entries k v.lost ≤ entries k v.won
  pub backed_under : (number k : ℕ) → under number k v.made + under number k v.lost ≤ under number k v.won
  -- what it has claimed it won under its own number
  pub claims_own : (k : ℕ) → HasClaimed v k → 0 < under v.number k v.won
  -- where it served a read of an alias it won that alias, and under the same number; those of the rows' tiles are the
  -- chief's
  pub served_of_won : (e alias port : ℕ) → reader_at p e ≡ Port alias port → entries e v.served ≤ entries alias v.won
  pub served_under : (number e alias port : ℕ) → reader_at p e ≡ Port alias port
      → under number e v.served ≤ under number alias v.won
  pub served_by_chief : (number e row tile : ℕ) → reader_at p e ≡ Root row tile → 0 < under number e v.served → number ≡ 0
  -- it knows what it made, and the source of what it served
  pub knows_made : (k : ℕ) → 0 < entries k v.made → Knows v k
  pub knows_served : (e : ℕ) → 0 < entries e v.served → Knows v (source_at p e)
  -- nothing stands twice in a list, and nothing is both made and lost
  pub won_once : (k : ℕ) → entries k v.won ≤ 1
  pub apart : (k : ℕ) → entries k v.made + entries k v.lost ≤ 1
  pub served_once : (e : ℕ) → entries e v.served ≤ 1
  -- alone, it made all that it knows to be ready
  pub solo_known : v.solo ≡ true → (k : ℕ) → Knows v k → 0 < entries k v.made
  -- all is of the plan
  pub won_within : (k : ℕ) → 0 < entries k v.won → k < length p.entries
  pub known_within : (k : ℕ) → Knows v k → k < length p.entries
  pub served_within : (e : ℕ) → 0 < entries e v.served → e < reads_in p

-- ---- what is fresh, and what is held

-- the chief alone, before any call
pub record IsFresh (v : DeskView) : Type 0 where
  pub number : v.number ≡ 0
  pub solo : v.solo ≡ true
  pub won : v.won ≡ []
  pub made : v.made ≡ []
  pub lost : v.lost ≡ []
  pub served : v.served ≡ []
  pub known : v.known ≡ []
  pub met : v.met ≡ []

-- how many reads of an alias a list of served ones lacks
abbrev pub lacking : PlanRecord → List Signed → ℕ → ℕ
lacking p list k = how_many (reads_in p) (λ e. (source_at p e == k) && (entries e list == 0))

-- the tile of an alias is held: the alias was made, and some read of it was not served
abbrev pub is_held : PlanRecord → DeskView → ℕ → Bool
is_held p v k = nat_lt 0 (entries k v.made) && nat_lt 0 (lacking p v.served k)

abbrev pub IsHeld : PlanRecord → DeskView → ℕ → Type 0
IsHeld p v k = (0 < entries k v.made) × (0 < lacking p v.served k)

-- how many tiles are held
abbrev pub held_count : PlanRecord → DeskView → ℕ
held_count p v = how_many (length p.entries) (is_held p v)
