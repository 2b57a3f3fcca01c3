-- What holds of the words, the slots and the views of a cache between any two steps
use Rattle.std.specs.Prelude.{◌≡◌, ◌≢◌, ◌<◌, ◌≤◌, ◌+◌, ℕ, zero, suc, Bool, true, false, ◌==◌, Option, Some, None, List, [], length, slice_index}
use mathlib.Core.Option.{some, none}
use mathlib.Core.Option as slot
use lib.ListN.{get_elem?}
use Rattle.atomic_table.specs.Table.{State}
use Rattle.xs_pixel.specs.Picture.{Pictures}
use Rattle.xs_raster.specs.declared.tile.Tile.{Tile}
use Rattle.xs_plan.specs.Record.{PlanRecord}
use Rattle.xs_plan.specs.Reads.{reads_in, readers_of}
use Rattle.xs_plan.specs.Valid.{IsPlan}
use Rattle.xs_core.specs.Counts.{one_if}
use Rattle.xs_core.specs.States.{source_at, reader_at}
use Rattle.xs_core.specs.Views.{under, times}
use Rattle.xs_core.specs.Calls.{HoldsTile}
use Rattle.xs_word_desk.specs.declared.view.View.{View}
use Rattle.xs_word_desk.specs.Sums.{total}
use Rattle.xs_word_desk.specs.Words.{Shape, Unclaimed, Taken, GivenUp, Finished, encode, won_in, made_in, lost_in, turn_in, leaving_in, open_in}
use Rattle.xs_word_desk.specs.Seen.{wins, makes, loses, knows, fills, leaves, turns_on, serves, turns, owner, has_number, is_live, open_reads}

-- a slot holds a tile or none; out of its home it is with a seat
abbrev pub Slot : Type 0
Slot = Option Tile

abbrev pub Home : Type 0
Home = slot.Option (slot.Option Slot)

abbrev pub at_home : Slot → Home
at_home value = some (some value)

abbrev pub out : Home
out = some none

module _ (told : Option Pictures) (p : PlanRecord) where
  -- where the slot of a finished alias is: out with the seat that has the tile in turn, while some read is open; at
  -- home with the tile, while some read is open; out with the seat by which the tile leaves; or at home and empty
  abbrev pub Rests : ℕ → Home → (turn cleared : Bool) (reads : ℕ) → Type 0
  Rests k home true cleared reads = (home ≡ out) × (cleared ≡ false) × (0 < reads)
  Rests k home false true reads = (home ≡ at_home None) × (reads ≡ 0)
  Rests k home false false zero = home ≡ out
  Rests k home false false (suc reads) = (t : Tile) × (home ≡ at_home (Some t)) × HoldsTile told p k t

  -- where the slot of an alias is, which so many seats have out to fill it: at home and empty until it is finished,
  -- unless the seat that has claimed the alias has it out
  abbrev pub Lies : ℕ → Home → ℕ → Shape → Type 0
  Lies k home filling Unclaimed = (filling ≡ 0) × (home ≡ at_home None)
  Lies k home filling Taken = (filling ≤ 1) × (filling ≡ 0 → home ≡ at_home None) × (filling ≡ 1 → home ≡ out)
  Lies k home filling GivenUp = (filling ≡ 0) × (home ≡ at_home None)
  Lies k home filling (Finished turn cleared reads) = (filling ≡ 0) × Rests k home turn cleared reads

  -- an alias whose word says this: it agrees with the sums over all views and with the slot
  pub record Agrees (k word : ℕ) (home : Home) (views : List View) (shape : Shape) : Type 0 where
    pub says : word ≡ encode shape
    pub won : total (wins k) views ≡ won_in shape
    pub made : total (makes k) views ≡ made_in shape
    pub lost : total (loses k) views ≡ lost_in shape
    pub turn : total (turns_on p k) views ≡ turn_in shape
    pub leaving : total (leaves k) views ≡ leaving_in shape
    pub counted : open_reads p views k ≡ open_in (readers_of p k) shape
    pub known : 0 < total (knows k) views → made_in shape ≡ 1
    pub lies : Lies k home (total (fills k) views) shape

  -- an alias
  pub record Part (k word : ℕ) (home : Home) (views : List View) : Type 0 where
    pub shape : Shape
    pub agrees : Agrees k word home views shape

-- a view on its own
pub record ViewOk (p : PlanRecord) (v : View) : Type 0 where
  -- what it made, lost or fills it won before; what it served or has in turn is its own
  pub backed : (k : ℕ) → makes k v + loses k v + fills k v ≤ wins k v
  pub owned : (e : ℕ) → serves e v + turns e v ≤ owner (reader_at p e) (has_number 0 v) v.won
  -- it knows what it made, and the source of what it served
  pub knows_made : (k : ℕ) → 0 < makes k v → 0 < knows k v
  pub knows_served : (e : ℕ) → 0 < serves e v → 0 < knows (source_at p e) v
  -- all is of the plan
  pub within : (k : ℕ) → 0 < wins k v + knows k v → k < length p.entries
  pub reads_within : (e : ℕ) → 0 < serves e v + turns e v → e < reads_in p
  -- its entries have its number, but for those of the chief
  pub won_named : v.number ≢ 0 → (k : ℕ) → under v.number k v.won ≡ wins k v
  pub made_named : v.number ≢ 0 → (k : ℕ) → under v.number k v.made ≡ makes k v
  pub lost_named : v.number ≢ 0 → (k : ℕ) → under v.number k v.lost ≡ loses k v
  pub served_named : v.number ≢ 0 → (e : ℕ) → under v.number e v.served ≡ serves e v
  -- one that is joined has nothing
  pub gone : v.live ≡ false → (k : ℕ) → wins k v + knows k v + serves k v + turns k v + leaves k v ≡ 0

-- the seats: the chief stands first and has number 0; those that are split off and not joined have each a number of
-- their own, which the chief keeps; only the chief keeps numbers
pub record SeatsOk (views : List View) : Type 0 where
  pub chief : View
  pub first : get_elem? views 0 ≡ some chief
  pub chief_live : chief.live ≡ true
  pub chief_number : chief.number ≡ 0
  pub many : total is_live views ≡ 1 + length chief.apart
  pub numbers : (n : ℕ) → total (has_number n) views ≡ one_if (n == 0) + times n chief.apart
  pub fresh : (n : ℕ) → 0 < times n chief.apart → n < chief.next
  pub once : (n : ℕ) → times n chief.apart ≤ 1
  pub positive : (times 0 chief.apart ≡ 0) × (0 < chief.next)
  -- each that was split off is apart or joined
  pub counted : length chief.apart + chief.joined + 1 ≡ chief.next
  pub others : (id : ℕ) (v : View) → get_elem? views id ≡ some v → id ≢ 0 → (v.apart ≡ []) × (v.live ≡ true → v.number ≢ 0)

-- the whole: of the plan, one part for each alias, one for each view, and one on the seats
pub record Holds (told : Option Pictures) (p : PlanRecord) (s : State Slot View) : Type 0 where
  pub plan : IsPlan p
  pub wide : length s.words ≡ length p.entries
  pub deep : length s.homes ≡ length p.entries
  pub parts : (k : ℕ) → k < length p.entries → Part told p k (slice_index s.words k) (get_elem? s.homes k) s.views
  pub views : (id : ℕ) (v : View) → get_elem? s.views id ≡ some v → ViewOk p v
  pub seats : SeatsOk s.views
