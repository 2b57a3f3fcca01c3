-- What each kind of step tells its seat: of the step, the seat before, the word that it found and the seat after
use Rattle.std.specs.Prelude.{◌≡◌, ◌≢◌, ◌<◌, ◌≤◌, ◌+◌, ◌-◌, ◌/◌, ◌%◌, ℕ, true, ◌==◌, cond, Option, Some, None, Result, MatchResult, [], ◌∷◌, length}
use Rattle.atomic_table.specs.Table.{Me, Step, rest}
use Rattle.xs_pixel.specs.Picture.{Pictures}
use Rattle.xs_raster.specs.declared.tile.Tile.{Tile}
use Rattle.xs_plan.specs.Record.{PlanRecord}
use Rattle.xs_plan.specs.Reads.{reads_in}
use Rattle.xs_core.specs.States.{source_at, reader_at}
use Rattle.xs_core.specs.Calls.{HoldsTile}
use Rattle.xs_base.specs.declared.memory.Memory.{Memory}
use Rattle.xs_core.specs.declared.answer.Reading.{Reading}
use Rattle.xs_core.specs.declared.answer.Reading.TheVariants as reading
use Rattle.xs_core.specs.Views.{FoundIdle, FoundBusy, FoundLost, FoundInTurn, LeftOpen, lacking}
use Rattle.xs_word_desk.specs.declared.view.View.{View}
use Rattle.xs_word_desk.specs.Words.{Shape, encode}
use Rattle.xs_word_desk.specs.Seen.{wins, makes, loses, knows, serves, owner, has_number}
use Rattle.xs_word_desk.specs.Own.{IsOwn}
use Rattle.xs_word_desk.specs.Rule.{Slot}
use Rattle.xs_word_desk.specs.Changes.{with_won, with_met, with_known, with_filling, with_made, with_lost, with_turn, with_served, with_cleared}

abbrev pub At : Type 0
At = Me Slot View

abbrev pub Play : Type 1
Play = Step Slot → At → ℕ → At → Type 0

-- the only seat: the chief, with every seat that it split off joined
abbrev pub IsSolo : View → Type 0
IsSolo v = (v.live ≡ true) × (v.number ≡ 0) × (v.apart ≡ [])

-- what a word tells of the seat that finds it
pub record Found (v : View) (k word : ℕ) : Type 0 where
  pub shape : Shape
  pub says : word ≡ encode shape
  -- nobody won an alias that is idle; one that the seat knows to be ready is neither idle nor taken nor given up
  pub fresh : word ≡ 0 → wins k v ≡ 0
  pub ready : 0 < knows k v → (word ≢ 0) × (word ≢ 1) × (word ≢ 2)
  -- alone, the seat itself has the alias that it finds taken or given up
  pub alone_taken : IsSolo v → word ≡ 1 → makes k v + loses k v < wins k v
  pub alone_lost : IsSolo v → word ≡ 2 → 0 < loses k v
  -- and made the one that it finds finished
  pub alone_ready : IsSolo v → 3 ≤ word → 0 < makes k v

-- the seat after it found an alias that is not idle
abbrev pub found_as : View → ℕ → ℕ → View
found_as v k word =
    cond (word == 1) (with_met v k FoundBusy) (cond (word == 2) (with_met v k FoundLost) (with_known v k))

-- a claim wins the alias where it is idle
abbrev pub claimed : Play
claimed st m word n =
    (n ≡ (cond (word == 0) (with_won m.0 st.word) (found_as m.0 st.word word), m.1)) × Found m.0 st.word word

abbrev pub looked : Play
looked st m word n =
    (n ≡ (cond (word == 0) (with_met m.0 st.word FoundIdle) (found_as m.0 st.word word), m.1)) × Found m.0 st.word word

-- the seat takes out the slot of an alias that it has claimed; it is empty
abbrev pub took_out : Play
took_out st m word n = n ≡ (with_filling m.0 st.word, (st.word, None) ∷ m.1)

-- it gives the slot back with the tile, and so has made the alias
abbrev pub finished : Play
finished st m word n = n ≡ (with_made m.0 st.word, rest m.1)

abbrev pub abandoned : Play
abandoned st m word n = n ≡ (with_lost m.0 st.word, m.1)

-- a read of the alias that the seat may serve: of the plan, its own and not served, its source known to be ready. It is
-- its own also under its own number
pub record MayServe (p : PlanRecord) (v : View) (e k : ℕ) : Type 0 where
  pub within : e < reads_in p
  pub source : source_at p e ≡ k
  pub mine : serves e v < owner (reader_at p e) (has_number 0 v) v.won
  pub known : 0 < knows k v
  pub own : IsOwn (reader_at p e) v.number v.won v.lost

-- the seat has a read in turn, with the tile of the read's source, which holds its value; or another seat had one
abbrev pub turned : Option Pictures → PlanRecord → ℕ → Play
turned told p e st m word n =
    (word / 4 % 2 ≡ 0 → (t : Tile) × (n ≡ (with_turn m.0 (Some e), (st.word, Some t) ∷ m.1)) × HoldsTile told p st.word t)
    × (word / 4 % 2 ≢ 0 → (n ≡ (with_met m.0 st.word FoundInTurn, m.1)) × (¬ IsSolo m.0))

-- it gave the tile back
abbrev pub gave : Play
gave st m word n = n ≡ (with_turn m.0 None, rest m.1)

-- it served a read; after the last one it has the slot out with the tile. Alone, it knows from its list how many are open
abbrev pub retired : PlanRecord → ℕ → Play
retired p e st m word n =
    (word / 16 ≡ 1 → (t : Tile) × (n ≡ (with_met (with_served m.0 e (Some st.word)) st.word (LeftOpen 0), (st.word, Some t) ∷ m.1)))
    × (word / 16 ≢ 1 → n ≡ (with_met (with_served m.0 e None) st.word (LeftOpen (word / 16 - 1)), m.1))
    × (1 ≤ word / 16) × (word / 16 ≤ reads_in p)
    × (IsSolo m.0 → word / 16 - 1 ≡ lacking p n.0.served st.word)

-- what the words, the slots and the other seats tell of any seat: it won nothing twice; alone, it made all that it knows
-- to be ready; each seat that the chief split off is apart or joined
pub record Recalls (v : View) : Type 0 where
  pub once : (k : ℕ) → wins k v ≤ 1
  pub alone_made : IsSolo v → (k : ℕ) → 0 < knows k v → 0 < makes k v
  pub counted : v.live ≡ true → v.number ≡ 0 → length v.apart + v.joined + 1 ≡ v.next

-- it looked only for that
abbrev pub recalled : Play
recalled st m word n = (n ≡ m) × Recalls m.0

-- it gave the slot back, empty
abbrev pub cleared : Play
cleared st m word n = n ≡ (with_cleared m.0, rest m.1)

-- what a seat is told that wants the tile of a read: the tile of its source; or another seat had it in turn
abbrev pub ReadingTold : Option Pictures → PlanRecord → ℕ → At → Reading → At → Type 0
ReadingTold told p k m (reading.Got t) n = (n ≡ (with_turn m.0 None, [])) × HoldsTile told p k t
ReadingTold told p k m reading.Turn n = (n ≡ (with_met m.0 k FoundInTurn, [])) × (¬ IsSolo m.0)

abbrev pub ReadTold : Option Pictures → PlanRecord → ℕ → At → Result Reading Memory → At → Type 0
ReadTold told p k m result n = MatchResult result (λ r. ReadingTold told p k m r n) (λ _. n ≡ (with_turn m.0 None, []))
