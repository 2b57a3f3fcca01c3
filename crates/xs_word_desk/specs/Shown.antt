-- The state of the core that the words and the views of a cache show
use Rattle.std.specs.Prelude.{◌≡◌, ℕ, zero, suc, ◌*◌, ◌/◌, Bool, true, false, ◌==◌, cond, List, [], ◌∷◌, ◌++◌, length, slice_index, slice_set, sum_by}
use mathlib.Core.Option as slot
use Rattle.atomic_table.specs.Table.{State}
use Rattle.xs_plan.specs.Record.{PlanRecord}
use Rattle.xs_plan.specs.Reads.{reads_in}
use Rattle.xs_core.specs.declared.event.Event.{Event}
use Rattle.xs_core.specs.declared.state.Phase.{Phase}
use Rattle.xs_core.specs.declared.state.Phase.TheVariants.{Idle, Claimed, Ready, Lost}
use Rattle.xs_core.specs.declared.state.ReadState.{ReadState}
use Rattle.xs_core.specs.declared.state.ReadState.TheVariants.{Waiting, InTurn, Served}
use Rattle.xs_core.specs.declared.state.TileState.{TileState}
use Rattle.xs_core.specs.declared.state.TileState.TheVariants.{Absent, Held, Leaving}
use Rattle.xs_core.specs.Counts.{how_many}
use Rattle.xs_core.specs.States.{World, tile_of}
use Rattle.xs_core.specs.Events.{IsOf, Allowed, happens}
use Rattle.xs_core.specs.Views.{Signed}
use Rattle.xs_word_desk.specs.declared.view.View.{View}
use Rattle.xs_word_desk.specs.Sums.{total}
use Rattle.xs_word_desk.specs.Seen.{leaves, serves, turns}
use Rattle.xs_word_desk.specs.Rule.{Slot}
use Rattle.xs_word_desk.specs.Changes.{with_split, split_off, with_joined, joined_view}

-- what a function gives for each number below a bound
abbrev pub each_below : {A : Type 0} → ℕ → (ℕ → A) → List A
each_below zero f = []
each_below (suc n) f = f 0 ∷ each_below n (λ i. f (suc i))

-- ---- the numbers of seats, as sums

-- of the entries of an alias
abbrev pub number_sum : ℕ → List Signed → ℕ
number_sum k list = sum_by (λ s. cond (s.item == k) s.number 0) list

-- of the seat that won an alias
abbrev pub winner : List View → ℕ → ℕ
winner views k = total (λ v. number_sum k v.won) views

-- of the seat that has a read in turn
abbrev pub turner : List View → ℕ → ℕ
turner views e = total (λ v. turns e v * v.number) views

-- of the seat by which the tile of an alias is leaving
abbrev pub leaver : List View → ℕ → ℕ
leaver views k = total (λ v. leaves k v * v.number) views

-- ---- an alias, a read and a tile

-- the phase that a word says, with the number of the seat that won the alias
abbrev pub phase_shown : (word seat : ℕ) → Phase
phase_shown zero seat = Idle
phase_shown (suc zero) seat = Claimed seat
phase_shown (suc (suc zero)) seat = Lost
phase_shown (suc (suc (suc more))) seat = Ready seat

-- a read that was served or not, and is in turn or not, with the number of the seat that has it in turn
abbrev pub read_shown : (served in_turn seat : ℕ) → ReadState
read_shown zero zero seat = Waiting
read_shown zero (suc more) seat = InTurn seat
read_shown (suc more) in_turn seat = Served

-- a tile that is leaving by a seat or not, where so many reads are open by the word
abbrev pub tile_shown : (leaving seat open_ones : ℕ) → TileState
tile_shown (suc more) seat open_ones = Leaving seat
tile_shown zero seat (suc more) = Held
tile_shown zero seat zero = Absent

abbrev pub phase_at : List ℕ → List View → ℕ → Phase
phase_at words views k = phase_shown (slice_index words k) (winner views k)

abbrev pub read_at : List View → ℕ → ReadState
read_at views e = read_shown (total (serves e) views) (total (turns e) views) (turner views e)

abbrev pub tile_at : List ℕ → List View → ℕ → TileState
tile_at words views k = tile_shown (total (leaves k) views) (leaver views k) (slice_index words k / 16)

-- ---- the whole

abbrev pub shown : PlanRecord → State Slot View → World
shown p s =
    record {
      phases = each_below (length p.entries) (phase_at s.words s.views);
      reads = each_below (reads_in p) (read_at s.views);
      tiles = each_below (length p.entries) (tile_at s.words s.views);
    }

-- ---- what is held

abbrev pub is_held_tile : TileState → Bool
is_held_tile Held = true
is_held_tile _ = false

-- how many tiles a state holds
abbrev pub held_tiles : PlanRecord → World → ℕ
held_tiles p w = how_many (length p.entries) (λ k. is_held_tile (tile_of w k))

-- ---- steps

-- the table after a step by a seat on the word of an alias: another word, another view, and slots that are here or there
abbrev pub after_step : State Slot View → (k word id : ℕ) → View → List (slot.Option Slot) → State Slot View
after_step s k word id w homes =
    record { words = slice_set s.words k word; homes = homes; views = slice_set s.views id w }

-- the table after a seat was split off, and after one was joined
abbrev pub after_split : State Slot View → ℕ → View → State Slot View
after_split s id v =
    record { words = s.words; homes = s.homes; views = slice_set s.views id (with_split v) ++ split_off v ∷ [] }

abbrev pub after_join : State Slot View → (id other : ℕ) → (v w : View) → State Slot View
after_join s id other v w =
    record {
      words = s.words;
      homes = s.homes;
      views = slice_set (slice_set s.views id (with_joined v w)) other joined_view;
    }

-- a step from one state of the table to another is an event: it is of the plan, allowed, and makes of the state shown
-- before the state shown after
pub record Shows (p : PlanRecord) (s t : State Slot View) (event : Event) : Type 0 where
  pub there : IsOf p event
  pub allowed : Allowed p (shown p s) event
  pub happened : shown p t ≡ happens p (shown p s) event
