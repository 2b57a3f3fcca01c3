-- The rule with its history: the state that the words and the views show is one of a run of the core
use Rattle.std.specs.Prelude.{◌≡◌, ◌<◌, ◌+◌, ◌-◌, ◌/◌, ◌%◌, ◌^◌, ℕ, false, ◌==◌, cond, Option, Some, None, List, slice_index, bit_and, bit_or}
use mathlib.Core.Option.{some, none}
use mathlib.Core.Option as slot
use lib.ListN.{get_elem?}
use prog.Atomic.{either}
use Rattle.atomic_table.specs.Table.{State, step}
use Rattle.xs_pixel.specs.Picture.{Pictures}
use Rattle.xs_plan.specs.Record.{PlanRecord}
use Rattle.xs_plan.specs.Reads.{readers_of}
use Rattle.xs_core.specs.declared.event.Event.{Event}
use Rattle.xs_core.specs.declared.event.Event.TheVariants.{Claim, Finish, Abandon, Turn, Give, Retire, Clear}
use Rattle.xs_core.specs.Events.{start}
use Rattle.xs_core.specs.Runs.{IsRun, after}
use Rattle.xs_core.specs.States.{source_at}
use Rattle.xs_word_desk.specs.declared.view.View.{View}
use Rattle.xs_word_desk.specs.Words.{Finished, encode}
use Rattle.xs_word_desk.specs.Seen.{wins, makes, loses}
use Rattle.xs_word_desk.specs.Rule.{Slot, Holds}
use Rattle.xs_word_desk.specs.Plays.{At, MayServe, claimed, looked, took_out, finished, abandoned, turned, gave, retired, cleared}
use Rattle.xs_word_desk.specs.Own.{Own}
use Rattle.xs_word_desk.specs.Shown.{shown, after_step, Shows}

-- the whole, each view's entries under its own number, and some events that make a run of the core to the state shown
pub record Traced (told : Option Pictures) (p : PlanRecord) (s : State Slot View) : Type 0 where
  pub board : Holds told p s
  pub own : (id : ℕ) (v : View) → get_elem? s.views id ≡ some v → Own p v
  pub events : List Event
  pub ran : IsRun p (start p) events
  pub shows : shown p s ≡ after p events

-- what a step is to the state shown: an event, or nothing
abbrev pub Effect : PlanRecord → State Slot View → State Slot View → Option Event → Type 0
Effect p s t None = shown p t ≡ shown p s
Effect p s t (Some event) = Shows p s t event

-- wherever a seat takes a step on the word of an alias, which makes f of the word and tells `tells` of the word that it
-- found and of the seat after it, the step is the event that is named by the word found, or none, and what the seat has
-- under its own number stays so
abbrev pub IsEvent :
    Option Pictures → PlanRecord → ℕ → At → ℕ → (ℕ → ℕ) → (ℕ → At → Type 0) → (ℕ → Option Event) → Type 0
IsEvent told p id m k f tells event =
    (s : State Slot View) → Holds told p s → Own p m.0 → get_elem? s.views id ≡ some m.0 → slice_index s.words k < 2 ^ 64
    → (w : View) (c : List (ℕ × Slot)) (homes : List (slot.Option Slot)) → tells (slice_index s.words k) (w, c)
    → Own p w × Effect p s (after_step s k (f (slice_index s.words k)) id w homes) (event (slice_index s.words k))

-- each kind of step on the word of an alias, and its event
pub record EachStep (told : Option Pictures) (p : PlanRecord) (n id k : ℕ) (m : At) : Type 0 where
  -- a claim, where the alias is idle
  pub claim : IsEvent told p id m k (λ word. either (word == 0) 1 word) (claimed (step n k 0 1 none) m)
      (λ word. cond (word == 0) (Some (Claim m.0.number k)) None)
  -- a look, and taking the empty slot out, are none
  pub look : IsEvent told p id m k (λ word. word) (looked (step n k 0 0 none) m) (λ word. None)
  pub take_out : IsEvent told p id m k (λ word. word) (took_out (step n k 0 0 none) m) (λ word. None)
  -- by a seat that has filled the slot of the alias
  pub finish : (next : ℕ) → m.0.filling ≡ Some k → next ≡ encode (Finished false false (readers_of p k))
      → IsEvent told p id m k (λ word. next) (finished (step n k next 0 none) m) (λ word. Some (Finish m.0.number k))
  -- by one that has claimed it
  pub abandon : m.0.filling ≡ None → makes k m.0 + loses k m.0 < wins k m.0
      → IsEvent told p id m k (λ word. 2) (abandoned (step n k 2 0 none) m) (λ word. Some (Abandon m.0.number k))
  -- by one that may serve a read of it: a turn where no other seat has one
  pub turn : (e : ℕ) → m.0.turn ≡ None → MayServe p m.0 e k
      → IsEvent told p id m k (λ word. bit_or word 4) (turned told p e (step n k 4 0 none) m)
      (λ word. cond (word / 4 % 2 == 0) (Some (Turn m.0.number e)) None)
  pub give : (e : ℕ) → m.0.turn ≡ Some e → source_at p e ≡ k
      → IsEvent told p id m k (λ word. bit_and word (2 ^ 64 - 1 - 4)) (gave (step n k (2 ^ 64 - 1 - 4) 0 none) m)
      (λ word. Some (Give m.0.number e))
  pub retire : (e : ℕ) → m.0.turn ≡ None → m.0.leaving ≡ None → MayServe p m.0 e k
      → IsEvent told p id m k (λ word. (word + (2 ^ 64 - 16)) % 2 ^ 64) (retired p e (step n k 16 0 none) m)
      (λ word. Some (Retire m.0.number e))
  -- by one by which the tile leaves
  pub clear : m.0.leaving ≡ Some k
      → IsEvent told p id m k (λ word. bit_or word 8) (cleared (step n k 8 0 none) m) (λ word. Some (Clear m.0.number k))
