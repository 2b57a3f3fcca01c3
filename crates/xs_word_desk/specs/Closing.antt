-- The closing record of a cache
use Rattle.std.specs.Prelude.{◌≡◌, ℕ, Option, List, map}
use mathlib.Core.Option.{some}
use lib.ListN.{get_elem?}
use Rattle.atomic_table.specs.Table.{State}
use Rattle.xs_pixel.specs.Picture.{Pictures}
use Rattle.xs_plan.specs.Record.{PlanRecord}
use Rattle.xs_core.specs.Views.{Signed}
use Rattle.xs_word_desk.specs.declared.closing.Closed.{Closed}
use Rattle.xs_word_desk.specs.declared.view.View.{View}
use Rattle.xs_word_desk.specs.Rule.{Slot}
use Rattle.xs_word_desk.specs.Shown.{held_tiles, shown}
use Rattle.xs_word_desk.specs.Traced.{Traced}

-- its plan, the aliases that were made, the reads that were served, and how many tiles were still held
abbrev pub closed_plan : Closed → PlanRecord
closed_plan c = c.chief.value.seat.me.0.plan

abbrev pub closed_made : Closed → List ℕ
closed_made c = map (λ (s : Signed). s.item) c.chief.value.seat.me.0.made

abbrev pub closed_served : Closed → List ℕ
closed_served c = map (λ (s : Signed). s.item) c.chief.value.seat.me.0.served

abbrev pub closed_tiles : Closed → ℕ
closed_tiles c = c.tiles

-- so many tiles are held in the state that the last words and views show, of which this is the view of the seat
abbrev pub ShowsTiles : Option Pictures → PlanRecord → ℕ → View → ℕ → Type 0
ShowsTiles told p id v tiles =
    (s : State Slot View) × Traced told p s × (get_elem? s.views id ≡ some v) × (tiles ≡ held_tiles p (shown p s))
