-- What the steps of a seat do to its view
use Rattle.std.specs.Prelude.{◌≡◌, ◌+◌, ℕ, true, false, ◌==◌, cond, Option, Some, None, List, [], ◌∷◌, ◌++◌}
use Rattle.xs_plan.specs.Record.{PlanRecord}
use Rattle.xs_core.specs.Views.{signed, Met, meeting}
use Rattle.xs_word_desk.specs.declared.view.View.{View}

-- it won an alias, which it entered with its number
abbrev pub with_won : View → ℕ → View
with_won v k = record v { won = v.won ++ signed v.number k ∷ [] }

-- it met something of an alias
abbrev pub with_met : View → ℕ → Met → View
with_met v k met = record v { met = v.met ++ meeting k met ∷ [] }

-- it found an alias ready
abbrev pub with_known : View → ℕ → View
with_known v k = record v { known = v.known ++ k ∷ [] }

-- it took out the slot of an alias to fill it
abbrev pub with_filling : View → ℕ → View
with_filling v k = record v { filling = Some k }

-- it filled the slot of an alias, and so made the alias
abbrev pub with_made : View → ℕ → View
with_made v k = record v { made = v.made ++ signed v.number k ∷ []; known = v.known ++ k ∷ []; filling = None }

-- it gave up an alias
abbrev pub with_lost : View → ℕ → View
with_lost v k = record v { lost = v.lost ++ signed v.number k ∷ [] }

-- it has a read in turn, or none
abbrev pub with_turn : View → Option ℕ → View
with_turn v turn = record v { turn = turn }

-- it served a read, and then a tile is leaving by it, or none
abbrev pub with_served : View → ℕ → Option ℕ → View
with_served v e leaving = record v { served = v.served ++ signed v.number e ∷ []; leaving = leaving }

-- no tile is leaving by it any more
abbrev pub with_cleared : View → View
with_cleared v = record v { leaving = None }

-- a seat between two of its calls: not joined, with no slot out
pub record AtRest (v : View) : Type 0 where
  pub live : v.live ≡ true
  pub filling : v.filling ≡ None
  pub turn : v.turn ≡ None
  pub leaving : v.leaving ≡ None

-- the chief before any step
abbrev pub first_view : PlanRecord → View
first_view p =
    record {
      plan = p;
      live = true;
      number = 0;
      next = 1;
      apart = [];
      joined = 0;
      won = [];
      made = [];
      lost = [];
      served = [];
      known = [];
      met = [];
      filling = None;
      turn = None;
      leaving = None;
    }

-- a plan of nothing
abbrev pub no_plan : PlanRecord
no_plan = record { tiles = []; entries = []; roots = []; ends = []; tints = []; drawings = 0 }

-- ---- seats

-- the chief after it split a seat off
abbrev pub with_split : View → View
with_split v = record v { next = v.next + 1; apart = v.apart ++ v.next ∷ [] }

-- that seat: it has the next number, and knows what the chief knows
abbrev pub split_off : View → View
split_off v = record (first_view v.plan) { number = v.next; next = 0; known = v.known }

-- a list of numbers without the first that is a number
abbrev pub without : ℕ → List ℕ → List ℕ
without n [] = []
without n (m ∷ numbers) = cond (m == n) numbers (m ∷ without n numbers)

-- the chief after it joined a seat: it has that seat's entries, and knows what the seat knew
abbrev pub with_joined : View → View → View
with_joined v w =
    record v {
      apart = without w.number v.apart;
      joined = v.joined + 1;
      won = v.won ++ w.won;
      made = v.made ++ w.made;
      lost = v.lost ++ w.lost;
      served = v.served ++ w.served;
      known = v.known ++ w.known;
    }

-- a seat that is joined has nothing
abbrev pub joined_view : View
joined_view = record (first_view no_plan) { live = false; next = 0 }
