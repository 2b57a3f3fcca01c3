-- What a desk is seen as, and what every seat keeps between two of its calls
use Rattle.std.specs.Prelude.{◌≡◌, ◌≢◌, ◌<◌, ◌≤◌, ◌+◌, ◌*◌, ◌^◌, ◌==◌, ◌&&◌, ℕ, Bool, false, List, [], ◌∷◌, ◌++◌, length}
use Rattle.atomic_table.specs.Seated.{TableId}
use Rattle.xs_plan.specs.Record.{PlanRecord}
use Rattle.xs_core.specs.Views.{DeskView, entries, times}
use Rattle.xs_word_desk.specs.declared.view.View.{View}
use Rattle.xs_word_desk.specs.Seen.{wins, makes, knows}
use Rattle.xs_word_desk.specs.Rule.{ViewOk}
use Rattle.xs_word_desk.specs.Changes.{AtRest, without}
use Rattle.xs_word_desk.specs.Plays.{IsSolo}
use Rattle.xs_word_desk.specs.Own.{Own}

-- ---- which cache

-- a list of numbers as one number, another for each list
unfoldable pub number_of : List ℕ → ℕ
number_of [] = 0
number_of (n ∷ numbers) = 2 ^ n * (2 * number_of numbers + 1)

abbrev pub numbers_of : TableId → List ℕ
numbers_of id = id.words ∷ id.slots ∷ id.views_name ∷ id.atom ∷ id.block ∷ id.offset ∷ id.slot_names

-- the number of a cache: no other cache has it
unfoldable pub home_of : TableId → ℕ
home_of id = number_of (numbers_of id)

-- ---- a seat as the desk of a cache

abbrev pub is_solo : View → Bool
is_solo v = v.live && (v.number == 0) && (length v.apart == 0)

abbrev pub desk_view : TableId → View → DeskView
desk_view id v =
    record {
      home = home_of id;
      number = v.number;
      solo = is_solo v;
      won = v.won;
      made = v.made;
      lost = v.lost;
      served = v.served;
      known = v.known;
      met = v.met;
    }

-- what a seat at rest keeps
pub record Keeps (p : PlanRecord) (v : View) : Type 0 where
  pub plan : v.plan ≡ p
  pub rests : AtRest v
  pub ok : ViewOk p v
  pub own : Own p v
  -- it won nothing twice; alone, it made all that it knows to be ready
  pub once : (k : ℕ) → wins k v ≤ 1
  pub alone_made : IsSolo v → (k : ℕ) → 0 < knows k v → 0 < makes k v
  -- the numbers of the seats that it split off are below the next one
  pub next : v.number ≡ 0 → 0 < v.next
  pub fresh : (number : ℕ) → 0 < times number v.apart → number < v.next
  -- and each is apart or joined
  pub counted : v.number ≡ 0 → length v.apart + v.joined + 1 ≡ v.next

-- ---- seats that are split off and joined

-- a seat was split off this one: it has a number of its own and nothing else, and knows what this one knows
pub record SplitTells (v u w : DeskView) : Type 0 where
  pub home : (u.home ≡ v.home) × (w.home ≡ v.home)
  pub number : (u.number ≢ 0) × (w.number ≡ v.number)
  pub solo : (u.solo ≡ false) × (w.solo ≡ false)
  pub won : (u.won ≡ []) × (w.won ≡ v.won)
  pub made : (u.made ≡ []) × (w.made ≡ v.made)
  pub lost : (u.lost ≡ []) × (w.lost ≡ v.lost)
  pub served : (u.served ≡ []) × (w.served ≡ v.served)
  pub known : (u.known ≡ v.known) × (w.known ≡ v.known)
  pub met : (u.met ≡ []) × (w.met ≡ v.met)

-- a seat was joined: this one got its entries, and what it knew
pub record JoinTells (v o w : DeskView) : Type 0 where
  pub home : w.home ≡ v.home
  pub number : w.number ≡ v.number
  pub won : w.won ≡ v.won ++ o.won
  pub made : w.made ≡ v.made ++ o.made
  pub lost : w.lost ≡ v.lost ++ o.lost
  pub served : w.served ≡ v.served ++ o.served
  pub known : w.known ≡ v.known ++ o.known
  pub met : w.met ≡ v.met

-- the numbers of the seats that are apart, where one is split off
pub record MoreApart (was now : List ℕ) (number : ℕ) : Type 0 where
  pub new : times number was ≡ 0
  pub apart : now ≡ was ++ number ∷ []
  pub more : length now ≡ length was + 1

-- where one is joined: it was apart, and is so no more; the one that was split off last leaves the others as they were
pub record LessApart (was now : List ℕ) (number : ℕ) : Type 0 where
  pub apart : 0 < times number was
  pub rest : now ≡ without number was
  pub fewer : length now + 1 ≡ length was
  pub last : (others : List ℕ) → times number others ≡ 0 → was ≡ others ++ number ∷ [] → now ≡ others

-- a seat has nothing claimed
abbrev pub HasNothing : DeskView → Type 0
HasNothing v = (k : ℕ) → entries k v.won ≤ entries k v.made + entries k v.lost
