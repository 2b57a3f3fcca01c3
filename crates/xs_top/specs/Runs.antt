use Rattle.std.specs.Prelude.{◌≡◌, ℕ, ◌⊎◌, List, [], ◌∷◌, ◌++◌, take, Bool, true, false, Some, Result, MatchResult}
use Rattle.xs_outside.specs.Told.{Rose, more}
use Rattle.xs_outside.specs.declared.object.Object.{Object}
use Rattle.xs_top.specs.Trace.{Event, Ask, Place, Line, asks, puts, lines, Outcome, ended, after, Contents, grown}
use Rattle.xs_levels.specs.Films.{Files}
use Rattle.xs_top.specs.Seen.{Seen, OutsideRecord}
use Rattle.xs_top.specs.declared.status.Status.{Status}
use Rattle.xs_top.specs.declared.status.Status.TheVariants as answers

-- ---- a part of a run

-- of all that there was to do a part was done, and this is left
pub record Did (all left : Outcome) (before now : Contents) : Type 0 where
  pub done : List Event
  pub split : all ≡ after done left
  pub told : now ≡ grown before done

-- a line was begun, of which some bytes may be written
pub record BrokeOff (line : List ℕ) (before now : Contents) : Type 0 where
  pub written : ℕ
  pub told : now ≡ record before { notes = more before.notes (take written (line ++ 10 ∷ [])) }

-- a part was done up to a file that the shelf did not take
pub record StoppedPlacing (all : Outcome) (before now : Contents) : Type 0 where
  pub object : Object
  pub left : Outcome
  pub did : Did all (after (Place object ∷ []) left) before now

-- a part was done up to a line, behind which no file is put on the shelf
pub record StoppedNoting (all : Outcome) (before now : Contents) : Type 0 where
  pub line : List ℕ
  pub left : Outcome
  pub last : puts left.work ≡ []
  pub whole : Contents
  pub did : Did all (after (Line line ∷ []) left) before whole
  pub broke : BrokeOff line whole now

-- a part was done up to a file that was asked for in vain
pub record StoppedAsking (all : Outcome) (before now : Contents) : Type 0 where
  pub name : List ℕ
  pub left : Outcome
  pub whole : Contents
  pub did : Did all (after (Ask name ∷ []) left) before whole
  pub asked : now ≡ grown whole (Ask name ∷ [])

-- what was done where a run stopped with this status; after a fault of writing, whose fault it was
unfoldable pub Stopped : Outcome → Seen → Seen → Status → Type 0
Stopped all before now answers.ReadFault = StoppedAsking all before.told now.told
Stopped all before now answers.WriteFault =
    (StoppedPlacing all before.told now.told × Rose before.faults.shelf now.faults.shelf)
    ⊎ (StoppedNoting all before.told now.told × Rose before.faults.notes now.faults.notes)
Stopped all before now answers.Memory = (left : Outcome) × Did all left before.told now.told
Stopped all before now status = Did all (ended status) before.told now.told

-- a part of a run came through to what is left, or stopped
abbrev pub Runs : {A : Type 0} → Outcome → (A → Outcome) → Seen → Seen → Result A Status → Type 0
Runs all left before now result =
    MatchResult result (λ value. Did all (left value) before.told now.told) (Stopped all before now)

-- where the library tells its files, this part was done, whatever is to follow its value
abbrev pub Gives : {A : Type 0} → (Files → (A → Outcome) → Outcome) → OutsideRecord → OutsideRecord → Result A Status → Type 0
Gives {A} part before now result =
    (files : Files) → before.seen.files ≡ Some files → (next : A → Outcome)
    → Runs (part files next) next before.seen now.seen result

-- where the library tells its files, this part was done, whatever is to follow it
abbrev pub Does : {A : Type 0} → (Files → Outcome → Outcome) → OutsideRecord → OutsideRecord → Result A Status → Type 0
Does part before now result =
    (files : Files) → before.seen.files ≡ Some files → (next : Outcome)
    → Runs (part files next) (λ _. next) before.seen now.seen result

-- where the library tells its files, all of this was done, and the run ended well
abbrev pub Ends : {A : Type 0} → (Files → Outcome) → OutsideRecord → OutsideRecord → Result A Status → Type 0
Ends all before now result =
    (files : Files) → before.seen.files ≡ Some files → Runs (all files) (λ _. ended answers.Ok) before.seen now.seen result

-- where memory was wanted, a run that would have ended well was not done whole, as told notes show
abbrev pub Undone : (Files → Outcome) → Seen → Seen → Status → Type 0
Undone all before now answer =
    (files : Files) → before.files ≡ Some files → (written : List ℕ) → before.told.notes ≡ Some written
    → answer ≡ answers.Memory → (all files).status ≡ answers.Ok → now.told ≡ grown before.told (all files).work → ⊥

-- ---- a whole run

-- the answers after which a part of the work may be undone
abbrev pub is_broken : Status → Bool
is_broken answers.ReadFault = true
is_broken answers.WriteFault = true
is_broken answers.Memory = true
is_broken status = false

-- each list gained a front part of what the outcome gives it
pub record GainedFront (all : Outcome) (before now : Contents) : Type 0 where
  pub asked : (n : ℕ) × (now.asked ≡ more before.asked (take n (asks all.work)))
  pub shelf : (n : ℕ) × (now.shelf ≡ more before.shelf (take n (puts all.work)))
  pub notes : (n : ℕ) × (now.notes ≡ more before.notes (take n (lines all.work)))

-- what a run with this outcome has done where it answers so: but for faults and want of memory the
-- answer and all the work are the outcome's; in each case a front part of the work was done, of all three
-- lists together; after a fault of reading exactly the part up to the file that was asked for last, and
-- after one of writing exactly the part before the file or the line that was not taken; after one of writing
-- that is not the shelf's, each file stands on the shelf
pub record IsRun (all : Outcome) (before now : Seen) (result : Status) : Type 0 where
  pub answer : is_broken result ≡ false → result ≡ all.status
  pub whole : is_broken result ≡ false → now.told ≡ grown before.told all.work
  pub front : GainedFront all before.told now.told
  pub stopped : Stopped all before now result
  pub placed :
      result ≡ answers.WriteFault
      → (now.told.shelf ≡ more before.told.shelf (puts all.work)) ⊎ Rose before.faults.shelf now.faults.shelf
