use Rattle.std.specs.Prelude.{◌≡◌, ℕ, ◌≤◌, Bool, List, Option, Some, Result, Ok, true, false}
use Rattle.xs_word_desk.specs.declared.closing.Closed.{Closed}
use Rattle.xs_words.specs.declared.command.Command.{Command}
use Rattle.xs_words.specs.declared.command.Command.TheVariants.{Render, Dry, Show, Make}
use Rattle.xs_words.specs.Grammar.{reading_of}
use Rattle.xs_dryrun.specs.declared.limits.What.{What}
use Rattle.xs_top.specs.declared.status.Status.{Status}
use Rattle.xs_top.specs.declared.status.Status.TheVariants as answers
use Rattle.xs_levels.specs.Films.{Files}
use Rattle.xs_top.specs.Seen.{Seen}
use Rattle.xs_top.specs.Causes.{answer_of, is_noting, is_of_words}
use Rattle.xs_top.specs.Words.{Heeds, answer_to, answer_to_command, is_dry, says_dry}
use Rattle.xs_top.specs.Leaves.{Leaves, Quiet, QuietUnless}
use Rattle.xs_top.specs.Trace.{Outcome, ended}
use Rattle.xs_top.specs.Outcome.{outcome, commanding, rendering, showing, demanding, making}
use Rattle.xs_top.specs.Runs.{Runs, Undone, IsRun}
use Rattle.xs_top.specs.Rendered.{IsRendered, GainedFrames, IsMade, IsShown, IsDemanded, PassesLimit, GainedLines}

-- where the library tells its files, what these words did is their outcome over the files
abbrev pub RanWords : List (List ℕ) → Seen → Seen → Status → Type 0
RanWords words before now answer =
    (files : Files) → before.files ≡ Some files → IsRun (outcome files words) before now answer

-- a render that ends well is a whole one, and whatever it answers, the shelf gained frames of its rows from the
-- first on and nothing else
pub record RanRows (files : Files) (scene base : List ℕ) (from to : ℕ) (before now : Seen) (answer : Status) : Type 0 where
  pub whole : answer ≡ answers.Ok → IsRendered files scene base from to before.told now.told
  pub frames : GainedFrames files scene base from to before.told.shelf now.told.shelf

-- where the library tells its files and these words say a render, its rows were rendered
abbrev pub RanRender : List (List ℕ) → Seen → Seen → Status → Type 0
RanRender words before now answer =
    (files : Files) → before.files ≡ Some files → (scene base : List ℕ) (from to workers : ℕ) → from ≤ to
    → reading_of words ≡ Ok (Render scene from to workers base)
    → RanRows files scene base from to before now answer

-- a scene that is shown leaves the shelf; the notes gained its text where all is done, and where writing did not
-- fail nothing else
pub record RanScene (files : Files) (name : List ℕ) (before now : Seen) (answer : Status) : Type 0 where
  pub whole : answer ≡ answers.Ok → IsShown files name before.told now.told
  pub shelf : now.told.shelf ≡ before.told.shelf
  pub nothing : is_noting answer ≡ false → now.told.notes ≡ before.told.notes

-- where the library tells its files and these words say to show a scene, it was shown
abbrev pub RanShow : List (List ℕ) → Seen → Seen → Status → Type 0
RanShow words before now answer =
    (files : Files) → before.files ≡ Some files → (scene : List ℕ) → reading_of words ≡ Ok (Show scene)
    → RanScene files scene before now answer

-- a demand that is told leaves the shelf; the notes gained all its lines where all is done, else a front part of them;
-- and where a limit is told, its rows pass that one first
pub record RanDemand (files : Files) (name : List ℕ) (from to : ℕ) (before now : Seen) (answer : Status) : Type 0 where
  pub whole : answer ≡ answers.Ok → IsDemanded files name from to before.told now.told
  pub limited : (what : What) (limit : ℕ) → answer ≡ answers.Limit what limit → PassesLimit files name from to what limit
  pub shelf : now.told.shelf ≡ before.told.shelf
  pub lines : GainedLines files name from to before.told.notes now.told.notes

-- where the library tells its files and these words say a dry run, the demand of its rows was told
abbrev pub RanDry : List (List ℕ) → Seen → Seen → Status → Type 0
RanDry words before now answer =
    (files : Files) → before.files ≡ Some files → (scene : List ℕ) (from to : ℕ) → reading_of words ≡ Ok (Dry scene from to)
    → RanDemand files scene from to before now answer

-- ---- calls, without words

-- what a call with this outcome over the files of a library has done, which writes many lines or one
pub record RanCall (all : Files → Outcome) (many : Bool) (before now : Seen) (answer : Status) : Type 0 where
  pub told : (files : Files) → before.files ≡ Some files → IsRun (all files) before now answer
  pub undone : Undone all before now answer
  pub words : is_of_words answer ≡ false
  pub left : Leaves before now answer
  pub quiet : QuietUnless many before now answer

-- what a render of rows of a scene has done of a library, a shelf and notes
pub record RanRendering (scene base : List ℕ) (from to : ℕ) (before now : Seen) (answer : Status) : Type 0 where
  pub call : RanCall (λ files. rendering files scene from to base) false before now answer
  pub rendered : (files : Files) → before.files ≡ Some files → RanRows files scene base from to before now answer

-- what showing a scene has done of a library and notes
pub record RanShowing (scene : List ℕ) (before now : Seen) (answer : Status) : Type 0 where
  pub call : RanCall (λ files. showing files scene) false before now answer
  pub shown : (files : Files) → before.files ≡ Some files → RanScene files scene before now answer

-- what a dry run of rows of a scene has done of a library and notes
pub record RanDryRun (scene : List ℕ) (from to : ℕ) (before now : Seen) (answer : Status) : Type 0 where
  pub call : RanCall (λ files. demanding files scene from to) true before now answer
  pub demanded : (files : Files) → before.files ≡ Some files → RanDemand files scene from to before now answer

-- whether an answer is one of a generated scene, which has no fault and keeps all limits
abbrev pub is_of_making : Status → Bool
is_of_making answers.Ok = true
is_of_making answers.WriteFault = true
is_of_making answers.Memory = true
is_of_making answer = false

-- what rendering rows of a generated scene has done of a shelf and notes; what library there is is left alone
pub record RanMaking (seed rows : ℕ) (before now : Seen) (answer : Status) : Type 0 where
  pub told : IsRun (making seed rows) before now answer
  pub made : answer ≡ answers.Ok → IsMade seed rows before.told now.told
  pub undone : Undone (λ _. making seed rows) before now answer
  pub ends : is_of_making answer ≡ true
  pub left : Leaves before now answer
  pub quiet : Quiet before now answer
  pub library : now.faults.library ≡ before.faults.library

-- ---- a run of words

-- where these words say to make a scene, its rows were rendered
abbrev pub RanMake : List (List ℕ) → Seen → Seen → Status → Type 0
RanMake words before now answer =
    (seed rows workers : ℕ) → reading_of words ≡ Ok (Make seed rows workers) → RanMaking seed rows before now answer

-- after want of memory never the whole is done where the run would have ended well
abbrev pub LeftUndone : List (List ℕ) → Seen → Seen → Status → Type 0
LeftUndone words = Undone (λ files. outcome files words)

-- what carrying out a command over a library has done
pub record Obeyed (said : Command) (before now : Seen) (result : Result (Option Closed) Status) : Type 0 where
  pub did : (files : Files) → before.files ≡ Some files → Runs (commanding files said) (λ _. ended answers.Ok) before now result
  pub leaves : Leaves before now (answer_of result)
  pub quiet : QuietUnless (is_dry said) before now (answer_of result)
  pub undone : Undone (λ files. commanding files said) before now (answer_of result)
  pub heeds : Heeds (answer_to_command said) before now (answer_of result)

-- what a run of these words has done of an outside where it answers so
pub record Ran (words : List (List ℕ)) (before now : Seen) (answer : Status) : Type 0 where
  pub told : RanWords words before now answer
  pub rendered : RanRender words before now answer
  pub made : RanMake words before now answer
  pub shown : RanShow words before now answer
  pub demanded : RanDry words before now answer
  pub undone : LeftUndone words before now answer
  pub heeds : Heeds (answer_to (reading_of words)) before now answer
  pub left : Leaves before now answer
  pub quiet : QuietUnless (says_dry (reading_of words)) before now answer
