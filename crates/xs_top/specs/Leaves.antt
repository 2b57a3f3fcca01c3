use Rattle.std.specs.Prelude.{◌≡◌, ◌≤◌, ◌⊎◌, Bool, None, true, false}
use Rattle.xs_outside.specs.Told.{Rose}
use Rattle.xs_top.specs.declared.status.Status.{Status}
use Rattle.xs_top.specs.declared.status.Status.TheVariants as answers
use Rattle.xs_top.specs.Causes.{is_lost, is_of_library, is_of_output, is_of_words, is_noting}
use Rattle.xs_top.specs.Trace.{Contents}
use Rattle.xs_top.specs.Seen.{Faults, Seen, OutsideRecord}

-- no count has fallen
pub record AreLater (before now : Faults) : Type 0 where
  pub library : before.library ≤ now.library
  pub shelf : before.shelf ≤ now.shelf
  pub notes : before.notes ≤ now.notes

-- the counts of what is written to stand still
pub record StandStill (before now : Faults) : Type 0 where
  pub shelf : now.shelf ≡ before.shelf
  pub notes : now.notes ≡ before.notes

-- what is left of an outside where this is the answer. The files are the same. No count of faults has fallen.
-- The library's rose where the answer is a fault of reading or, in a library that tells no files, that one is
-- not there or too long; the shelf's or the notes' rose where it is a fault of writing. At every other answer
-- they stand still: no fault was passed over
pub record Leaves (before now : Seen) (answer : Status) : Type 0 where
  pub files : now.files ≡ before.files
  pub later : AreLater before.faults now.faults
  pub read : answer ≡ answers.ReadFault → Rose before.faults.library now.faults.library
  pub untold : before.files ≡ None → is_lost answer ≡ true → Rose before.faults.library now.faults.library
  pub write :
      answer ≡ answers.WriteFault
      → Rose before.faults.shelf now.faults.shelf ⊎ Rose before.faults.notes now.faults.notes
  pub library : is_of_library answer ≡ false → now.faults.library ≡ before.faults.library
  pub outputs : is_of_output answer ≡ false → StandStill before.faults now.faults

-- the notes tell more only where all is done or writing failed
abbrev pub Quiet : Seen → Seen → Status → Type 0
Quiet before now answer = is_noting answer ≡ false → now.told.notes ≡ before.told.notes

-- and of many lines also where memory was wanted
abbrev pub QuietUnless : Bool → Seen → Seen → Status → Type 0
QuietUnless many before now answer = (answer ≡ answers.Memory → many ≡ false) → Quiet before now answer

-- so where nothing is noted and no words are read; the library, the shelf and the notes are the ones that were
-- borrowed
pub record Keeps (before now : OutsideRecord) (answer : Status) : Type 0 where
  pub left : Leaves before.seen now.seen answer
  pub notes : now.seen.told.notes ≡ before.seen.told.notes
  pub words : is_of_words answer ≡ false
  pub same : now.names ≡ before.names

-- nothing was written, as is told
pub record WroteNothing (before now : Contents) : Type 0 where
  pub shelf : now.shelf ≡ before.shelf
  pub notes : now.notes ≡ before.notes
  pub sum : now.sum ≡ before.sum

-- of an outside at most the library was asked: nothing is written, and none of the three is another one
pub record OnlyReads (before now : OutsideRecord) : Type 0 where
  pub files : now.seen.files ≡ before.seen.files
  pub told : WroteNothing before.seen.told now.seen.told
  pub outputs : StandStill before.seen.faults now.seen.faults
  pub same : now.names ≡ before.names
