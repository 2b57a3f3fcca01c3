use Rattle.std.specs.Prelude.{◌≡◌, ◌⊎◌, Bool, true, false, Option, None, Some, Result, Ok, Err}
use Rattle.xs_words.specs.declared.command.Command.{Command}
use Rattle.xs_words.specs.declared.command.Command.TheVariants as command
use Rattle.xs_words.specs.declared.fault.Usage.{Usage}
use Rattle.xs_top.specs.declared.status.Status.{Status}
use Rattle.xs_top.specs.declared.status.Status.TheVariants as answers
use Rattle.xs_top.specs.Causes.{is_of_words}
use Rattle.xs_top.specs.Seen.{Seen}

-- the answer to a command that is not built yet
abbrev pub answer_to_command : Command → Option Status
answer_to_command (command.Render scene from to workers base) = None
answer_to_command (command.Show scene) = None
answer_to_command (command.Dry scene from to) = None
answer_to_command (command.Make seed rows workers) = None
answer_to_command (command.Again old new from to workers base) = Some answers.NotYet

-- the answer to words that leave nothing to do: they are no command, or one that is not built yet
abbrev pub answer_to : Result Command Usage → Option Status
answer_to (Err usage) = Some (answers.Usage usage)
answer_to (Ok command) = answer_to_command command

-- whether a command writes many lines, which a dry run does
abbrev pub is_dry : Command → Bool
is_dry (command.Dry scene from to) = true
is_dry command = false

abbrev pub says_dry : Result Command Usage → Bool
says_dry (Err usage) = false
says_dry (Ok command) = is_dry command

-- whether a command renders a generated scene, and so needs no library
abbrev pub is_make : Command → Bool
is_make (command.Make seed rows workers) = true
is_make command = false

-- the words alone decide whether there is anything to do. Where there is not, that is the answer unless memory
-- is wanted, and nothing is asked for, handed over or written; and no other words are answered so
pub record Heeds (told : Option Status) (before now : Seen) (answer : Status) : Type 0 where
  pub refused :
      (status : Status) → told ≡ Some status
      → ((answer ≡ status) ⊎ (answer ≡ answers.Memory)) × (now ≡ before)
  pub only : is_of_words answer ≡ true → told ≡ Some answer
