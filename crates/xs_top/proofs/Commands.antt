-- What the words leave to do.
use Rattle.std.proofs.Common.{◌≡◌, ℕ, false, List, Some, None, Ok, Err, inl, inr, refl, sym, ◌∙◌}
use Rattle.std.proofs.lemmas.Bool.{false≢true}
use Rattle.xs_top.specs.declared.status.Status.{Status}
use Rattle.xs_top.specs.declared.status.Status.TheVariants as answers
use Rattle.xs_top.specs.Causes.{is_of_words}
use Rattle.xs_top.specs.Words.{Heeds, answer_to, answer_to_command, is_dry, is_make, says_dry}
use Rattle.xs_words.specs.declared.command.Command.{Command}
use Rattle.xs_words.specs.declared.command.Command.TheVariants as command
use Rattle.xs_words.specs.declared.fault.WordsFault.{WordsFault}
use Rattle.xs_words.specs.declared.fault.WordsFault.TheVariants as words_fault
use Rattle.xs_words.specs.Grammar.{reading_of, Reads}
use Rattle.xs_top.specs.Seen.{Seen}
use Rattle.xs_top.specs.Leaves.{Leaves, QuietUnless}
use Rattle.xs_top.specs.Runs.{Stopped, Undone}
use Rattle.xs_top.specs.Texts.{words_status}
use Rattle.xs_levels.specs.Films.{Files}
use Rattle.xs_top.specs.Outcome.{commanding, outcome}
use Rattle.xs_top.proofs.Parts.{did_nothing, stopped_whole, stopped_here, leaves_nothing}

pub command_obeyed : (files : Files) (words : List (List ℕ)) (command : Command) → reading_of words ≡ Ok command
    → outcome files words ≡ commanding files command
unfolding outcome
command_obeyed files words command e = rw e refl

pub words_stopped : (files : Files) (words : List (List ℕ)) (seen : Seen) (fault : WordsFault) → Reads (Err fault) (reading_of words)
    → Stopped (outcome files words) seen seen (words_status fault)
unfolding outcome
words_stopped files words seen (words_fault.Usage usage) e = stopped_whole _ seen seen _ refl (rw e (did_nothing _ _))
words_stopped files words seen words_fault.Memory e = stopped_here _ seen

pub words_leave : (seen : Seen) (fault : WordsFault) → Leaves seen seen (words_status fault)
words_leave seen (words_fault.Usage usage) = leaves_nothing seen _ refl refl
words_leave seen words_fault.Memory = leaves_nothing seen _ refl refl

-- words that are no command are answered so
pub words_heeded : (words : List (List ℕ)) (seen : Seen) (fault : WordsFault) → Reads (Err fault) (reading_of words)
    → Heeds (answer_to (reading_of words)) seen seen (words_status fault)
words_heeded words seen (words_fault.Usage usage) e = rw e (record { refused = λ status is. (inl cc, refl); only = λ told. refl })
words_heeded words seen words_fault.Memory e = record { refused = λ status is. (inr refl, refl); only = λ told. absurd cc }

pub command_heeded : (words : List (List ℕ)) (command : Command) (before now : Seen) (answer : Status) → reading_of words ≡ Ok command
    → Heeds (answer_to_command command) before now answer → Heeds (answer_to (reading_of words)) before now answer
command_heeded words command before now answer e heeds = rw e heeds

pub not_made : (said : Command) → ((seed rows workers : ℕ) → said ≡ command.Make seed rows workers → ⊥) → is_make said ≡ false
not_made (command.Make seed rows workers) other = absurd (other seed rows workers refl)
not_made (command.Render scene from to workers base) other = refl
not_made (command.Dry scene from to) other = refl
not_made (command.Show scene) other = refl
not_made (command.Again old new from to workers base) other = refl

-- a command that is built is carried out
pub built_heeded : (before now : Seen) (answer : Status) → is_of_words answer ≡ false → Heeds None before now answer
built_heeded before now answer inside =
    record { refused = λ status is. absurd cc; only = λ told. absurd (false≢true (sym inside ∙ told)) }

pub unbuilt_heeded : (seen : Seen) → Heeds (Some answers.NotYet) seen seen answers.NotYet
unbuilt_heeded seen = record { refused = λ status is. (inl cc, refl); only = λ told. refl }

pub command_quiet : (words : List (List ℕ)) (command : Command) (before now : Seen) (answer : Status) → reading_of words ≡ Ok command
    → QuietUnless (is_dry command) before now answer → QuietUnless (says_dry (reading_of words)) before now answer
command_quiet words command before now answer e quiet = rw e quiet

pub command_undone : (words : List (List ℕ)) (command : Command) (before now : Seen) (answer : Status) → reading_of words ≡ Ok command
    → Undone (λ files. commanding files command) before now answer → Undone (λ files. outcome files words) before now answer
command_undone words command before now answer e undone = λ files told written notes memory ends whole.
    let same = command_obeyed files words command e in
    undone files told written notes memory (rw same at ends) (rw same at whole)
