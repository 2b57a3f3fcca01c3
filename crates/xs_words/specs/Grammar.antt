use Rattle.std.specs.Prelude.{ℕ, ◌+◌, ◌-◌, ◌≡◌, ◌&&◌, ◌==◌, Bool, List, [], ◌∷◌, length, Result, Ok, Err, nat_le, codes, slice_index_or, if◌then◌else◌}
use Rattle.xs_base.specs.declared.limits.TheConstants.{LAST_ROW, MOST_WORKERS, LONGEST_BASE, LONGEST_SPAN, LONGEST_SPAN_OF_TWO, MOST_GENERATED_ROWS}
use Rattle.std.specs.Str.{bytes_eq}
use Rattle.std.specs.List.{list_all}
use Rattle.std.specs.Char.{is_ascii_digit}
use Rattle.std.specs.Str.Parse.{digits_value}
use Rattle.xs_scene.specs.Names.{is_name}
use Rattle.xs_words.specs.declared.command.Command.{Command}
use Rattle.xs_words.specs.declared.command.Command.TheVariants.{Render, Dry, Show, Make, Again}
use Rattle.xs_words.specs.declared.fault.Usage.{Usage}
use Rattle.xs_words.specs.declared.fault.Usage.TheVariants.{NoCommand, Unknown, Count, Number, Range, Name}
use Rattle.xs_words.specs.declared.fault.WordsFault.{WordsFault}
use Rattle.xs_words.specs.declared.fault.WordsFault.TheVariants as outcome

-- the grammar of the command line. A command line is the list of its words, each the list of its bytes

abbrev pub Words : Type 0
Words = List (List ℕ)

-- the word with a number; words count from 1, and word 1 is the command
abbrev pub word : Words → ℕ → List ℕ
word words place = slice_index_or words (place - 1) []

unfoldable pub is_within : ℕ → ℕ → ℕ → Bool
is_within least most n = nat_le least n && nat_le n most

-- a number is one to nine ASCII digits; leading zeros are fine
unfoldable pub is_number : List ℕ → Bool
is_number text = list_all is_ascii_digit text && is_within 1 9 (length text)

unfoldable pub number_in : List ℕ → ℕ
number_in text = digits_value 10 text

-- the name that frames begin with leaves room for their rows
unfoldable pub is_base : List ℕ → Bool
is_base text = is_name text && nat_le (length text) LONGEST_BASE

-- the last row of a range: at least the first, and at most `span` rows after it
unfoldable pub is_last_row : ℕ → ℕ → ℕ → Bool
is_last_row from span to = nat_le from to && nat_le to LAST_ROW && nat_le to (from + span)

-- a test of a word, and the fault of words that fail it
pub record Check : Type 0 where
  pub passes : Bool
  pub fault : Usage

abbrev pub number : Words → ℕ → Check
number words place = record { passes = is_number (word words place); fault = Number place }

abbrev pub within : Words → ℕ → ℕ → ℕ → Check
within words place least most =
    record { passes = is_within least most (number_in (word words place)); fault = Range place }

-- the word is the last row of a range whose first row is the word before it
abbrev pub last_row : Words → ℕ → ℕ → Check
last_row words place span =
    record {
      passes = is_last_row (number_in (word words (place - 1))) span (number_in (word words place));
      fault = Range place;
    }

abbrev pub name : Words → ℕ → Check
name words place = record { passes = is_name (word words place); fault = Name place }

abbrev pub base : Words → ℕ → Check
base words place = record { passes = is_base (word words place); fault = Name place }

-- the command if the words pass all checks, else the fault of the first check that they fail
abbrev pub passing : List Check → Command → Result Command Usage
passing [] command = Ok command
passing (check ∷ rest) command = if check.passes then passing rest command else Err check.fault

-- the checks of each command, in the order of the codes of their faults, and within a code in the order of
-- their words

abbrev pub render_checks : Words → List Check
render_checks words =
    number words 3 ∷ number words 4 ∷ number words 5
    ∷ within words 3 1 LAST_ROW ∷ last_row words 4 LONGEST_SPAN ∷ within words 5 1 MOST_WORKERS
    ∷ name words 2 ∷ base words 6 ∷ []

abbrev pub dry_checks : Words → List Check
dry_checks words =
    number words 3 ∷ number words 4 ∷ within words 3 1 LAST_ROW ∷ last_row words 4 LONGEST_SPAN ∷ name words 2 ∷ []

abbrev pub show_checks : Words → List Check
show_checks words = name words 2 ∷ []

abbrev pub make_checks : Words → List Check
make_checks words =
    number words 2 ∷ number words 3 ∷ number words 4 ∷ within words 3 1 MOST_GENERATED_ROWS ∷ within words 4 1 MOST_WORKERS ∷ []

abbrev pub again_checks : Words → List Check
again_checks words =
    number words 4 ∷ number words 5 ∷ number words 6
    ∷ within words 4 1 LAST_ROW ∷ last_row words 5 LONGEST_SPAN_OF_TWO ∷ within words 6 1 MOST_WORKERS
    ∷ name words 2 ∷ name words 3 ∷ base words 7 ∷ []

-- what words say that should be so many
abbrev pub counted : Words → ℕ → Result Command Usage → Result Command Usage
counted words count reading = if length words == count then reading else Err Count

-- render SCENE FROM TO WORKERS BASE
abbrev pub render_reading : Words → Result Command Usage
render_reading words =
    counted words 6
    (passing (render_checks words)
    (Render (word words 2) (number_in (word words 3)) (number_in (word words 4)) (number_in (word words 5)) (word words 6)))

-- dry SCENE FROM TO
abbrev pub dry_reading : Words → Result Command Usage
dry_reading words =
    counted words 4
    (passing (dry_checks words) (Dry (word words 2) (number_in (word words 3)) (number_in (word words 4))))

-- show SCENE
abbrev pub show_reading : Words → Result Command Usage
show_reading words = counted words 2 (passing (show_checks words) (Show (word words 2)))

-- make SEED ROWS WORKERS
abbrev pub make_reading : Words → Result Command Usage
make_reading words =
    counted words 4
    (passing (make_checks words)
    (Make (number_in (word words 2)) (number_in (word words 3)) (number_in (word words 4))))

-- again OLD NEW FROM TO WORKERS BASE
abbrev pub again_reading : Words → Result Command Usage
again_reading words =
    counted words 7
    (passing (again_checks words)
    (Again (word words 2) (word words 3) (number_in (word words 4)) (number_in (word words 5)) (number_in (word words 6)) (word words 7)))

-- what words say: a command, or the fault that is told
unfoldable pub reading_of : Words → Result Command Usage
reading_of words =
    if length words == 0 then Err NoCommand
    else if bytes_eq (word words 1) (codes "render") then render_reading words
    else if bytes_eq (word words 1) (codes "dry") then dry_reading words
    else if bytes_eq (word words 1) (codes "show") then show_reading words
    else if bytes_eq (word words 1) (codes "make") then make_reading words
    else if bytes_eq (word words 1) (codes "again") then again_reading words
    else Err Unknown

-- a result tells this; of memory it tells nothing
abbrev pub Reads : Result Command WordsFault → Result Command Usage → Type 0
Reads (Ok command) reading = reading ≡ Ok command
Reads (Err (outcome.Usage usage)) reading = reading ≡ Err usage
Reads (Err outcome.Memory) reading = Unit {0}
