use Rattle.std.specs.Prelude.{ℕ, ◌≡◌, ◌==◌, ◌||◌, ◌&&◌, ◌⊎◌, Bool, true, false, List, [], ◌∷◌, length, Err, nat_le, nat_lt, codes, if◌then◌else◌}
use Rattle.std.specs.Str.{bytes_eq}
use Rattle.xs_words.specs.declared.fault.Usage.{Usage}
use Rattle.xs_words.specs.declared.fault.Usage.TheVariants.{NoCommand, Unknown, Count, Number, Range, Name}
use Rattle.xs_words.specs.Grammar.{Words, Check, word, render_checks, dry_checks, show_checks, make_checks, again_checks, reading_of}

-- the number of a fault, by which faults are ordered
abbrev pub code_of : Usage → ℕ
code_of NoCommand = 1
code_of Unknown = 2
code_of Count = 3
code_of (Number place) = 4
code_of (Range place) = 5
code_of (Name place) = 6

-- the number of the word at fault, 0 where all words are
abbrev pub place_of : Usage → ℕ
place_of (Number place) = place
place_of (Range place) = place
place_of (Name place) = place
place_of _ = 0

-- a fault is told before another or is it: it has a lesser code, or the same code and no later word
abbrev pub precedes : Usage → Usage → Bool
precedes first second =
    nat_lt (code_of first) (code_of second) || ((code_of first == code_of second) && nat_le (place_of first) (place_of second))

abbrev pub failing : Usage → List Check
failing fault = record { passes = false; fault = fault } ∷ []

abbrev pub counted_checks : Words → ℕ → List Check → List Check
counted_checks words count checks = if length words == count then checks else failing Count

-- all that is passing of words
unfoldable pub checks_of : Words → List Check
checks_of words =
    if length words == 0 then failing NoCommand
    else if bytes_eq (word words 1) (codes "render") then counted_checks words 6 (render_checks words)
    else if bytes_eq (word words 1) (codes "dry") then counted_checks words 4 (dry_checks words)
    else if bytes_eq (word words 1) (codes "show") then counted_checks words 2 (show_checks words)
    else if bytes_eq (word words 1) (codes "make") then counted_checks words 4 (make_checks words)
    else if bytes_eq (word words 1) (codes "again") then counted_checks words 7 (again_checks words)
    else failing Unknown

-- one of the checks fails with this fault
abbrev pub HasFault : List Check → Usage → Type 0
HasFault [] fault = ⊥
HasFault (check ∷ rest) fault = ((check.passes ≡ false) × (check.fault ≡ fault)) ⊎ HasFault rest fault

-- a fault applies, and none that applies comes before it
abbrev pub IsFirstFault : List Check → Usage → Type 0
IsFirstFault checks fault =
    HasFault checks fault × ((other : Usage) → HasFault checks other → precedes fault other ≡ true)

-- the fault that is told of words is their first
abbrev pub TellsFirstFault : Words → Type 0
TellsFirstFault words = (fault : Usage) → reading_of words ≡ Err fault → IsFirstFault (checks_of words) fault
