use Rattle.std.specs.Prelude.{ℕ, ◌+◌, ◌≡◌, ◌≤◌, ◌<◌, List, [], ◌∷◌, length, Ok, codes, decimal}
use Rattle.xs_base.specs.declared.limits.TheConstants.{LAST_ROW, MOST_WORKERS, LONGEST_BASE, LONGEST_SPAN, LONGEST_SPAN_OF_TWO, MOST_GENERATED_ROWS, SEEDS}
use Rattle.xs_scene.specs.Names.{IsName}
use Rattle.xs_scene.specs.Ranges.{IsRow}
use Rattle.xs_words.specs.declared.command.Command.{Command}
use Rattle.xs_words.specs.declared.command.Command.TheVariants.{Render, Dry, Show, Make, Again}
use Rattle.xs_words.specs.Grammar.{Words, reading_of}

-- the rows from the first to the last, at most `span` rows after it
abbrev pub IsRange : ℕ → ℕ → ℕ → Type 0
IsRange from span to = IsRow from × (from ≤ to) × (to ≤ LAST_ROW) × (to ≤ from + span)

abbrev pub IsWorkers : ℕ → Type 0
IsWorkers workers = (1 ≤ workers) × (workers ≤ MOST_WORKERS)

-- a name that leaves room for the rows of the frames
abbrev pub IsBase : List ℕ → Type 0
IsBase base = IsName base × (length base ≤ LONGEST_BASE)

-- a command whose numbers and names are in range
abbrev pub IsCommand : Command → Type 0
IsCommand (Render scene from to workers base) = IsName scene × IsRange from LONGEST_SPAN to × IsWorkers workers × IsBase base
IsCommand (Dry scene from to) = IsName scene × IsRange from LONGEST_SPAN to
IsCommand (Show scene) = IsName scene
IsCommand (Make seed rows workers) = (seed < SEEDS) × (1 ≤ rows) × (rows ≤ MOST_GENERATED_ROWS) × IsWorkers workers
IsCommand (Again old new from to workers base) =
    IsName old × IsName new × IsRange from LONGEST_SPAN_OF_TWO to × IsWorkers workers × IsBase base

-- the words of a command, its numbers without leading zeros
abbrev pub words_of : Command → Words
words_of (Render scene from to workers base) =
    codes "render" ∷ scene ∷ decimal from ∷ decimal to ∷ decimal workers ∷ base ∷ []
words_of (Dry scene from to) = codes "dry" ∷ scene ∷ decimal from ∷ decimal to ∷ []
words_of (Show scene) = codes "show" ∷ scene ∷ []
words_of (Make seed rows workers) = codes "make" ∷ decimal seed ∷ decimal rows ∷ decimal workers ∷ []
words_of (Again old new from to workers base) =
    codes "again" ∷ old ∷ new ∷ decimal from ∷ decimal to ∷ decimal workers ∷ base ∷ []

-- a command in range is what its words say
abbrev pub IsReadBack : Command → Type 0
IsReadBack command = IsCommand command → reading_of (words_of command) ≡ Ok command
