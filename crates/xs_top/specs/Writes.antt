-- What was written of some lines
use Rattle.std.specs.Prelude.{◌≡◌, ◌⊎◌, ℕ, List, Result, MatchResult}
use Rattle.xs_outside.specs.Told.{Rose, more}
use Rattle.xs_lines.specs.Lines.{with_ends, IsFront}
use Rattle.xs_top.specs.Trace.{Contents}
use Rattle.xs_top.specs.Seen.{Seen}
use Rattle.xs_top.specs.declared.status.Status.{Status}
use Rattle.xs_top.specs.declared.status.Status.TheVariants as answers

-- what is told when the notes gain these bytes
abbrev pub with_bytes : Contents → List ℕ → Contents
with_bytes seen bytes = record seen { notes = more seen.notes bytes }

-- whole lines and perhaps a part of the next were written, which is not all
pub record WroteFront (lines : List (List ℕ)) (before now : Contents) : Type 0 where
  pub bytes : List ℕ
  pub front : IsFront lines bytes
  pub told : now ≡ with_bytes before bytes

-- so it was, behind a whole line
abbrev pub WroteWhole : List (List ℕ) → Contents → Contents → Type 0
WroteWhole lines before now = (wrote : WroteFront lines before now) × (wrote.front.written ≡ 0)

-- where writing stopped with this status: at want of memory behind a whole line, and after a fault of the notes
-- perhaps within one
abbrev pub StopsWriting : List (List ℕ) → Seen → Seen → Status → Type 0
StopsWriting lines before now status =
    ((status ≡ answers.Memory) × WroteWhole lines before.told now.told)
    ⊎ ((status ≡ answers.WriteFault) × WroteFront lines before.told now.told × Rose before.faults.notes now.faults.notes)

-- lines were written, each with its end, or writing stopped
abbrev pub Writes : {A : Type 0} → List (List ℕ) → Seen → Seen → Result A Status → Type 0
Writes lines before now result =
    MatchResult result (λ _. now.told ≡ with_bytes before.told (with_ends lines)) (StopsWriting lines before now)
