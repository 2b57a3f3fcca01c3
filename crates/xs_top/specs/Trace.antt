use Rattle.std.specs.Prelude.{ℕ, ◌+◌, ◌-◌, ◌^◌, min, sum, drop, List, [], ◌∷◌, ◌++◌, Option}
use Rattle.std.specs.Option.{option_map}
use Rattle.xs_rawfile.specs.declared.frame.TheConstants.{FRAME_HEADER}
use Rattle.xs_outside.specs.declared.object.Object.{Object}
use Rattle.xs_outside.specs.Told.{more}
use Rattle.xs_top.specs.declared.status.Status.{Status}

-- ---- what a run does

-- a step of a run that the outside sees: a file is asked for, a finished file is put on the shelf, or a
-- line is written
pub data Event : Type 0 where
  Ask : (name : List ℕ) → Event
  Place : (object : Object) → Event
  Line : (bytes : List ℕ) → Event

-- the names that are asked for
abbrev pub asks : List Event → List (List ℕ)
asks [] = []
asks (Ask name ∷ events) = name ∷ asks events
asks (Place object ∷ events) = asks events
asks (Line bytes ∷ events) = asks events

-- the files that are put on the shelf
abbrev pub puts : List Event → List Object
puts [] = []
puts (Ask name ∷ events) = puts events
puts (Place object ∷ events) = object ∷ puts events
puts (Line bytes ∷ events) = puts events

-- the bytes of the lines, each with its end
abbrev pub lines : List Event → List ℕ
lines [] = []
lines (Ask name ∷ events) = lines events
lines (Place object ∷ events) = lines events
lines (Line bytes ∷ events) = bytes ++ 10 ∷ lines events

-- what a run over an outside without faults and with enough memory does, in order, and its answer
pub record Outcome : Type 0 where
  pub status : Status
  pub work : List Event

-- the run ends with this answer
abbrev pub ended : Status → Outcome
ended status = record { status = status; work = [] }

-- these events, and then what follows
abbrev pub after : List Event → Outcome → Outcome
after events next = record { status = next.status; work = events ++ next.work }

-- the same run where no library is asked: its own files are at hand
abbrev pub without_asks : List Event → List Event
without_asks [] = []
without_asks (Ask name ∷ events) = without_asks events
without_asks (Place object ∷ events) = Place object ∷ without_asks events
without_asks (Line bytes ∷ events) = Line bytes ∷ without_asks events

abbrev pub unasked : Outcome → Outcome
unasked all = record { status = all.status; work = without_asks all.work }

-- ---- what the outside tells of it

-- the sum of the bytes of a frame's pixels, which stand behind its header
abbrev pub pixel_sum : List ℕ → ℕ
pixel_sum bytes = sum (drop FRAME_HEADER bytes)

-- a sum with one more number, which stands still at the greatest number of 64 bits
abbrev pub added : ℕ → ℕ → ℕ
added total n = min (total + n) (2 ^ 64 - 1)

-- a sum of the pixels of frames, where it is told, once these came to them
abbrev pub summed : Option ℕ → List Object → Option ℕ
summed told [] = told
summed told (frame ∷ frames) = summed (option_map (λ total. added total (pixel_sum frame.bytes)) told) frames

-- what a library, a shelf and notes tell, and the sum of the pixels of the frames that were put on the shelf, each
-- perhaps nothing
pub record Contents : Type 0 where
  pub asked : Option (List (List ℕ))
  pub shelf : Option (List Object)
  pub notes : Option (List ℕ)
  pub sum : Option ℕ

-- what they tell after these events
abbrev pub grown : Contents → List Event → Contents
grown seen events = record {
  asked = more seen.asked (asks events);
  shelf = more seen.shelf (puts events);
  notes = more seen.notes (lines events);
  sum = summed seen.sum (puts events);
}
