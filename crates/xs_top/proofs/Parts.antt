-- Parts of a run, one after another.
use Rattle.std.proofs.Common.{◌≡◌, ℕ, List, [], ◌∷◌, ◌++◌, Option, Some, None, Result, Ok, Err, refl, true, false, sym, ap, ◌∙◌, append_assoc, inl, inr, arith}
use Rattle.std.proofs.lemmas.Bool.{false≢true}
use Rattle.std.proofs.lemmas.List.{append-nil}
use Rattle.xs_outside.specs.Told.{Rose, more}
use Rattle.xs_outside.specs.declared.object.Object.{Object}
use Rattle.xs_top.specs.declared.status.Status.{Status}
use Rattle.xs_top.specs.declared.status.Status.TheVariants as answers
use Rattle.xs_top.specs.Trace.{Event, Ask, Place, Line, asks, puts, lines, Outcome, ended, after, Contents, grown, added, pixel_sum, summed}
use Rattle.std.specs.Option.{option_map}
use Rattle.xs_top.specs.Seen.{Seen, OutsideRecord}
use Rattle.xs_top.specs.Causes.{is_lost, is_of_library, is_of_output, is_of_words, IsInside}
use Rattle.xs_top.specs.Leaves.{Leaves, Quiet, Keeps}
use Rattle.xs_top.specs.Runs.{Runs, Did, is_broken, StoppedAsking, StoppedPlacing, StoppedNoting, Stopped}

-- ---- the three readings of a list of events

pub asks-append : (first then : List Event) → asks (first ++ then) ≡ asks first ++ asks then
asks-append [] then = refl
asks-append (Ask name ∷ first) then = ap (λ names. name ∷ names) (asks-append first then)
asks-append (Place object ∷ first) then = asks-append first then
asks-append (Line line ∷ first) then = asks-append first then

pub puts-append : (first then : List Event) → puts (first ++ then) ≡ puts first ++ puts then
puts-append [] then = refl
puts-append (Ask name ∷ first) then = puts-append first then
puts-append (Place object ∷ first) then = ap (λ objects. object ∷ objects) (puts-append first then)
puts-append (Line line ∷ first) then = puts-append first then

pub lines-append : (first then : List Event) → lines (first ++ then) ≡ lines first ++ lines then
lines-append [] then = refl
lines-append (Ask name ∷ first) then = lines-append first then
lines-append (Place object ∷ first) then = lines-append first then
lines-append (Line line ∷ first) then =
    ap (λ bytes. line ++ 10 ∷ bytes) (lines-append first then) ∙ sym (append_assoc line (10 ∷ lines first) (lines then))

-- ---- what is told after events

pub more-nothing : {A : Type 0} (before : Option (List A)) → more before [] ≡ before
unfolding more
more-nothing None = refl
more-nothing (Some told) = ap Some (append-nil told)

pub more-more : {A : Type 0} (before : Option (List A)) (first then : List A) → more (more before first) then ≡ more before (first ++ then)
unfolding more
more-more None first then = refl
more-more (Some told) first then = ap Some (append_assoc told first then)

summed-append : (first then : List Object) (told : Option ℕ) → summed (summed told first) then ≡ summed told (first ++ then)
summed-append [] then told = refl
summed-append (frame ∷ first) then told = summed-append first then (option_map (λ total. added total (pixel_sum frame.bytes)) told)

grown-nothing : (seen : Contents) → grown seen [] ≡ seen
grown-nothing seen = simp more-nothing

pub grown-grown : (seen : Contents) (first then : List Event) → grown (grown seen first) then ≡ grown seen (first ++ then)
grown-grown seen first then = simp (more-more, summed-append, asks-append, puts-append, lines-append)

pub after-after : (first then : List Event) (left : Outcome) → after first (after then left) ≡ after (first ++ then) left
after-after first then left = simp append_assoc

-- ---- parts

pub did_nothing : (all : Outcome) (seen : Contents) → Did all all seen seen
did_nothing all seen = record { done = []; split = refl; told = sym (grown-nothing seen) }

pub did_then : {a b c : Outcome} {s t u : Contents} → Did a b s t → Did b c t u → Did a c s u
did_then {a} {b} {c} {s} {t} {u} first then = record {
  done = first.done ++ then.done;
  split = first.split ∙ (ap (after first.done) then.split ∙ after-after first.done then.done c);
  told = then.told ∙ (ap (λ seen. grown seen then.done) first.told ∙ grown-grown s first.done then.done);
}

-- a part that came through left the counts of faults, so that a count that rose then rose from the beginning on
pub stopped_then : (a b : Outcome) (s t u : Seen) (status : Status) → Did a b s.told t.told → Leaves s t answers.Ok → Stopped b t u status
    → Stopped a s u status
unfolding Stopped
stopped_then a b s t u answers.ReadFault first left then =
    record { name = then.name; left = then.left; whole = then.whole; did = did_then first then.did; asked = then.asked }
stopped_then a b s t u answers.WriteFault first left (inl (then, rose)) =
    let still = left.outputs refl in
    inl (record { object = then.object; left = then.left; did = did_then first then.did }, rw (← still.shelf) rose)
stopped_then a b s t u answers.WriteFault first left (inr (then, rose)) =
    let still = left.outputs refl in
    inr (
      record { line = then.line; left = then.left; last = then.last; whole = then.whole; did = did_then first then.did; broke = then.broke },
      rw
          (← still.notes) rose,
    )
stopped_then a b s t u answers.Memory first left then = (then.0, did_then first then.1)
stopped_then a b s t u answers.Ok first left then = did_then first then
stopped_then a b s t u (answers.Usage usage) first left then = did_then first then
stopped_then a b s t u (answers.Scene fault) first left then = did_then first then
stopped_then a b s t u (answers.Level drawing code) first left then = did_then first then
stopped_then a b s t u (answers.Limit what limit) first left then = did_then first then
stopped_then a b s t u answers.NotYet first left then = did_then first then

pub runs_then : {A : Type 0} (a b : Outcome) (left : A → Outcome) (s t u : Seen) (result : Result A Status) → Did a b s.told t.told → Leaves s t answers.Ok
    → Runs b left t u result → Runs a left s u result
runs_then a b left s t u (Ok value) first leaves rest = did_then first rest
runs_then a b left s t u (Err status) first leaves rest = stopped_then a b s t u status first leaves rest

-- an answer after which no work is undone ends the run
pub stopped_whole : (all : Outcome) (before now : Seen) (status : Status) → is_broken status ≡ false → Did all (ended status) before.told now.told
    → Stopped all before now status
unfolding Stopped
stopped_whole all before now answers.ReadFault whole did = absurd cc
stopped_whole all before now answers.WriteFault whole did = absurd cc
stopped_whole all before now answers.Memory whole did = absurd cc
stopped_whole all before now answers.Ok whole did = did
stopped_whole all before now (answers.Usage usage) whole did = did
stopped_whole all before now (answers.Scene fault) whole did = did
stopped_whole all before now (answers.Level drawing code) whole did = did
stopped_whole all before now (answers.Limit what limit) whole did = did
stopped_whole all before now answers.NotYet whole did = did

-- where there was no memory, something is left
pub stopped_memory : (all left : Outcome) (before now : Seen) → Did all left before.told now.told → Stopped all before now answers.Memory
unfolding Stopped
stopped_memory all left before now did = (left, did)

pub stopped_here : (all : Outcome) (seen : Seen) → Stopped all seen seen answers.Memory
stopped_here all seen = stopped_memory all all seen seen (did_nothing all seen.told)

pub stopped_asking : (all : Outcome) (before now : Seen) → StoppedAsking all before.told now.told → Stopped all before now answers.ReadFault
unfolding Stopped
stopped_asking all before now stopped = stopped

pub stopped_placing : (all : Outcome) (before now : Seen) → StoppedPlacing all before.told now.told → Rose before.faults.shelf now.faults.shelf
    → Stopped all before now answers.WriteFault
unfolding Stopped
stopped_placing all before now stopped rose = inl (stopped, rose)

pub stopped_noting : (all : Outcome) (before now : Seen) → StoppedNoting all before.told now.told → Rose before.faults.notes now.faults.notes
    → Stopped all before now answers.WriteFault
unfolding Stopped
stopped_noting all before now stopped rose = inr (stopped, rose)

-- the rest may be named in another way
pub did_to : (all b c : Outcome) (s t : Contents) → Did all b s t → b ≡ c → Did all c s t
did_to all b c s t d e = rw (← e) d

-- what is told of a file that is not there or too long
pub record OfFile (status : Status) : Type 0 where
  pub whole : is_broken status ≡ false
  pub library : is_of_library status ≡ true
  pub words : is_of_words status ≡ false

pub of_file : (status : Status) → is_lost status ≡ true → OfFile status
of_file (answers.Scene fault) lost = record { whole = refl; library = lost; words = refl }
of_file (answers.Level drawing code) lost = record { whole = refl; library = lost; words = refl }
of_file answers.Ok lost = absurd cc
of_file (answers.Usage usage) lost = absurd cc
of_file answers.ReadFault lost = absurd cc
of_file answers.WriteFault lost = absurd cc
of_file answers.Memory lost = absurd cc
of_file (answers.Limit what limit) lost = absurd cc
of_file answers.NotYet lost = absurd cc

-- ---- what is left

lost_kept : (status : Status) → is_of_library status ≡ false → is_lost status ≡ true → ⊥
lost_kept status inside lost = let file = of_file status lost in false≢true (sym inside ∙ file.library)

-- what is not touched is left
pub leaves_nothing : (seen : Seen) (status : Status) → is_of_library status ≡ false → is_of_output status ≡ false → Leaves seen seen status
leaves_nothing seen status inside beside = record {
  files = refl;
  later = record { library = omega arith; shelf = omega arith; notes = omega arith };
  read = λ e. absurd (cc (ap is_of_library e, inside));
  untold = λ _ lost. absurd (lost_kept status inside lost);
  write = λ e. absurd (cc (ap is_of_output e, beside));
  library = λ _. refl;
  outputs = λ _. record { shelf = refl; notes = refl };
}

pub keeps_nothing : (outside : OutsideRecord) (status : Status) → IsInside status → Keeps outside outside status
keeps_nothing outside status inside =
    record { left = leaves_nothing outside.seen status inside.library inside.output; notes = refl; words = inside.words; same = refl }

pub ok_inside : IsInside answers.Ok
ok_inside = record { library = refl; output = refl; words = refl }

-- a part that came through, and then what follows
pub leaves_then : (a b c : Seen) (status : Status) → Leaves a b answers.Ok → Leaves b c status → Leaves a c status
leaves_then a b c status first then = record {
  files = then.files ∙ first.files;
  later = record {
    library = omega (arith, first.later.library, then.later.library);
    shelf = omega (arith, first.later.shelf, then.later.shelf);
    notes = omega (arith, first.later.notes, then.later.notes);
  };
  read = λ e. rw (← first.library refl) (then.read e);
  untold = λ none lost. rw (← first.library refl) (then.untold (first.files ∙ none) lost);
  write = λ e. let still = first.outputs refl in rw (← still.shelf, ← still.notes) (then.write e);
  library = λ inside. then.library inside ∙ first.library refl;
  outputs = λ beside.
      let still = first.outputs refl in
      let after = then.outputs beside in
      record { shelf = after.shelf ∙ still.shelf; notes = after.notes ∙ still.notes };
}

pub keeps_then : (a b c : OutsideRecord) (status : Status) → Keeps a b answers.Ok → Keeps b c status → Keeps a c status
keeps_then a b c status first then = record {
  left = leaves_then a.seen b.seen c.seen status first.left then.left;
  notes = then.notes ∙ first.notes;
  words = then.words;
  same = then.same ∙ first.same;
}

-- what is left after a part that came through is left where memory is wanted behind it
pub leaves_memory : (before now : Seen) → Leaves before now answers.Ok → Leaves before now answers.Memory
leaves_memory before now left = leaves_then before now now answers.Memory left (leaves_nothing now answers.Memory refl refl)

pub memory_inside : IsInside answers.Memory
memory_inside = record { library = refl; output = refl; words = refl }

pub keeps_memory : (before now : OutsideRecord) → Keeps before now answers.Ok → Keeps before now answers.Memory
keeps_memory before now keeps = keeps_then before now now answers.Memory keeps (keeps_nothing now answers.Memory memory_inside)

pub quiet_then : (a b c : Seen) (status : Status) → b.told.notes ≡ a.told.notes → Quiet b c status → Quiet a c status
quiet_then a b c status first then = λ silent. then silent ∙ first
