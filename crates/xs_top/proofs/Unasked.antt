-- A run over files at hand, as an outside sees it of which no library is asked.
use Rattle.std.proofs.Common.{◌≡◌, ℕ, true, false, List, [], ◌∷◌, ◌++◌, Option, Some, None, Result, Ok, Err, inl, inr, refl, ap, ◌∙◌, arith}
use Rattle.xs_levels.specs.Films.{Files}
use Rattle.xs_outside.specs.declared.object.Object.{Object}
use Rattle.xs_top.specs.declared.status.Status.{Status}
use Rattle.xs_top.specs.declared.status.Status.TheVariants as answers
use Rattle.xs_top.specs.Causes.{answer_of, is_lost}
use Rattle.xs_top.specs.Leaves.{Leaves}
use Rattle.xs_top.specs.Ran.{is_of_making}
use Rattle.xs_top.specs.Runs.{Did, Stopped, Runs}
use Rattle.xs_top.specs.Seen.{Seen, seen_of}
use Rattle.xs_top.specs.Trace.{Event, Ask, Place, Line, asks, puts, lines, without_asks, Outcome, ended, after, unasked, Contents, grown, summed}
use Rattle.xs_top.proofs.Parts.{more-nothing}

-- ---- events without those that ask

without-append : (first then : List Event) → without_asks (first ++ then) ≡ without_asks first ++ without_asks then
without-append [] then = refl
without-append (Ask name ∷ first) then = without-append first then
without-append (Place object ∷ first) then = ap (λ l. Place object ∷ l) (without-append first then)
without-append (Line line ∷ first) then = ap (λ l. Line line ∷ l) (without-append first then)

pub asks-without : (events : List Event) → asks (without_asks events) ≡ []
asks-without [] = refl
asks-without (Ask name ∷ events) = asks-without events
asks-without (Place object ∷ events) = asks-without events
asks-without (Line line ∷ events) = asks-without events

pub puts-without : (events : List Event) → puts (without_asks events) ≡ puts events
puts-without [] = refl
puts-without (Ask name ∷ events) = puts-without events
puts-without (Place object ∷ events) = ap (λ l. object ∷ l) (puts-without events)
puts-without (Line line ∷ events) = puts-without events

pub lines-without : (events : List Event) → lines (without_asks events) ≡ lines events
lines-without [] = refl
lines-without (Ask name ∷ events) = lines-without events
lines-without (Place object ∷ events) = lines-without events
lines-without (Line line ∷ events) = ap (λ l. line ++ 10 ∷ l) (lines-without events)

unasked_after : (events : List Event) (left : Outcome) → unasked (after events left) ≡ after (without_asks events) (unasked left)
unasked_after events left =
    let ends : List Event → Outcome = λ work. record { status = left.status; work = work } in ap ends (without-append events left.work)

-- ---- what is seen beside another library

summed-untold : (frames : List Object) → summed None frames ≡ None
summed-untold [] = refl
summed-untold (frame ∷ frames) = summed-untold frames

module _ (files : Option Files) (asked : Option (List (List ℕ))) (faults : ℕ) where
  -- what is told of a shelf and notes, beside a library that told this
  abbrev told_beside : Contents → Contents
  told_beside c = record { asked = asked; shelf = c.shelf; notes = c.notes; sum = None }

  abbrev pub beside : Seen → Seen
  beside seen = seen_of files asked faults seen.told.shelf seen.faults.shelf seen.told.notes seen.faults.notes

  grown_beside : (c : Contents) (events : List Event) → told_beside (grown c events) ≡ grown (told_beside c) (without_asks events)
  grown_beside c events =
      rw (asks-without events, puts-without events, lines-without events, more-nothing asked, summed-untold (puts events)) refl

  did_beside : (all left : Outcome) (c d : Contents) → Did all left c d → Did (unasked all) (unasked left) (told_beside c) (told_beside d)
  did_beside all left c d did = record {
    done = without_asks did.done;
    split = ap unasked did.split ∙ unasked_after did.done left;
    told = ap told_beside did.told ∙ grown_beside c did.done;
  }

  stopped_beside : (all : Outcome) (s t : Seen) (status : Status) → is_of_making status ≡ true → Stopped all s t status
      → Stopped (unasked all) (beside s) (beside t) status
  unfolding Stopped
  stopped_beside all s t answers.Ok ends did = did_beside all _ s.told t.told did
  stopped_beside all s t answers.WriteFault ends (inl (stop, rose)) =
      inl (record { object = stop.object; left = unasked stop.left; did = did_beside all _ s.told t.told stop.did }, rose)
  stopped_beside all s t answers.WriteFault ends (inr (stop, rose)) = inr (
    record {
      line = stop.line;
      left = unasked stop.left;
      last = puts-without stop.left.work ∙ stop.last;
      whole = told_beside stop.whole;
      did = did_beside all _ s.told stop.whole stop.did;
      broke = record { written = stop.broke.written; told = ap told_beside stop.broke.told };
    },
    rose,
  )
  stopped_beside all s t answers.Memory ends (left, did) = (unasked left, did_beside all left s.told t.told did)
  stopped_beside all s t (answers.Usage usage) ends stopped = absurd cc
  stopped_beside all s t (answers.Scene fault) ends stopped = absurd cc
  stopped_beside all s t (answers.Level drawing code) ends stopped = absurd cc
  stopped_beside all s t (answers.Limit what limit) ends stopped = absurd cc
  stopped_beside all s t answers.ReadFault ends stopped = absurd cc
  stopped_beside all s t answers.NotYet ends stopped = absurd cc

  pub runs_beside : {A : Type 0} (all : Outcome) (s t : Seen) (result : Result A Status) → is_of_making (answer_of result) ≡ true
      → Runs all (λ _. ended answers.Ok) s t result → Runs (unasked all) (λ _. ended answers.Ok) (beside s) (beside t) result
  runs_beside all s t (Ok value) ends did = did_beside all (ended answers.Ok) s.told t.told did
  runs_beside all s t (Err status) ends stopped = stopped_beside all s t status ends stopped

  not_lost : (status : Status) → is_of_making status ≡ true → is_lost status ≡ false
  not_lost answers.Ok ends = refl
  not_lost answers.WriteFault ends = refl
  not_lost answers.Memory ends = refl
  not_lost (answers.Usage usage) ends = absurd cc
  not_lost (answers.Scene fault) ends = absurd cc
  not_lost (answers.Level drawing code) ends = absurd cc
  not_lost (answers.Limit what limit) ends = absurd cc
  not_lost answers.ReadFault ends = absurd cc
  not_lost answers.NotYet ends = absurd cc

  pub leaves_beside : (s t : Seen) (status : Status) → is_of_making status ≡ true → Leaves s t status → Leaves (beside s) (beside t) status
  leaves_beside s t status ends left = record {
    files = refl;
    later = record { library = omega arith; shelf = left.later.shelf; notes = left.later.notes };
    read = λ is. absurd (cc (ap is_of_making is, ends));
    untold = λ none lost. absurd (cc (not_lost status ends, lost));
    write = left.write;
    library = λ _. refl;
    outputs = λ kept. let still = left.outputs kept in record { shelf = still.shelf; notes = still.notes };
  }
